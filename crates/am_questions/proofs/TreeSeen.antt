-- What a tree of each form is seen as.
use Rattle.std.proofs.Common.{◌≡◌, ◌++◌, ap, sym, refl, ◌∙◌}
use Rattle.std.specs.Box.{box_value}
use Rattle.std.specs.Global.{Box}
use Rattle.am_questions.specs.declared.grammar.Written as kept_parts
use Rattle.am_questions.specs.declared.grammar.Tree as kept
use Rattle.am_questions.specs.declared.grammar.Tree.{fold-roll-Tree}
use Rattle.am_questions.specs.declared.grammar.Tree.TheOpen.{Tree-F}
use Rattle.am_questions.specs.declared.grammar.Tree.TheVariants as variants
use Rattle.am_eval.specs.Tree.{Tree, Part, Not}
use Rattle.am_questions.specs.declared.grammar.Connective.{Connective}
use Rattle.am_questions.specs.declared.grammar.Connective.TheVariants as by
use Rattle.am_questions.specs.Grammar.{Written, joined}
use Rattle.am_questions.specs.QuestionText.{parts_of}
use Rattle.am_questions.specs.TreeView.{view_step, tree_view, written_view}

-- ---- Put together.

pub view_part : (w : kept_parts.Written) → tree_view (variants.Part w) ≡ Part (written_view w)
view_part w =
    ap tree_view (sym (variants.rolls-Part w))
    ∙ fold-roll-Tree (Tree Written) view_step (Tree-F.Part w)

pub view_not : (a : kept.Tree) (box : Box kept.Tree) → box_value box ≡ a
    → tree_view (variants.Not box) ≡ Not (tree_view a)
view_not a box e =
    ap tree_view (sym (variants.rolls-Not box))
    ∙ (fold-roll-Tree (Tree Written) view_step (Tree-F.Not box) ∙ ap (λ x. Not (tree_view x)) e)

pub view_joined : (c : Connective) (a b : kept.Tree) (l r : Box kept.Tree) → box_value l ≡ a
    → box_value r ≡ b → tree_view (variants.Joined c l r) ≡ joined c (tree_view a) (tree_view b)
view_joined c a b l r e f =
    ap tree_view (sym (variants.rolls-Joined c l r))
    ∙ (fold-roll-Tree (Tree Written) view_step (Tree-F.Joined c l r) ∙ rw (e, f))

-- ---- Taken apart.

pub part_seen : (tree : kept.Tree) (w : kept_parts.Written) → tree ≡ variants.Part w
    → tree_view tree ≡ Part (written_view w)
part_seen tree w is = ap tree_view is ∙ view_part w

pub parts_of_joined : (c : Connective) (t u : Tree Written)
    → parts_of (joined c t u) ≡ parts_of t ++ parts_of u
parts_of_joined by.And t u = refl
parts_of_joined by.Or t u = refl

pub joined_parts : (tree : kept.Tree) (c : Connective) (l r : Box kept.Tree)
    → tree ≡ variants.Joined c l r
    → parts_of (tree_view tree) ≡ parts_of (tree_view l.value) ++ parts_of (tree_view r.value)
joined_parts tree c l r is =
    ap (λ x. parts_of (tree_view x)) is ∙ (ap parts_of (view_joined c l.value r.value l r refl refl)
    ∙ parts_of_joined c (tree_view l.value) (tree_view r.value))
