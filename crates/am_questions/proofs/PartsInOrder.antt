-- The parts of a tree occur in its lexemes in their order.
use Rattle.std.proofs.Common.{List, [], ◌∷◌, ◌++◌, refl, sym, ap, subst, ◌∙◌, inl, inr}
use Rattle.std.proofs.Common.{append_assoc, append-nil}
use Rattle.std.specs.List.{AllByRecursion}
use Rattle.am_eval.specs.Tree.{Tree}
use Rattle.am_questions.specs.Lexemes.{Lexeme, Open, Close}
use Rattle.am_questions.specs.Grammar.{Written, Tier, IsOf, IsQuestion, StandInOrder, IsJoint}
use Rattle.am_questions.specs.Grammar.{no_part, part_before, NotWord, JoinWord, keyword}
use Rattle.am_questions.specs.Grammar as g
use Rattle.am_questions.specs.QuestionText.{parts_of}
use Rattle.am_questions.proofs.PartLemmas.{all_joined}
use Rattle.am_questions.proofs.TreeSeen.{parts_of_joined}

-- more joints may come before the parts
behind_more : (parts : List Written) (more lexemes : List Lexeme) → AllByRecursion IsJoint more
    → StandInOrder parts lexemes → StandInOrder parts (more ++ lexemes)
behind_more parts more lexemes joins (no_part _ all) =
    no_part (more ++ lexemes) (all_joined IsJoint more lexemes joins all)
behind_more parts more lexemes joins (part_before joints own after part later all is rest) =
    subst (StandInOrder (part ∷ later)) (append_assoc more joints (own ++ after))
    (part_before (more ++ joints) own after part later (all_joined IsJoint more joints joins all) is
    rest)

-- the parts of the front come before those of the rest
one_behind_other : (parts others : List Written) (lexemes more : List Lexeme)
    → StandInOrder parts lexemes → StandInOrder others more
    → StandInOrder (parts ++ others) (lexemes ++ more)
one_behind_other parts others lexemes more (no_part _ all) other =
    behind_more others lexemes more all other
one_behind_other parts others lexemes more (part_before joints own after part later all is rest)
    other =
    subst (StandInOrder (part ∷ (later ++ others)))
    (ap (λ l. joints ++ l) (sym (append_assoc own after more))
    ∙ sym (append_assoc joints (own ++ after) more))
    (part_before joints own (after ++ more) part (later ++ others) all is
    (one_behind_other later others after more rest other))

of : {tier : Tier} {lexemes : List Lexeme} {tree : Tree Written} → IsOf tier lexemes tree
    → StandInOrder (parts_of tree) lexemes
of (g.alone is) = of is
of (g.joined_on {c = c} {ts = lexemes} {us = more} {q = tree} {r = other} left right) =
    let join = keyword (JoinWord c) in
    rw parts_of_joined (one_behind_other (parts_of tree) (parts_of other) lexemes (join ∷ more)
    (of left)
    (behind_more (parts_of other) (join ∷ []) more (inr (c, refl), tt) (of right)))
of (g.negated {ts = lexemes} {q = tree} is) =
    behind_more (parts_of tree) (keyword NotWord ∷ []) lexemes (inl refl, tt) (of is)
of (g.in_parentheses {ts = lexemes} {q = tree} is) =
    behind_more (parts_of tree) (Open ∷ []) (lexemes ++ (Close ∷ [])) (tt, tt)
    (subst (λ (parts : List Written). StandInOrder parts (lexemes ++ (Close ∷ [])))
    (append-nil (parts_of tree))
    (one_behind_other (parts_of tree) [] lexemes (Close ∷ []) (of is)
    (no_part (Close ∷ []) (tt, tt))))
of (g.part {ts = lexemes} {w = part} is) =
    subst (StandInOrder (part ∷ [])) (append-nil lexemes)
    (part_before [] lexemes [] part [] tt is (no_part [] tt))

pub parts_in_order : (lexemes : List Lexeme) (tree : Tree Written) → IsQuestion lexemes tree
    → StandInOrder (parts_of tree) lexemes
parts_in_order lexemes tree is = of is
