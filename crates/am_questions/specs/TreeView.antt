-- The tree that a `Tree` stands for.
use Rattle.std.specs.Box.{box_value}
use Rattle.am_questions.specs.declared.grammar.Written as kept_parts
use Rattle.am_questions.specs.declared.grammar.Written.TheVariants as parts
use Rattle.am_questions.specs.declared.grammar.Tree as kept
use Rattle.am_questions.specs.declared.grammar.Tree.{fold-Tree}
use Rattle.am_questions.specs.declared.grammar.Tree.TheOpen.{Tree-F}
use Rattle.am_eval.specs.Tree.{Tree, Part, Not}
use Rattle.am_questions.specs.Grammar.{Written, WrittenIs, WrittenReceiver, WrittenRoute}
use Rattle.am_questions.specs.Grammar.{WrittenBraces, joined}

-- A simple part, without the address of its text in memory.
abbrev pub written_view : kept_parts.Written → Written
written_view (parts.Is property) = WrittenIs property
written_view (parts.Receiver name) = WrittenReceiver name.now
written_view (parts.Route reach path) = WrittenRoute reach path.now
written_view (parts.Braces list) = WrittenBraces list.now

-- One level of a tree, in which each smaller tree is already seen.
abbrev pub view_step : Tree-F (Tree Written) → Tree Written
view_step (Tree-F.Part written) = Part (written_view written)
view_step (Tree-F.Not t) = Not (box_value t)
view_step (Tree-F.Joined connective t u) = joined connective (box_value t) (box_value u)

-- The tree that a `Tree` stands for.
abbrev pub tree_view : kept.Tree → Tree Written
tree_view = fold-Tree (Tree Written) view_step
