-- How a search ends without an answer.
use Rattle.std.specs.Prelude.{ℕ, Bool, IsTrue, ⊤}
use Rattle.std.specs.List.{sum}
use Rattle.am_first_sets.specs.declared.used_up.UsedUp.{UsedUp}
use Rattle.am_first_sets.specs.declared.budget.Unfinished.{Unfinished}
use Rattle.am_first_sets.specs.declared.budget.Unfinished.TheVariants as unfinished_is

-- A search may end so without an answer: its budget is used up only if it has a limit.
abbrev pub MayEnd : Bool → Unfinished → Type 0
MayEnd limited unfinished_is.Memory = ⊤
MayEnd limited (unfinished_is.UsedUp evidence) = IsTrue limited

-- How many masks were looked at when the budget was used up.
abbrev pub looks_of : UsedUp → ℕ
looks_of evidence = sum evidence.looked.items
