-- The set of lists that is stored in the bits of a number.
use Rattle.std.specs.Prelude.{ℕ, Bool, ◌==◌}
use Rattle.std.specs.Int.{bit_at}
use Rattle.am_judged_lists.specs.declared.list_set.ListSet.{ListSet}

-- The list at the index `place` is in a set: the bit at this index is 1.
abbrev pub has : ListSet → ℕ → Bool
has set place = bit_at set.bits place == 1
