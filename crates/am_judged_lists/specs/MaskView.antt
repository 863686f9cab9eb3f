-- A mask as it is stored in memory, and as contracts see it.
use Rattle.std.specs.Prelude.{ℕ, ◌*◌, ◌/◌, ◌%◌, List, Bool, length, map, slice_index, ◌==◌}
use Rattle.std.specs.Int.{bit_at}
use Rattle.std.specs.List.{range_with_len}
use Rattle.am_judged_lists.specs.declared.mask.TheConstants.{WORD}

-- `is_set`: a bit of a word is 1. `is_permitted`: a position is permitted if its bit is 1. The
-- quotient of the position and `WORD` is the index of its word, and the remainder is the index of
-- its bit in the word.
abbrev pub is_set : ℕ → ℕ → Bool
is_set word k = bit_at word k == 1

abbrev pub is_permitted : List ℕ → ℕ → Bool
is_permitted words j = is_set (slice_index words (j / WORD)) (j % WORD)

-- Whether each position that has a word is permitted, in order.
unfoldable pub permitted_of : List ℕ → List Bool
permitted_of words = map (is_permitted words) (range_with_len 0 (WORD * length words))
