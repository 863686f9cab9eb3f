-- The prefix to which a search goes if nothing is left below its current one.
use Rattle.std.specs.Prelude.{ℕ, ◌+◌, List, [], ◌∷◌, nat_lt, if◌then◌else◌}
use Rattle.std.specs.Prelude.{Option, Some, None, option_map}
use Rattle.std.specs.Option.{option_or}

-- The first prefix that comes after a prefix and after all that begin with it, if there is one. The
-- last position that can be greater becomes greater by one, and the positions after it are left
-- out.
-- Source: own choice.
-- Example: over the sizes 2 and 3, 0 1 is followed by 0 2, both 0 2 and 0 are followed by 1, and 1
-- is followed by nothing.
abbrev pub next_beside : List ℕ → List ℕ → Option (List ℕ)
next_beside sizes [] = None
next_beside [] (p ∷ prefix) = None
next_beside (size ∷ sizes) (p ∷ prefix) =
    option_or
    (option_map (λ c. p ∷ c) (next_beside sizes prefix))
    (if nat_lt (p + 1) size then Some ((p + 1) ∷ []) else None)
