-- The places of things in a list.
use Rattle.std.specs.Prelude.{ℕ, List, Bool, map}
use Rattle.std.specs.List.{filter, enumerate_from}

-- The places of those things in a list that pass a test, in order. Places count from a number, or
-- from 0.
-- Source: own choice.
-- Example: of `db`, `web` and `dns`, those that begin with `d` are at the places 0 and 2.
abbrev pub places_from : {X : Type 0} → ℕ → (X → Bool) → List X → List ℕ
places_from from test xs = map (λ p. p.0) (filter (λ p. test p.1) (enumerate_from from xs))

abbrev pub places_where : {X : Type 0} → (X → Bool) → List X → List ℕ
places_where test xs = places_from 0 test xs
