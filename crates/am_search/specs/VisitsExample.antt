-- The verdicts of an example judge, on which the definitions of a search are tried.
use Rattle.std.specs.Prelude.{ℕ, zero, suc, List, [], ◌∷◌}
use Rattle.am_search.specs.declared.verdict.Verdict.{Verdict}
use Rattle.am_search.specs.declared.verdict.Verdict.TheVariants.{Yes, No, Open}

-- Over the sizes 3 and 2: `Open` at the empty prefix and at 0, `Yes` at 0 1, and `No` at 0 0, at 1
-- and at 2.
abbrev pub example_below : List ℕ → Verdict
example_below [] = Open
example_below (zero ∷ c) = No
example_below (suc p ∷ c) = Yes

abbrev pub example_verdict : List ℕ → Verdict
example_verdict [] = Open
example_verdict (zero ∷ c) = example_below c
example_verdict (suc p ∷ c) = No
