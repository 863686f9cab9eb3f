-- The values of the label at a position of a universe.
use Rattle.std.proofs.Common.{◌≡◌, ℕ, zero, suc, ◌<◌, List, [], ◌∷◌, length, get_or, Some, None, option_and_then, slice_get, ap, arith}
use Rattle.std.proofs.lemmas.Option.{slice_get-get_or}
use Rattle.am_universe.specs.Universe.{Label, Values, sizes, values_at}
use Rattle.am_universe.specs.LabelSet.{value_at}

pub size_at : (u : List Label) (i n : ℕ) → slice_get (sizes u) i ≡ Some n → length (values_at u i) ≡ n
size_at [] i n e = cc
size_at (l ∷ u) zero n e = cc
size_at (l ∷ u) (suc i) n e = size_at u i n e

pub value_in : (vs : Values) (j : ℕ) → j < length vs → option_and_then (λ v. v) (slice_get vs j) ≡ get_or vs j None
value_in vs j h = ap (option_and_then (λ v. v)) (slice_get-get_or vs j None h)

pub value_is : (u : List Label) (i j : ℕ) → j < length (values_at u i) → option_and_then (λ l. value_at l j) (slice_get u i) ≡ get_or (values_at u i) j None
value_is [] i j h = absurd (omega arith)
value_is (l ∷ u) zero j h = value_in l.values j h
value_is (l ∷ u) (suc i) j h = value_is u i j h
