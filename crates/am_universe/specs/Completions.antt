-- The completions of a prefix of a choice. The term is the usual one in search.
use Rattle.std.specs.Prelude.{ℕ, List, nat_eq}
use Rattle.std.specs.List.{filter, starts_with}
use Rattle.am_universe.specs.Choice.{choices}

-- The whole choices that begin with a prefix, in declared order.
abbrev pub completions : List ℕ → List ℕ → List (List ℕ)
completions sizes prefix = filter (λ c. starts_with nat_eq c prefix) (choices sizes)
