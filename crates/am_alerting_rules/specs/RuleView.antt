-- Labels of alerting rules, as they are kept in memory.
use Rattle.std.specs.Prelude.{ℕ, List, map}
use Rattle.std.specs.Borrow.{Bor}

-- Names and texts.
abbrev pub pairs_view : List (Bor (List ℕ) × Bor (List ℕ)) → List (List ℕ × List ℕ)
pairs_view pairs = map (λ p. (p.0.now, p.1.now)) pairs
