-- Where the answers that a call asks for begin. (This project's own.)
use Rattle.std.specs.Prelude.{◌≡◌, ℕ, List, [], Option, Some, None}
use Rattle.am_universe.specs.Universe.{Label, sizes}
use Rattle.am_universe.specs.declared.kind.Kind.{Kind}
use Rattle.am_search.specs.declared.start.Start.{Start}
use Rattle.am_search.specs.declared.start.Start.TheVariants.{At}
use Rattle.am_search.specs.Token.{ReadsToken, RefusesToken}

-- The token is read as this start over the labels of the universe, for inputs with this
-- fingerprint. Without a token the answers begin with the first choice.
-- Source: own choice.
-- Example: over two labels with three and two values, `t1:0.1` asks for the start after the choice
-- 0 1, whatever the inputs are. `t1:0.2` asks for no start.
abbrev pub AsksStart : List Label → List ℕ → Option (List ℕ) → Start → Type 0
AsksStart u fingerprint None start = start ≡ At []
AsksStart u fingerprint (Some token) start = ReadsToken (sizes u) fingerprint token start

-- Why a token is refused over the labels of the universe, for inputs with this fingerprint. Without
-- a token nothing is refused.
abbrev pub StartRefusedFor : List Label → List ℕ → Option (List ℕ) → Kind → Type 0
StartRefusedFor u fingerprint None kind = ⊥
StartRefusedFor u fingerprint (Some token) kind = RefusesToken (sizes u) fingerprint token kind
