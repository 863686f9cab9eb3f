-- The names of receivers that are known by their positions.
use Rattle.std.specs.Prelude.{ℕ, List, [], map, slice_get, unwrap_or}
use Rattle.am_config.specs.ConfigFile.{Configuration}

-- The name of the receiver at a position, and the names of some receivers.
abbrev pub receiver_name : Configuration → ℕ → List ℕ
receiver_name c receiver = unwrap_or (slice_get c.receivers receiver) []

abbrev pub receiver_names : Configuration → List ℕ → List (List ℕ)
receiver_names c receivers = map (receiver_name c) receivers
