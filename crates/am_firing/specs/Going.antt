-- Which alerts go to each receiver, as it is kept in memory.
use Rattle.std.specs.Prelude.{ℕ, List, [], ◌∷◌, Bool, false, length, map, slice_index_or}
use Rattle.std.specs.List.{range_with_len, list_all}
use Rattle.am_universe.specs.LabelSet.{LabelMap}
use Rattle.am_config.specs.ConfigFile.{Configuration}
use Rattle.am_eval.specs.World.{World}
use Rattle.am_eval.specs.Silencing.{positions_where}
use Rattle.am_firing.specs.Unreached.{goes_to}

-- For each receiver, whether an alert goes to it.
abbrev pub marks_of : Configuration → LabelMap → List Bool
marks_of c alert =
    map (λ receiver. goes_to c receiver alert) (range_with_len 0 (length c.receivers))

-- The firing alerts that go to a receiver, by their positions.
abbrev pub positions_of : World → ℕ → List ℕ
positions_of w receiver = positions_where (goes_to w.config receiver) 0 w.alerts

-- There are positions, and each of them is marked.
abbrev pub are_all_marked : List Bool → List ℕ → Bool
are_all_marked marks [] = false
are_all_marked marks (i ∷ positions) =
    list_all (λ j. slice_index_or marks j false) (i ∷ positions)
