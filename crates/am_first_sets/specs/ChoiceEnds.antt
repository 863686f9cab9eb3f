-- Where the label set of a choice ends.
use Rattle.std.specs.Prelude.{ℕ, List, Bool}
use Rattle.std.specs.List.{list_any}
use Rattle.am_universe.specs.Universe.{Label}
use Rattle.am_universe.specs.LabelSet.{label_set_of}
use Rattle.am_universe.specs.Text.{same_text}
use Rattle.am_config.specs.ConfigFile.{Configuration}
use Rattle.am_eval.specs.Routing.{ends}

-- The label set of a choice ends at the route at a path.
-- Source: Alertmanager configuration reference 0.25, "<route>".
-- Example: a choice whose label set matches no child of the top-level route ends at `/`.
abbrev pub is_end_at : List Label → Configuration → List ℕ → List ℕ → Bool
is_end_at u c path choice = list_any (λ end. same_text end path) (ends (label_set_of u choice) c)
