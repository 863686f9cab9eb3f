-- Whether a pair of a rule and a firing alert inhibits: by lists that have verdicts, and by the
-- definitions.
use Rattle.std.specs.Prelude.{◌≡◌, ℕ, List, [], ◌∷◌, map, slice_get, Bool, true, false, not, ◌&&◌}
use Rattle.std.specs.Prelude.{◌||◌, Option, Some, None}
use Rattle.std.specs.List.{list_all}
use Rattle.std.specs.declared.alloc.Global.{Global}
use Rattle.std.specs.declared.vec.Vec.{Vec}
use Rattle.am_universe.specs.Universe.{Label}
use Rattle.am_labels.specs.Row.{TruthRow, row_of}
use Rattle.am_config.specs.ConfigFile.{Rule}
use Rattle.am_judged_lists.specs.Cube.{MaskedLabels, verdict_at}
use Rattle.am_judged_lists.specs.Verdicts.{verdict_of_list}
use Rattle.am_eval.specs.declared.pair.Pair.{Pair}
use Rattle.am_eval.specs.World.{World}
use Rattle.am_eval.specs.Conditions.{pair_way}
use Rattle.am_judged_lists.specs.declared.certainty.Certainty.{Certainty}
use Rattle.am_plans.specs.declared.pair_lists.PairList.{PairList}
use Rattle.am_plans.specs.declared.pair_lists.PairLists.{PairLists}
use Rattle.am_plans.specs.declared.pair_lists.PairSide.{PairSide}
use Rattle.am_judged_lists.specs.Certainty.{passes, other}
use Rattle.am_plans.specs.Verdicts.{verdict_of_literal}

-- `source_fails`: the source side does not match; without a list for it, this is true.
-- `side_fails`: the source side does not match, or the pair does not require this. `pair_by`: the
-- pair inhibits, by its lists.
abbrev pub source_fails : List ℕ → Certainty → Option MaskedLabels
    → Bool
source_fails prefix m None = true
source_fails prefix m (Some source) = not (passes (other m) (verdict_at source prefix))

abbrev pub side_fails : List ℕ → Certainty → List MaskedLabels
    → PairSide → Bool
side_fails prefix m sources side =
    not side.both || source_fails prefix m (slice_get sources side.rule)

abbrev pub pair_by : List ℕ → Certainty → List MaskedLabels
    → PairList → Bool
pair_by prefix m sources pair =
    passes m (verdict_at pair.list prefix) && side_fails prefix m sources pair.side

-- One of some pairs inhibits: its list passes, and what it requires of its source side is true.
abbrev pub some_pair : (MaskedLabels → Bool) → (PairSide → Bool) → List MaskedLabels
    → List PairSide → Bool
some_pair test fails [] sides = false
some_pair test fails (cube ∷ cubes) [] = false
some_pair test fails (cube ∷ cubes) (side ∷ sides) =
    (test cube && fails side) || some_pair test fails cubes sides

abbrev pub inhibited_by : List ℕ → PairLists → Certainty
    → Bool
inhibited_by prefix lists m =
    some_pair (λ cube. passes m (verdict_at cube prefix)) (side_fails prefix m lists.sources.items)
    lists.lists lists.sides.items

-- `AreSources`: the lists have the verdicts of the source sides of the rules, in order.
-- `AreTargets`: these are the rows of the target sides of the rules, in order.
abbrev pub AreSources : List Label → List ℕ → List MaskedLabels → List Rule → Type 0
AreSources u prefix sources rules =
    map (λ source. verdict_at source prefix) sources
    ≡ map (λ (rule : Rule). verdict_of_list u rule.source prefix) rules

abbrev pub AreTargets : List Label → List (Vec TruthRow Global) → List Rule → Type 0
AreTargets u targets rules =
    map (λ (rows : Vec TruthRow Global). rows.items) targets
    ≡ map (λ (rule : Rule). map (row_of u) rule.target) rules

-- Whether the way of a pair passes at a prefix, by the definitions.
abbrev pub way_of_pair : List Label → World → List ℕ → Certainty → Pair → Bool
way_of_pair u w prefix m pair =
    list_all (λ l. passes m (verdict_of_literal u prefix l))
    (pair_way w.config.rules w.alerts pair)
