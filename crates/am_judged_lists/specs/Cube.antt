-- Cubes: which positions of each label a list of matchers permits, and the verdict that follows.
use Rattle.std.specs.Prelude.{◌≡◌, ℕ, List, length, slice_index, slice_index_or, nat_lt, Bool}
use Rattle.std.specs.Prelude.{false, not, ◌&&◌, ◌||◌, ◌==◌, IsTrue, if◌then◌else◌}
use Rattle.std.specs.List.{list_all}
use Rattle.am_search.specs.declared.verdict.Verdict.{Verdict}
use Rattle.am_search.specs.declared.verdict.Verdict.TheVariants.{Yes, No, Open}
use Rattle.am_universe.specs.Universe.{Label, sizes}
use Rattle.am_universe.specs.Choice.{admits}
use Rattle.am_labels.specs.Matcher.{Matcher}
use Rattle.am_judged_lists.specs.declared.cube.LabelMask.{LabelMask}
use Rattle.am_judged_lists.specs.Verdicts.{verdict_of_list}

-- A cube: whether no choice is permitted at all, and the labels that have a mask. A mask says which
-- positions of its label are permitted; a label without a mask permits all positions.
pub record MaskedLabels : Type 0 where
  pub empty : Bool
  pub masks : List LabelMask

-- `reaches`: the prefix is long enough to have a position of the mask's label. `permits_at`: the
-- mask permits this position.
abbrev pub reaches : List ℕ → LabelMask → Bool
reaches prefix m = nat_lt m.label (length prefix)

abbrev pub permits_at : List ℕ → LabelMask → Bool
permits_at prefix m = slice_index_or m.mask (slice_index prefix m.label) false

-- The cube permits some choice, and each mask whose label is in the prefix permits the prefix's
-- position of it. The masks of labels after the prefix are not looked at.
abbrev pub may_at : MaskedLabels → List ℕ → Bool
may_at cube prefix =
    not cube.empty && list_all (λ m. not (reaches prefix m) || permits_at prefix m) cube.masks

-- The prefix has a position of each label that has a mask. So if these positions are permitted, no
-- completion is forbidden.
abbrev pub reaches_all : MaskedLabels → List ℕ → Bool
reaches_all cube prefix = list_all (reaches prefix) cube.masks

-- A cube matches a choice: it has a position of each label that has a mask, and all of them are
-- permitted.
abbrev pub matches : MaskedLabels → List ℕ → Bool
matches cube c = may_at cube c && reaches_all cube c

-- The verdict of a cube at a prefix. It depends on the positions of the prefix alone.
-- Source: own choice.
-- Example: of two labels only the second has a mask, which permits only the position 0. At the
-- empty prefix and at 1 the verdict is `Open`, at 1 0 it is `Yes`, and at 1 1 it is `No`.
abbrev pub verdict_at : MaskedLabels → List ℕ → Verdict
verdict_at cube prefix =
    if not (may_at cube prefix) then No else if reaches_all cube prefix then Yes else Open

-- The masks permit a position of a label. A label without a mask permits each of its positions.
abbrev pub permits_position : MaskedLabels → ℕ → ℕ → Bool
permits_position cube label position =
    list_all (λ m. not (m.label == label) || slice_index_or m.mask position false) cube.masks

-- A cube is that of a list of matchers: at each prefix that the universe admits, its verdict is the
-- verdict of the list.
abbrev pub IsCubeOf : List Label → List Matcher → MaskedLabels → Type 0
IsCubeOf u ms cube =
    (prefix : List ℕ) → IsTrue (admits (sizes u) prefix)
    → verdict_at cube prefix ≡ verdict_of_list u ms prefix
