-- Verdicts: what a list of matchers says of the completions of a prefix of a choice.
use Rattle.std.specs.Prelude.{ℕ, List, Bool, if◌then◌else◌}
use Rattle.std.specs.List.{list_all, list_any}
use Rattle.am_search.specs.declared.verdict.Verdict.{Verdict}
use Rattle.am_search.specs.declared.verdict.Verdict.TheVariants.{Yes, No, Open}
use Rattle.am_universe.specs.Universe.{Label, sizes}
use Rattle.am_universe.specs.Completions.{completions}
use Rattle.am_universe.specs.LabelSet.{label_set_of}
use Rattle.am_labels.specs.Matcher.{Matcher, all_hold}

-- The verdict of a test over some choices: `Yes` if all of them pass it, `No` if none does, and
-- `Open` if only some do.
-- Source: own choice.
-- Example: let only 0 1 pass. Then the verdict over 0 0 and 0 1 is `Open`, over 0 0 alone it is
-- `No`, and over 0 1 alone it is `Yes`.
abbrev pub verdict_over : (List ℕ → Bool) → List (List ℕ) → Verdict
verdict_over passes cs =
    if list_all passes cs then Yes else if list_any passes cs then Open else No

-- The label set of a choice matches a list of matchers.
abbrev pub matches_at : List Label → List Matcher → List ℕ → Bool
matches_at u ms c = all_hold (label_set_of u c) ms

-- The verdict of a list of matchers at a prefix: whether the label sets of the prefix's completions
-- match the list.
-- Source: own choice.
-- Example: `team` may be `db` or `web`, and `severity` may be absent or `warning`. At the empty
-- prefix the verdict of `severity="warning"` is `Open`. At the prefix 1 the verdict of `team="db"`
-- is `No`, and the verdict of `team=~"w.*"` is `Yes`.
abbrev pub verdict_of_list : List Label → List Matcher → List ℕ → Verdict
verdict_of_list u ms prefix = verdict_over (matches_at u ms) (completions (sizes u) prefix)
