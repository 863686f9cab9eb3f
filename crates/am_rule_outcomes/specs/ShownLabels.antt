-- The label set that is shown for some alerts of a rule. (This project's own.)
use Rattle.std.specs.Prelude.{ℕ, List, ◌++◌, Bool, not, ◌==◌, length}
use Rattle.std.specs.List.{filter, list_any}
use Rattle.am_universe.specs.Text.{same_text}
use Rattle.am_universe.specs.Universe.{Label}
use Rattle.am_universe.specs.LabelSet.{label_pairs}

-- One of some labels has this name.
abbrev pub has_name : List (List ℕ × List ℕ) → List ℕ → Bool
has_name fixed name = list_any (λ l. same_text l.0 name) fixed

-- The labels that each alert of a rule has: those that are fixed to a text that is not empty.
abbrev pub fixed_shown : List (List ℕ × List ℕ) → List (List ℕ × List ℕ)
fixed_shown fixed = filter (λ l. not (length l.1 == 0)) fixed

-- These labels, and then the other labels of a choice.
-- Source: own choice.
-- Example: for a rule `DiskFull` that sets `severity` to `warning`, and the choice
-- `{team="db",severity="critical"}`, they are
-- `{alertname="DiskFull",severity="warning",team="db"}`.
abbrev pub shown_labels :
    List (List ℕ × List ℕ) → List Label → List ℕ → List (List ℕ × List ℕ)
shown_labels fixed u choice =
    fixed_shown fixed ++ filter (λ l. not (has_name fixed l.0)) (label_pairs u choice)
