-- Which outcomes under two configurations are changes, what is shown of a change, and which
-- receivers lose or gain alerts. (This project's own.)
use Rattle.std.specs.Prelude.{ℕ, List, Bool, not, ◌&&◌, ◌||◌, ◌==◌, length, map, find}
use Rattle.std.specs.Prelude.{Option, None, option_map}
use Rattle.std.specs.List.{filter, filter_map, list_any}
use Rattle.am_universe.specs.Universe.{Label}
use Rattle.am_universe.specs.LabelSet.{label_pairs}
use Rattle.am_universe.specs.Text.{same_text}
use Rattle.am_config.specs.ConfigFile.{Configuration}
use Rattle.am_report_texts.specs.ReceiverNames.{receiver_names}
use Rattle.am_outcomes.specs.Handling.{same_names}
use Rattle.am_outcomes.specs.OutcomeLines.{list_at}

-- The names of the receivers under the old configuration and under the new one, and the options
-- that differ.
abbrev pub old_names : Configuration → List (List ℕ) → List (List ℕ)
old_names old lists = receiver_names old (list_at 0 lists)

abbrev pub new_names : Configuration → List (List ℕ) → List (List ℕ)
new_names new lists = receiver_names new (list_at 1 lists)

abbrev pub options_in : List (List ℕ) → List ℕ
options_in lists = list_at 2 lists

-- The lists of an outcome differ if the names of the receivers do, or some options. An outcome is
-- then a change, whatever stands beside its lists.
abbrev pub lists_differ : Configuration → Configuration → List (List ℕ) → Bool
lists_differ old new lists =
    not (same_names (old_names old lists) (new_names new lists))
    || not (length (options_in lists) == 0)

abbrev pub is_change : {C : Type 0} → Configuration → Configuration → List (List ℕ) × C → Bool
is_change old new outcome = lists_differ old new outcome.0

abbrev pub changes_of : {C : Type 0} → Configuration → Configuration
    → List (List (List ℕ) × C) → List (List (List ℕ) × C)
changes_of old new outcomes = filter (is_change old new) outcomes

-- A change, as its line shows it: the group of the alerting rule whose alerts change, if alerting
-- rules are asked about; the lists of the outcome; and the labels of an alert that has it.
pub record ShownChange : Type 0 where
  pub group : Option (List ℕ)
  pub lists : List (List ℕ)
  pub labels : List (List ℕ × List ℕ)

-- A change among the outcomes of every alert is shown with the label set of its first choice.
abbrev pub shown_change : List Label → List (List ℕ) × List ℕ → ShownChange
shown_change u change =
    record { group = None; lists = change.0; labels = label_pairs u change.1 }

-- Changes that are shown, each as its lists and its labels.
abbrev pub without_groups :
    List ShownChange → List (List (List ℕ) × List (List ℕ × List ℕ))
without_groups changes = map (λ change. (change.lists, change.labels)) changes

-- A name is one of some names, and none of others.
abbrev pub is_among : List (List ℕ) → List ℕ → Bool
is_among names name = list_any (same_text name) names

abbrev pub is_only_among : List (List ℕ) → List (List ℕ) → List ℕ → Bool
is_only_among names others name = is_among names name && not (is_among others name)

-- The receivers that lose alerts: each receiver of the old configuration that some change has under
-- the old configuration and not under the new one, with what stands beside the lists of the first
-- such change. Those that gain alerts are the receivers of the new configuration that some change
-- has under the new one only.
-- Source: own choice.
-- Example: if the one change is from `a` and `b` to `b` and `c`, then `a` loses alerts, and `c`
-- gains some.
abbrev pub first_on_one_side : {C : Type 0} → (List (List ℕ) → List (List ℕ))
    → (List (List ℕ) → List (List ℕ)) → List (List (List ℕ) × C) → List (List ℕ)
    → List (List ℕ × C)
first_on_one_side names others changes receivers =
    filter_map (λ name. option_map (λ change. (name, change.1))
    (find (λ change. is_only_among (names change.0) (others change.0) name) changes)) receivers

abbrev pub losses : {C : Type 0} → Configuration → Configuration
    → List (List (List ℕ) × C) → List (List ℕ × C)
losses old new changes = first_on_one_side (old_names old) (new_names new) changes old.receivers

abbrev pub gains : {C : Type 0} → Configuration → Configuration
    → List (List (List ℕ) × C) → List (List ℕ × C)
gains old new changes = first_on_one_side (new_names new) (old_names old) changes new.receivers
