-- Spaces: what a universe file declares. The labels and their values make all combinations, and a
-- space leaves out those that the file calls impossible.
use Rattle.std.specs.Prelude.{ℕ, List, Bool, not, length, ◌≤◌, IsTrue}
use Rattle.std.specs.List.{filter, list_any}
use Rattle.am_universe.specs.Universe.{Label, IsUniverse, sizes}
use Rattle.am_universe.specs.Choice.{choices, IsWhole}
use Rattle.am_universe.specs.LabelSet.{LabelMap, label_set_of}
use Rattle.am_labels.specs.declared.limits.TheConstants.{MAX_IMPOSSIBLE}
use Rattle.am_labels.specs.Matcher.{Matcher, all_hold}

-- A space: labels with their values, and lists of matchers that are impossible. No label set of the
-- space matches such a list.
pub record Space : Type 0 where
  pub labels : List Label
  pub impossible : List (List Matcher)

-- The labels are a universe, and there are at most `MAX_IMPOSSIBLE` impossible lists.
pub record IsSpace (s : Space) : Type 0 where
  pub labels : IsUniverse s.labels
  pub at_most : length s.impossible ≤ MAX_IMPOSSIBLE

-- A label set is possible: no list that is impossible matches it. The empty list matches every
-- label set.
abbrev pub is_possible : List (List Matcher) → LabelMap → Bool
is_possible impossible set = not (list_any (all_hold set) impossible)

-- A choice is possible: no impossible list of the space matches its label set.
abbrev pub is_possible_choice : Space → List ℕ → Bool
is_possible_choice s choice = is_possible s.impossible (label_set_of s.labels choice)

-- All choices of a space, in declared order: the whole choices of its labels, without the
-- impossible ones.
-- Source: own choice.
-- Example: let `team` be `db` or `web`, let `severity` be `critical` or `info`, and let
-- `team="web",severity="info"` be impossible. Then they are 0 0, 0 1 and 1 0.
abbrev pub all_choices : Space → List (List ℕ)
all_choices s = filter (is_possible_choice s) (choices (sizes s.labels))

-- A whole choice that is possible.
abbrev pub IsChoiceOf : Space → List ℕ → Type 0
IsChoiceOf s c = IsWhole (sizes s.labels) c × IsTrue (is_possible_choice s c)
