-- What is found about a space at one label that is asked about, for the matchers of that label.
use Rattle.std.specs.Prelude.{◌≡◌, ℕ, List, [], ◌∷◌, Bool, true, false, not}
use Rattle.std.specs.Prelude.{Option, Some, None}
use Rattle.std.specs.Prelude.{string_bytes, IsTrue}
use Rattle.std.specs.List.{list_any, AllByRecursion}
use Rattle.am_universe.specs.LabelSet.{LabelMap, value_of}
use Rattle.am_universe.specs.Universe.{is_label_name}
use Rattle.am_labels.specs.Matcher.{Matcher}
use Rattle.am_labels.specs.Space.{Space}
use Rattle.am_classes.specs.declared.alphabet.Alphabet.{Alphabet}
use Rattle.am_classes.specs.Alphabet.{IsOver}
use Rattle.am_classes.specs.Alike.{HasAlikeIn}
use Rattle.am_classes.specs.Limits.{MayBePastLimits}
use Rattle.am_complete.specs.declared.label_state.Completeness.{Completeness}
use Rattle.am_complete.specs.declared.label_state.Completeness.TheVariants as state_is
use Rattle.am_complete.specs.declared.label_state.LabelState.{LabelState}
use Rattle.am_complete.specs.Complete.{label_texts, asks_only_of, may_have, AreAmong}
use Rattle.am_complete.specs.AskedLabel.{AskedLabel, IsAskedOf}
use Rattle.am_complete.specs.Covering.{CoverPossible}
use Rattle.am_complete.specs.LabelState.{HasClasses, IsSoIfNamed}

-- What is found about a space at a label is true, for the matchers on the label.
abbrev pub IsFoundAt : Alphabet → Space → AskedLabel → Completeness → Type 0
IsFoundAt a s l (state_is.Complete classes) =
    CoverPossible a s.impossible l.name l.matchers (label_texts s.labels l.name)
    × HasClasses a s.impossible l.name l.matchers classes
IsFoundAt a s l (state_is.Lacks text) =
    IsTrue (is_label_name l.name) × IsOver a (string_bytes text)
    × IsTrue (may_have s.impossible l.name (string_bytes text))
    × (HasAlikeIn l.matchers (label_texts s.labels l.name) (string_bytes text) → ⊥)
IsFoundAt a s l state_is.Unasked = ⊥
IsFoundAt a s l state_is.Undeclarable =
    (is_label_name l.name ≡ false)
    × (CoverPossible a s.impossible l.name l.matchers (label_texts s.labels l.name) → ⊥)
IsFoundAt a s l (state_is.Unproved origin) = (l.first ≡ origin) × MayBePastLimits a l.matchers

-- The matchers of the impossible lists that ask about a label alone are among those on it.
abbrev pub HasThoseOfLists : List (List Matcher) → AskedLabel → Type 0
HasThoseOfLists impossible l =
    AllByRecursion (λ list. IsTrue (asks_only_of l.name list) → AreAmong list l.matchers)
    impossible

-- A text is not empty; an alert has a label; and a label is unseen: there is an export, and no
-- alert of it has the label.
-- Source: own choice.
-- Example: if two alerts have the label `team` alone, `tema` is unseen. Without an export, no label
-- is. In an export without alerts, each label is.
abbrev pub begins : List ℕ → Bool
begins [] = false
begins (c ∷ cs) = true

abbrev pub has_label : List ℕ → LabelMap → Bool
has_label name a = begins (value_of a name)

abbrev pub is_unseen : Option (List LabelMap) → List ℕ → Bool
is_unseen None name = false
is_unseen (Some alerts) name = not (list_any (has_label name) alerts)

-- A state that is true for all matchers that ask about some labels, whatever these matchers are. It
-- also says whether its label is unseen.
pub record IsSoOfName (a : Alphabet) (s : Space) (asked : List AskedLabel)
    (alerts : Option (List LabelMap)) (state : LabelState) : Type 0 where
  pub so : (ms : List Matcher) → IsAskedOf asked ms
      → IsSoIfNamed a s ms asked (string_bytes state.name) state.completeness
  pub unseen : state.unseen ≡ is_unseen alerts (string_bytes state.name)
