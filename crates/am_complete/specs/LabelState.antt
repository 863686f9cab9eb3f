-- What a space lacks at a label, for some matchers.
use Rattle.std.specs.Prelude.{◌≡◌, ◌≢◌, ℕ, List, [], ◌++◌, length, Bool, true, false, not}
use Rattle.std.specs.Prelude.{Contains, string_bytes, IsTrue}
use Rattle.std.specs.List.{filter, list_any}
use Rattle.am_universe.specs.Text.{same_text}
use Rattle.am_universe.specs.Universe.{Label, is_label_name, names}
use Rattle.am_labels.specs.Matcher.{Matcher}
use Rattle.am_labels.specs.Space.{Space}
use Rattle.am_classes.specs.declared.alphabet.Alphabet.{Alphabet}
use Rattle.am_classes.specs.Alphabet.{IsOver}
use Rattle.am_classes.specs.Limits.{MayBePastLimits}
use Rattle.am_complete.specs.declared.label_state.Completeness.{Completeness}
use Rattle.am_complete.specs.declared.label_state.Completeness.TheVariants as state_is
use Rattle.am_complete.specs.Complete.{about, HasAlike, may_have, IsSpaceCompleteAt}
use Rattle.am_complete.specs.AskedLabel.{AskedLabel, asked_names}
use Rattle.am_complete.specs.Covering.{ArePossible, CoverPossible}

-- Some texts stand for all texts over an alphabet that a label may have, and each of them is
-- needed: they cover all, they are over the alphabet, the label may have each, and no two are
-- alike.
-- Source: own choice.
-- Example: to `team="db"` and `team!~"db|web"`, if the latter is impossible, `db` and `web` do.
pub record StandForPossible (a : Alphabet) (impossible : List (List Matcher)) (name : List ℕ)
    (ms : List Matcher) (texts : List (List ℕ)) : Type 0 where
  pub cover : CoverPossible a impossible name ms texts
  pub possible : ArePossible a impossible name ms texts

-- There are `n` classes of texts over an alphabet that a label may have and that some matchers
-- cannot tell apart.
-- Source: own choice.
-- Example: for `team="db"` and `team="web"` there are three classes: `db`, `web`, and all other
-- texts. If `team!~"db|web"` is asked too, and is impossible, there are two.
abbrev pub HasClasses :
    Alphabet → List (List Matcher) → List ℕ → List Matcher → ℕ → Type 0
HasClasses a impossible name ms n =
    (texts : List (List ℕ)) × StandForPossible a impossible name ms texts × (length texts ≡ n)

-- What is said about a space at the label of a name is true. `Complete`: the space is complete
-- there, the label may have texts of this number of classes, and some matcher asks about it.
-- `Lacks`: the label, which has a label name, may have this text, which is over the alphabet, and
-- no text of the universe is alike to it. `Unasked`: no matcher asks about the label.
-- `Undeclarable`: the space is not complete there, and no universe file can declare the label,
-- because its name is no label name. `Unproved`: the first matcher on the label has this origin,
-- and some matcher on it takes a pattern that is no alternation of plain texts; if each such
-- pattern is made of plain characters, `.*` and bars, there are too many states or classes. No more
-- is said.
-- Source: own choice.
-- Example: for `team="db"` alone, a universe with `db` and absence is complete at `team`, which has
-- two classes. So is one with `db` and `web`. One with `web` alone lacks `db`. For `a:b="x"` alone
-- each universe of a file is `undeclarable` at `a:b`, and for `a:b=~"(?s).*"` each is complete
-- there.
abbrev pub IsSoAt :
    Alphabet → Space → List Matcher → List AskedLabel → List ℕ → Completeness → Type 0
IsSoAt a s ms asked name (state_is.Complete classes) =
    IsSpaceCompleteAt a s ms name × HasClasses a s.impossible name (about name ms) classes
    × (about name ms ≢ [])
IsSoAt a s ms asked name (state_is.Lacks text) =
    IsTrue (is_label_name name) × IsOver a (string_bytes text)
    × IsTrue (may_have s.impossible name (string_bytes text))
    × (HasAlike s.labels ms name (string_bytes text) → ⊥)
IsSoAt a s ms asked name state_is.Unasked = about name ms ≡ []
IsSoAt a s ms asked name state_is.Undeclarable =
    (is_label_name name ≡ false) × (IsSpaceCompleteAt a s ms name → ⊥)
IsSoAt a s ms asked name (state_is.Unproved origin) =
    ((l : AskedLabel) × Contains asked l × (l.name ≡ name) × (l.first ≡ origin))
    × MayBePastLimits a (about name ms)

-- The same, unless the name is the empty text: no matcher and no label has it.
abbrev pub IsSoIfNamed :
    Alphabet → Space → List Matcher → List AskedLabel → List ℕ → Completeness → Type 0
IsSoIfNamed a s ms asked name state = name ≢ [] → IsSoAt a s ms asked name state

-- Nothing is missing there: the space is complete at the label.
abbrev pub is_settled : Completeness → Bool
is_settled (state_is.Complete classes) = true
is_settled (state_is.Lacks text) = false
is_settled state_is.Unasked = true
is_settled state_is.Undeclarable = false
is_settled (state_is.Unproved origin) = false

-- The labels that are reported: those of the universe, and then those that are asked about and not
-- declared, each in their order.
-- Source: own choice.
-- Example: if `team` and `env` are declared, and `env` and `host` are asked about, they are `team`,
-- `env` and `host`.
abbrev pub is_declared : List Label → List ℕ → Bool
is_declared u name = list_any (λ l. same_text l.name name) u

abbrev pub reported_names : List Label → List AskedLabel → List (List ℕ)
reported_names u asked = names u ++ filter (λ name. not (is_declared u name)) (asked_names asked)
