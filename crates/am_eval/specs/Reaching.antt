-- What alerts reach, if only the label sets that occur count. A parameter says which these are:
-- those of a space, or those that alerts may have.
use Rattle.std.specs.Prelude.{◌≡◌, ℕ, List, Contains, IsTrue}
use Rattle.am_universe.specs.LabelSet.{LabelMap, label_set_of}
use Rattle.am_labels.specs.Space.{Space, IsChoiceOf}
use Rattle.am_config.specs.ConfigFile.{Configuration}
use Rattle.am_config.specs.Path.{leads_through}
use Rattle.am_eval.specs.Routing.{ends, receivers}

-- An alert ends at a route. It enters a route if it ends there or below it. It goes to a receiver.
-- Source: Alertmanager configuration reference 0.25, "<route>".
-- Example: an alert that ends at `/0/1` alone enters `/`, `/0` and `/0/1`.
abbrev pub EndsAt : Configuration → List ℕ → LabelMap → Type 0
EndsAt c path set = Contains (ends set c) path

abbrev pub Enters : Configuration → List ℕ → LabelMap → Type 0
Enters c path set =
    (end : List ℕ) × Contains (ends set c) end × IsTrue (leads_through path end)

abbrev pub GoesTo : Configuration → ℕ → LabelMap → Type 0
GoesTo c receiver set = Contains (receivers set c) receiver

-- Some label set that occurs has a property, or none has it.
abbrev pub SomeIs : (LabelMap → Type 0) → (LabelMap → Type 0) → Type 0
SomeIs Occurs Is = (set : LabelMap) × Occurs set × Is set

abbrev pub NoneIs : (LabelMap → Type 0) → (LabelMap → Type 0) → Type 0
NoneIs Occurs Is = (set : LabelMap) → Occurs set → Is set → ⊥

-- A label set of a space: that of one of its choices, which are all possible.
abbrev pub IsSetOf : Space → LabelMap → Type 0
IsSetOf s set = (choice : List ℕ) × IsChoiceOf s choice × (set ≡ label_set_of s.labels choice)

-- A route is dead: no label set that occurs ends there. It is never entered: none ends there or
-- below it. A receiver, by its position, is unmatched: none goes to it.
-- Source: own choice. These are the words of `dead` and `receivers`; `lint` calls only a route dead
-- that is never entered.
-- Example: a route is dead if an earlier sibling without `continue`, or its children, match all
-- that it matches. If some label set ends below it, it is entered all the same. A receiver is
-- unmatched if no route has it, or if all routes that have it are dead.
abbrev pub IsDead : (LabelMap → Type 0) → Configuration → List ℕ → Type 0
IsDead Occurs c path = NoneIs Occurs (EndsAt c path)

abbrev pub IsNeverEntered : (LabelMap → Type 0) → Configuration → List ℕ → Type 0
IsNeverEntered Occurs c path = NoneIs Occurs (Enters c path)

abbrev pub IsUnmatched : (LabelMap → Type 0) → Configuration → ℕ → Type 0
IsUnmatched Occurs c receiver = NoneIs Occurs (GoesTo c receiver)
