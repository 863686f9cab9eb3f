-- Complete universes: those that stand for every alert. If a universe is complete for some
-- matchers, then for each alert, whatever its labels are, some choice of the universe meets exactly
-- the same of these matchers.
use Rattle.std.specs.Prelude.{◌≢◌, ℕ, List, [], ◌∷◌, map, Option, Some, None, unwrap_or}
use Rattle.std.specs.Prelude.{Contains, IsTrue, Bool, not, ◌&&◌}
use Rattle.std.specs.List.{filter, find, flat_map, AllByRecursion, list_all, list_any}
use Rattle.am_universe.specs.Text.{same_text}
use Rattle.am_universe.specs.Universe.{Label}
use Rattle.am_labels.specs.Matcher.{Matcher, holds}
use Rattle.am_labels.specs.Space.{Space}
use Rattle.am_classes.specs.declared.alphabet.Alphabet.{Alphabet}
use Rattle.am_classes.specs.Alphabet.{IsOver}
use Rattle.am_classes.specs.Alike.{HasAlikeIn}

-- The matchers on one label, in order.
-- Source: own choice.
-- Example: of `team="db"`, `env="prod"` and `team!="web"`, the first and the last are on `team`.
abbrev pub about : List ℕ → List Matcher → List Matcher
about name ms = filter (λ m. same_text m.name name) ms

-- The texts that a label has in the label sets of a universe: its values, where absence is the
-- empty text. A label that is not declared has the empty text alone.
-- Source: own choice; the reference says that a missing label is the same as an empty one.
-- Example: if `team` may be `db` or absent, its texts are `db` and the empty text.
abbrev pub texts_of_label : Option Label → List (List ℕ)
texts_of_label None = [] ∷ []
texts_of_label (Some label) = map (λ v. unwrap_or v []) label.values

abbrev pub label_texts : List Label → List ℕ → List (List ℕ)
label_texts u name = texts_of_label (find (λ l. same_text l.name name) u)

-- A label has a text in a universe that is alike to a given one, to the matchers on that label.
-- Source: own choice.
-- Example: for `team="db"` alone, if `team` may be `db` or absent, absence is alike to `ops`.
abbrev pub HasAlike : List Label → List Matcher → List ℕ → List ℕ → Type 0
HasAlike u ms name text = HasAlikeIn (about name ms) (label_texts u name) text

-- A universe is complete at a label, for some matchers: whatever text over an alphabet the label
-- has, some text of the universe is alike to it.
-- Source: own choice.
-- Example: for `team=~"db|web"` alone, a universe is complete at `team` with the values `db` and
-- absence. With `db` and `web` it is not.
abbrev pub IsCompleteAt : Alphabet → List Label → List Matcher → List ℕ → Type 0
IsCompleteAt a u ms name = (text : List ℕ) → IsOver a text → HasAlike u ms name text

-- A universe is complete for some matchers: it is complete at each label that an alert may have,
-- whatever the name of the label is.
-- Source: own choice.
-- Example: for no matchers every universe is complete, even the one without labels. For `a:b="x"`
-- no universe of a file is, because it cannot declare `a:b`.
abbrev pub IsComplete : Alphabet → List Label → List Matcher → Type 0
IsComplete a u ms = (name : List ℕ) → name ≢ [] → IsCompleteAt a u ms name

-- An impossible list asks about one label alone.
-- Source: own choice.
-- Example: `team!~"db|web"` asks about `team` alone; `env=prod,team=""` does not.
abbrev pub asks_only_of : List ℕ → List Matcher → Bool
asks_only_of name list = list_all (λ m. same_text m.name name) list

-- A list of matchers on one label matches a text of that label.
abbrev pub matches_text : List ℕ → List Matcher → Bool
matches_text text list = list_all (λ m. holds m.op m.value text) list

-- A label may have a text, judged by the impossible lists that ask about this label alone: none of
-- them matches the text. What other lists say depends on the other labels too.
-- Source: own choice.
-- Example: if `team!~"db|web"` and `env=prod,team=web` are impossible, `team` may be `db` or `web`,
-- and not `ops`.
abbrev pub may_have : List (List Matcher) → List ℕ → List ℕ → Bool
may_have impossible name text =
    not (list_any (λ list. asks_only_of name list && matches_text text list) impossible)

-- A space is complete at a label, for some matchers: whatever text over an alphabet the label may
-- have, some text of the universe is alike to it.
-- Source: own choice.
-- Example: for `team="db"` and `team!~"db|web"`, if the latter is impossible, a space is complete
-- at `team` with the values `db` and `web`, because no alert has another text there.
abbrev pub IsSpaceCompleteAt : Alphabet → Space → List Matcher → List ℕ → Type 0
IsSpaceCompleteAt a s ms name =
    (text : List ℕ) → IsOver a text → IsTrue (may_have s.impossible name text)
    → HasAlike s.labels ms name text

-- A space is complete for some matchers: it is complete at each label that an alert may have.
-- Source: own choice.
-- Example: if nothing is impossible, a space is complete exactly if its universe is.
abbrev pub IsSpaceComplete : Alphabet → Space → List Matcher → Type 0
IsSpaceComplete a s ms = (name : List ℕ) → name ≢ [] → IsSpaceCompleteAt a s ms name

-- Each of some matchers is one of others.
abbrev pub AreAmong : List Matcher → List Matcher → Type 0
AreAmong ns ms = AllByRecursion (Contains ms) ns

-- Two lists have the same matchers, in any order and any number of times.
-- Source: own choice.
-- Example: `team="db"` and `env=""` have the same as `env=""`, `team="db"` and again `env=""`.
pub record HaveSameMatchers (ns ms : List Matcher) : Type 0 where
  pub there : AreAmong ns ms
  pub back : AreAmong ms ns

-- The matchers of impossible lists.
abbrev pub impossible_matchers : List (List Matcher) → List Matcher
impossible_matchers lists = flat_map (λ ms. ms) lists
