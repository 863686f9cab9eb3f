-- Labels that matchers ask about, each with those matchers.
use Rattle.std.specs.Prelude.{◌≢◌, ℕ, List, [], ◌∷◌, ◌++◌, map, fold, Bool, ◌&&◌}
use Rattle.std.specs.Prelude.{if◌then◌else◌, Contains}
use Rattle.std.specs.List.{AllByRecursion, IsDistinct, list_any}
use Rattle.am_universe.specs.Text.{same_text}
use Rattle.am_labels.specs.declared.op.Op.{Op}
use Rattle.am_labels.specs.contracts.op.Op.{the_type}
use Rattle.am_labels.specs.Matcher.{Matcher}
use Rattle.am_complete.specs.declared.origin.Origin.{Origin}
use Rattle.am_complete.specs.Complete.{about, HaveSameMatchers}
use denote.Enum.Bare.{sameb}

-- A label: its name, the matchers that ask about it, and the origin of the first of them.
pub record AskedLabel : Type 0 where
  pub name : List ℕ
  pub matchers : List Matcher
  pub first : Origin

-- The names of the labels, in order.
abbrev pub asked_names : List AskedLabel → List (List ℕ)
asked_names labels = map (λ l. l.name) labels

-- Two operators are the same.
abbrev pub same_op : Op → Op → Bool
same_op o p = sameb the_type o p

-- Two matchers on one label are equal: they have the same operator and the same value.
-- Source: own choice.
-- Example: of `team="db"`, `team=~"db"` and `team="db"`, the first and the last are equal.
abbrev pub asks_same : Matcher → Matcher → Bool
asks_same m other = same_op other.op m.op && same_text other.value m.value

-- A label with one more matcher on it, unless it has an equal one.
abbrev pub with_matcher : Matcher → AskedLabel → AskedLabel
with_matcher m l =
    if list_any (asks_same m) l.matchers then l else record l { matchers = l.matchers ++ m ∷ [] }

-- A label with one more matcher, if that matcher asks about it.
abbrev pub and_asked : Matcher → AskedLabel → AskedLabel
and_asked m l = if same_text l.name m.name then with_matcher m l else l

-- The label of a matcher with an origin. It has that matcher alone.
abbrev pub label_of : Origin × Matcher → AskedLabel
label_of placed =
    record { name = placed.1.name; matchers = placed.1 ∷ []; first = placed.0 }

-- Labels with one more matcher, which has an origin. A label that is asked about for the first time
-- comes after the others.
abbrev pub with_asked : List AskedLabel → Origin × Matcher → List AskedLabel
with_asked labels placed =
    if list_any (λ l. same_text l.name placed.1.name) labels
    then map (and_asked placed.1) labels
    else labels ++ label_of placed ∷ []

-- The labels that some matchers ask about, in the order in which they are first asked about. Each
-- has its matchers in the order in which they are first asked, and equal matchers once.
-- Source: own choice.
-- Example: for `team="db"`, `env=""`, `team="web"` and `team="db"` they are `team`, with two
-- matchers, and `env`.
abbrev pub asked_labels : List (Origin × Matcher) → List AskedLabel
asked_labels placed = fold with_asked [] placed

-- Some labels are those that some matchers ask about. Each has a name of its own, and exactly those
-- of the matchers that are on it. No label that is asked about is missing. A label without matchers
-- may be there too. Nothing is said about the empty name: no matcher and no label has it.
-- Source: own choice.
-- Example: the labels of `team="db"`, `env=""` and `team="db"` are `team` and `env`, in some order,
-- with at least one matcher each.
pub record IsAskedOf (labels : List AskedLabel) (ms : List Matcher) : Type 0 where
  pub distinct : IsDistinct same_text (asked_names labels)
  pub matchers :
      AllByRecursion (λ l. l.name ≢ [] → HaveSameMatchers l.matchers (about l.name ms)) labels
  pub every : AllByRecursion (λ m. m.name ≢ [] → Contains (asked_names labels) m.name) ms
