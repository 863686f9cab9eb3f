-- Which of the label sets that occur a list of matchers matches. A parameter says which occur:
-- those of the choices of a space, or those that alerts may have. (This project's own.)
use Rattle.std.specs.Prelude.{◌⊎◌, List, IsTrue, IsFalse}
use Rattle.am_universe.specs.LabelSet.{LabelMap}
use Rattle.am_labels.specs.Matcher.{Matcher, all_hold}

-- A list matches none of the label sets that occur, or each of them, or at least one. Or there is
-- one that it does not match.
-- Source: Alertmanager configuration reference 0.25, "<matcher>": all matchers of a list have to
-- match.
-- Example: `team="db",team="web"` matches none, whatever occurs, and `team=~".*"` matches each
-- whose team has no line feed.
abbrev pub MatchesNone : (LabelMap → Type 0) → List Matcher → Type 0
MatchesNone Occurs ms = (set : LabelMap) → Occurs set → IsFalse (all_hold set ms)

abbrev pub MatchesEach : (LabelMap → Type 0) → List Matcher → Type 0
MatchesEach Occurs ms = (set : LabelMap) → Occurs set → IsTrue (all_hold set ms)

abbrev pub MatchesOne : (LabelMap → Type 0) → List Matcher → Type 0
MatchesOne Occurs ms = (set : LabelMap) × Occurs set × IsTrue (all_hold set ms)

abbrev pub MissesOne : (LabelMap → Type 0) → List Matcher → Type 0
MissesOne Occurs ms = (set : LabelMap) × Occurs set × IsFalse (all_hold set ms)

-- A list matches all of the label sets that occur: each of them, and there is one. Or it does not:
-- there is one that it does not match, or it matches none.
-- Source: own choice: of nothing, a list does not match all.
-- Example: if every alert counts, `team="db"` does not match all, because it does not match
-- `{team="web"}`.
abbrev pub MatchesAll : (LabelMap → Type 0) → List Matcher → Type 0
MatchesAll Occurs ms = MatchesOne Occurs ms × MatchesEach Occurs ms

abbrev pub MatchesNotAll : (LabelMap → Type 0) → List Matcher → Type 0
MatchesNotAll Occurs ms = MissesOne Occurs ms ⊎ MatchesNone Occurs ms
