-- The matchers of a label, made ready to test texts.
use Rattle.std.specs.Prelude.{◌≡◌, ℕ, List, [], ◌∷◌, ◌++◌, map, if◌then◌else◌}
use Rattle.std.specs.Global.{Vec}
use Rattle.std.specs.HashMap.{HashMap, get_by}
use Rattle.std.specs.List.{list_any}
use Rattle.std.specs.Option.{option_map_or}
use Rattle.std.specs.Str.{bytes_eq}
use Rattle.am_universe.specs.Text.{same_text}
use Rattle.am_labels.specs.Matcher.{Matcher}
use Rattle.am_classes.specs.declared.label_tests.LabelTests.{LabelTests}
use Rattle.am_classes.specs.Fronts.{ends_with}
use Rattle.am_classes.specs.Named.{AreEachOnce, other_patterns}
use Rattle.am_classes.specs.Truths.{naming}
use denote.Ref.{Bor}

-- The places that a map has for a text.
abbrev pub named_places : {S : Type 0} → HashMap (Bor (List ℕ)) (Vec ℕ) S → List ℕ → List ℕ
named_places named text =
    option_map_or (λ places. places.items) (get_by (λ t. bytes_eq text t.now) named) []

-- Places with one more at the end, unless it is the last one already; and the places of a text,
-- with one more if the text is one of these.
unfoldable pub with_place : ℕ → List ℕ → List ℕ
with_place place places = if ends_with place places then places else places ++ place ∷ []

abbrev pub noted : List (List ℕ) → ℕ → List ℕ → List ℕ → List ℕ
noted texts place text places =
    if list_any (same_text text) texts then with_place place places else places

-- These are the tests of some matchers: they have the places of those that name a text, and the
-- patterns of the others.
-- Source: own choice.
-- Example: those of `team="db"` and `team=~"w.*"` have the place 0 for `db`, and the pattern `w.*`.
pub record IsTestsOf (ms : List Matcher) (tests : LabelTests) : Type 0 where
  pub matchers : map (λ m. m.now) tests.matchers.items ≡ ms
  pub named : (text : List ℕ) → named_places tests.named text ≡ naming ms text
  pub patterns : AreEachOnce (other_patterns ms) (map (λ p. p.now) tests.patterns.keys)
