-- The texts that matchers name, and the patterns that name none.
use Rattle.std.specs.Prelude.{◌≡◌, ℕ, List, [], ◌∷◌, ◌++◌, Bool, true, Some}
use Rattle.std.specs.Prelude.{slice_get, if◌then◌else◌}
use Rattle.std.specs.List.{flat_map, filter}
use Rattle.am_labels.specs.declared.op.Comparison.{Comparison}
use Rattle.am_labels.specs.declared.op.Comparison.TheVariants.{Text, Pattern}
use Rattle.am_labels.specs.Matcher.{Matcher, comparison}
use Rattle.am_classes.specs.declared.alphabet.Alphabet.{Alphabet}
use Rattle.am_classes.specs.Alphabet.{is_over}
use Rattle.am_labels.specs.Wildcards.{is_alternation, alternatives}

-- A comparison with a value names texts: the value is a text, or it is a pattern that is an
-- alternation of plain texts.
abbrev pub names_with : Comparison → List ℕ → Bool
names_with Text value = true
names_with Pattern value = is_alternation value

-- The text that it compares with, or none; and the alternatives of its pattern, if it names texts.
abbrev pub text_with : Comparison → List ℕ → List (List ℕ)
text_with Text value = value ∷ []
text_with Pattern value = []

abbrev pub alternatives_with : Comparison → List ℕ → List (List ℕ)
alternatives_with Text value = []
alternatives_with Pattern value = if is_alternation value then alternatives value else []

-- A matcher names texts: it is true of these texts alone, or of all others.
-- Source: own choice.
-- Example: `team="db"` and `team!~"db|web"` do. `team=~"db.*"` does not.
abbrev pub names_texts : Matcher → Bool
names_texts m = names_with (comparison m.op) m.value

-- The text that a matcher compares with, or none; the alternatives of its pattern, or none; and the
-- texts that it names, or none.
-- Source: own choice.
-- Example: `team!~"db|web"` names `db` and `web`.
abbrev pub text_of : Matcher → List (List ℕ)
text_of m = text_with (comparison m.op) m.value

abbrev pub alternatives_of : Matcher → List (List ℕ)
alternatives_of m = alternatives_with (comparison m.op) m.value

abbrev pub named_by : Matcher → List (List ℕ)
named_by m = text_of m ++ alternatives_of m

-- The pattern of a matcher that names no texts, or none.
abbrev pub other_pattern : Matcher → List (List ℕ)
other_pattern m = if names_texts m then [] else m.value ∷ []

-- The texts over an alphabet that matchers name, and the patterns of those that name none.
abbrev pub named_over : Alphabet → List Matcher → List (List ℕ)
named_over a ms = filter (is_over a) (flat_map text_of ms ++ flat_map alternatives_of ms)

abbrev pub other_patterns : List Matcher → List (List ℕ)
other_patterns ms = flat_map other_pattern ms

-- Some texts have each of the wanted ones once, and no others.
-- Source: own choice.
-- Example: `db`, `web` have those of `db`, `web`, `db`.
pub record AreEachOnce (wanted texts : List (List ℕ)) : Type 0 where
  pub each : (k : ℕ) (text : List ℕ) → slice_get wanted k ≡ Some text
      → (j : ℕ) × (slice_get texts j ≡ Some text)
  pub from : (j : ℕ) (text : List ℕ) → slice_get texts j ≡ Some text
      → (k : ℕ) × (slice_get wanted k ≡ Some text)
  pub once : (i j : ℕ) (text : List ℕ) → slice_get texts i ≡ Some text
      → slice_get texts j ≡ Some text → i ≡ j
