-- When a universe and a space are complete: at labels that no matcher is on, and by only the labels
-- that matchers ask about.
use Rattle.std.proofs.Common.{◌≡◌, ◌≢◌, ◌⊎◌, ℕ, ◌<◌, List, [], ◌∷◌, length, map, Bool, ◌&&◌, refl}
use Rattle.std.proofs.Common.{sym, ◌∙◌, subst, inl, inr, arith, Contains}
use Rattle.std.specs.Prelude.{unwrap_or, IsTrue}
use Rattle.std.specs.Cmp.Lexicographic.{bytes_decides}
use Rattle.std.proofs.lemmas.Bool.{cases_Bool, and_parts}
use Rattle.std.proofs.lemmas.Grind.{common_steps}
use Rattle.am_universe.specs.Text.{same_text}
use Rattle.am_universe.specs.Universe.{Label, Values, IsLabel, IsUniverse}
use Rattle.am_universe.specs.LabelSet.{LabelMap, value_of}
use Rattle.am_universe.proofs.ListLemmas.{IsIn, IsIn-from_Contains, Contains-from_IsIn}
use Rattle.am_universe.proofs.ListLemmas.{AllByRecursion-at, IsIn-unmap}
use Rattle.am_labels.specs.Matcher.{Matcher, holds, all_hold}
use Rattle.am_labels.specs.Space.{Space}
use Rattle.am_classes.specs.declared.alphabet.Alphabet.{Alphabet}
use Rattle.am_classes.specs.Alike.{AreAlike}
use Rattle.am_complete.specs.Complete.{about, label_texts, IsCompleteAt, asks_only_of}
use Rattle.am_complete.specs.Complete.{matches_text, IsSpaceCompleteAt, IsSpaceComplete}
use Rattle.am_complete.specs.AskedLabel.{AskedLabel, asked_names, IsAskedOf}
use Rattle.am_complete.proofs.LabelTexts.{texts_by}

-- ---- At a label.

-- a label has some text
some_value_text : (values : Values) → 0 < length values
    → (x : List ℕ) × IsIn (map (λ v. unwrap_or v []) values) x
some_value_text [] h = absurd (omega arith)
some_value_text (v ∷ values) h = (unwrap_or v [], inl refl)

some_text : (u : List Label) (name : List ℕ) → IsUniverse u
    → (x : List ℕ) × IsIn (label_texts u name) x
some_text u name h =
    texts_by (λ texts. (x : List ℕ) × IsIn texts x) u name ([], inl refl) (λ l i same.
    some_value_text l.values (AllByRecursion-at IsLabel u l h.labels i).some_value)

pub complete_without_matchers : (alphabet : Alphabet) (u : List Label) (ms : List Matcher) (name : List ℕ)
    → IsUniverse u → about name ms ≡ [] → IsCompleteAt alphabet u ms name
complete_without_matchers alphabet u ms name h none text valid =
    let one = some_text u name h in (
      one.0,
      Contains-from_IsIn (label_texts u name) one.0 one.1,
      subst (λ ns. AreAlike ns one.0 text) (sym none) tt,
    )

-- ---- By the labels of the matchers alone.

-- no matcher is on a label, or there is a matcher on it
pub some_about : (name : List ℕ) (ms : List Matcher)
    → (about name ms ≡ []) ⊎ ((m : Matcher) × IsIn ms m × (m.name ≡ name))
some_about name [] = inl refl
some_about name (m ∷ ms) = elim (cases_Bool (same_text m.name name)) [
  | inl same ↦ inr (m, inl refl, (bytes_decides m.name name).0 same)
  | inr apart ↦ elim (some_about name ms) [
    | inl none ↦ inl (rw apart none)
    | inr r ↦ inr (r.0, inr r.1, r.2)
  ]
]

-- it is enough to look at the names that matchers ask about
pub by_names : (P : List ℕ → Type 0) (ms : List Matcher)
    → ((name : List ℕ) → about name ms ≡ [] → P name)
    → ((m : Matcher) → IsIn ms m → m.name ≢ [] → P m.name)
    → (name : List ℕ) → name ≢ [] → P name
by_names P ms without on name some = grind (arith, common_steps, some_about)

-- or at the labels that are asked about
pub named_by : (asked : List AskedLabel) (ms : List Matcher) (m : Matcher) → IsAskedOf asked ms
    → IsIn ms m → m.name ≢ [] → (l : AskedLabel) × IsIn asked l × (l.name ≡ m.name)
named_by asked ms m asks i some =
    IsIn-unmap (λ l. l.name) asked m.name
    (IsIn-from_Contains (asked_names asked) m.name
    (AllByRecursion-at (λ x. x.name ≢ [] → Contains (asked_names asked) x.name) ms m asks.every i
    some))

-- ---- Spaces.

pub space_complete_without_matchers : (alphabet : Alphabet) (s : Space) (ms : List Matcher) (name : List ℕ)
    → IsUniverse s.labels → about name ms ≡ [] → IsSpaceCompleteAt alphabet s ms name
space_complete_without_matchers alphabet s ms name h none text valid possible =
    complete_without_matchers alphabet s.labels ms name h none text valid

pub space_complete_where_asked : (alphabet : Alphabet) (s : Space) (asked : List AskedLabel) (ms : List Matcher)
    → IsUniverse s.labels → IsAskedOf asked ms
    → ((l : AskedLabel) → IsIn asked l → l.name ≢ [] → IsSpaceCompleteAt alphabet s ms l.name)
    → IsSpaceComplete alphabet s ms
space_complete_where_asked alphabet s asked ms h asks on =
    by_names (IsSpaceCompleteAt alphabet s ms) ms
    (λ name none. space_complete_without_matchers alphabet s ms name h none) (λ m i some.
    let r = named_by asked ms m asks i some in
    subst (IsSpaceCompleteAt alphabet s ms) r.2
    (on r.0 r.1 (λ empty. some (sym r.2 ∙ empty))))

-- ---- Impossible lists that ask about one label alone.

-- a list about one label alone matches a label set exactly if it matches its text of that label
pub alone_truth : (set : LabelMap) (name : List ℕ) (list : List Matcher)
    → IsTrue (asks_only_of name list) → all_hold set list ≡ matches_text (value_of set name) list
alone_truth set name [] alone = refl
alone_truth set name (m ∷ list) alone =
    let asks = and_parts (same_text m.name name) (asks_only_of name list) alone in
    let named = (bytes_decides m.name name).0 asks.0 in
    λ i. holds m.op m.value (value_of set (named i)) && alone_truth set name list asks.1 i

-- whether an impossible list takes a text of a label away
abbrev pub takes_away : List ℕ → List ℕ → List Matcher → Bool
takes_away name text list = asks_only_of name list && matches_text text list
