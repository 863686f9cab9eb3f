-- The number of a text leads to a state of the text.
use Rattle.std.proofs.Common.{◌≡◌, ℕ, ◌<◌, Bool, true, List, [], ◌∷◌, ◌++◌, length, inl, inr, Option, Some, None, ◌&&◌, nat_eq, refl, ap}
use Rattle.std.proofs.Common.{slice_get, slice_index, string_bytes, vec_len, sym, ◌∙◌, subst, arith}
use Rattle.std.specs.List.{list_all}
use mathlib.Core.Bool.{beq}
use Rattle.std.specs.Cmp.{booleans_Decides}
use Rattle.std.specs.Cmp.Lexicographic.{pointwise, same_text}
use Rattle.std.specs.Option.{option_eq}
use Rattle.std.proofs.lemmas.Bool.{and_parts, eqb-true}
use Rattle.std.proofs.lemmas.Option.{slice_get-get_or, slice_get_within}
use Rattle.am_labels.specs.Pattern.{finds}
use Rattle.am_scan.specs.declared.column.Column.{Column}
use Rattle.am_scan.specs.declared.row.Row.{Row}
use Rattle.am_scan.specs.declared.pattern_scan.PatternScan.{PatternScan}
use Rattle.am_scan.specs.declared.pattern_state.PatternState.{PatternState}
use Rattle.am_scan.specs.Sight.{is_scanned, IsScanned}
use Rattle.am_scan.specs.Scan.{Follows}
use Rattle.am_scan.specs.Numbers.{next_in, number_in, found_at, found_in}
use Rattle.am_scan.specs.Column.{IsColumn}
use Rattle.am_scan.specs.Automaton.{AreClasses, Grows, IsNumber, IsRow, AreRows}
use Rattle.am_scan.proofs.Places.{get_within, get_pushed}
use Rattle.am_scan.proofs.StepLemmas.{scanned_is_byte}

module _ (scan : PatternScan) (columns : List Column) (classes : List ℕ) (states : List PatternState) (rows : List Row)
    (bytes : length classes ≡ 256) (own : AreClasses scan columns classes) (are : AreRows scan columns states rows) where
  -- The state with a number follows a text.
  abbrev StandsFor : ℕ → List ℕ → Type 0
  StandsFor number text = (state : PatternState) × (slice_get states number ≡ Some state) × Follows scan state text

  -- A number that has a state has a row.
  row_at : (number : ℕ) (state : PatternState) → slice_get states number ≡ Some state → (row : Row) × (slice_get rows number ≡ Some row) × IsRow scan columns states state row
  row_at number state at =
      let row = get_within rows number (let inside = slice_get_within states number state at in omega (arith, are.count)) in
      (row.0, row.1, are.each number state row.0 at row.1)

  -- One more byte before the text leads to the state of the longer text.
  step : (number b : ℕ) (text : List ℕ) → is_scanned scan.bytes b ≡ true → b < 256 → StandsFor number text →
      StandsFor (next_in (slice_get rows number) (slice_index classes b)) (b ∷ text)
  step number b text scanned small here =
      let row = row_at number here.0 here.1 in
      let class = slice_index classes b in
      let column = own b class (slice_get-get_or classes b 0 (omega (arith, bytes))) scanned in
      let count : vec_len row.0.next ≡ length columns = row.2.count in
      let inside : class < length columns = slice_get_within columns class column.0 column.1 in
      let next = row.2.leads class column.0 (slice_index row.0.next.items class) column.1
      (slice_get-get_or row.0.next.items class 0 (omega (arith, row.0.next.ok.0))) in
      subst (λ o. StandsFor (next_in o class) (b ∷ text)) (sym row.1) (next.0, next.1, next.2 b text column.2 here.2)

  -- The number of each scanned text has a state that follows the text.
  stands_for : (text : List ℕ) → list_all (is_scanned scan.bytes) text ≡ true → StandsFor (number_in rows classes text) text
  stands_for [] h = let first = get_within states 0 are.some in (first.0, first.1, are.first first.0 first.1)
  stands_for (b ∷ text) h =
      let parts = and_parts (is_scanned scan.bytes b) _ h in
      step _ b text parts.0 (scanned_is_byte scan.bytes b parts.0) (stands_for text parts.1)

  -- So what is said about the number holds for the text.
  pub found_in-exact : (text : List ℕ) → IsScanned scan.bytes text → found_in rows (number_in rows classes text) ≡ finds (string_bytes scan.pattern) text
  found_in-exact text scanned =
      let here = stands_for text scanned in
      let row = row_at (number_in rows classes text) here.0 here.1 in
      ap found_at row.1 ∙ row.2.found text here.2 scanned

-- A row stays a row when states are added.
pub IsRow_kept : (scan : PatternScan) (columns : List Column) (old new : List PatternState) (state : PatternState) (row : Row) → Grows old new →
    IsRow scan columns old state row → IsRow scan columns new state row
IsRow_kept scan columns old new state row grows h = record {
  count = h.count;
  leads = λ k column number at also. let next = h.leads k column number at also in (next.0, grows number next.0 next.1, next.2);
  found = h.found;
}

-- A number of a state stays one when states are added.
pub IsNumber_kept : (old new : List PatternState) (state : PatternState) (number : ℕ) → Grows old new → IsNumber old state number → IsNumber new state number
IsNumber_kept old new state number grows h = (h.0, grows number h.0 h.1, h.2)

-- One more byte has its class.
pub AreClasses-more : (scan : PatternScan) (old new : List Column) (classes all : List ℕ) (byte class : ℕ) → AreClasses scan old classes →
    Grows old new → length classes ≡ byte → all ≡ classes ++ class ∷ [] →
    (is_scanned scan.bytes byte ≡ true → (column : Column) × (slice_get new class ≡ Some column) × IsColumn scan.nfa scan.sight byte column) →
    AreClasses scan new all
AreClasses-more scan old new classes all byte class h grows len is own = λ b other at scanned.
    elim (get_pushed classes class other b (subst (λ xs. slice_get xs b ≡ Some other) is at)) [
      | inl before ↦ (let f = h b other before scanned in (f.0, grows other f.0 f.1, f.2))
      | inr here ↦
          (let same : b ≡ byte = here.0 ∙ len in
          let f = own (subst (λ x. is_scanned scan.bytes x ≡ true) same scanned) in
          (f.0, subst (λ x. slice_get new x ≡ Some f.0) here.1 f.1, subst (λ x. IsColumn scan.nfa scan.sight x f.0) (sym same) f.2))
    ]

-- States that the set takes for the same follow the same texts.
same_kinds : (o p : Option ℕ) → option_eq nat_eq o p ≡ true → o ≡ p
same_kinds None None same = refl
same_kinds None (Some y) same = absurd cc
same_kinds (Some x) None same = absurd cc
same_kinds (Some x) (Some y) same = ap Some (eqb-true x y same)

abbrev pub are_same : PatternState → PatternState → Bool
are_same a b = option_eq nat_eq a.first b.first && (beq a.starts b.starts && (pointwise nat_eq a.reads.items b.reads.items && beq a.later b.later))

pub same_follows : (a b : PatternState) → are_same a b ≡ true → (scan : PatternScan) (text : List ℕ) → Follows scan a text → Follows scan b text
unfolding Follows
same_follows a b same scan text h =
    let one = and_parts (option_eq nat_eq a.first b.first) _ same in
    let two = and_parts (beq a.starts b.starts) _ one.1 in
    let three = and_parts (pointwise nat_eq a.reads.items b.reads.items) _ two.1 in
    rw (← same_kinds a.first b.first one.0, ← (booleans_Decides a.starts b.starts).0 two.0, ← (booleans_Decides a.later b.later).0 three.1, ← same_text a.reads.items b.reads.items (sym three.0)) h
