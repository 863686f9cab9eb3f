-- Labels in a range, and what rows of labels with one value say of the alerts.
use Rattle.std.proofs.Common.{◌≡◌, ℕ, ◌+◌, ◌-◌, ◌<◌, ◌≤◌, List, [], ◌∷◌, ◌++◌, map, Bool, true, false, not, ◌&&◌, ◌||◌}
use Rattle.std.proofs.Common.{arith, Some, refl, sym, ap, ◌∙◌, subst, length, take, drop, All}
use Rattle.std.proofs.Common.{inl, inr, get_or}
use Rattle.std.specs.Prelude.{slice_get, slice_range, ◌==◌}
use Rattle.std.proofs.lemmas.Bool.{true≢false, false≢true, eqb-true, cases_lt}
use Rattle.std.proofs.lemmas.List.{length-take-le, take-take, drop_at, drop_more, take-map, drop-map}
use Rattle.std.proofs.lemmas.List.Edits.{split_between, get_or-between, length-between}
use Rattle.std.proofs.lemmas.List.Elements.{All-take, All-drop, All-map}
use Rattle.std.proofs.lemmas.List.Folds.{list_all-append}
use Rattle.std.proofs.lemmas.Option.{slice_get-get_or, slice_get_within, get_or_from_slice_get, same_Some}
use Rattle.std.proofs.lemmas.Slice.{between_is}
use Rattle.am_universe.proofs.ListLemmas.{IsIn}
use Rattle.am_universe.proofs.Members.{at_in}
use Rattle.am_alerts.specs.declared.alert_labels.AlertLabel.{AlertLabel}
use Rattle.am_alerts.specs.declared.alert_labels.Row.{Row}
use Rattle.am_alerts.specs.declared.judge.ValueTest.{ValueTest}
use Rattle.am_alerts.specs.Judge.{passes}
use Rattle.am_alerts.specs.AlertLabels.{is_at, all_pass, HavePlace, Tile}

-- ---- Ranges of lists.

-- two ranges, one behind the other
joined : {X : Type 0} (xs : List X) (a k b : ℕ) → a ≤ k → k ≤ b → b ≤ length xs
    → slice_range xs a b ≡ slice_range xs a k ++ slice_range xs k b
joined xs a k b first second within =
    let front : length (take a xs) ≡ a = length-take-le a xs (omega arith) in
    let early : take a (take b xs) ≡ take a xs = take-take a b xs (omega arith) in
    let middle : slice_range (take b xs) a k ≡ slice_range xs a k =
    between_is (take b xs) a k ∙ ap (drop a) (take-take k b xs second) ∙ sym (between_is xs a k) in
    between_is xs a b
    ∙ ap (drop a) (split_between (take b xs) a k first
    ∙ (λ j. early j ++ (middle j ++ sym (between_is xs k b) j)))
    ∙ drop_at (take a xs) (slice_range xs a k ++ slice_range xs k b) a front

pub range_map : {X Y : Type 0} (f : X → Y) (xs : List X) (a b : ℕ)
    → map f (slice_range xs a b) ≡ slice_range (map f xs) a b
range_map f xs a b = sym (take-map f (b - a) (drop a xs)) ∙ ap (take (b - a)) (sym (drop-map f a xs))

-- what is in a range is at a position there
pub in_range : {X : Type 0} (xs : List X) (a b : ℕ) (x : X) → b ≤ length xs → IsIn (slice_range xs a b) x
    → (k : ℕ) × (a ≤ k) × (k < b) × (slice_get xs k ≡ Some x)
in_range xs a b x within there =
    let r = at_in (slice_range xs a b) x there in
    let lt = slice_get_within (slice_range xs a b) r.0 x r.1 in
    let less : a + r.0 < b = omega (arith, lt, length-between xs a b within) in
    let more : a ≤ a + r.0 = omega arith in
    let short : a + r.0 < length xs = omega arith in (
      a + r.0,
      more,
      less,
      slice_get-get_or xs (a + r.0) x short
          ∙ ap Some (sym (get_or-between xs a b r.0 x less)
          ∙ get_or_from_slice_get (slice_range xs a b) r.0 x x r.1),
    )

-- ---- Labels that have one value.

-- the label that the code has for a position without one
abbrev pub blank : AlertLabel
blank = record {
  name = record { ref_ptr = (0, 0); now = [] };
  value = record { ref_ptr = (0, 0); now = [] };
  alert = 0;
  name_place = 0;
  place = 0;
}

-- the positions of the alerts in a range are below a count
pub all_below : (labels : List AlertLabel) (positions : List ℕ) (n : ℕ) → map (λ l. l.alert) labels ≡ positions
    → All (λ l. l.alert < n) labels → (a b : ℕ) → All (λ p. p < n) (slice_range positions a b)
all_below labels positions n placed below a b =
    All-take (λ p. p < n) (b - a) (drop a positions) (All-drop (λ p. p < n) a positions
    (subst (All (λ p. p < n)) placed (All-map (λ p. p < n) (λ (l : AlertLabel). l.alert) labels below)))

-- Whether an alert has a label among some.
abbrev pub has : List AlertLabel → ℕ → Bool
has labels i = is_at (map (λ l. l.alert) labels) i

one_label : (p t e m : Bool) → (e ≡ true → p ≡ t) → ((p || not e) && (t || not m)) ≡ (t || not (e || m))
one_label true true e m same = refl
one_label true false true m same = absurd (true≢false (same refl))
one_label true false false m same = refl
one_label false true true m same = absurd (false≢true (same refl))
one_label false true false m same = refl
one_label false false true m same = refl
one_label false false false m same = refl

none_of : (t : Bool) → true ≡ (t || not false)
none_of true = refl
none_of false = refl

-- the labels of an alert have one answer
pub one_answer : (test : ValueTest) (i : ℕ) (t : Bool) (labels : List AlertLabel)
    → ((l : AlertLabel) → IsIn labels l → l.alert ≡ i → passes test l.value.now ≡ t)
    → all_pass test labels i ≡ (t || not (has labels i))
one_answer test i t [] same = none_of t
one_answer test i t (l ∷ labels) same =
    ap (λ b. (passes test l.value.now || not (l.alert == i)) && b)
    (one_answer test i t labels (λ m there. same m (inr there)))
    ∙ one_label (passes test l.value.now) t (l.alert == i) (has labels i)
    (λ own. same l (inl refl) (eqb-true l.alert i own))

-- one more row, whose labels have one value
pub row_judged : (labels : List AlertLabel) (positions : List ℕ) (test : ValueTest) (a k b : ℕ)
    (value : List ℕ) → map (λ l. l.alert) labels ≡ positions
    → a ≤ k → k ≤ b → b ≤ length labels
    → ((l : AlertLabel) → IsIn (slice_range labels k b) l → l.value.now ≡ value) → (i : ℕ)
    → (all_pass test (slice_range labels a k) i
    && (passes test value || not (is_at (slice_range positions k b) i)))
    ≡ all_pass test (slice_range labels a b) i
row_judged labels positions test a k b value placed first second within same i =
    sym (ap (λ ls. all_pass test ls i) (joined labels a k b first second within)
    ∙ list_all-append (λ l. passes test l.value.now || not (l.alert == i)) (slice_range labels a k) (slice_range labels k b)
    ∙ ap (λ c. all_pass test (slice_range labels a k) i && c)
    (one_answer test i (passes test value) (slice_range labels k b) (λ l there own. ap (passes test) (same l there))
    ∙ ap (λ ps. passes test value || not (is_at ps i))
    (range_map (λ (l : AlertLabel). l.alert) labels k b ∙ ap (λ ps. slice_range ps k b) placed)))

-- ---- Rows that tile a range.

-- the row at a position that the code reads
pub row_at : (labels : List AlertLabel) (start end : ℕ) (rows items : List Row) (i : ℕ) (d : Row)
    → items ≡ rows → Tile labels start end (drop i rows) → i < length items
    → Tile labels start end (get_or items i d ∷ drop (i + 1) rows)
row_at labels start end rows items i d same tile lt =
    subst (λ (xs : List Row). Tile labels start end (get_or xs i d ∷ drop (i + 1) rows)) (sym same)
    (subst (Tile labels start end) (drop_more rows i d (omega (arith, lt, ap length same))) tile)

-- one more row
pub row_behind : (labels : List AlertLabel) (start k : ℕ) (rows : List Row) (row : Row)
    → Tile labels start k rows → k < row.end → HavePlace labels k row.end row.place
    → Tile labels start row.end (rows ++ row ∷ [])
row_behind labels start k [] row tile more have = (
  omega (arith, more, tile),
  omega arith,
  λ j l le lt at. have j l (omega (arith, le, tile)) lt at,
  refl,
)
row_behind labels start k (first ∷ rows) row tile more have = (
  tile.0,
  omega (arith, tile.1, more),
  tile.2,
  row_behind labels first.end k rows row tile.3 more have,
)

-- one more label of a row
pub label_behind : (labels : List AlertLabel) (start k place : ℕ) (l : AlertLabel)
    → HavePlace labels start k place → slice_get labels k ≡ Some l → l.place ≡ place
    → HavePlace labels start (k + 1) place
label_behind labels start k place l have here is j m le lt at = elim (cases_lt j k) [
  | inl less ↦ have j m le less at
  | inr more ↦
      let same : j ≡ k = omega (arith, more, lt) in
      ap (λ (n : AlertLabel). n.place) (same_Some m l (sym at ∙ ap (slice_get labels) same ∙ here)) ∙ is
]

-- one more label before a row
pub label_before : (labels : List AlertLabel) (start end place : ℕ) (l : AlertLabel)
    → slice_get labels start ≡ Some l → l.place ≡ place → HavePlace labels (start + 1) end place
    → HavePlace labels start end place
label_before labels start end place l here is have j m le lt at = elim (cases_lt start j) [
  | inl less ↦ have j m (omega (arith, less)) lt at
  | inr more ↦
      let same : j ≡ start = omega (arith, more, le) in
      ap (λ (n : AlertLabel). n.place) (same_Some m l (sym at ∙ ap (slice_get labels) same ∙ here)) ∙ is
]
