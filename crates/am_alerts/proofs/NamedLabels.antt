-- The labels of one name, of all alerts: if they are as many as the alerts, each alert has one.
use Rattle.std.proofs.Common.{◌≡◌, ◌↔◌, ℕ, ◌+◌, ◌<◌, ◌≤◌, List, [], ◌∷◌, ◌++◌, map, Bool, true, false, not, ◌&&◌, ◌||◌, cond}
use Rattle.std.proofs.Common.{arith, Some, None, Option, inl, inr, refl, sym, ap, ◌∙◌, subst, get_or, All, length, take, drop, zero, suc, append-nil}
use Rattle.std.specs.Prelude.{slice_get, slice_range, unwrap_or, ◌==◌}
use Rattle.std.specs.List.{enumerate_from, flat_map, filter, count_by, sum_by, list_any}
use Rattle.std.specs.FinMap.{get, entries, entries_sorted, is_sorted}
use Rattle.std.specs.FinMap.Entries.{below_all}
use Rattle.std.specs.Ordering.{nat_cmp, is_lt, eq_by_cmp}
use Rattle.std.specs.Cmp.{tied_itself}
use Rattle.std.specs.Cmp.Lexicographic.{slice_cmp, nat_list_cmp_total}
use Rattle.std.proofs.lemmas.Bool.{cases_Bool, and_parts, true≢false, false≢true, cond-true, cond-false, false_from_ne_true, or_left, or_right, eq-eqb}
use Rattle.std.proofs.lemmas.List.{length-take-le, get_or-take, get_or-drop, length-drop, length-map}
use Rattle.std.proofs.lemmas.List.Edits.{split_between, get_or-between, length-between}
use Rattle.std.proofs.lemmas.List.Elements.{All-head, All-tail, filter-append}
use Rattle.std.proofs.lemmas.List.Folds.{fold-map}
use Rattle.std.proofs.lemmas.List.Sorted.{sum_by-IsPermutation}
use Rattle.std.proofs.lemmas.List.Sums.{sum_by-cons, sum_by-append, length-filter}
use Rattle.std.proofs.lemmas.Option.{slice_get-get_or, slice_get_cases, same_Some}
use Rattle.am_universe.specs.LabelSet.{LabelMap, value_of}
use Rattle.am_universe.proofs.ListLemmas.{IsIn}
use Rattle.am_alerts.specs.declared.alert_labels.AlertLabel.{AlertLabel}
use Rattle.am_alerts.specs.declared.judge.ValueTest.{ValueTest}
use Rattle.am_alerts.specs.Judge.{passes}
use Rattle.am_alerts.specs.AlertLabels.{label_view, labels_of, all_labels, is_at, all_pass}
use Rattle.am_alerts.proofs.LabelRows.{has, one_answer, range_map}
use Rattle.am_alerts.proofs.AlertLabelLemmas.{AreLabels, label_right, label_there, value_entry, ties, tied, true_of}

-- ---- Lists of which some items pass a test.

filter_none : {X : Type 0} (p : X → Bool) (xs : List X) → All (λ x. p x ≡ false) xs → filter p xs ≡ []
filter_none p [] none = refl
filter_none p (x ∷ xs) none =
    cond-false (p x) _ _ (All-head (λ y. p y ≡ false) x xs none)
    ∙ filter_none p xs (All-tail (λ y. p y ≡ false) x xs none)

filter_all : {X : Type 0} (p : X → Bool) (xs : List X) → All (λ x. p x ≡ true) xs → filter p xs ≡ xs
filter_all p [] all = refl
filter_all p (x ∷ xs) all =
    cond-true (p x) _ _ (All-head (λ y. p y ≡ true) x xs all)
    ∙ ap (λ ys. x ∷ ys) (filter_all p xs (All-tail (λ y. p y ≡ true) x xs all))

-- the items that pass are those in a range
range_filters : {X : Type 0} (p : X → Bool) (xs : List X) (a b : ℕ) → a ≤ b → b ≤ length xs
    → ((k : ℕ) (x : X) → slice_get xs k ≡ Some x → (p x ≡ true ↔ ((a ≤ k) × (k < b))))
    → filter p xs ≡ slice_range xs a b
range_filters p xs a b le within exactly =
    ap (filter p) (split_between xs a b le) ∙ filter-append p (take a xs) (slice_range xs a b ++ drop b xs)
    ∙ ap (λ ys. ys ++ filter p (slice_range xs a b ++ drop b xs)) (filter_none p (take a xs) before)
    ∙ filter-append p (slice_range xs a b) (drop b xs)
    ∙ ap (λ ys. ys ++ filter p (drop b xs)) (filter_all p (slice_range xs a b) middle)
    ∙ ap (λ ys. slice_range xs a b ++ ys) (filter_none p (drop b xs) after)
    ∙ append-nil (slice_range xs a b)
  where
    before : All (λ x. p x ≡ false) (take a xs)
    before k d lt =
        let less : k < a = omega (arith, lt, length-take-le a xs (omega arith)) in
        ap p (get_or-take a xs k d less)
        ∙ false_from_ne_true _ (λ holds.
        let inside = ((exactly k (get_or xs k d) (slice_get-get_or xs k d (omega arith))).0 holds).0 in omega (arith, inside))

    middle : All (λ x. p x ≡ true) (slice_range xs a b)
    middle k d lt =
        let less : a + k < b = omega (arith, lt, length-between xs a b within) in
        ap p (get_or-between xs a b k d less)
        ∙ (exactly (a + k) (get_or xs (a + k) d) (slice_get-get_or xs (a + k) d (omega arith))).1 (omega arith, less)

    after : All (λ x. p x ≡ false) (drop b xs)
    after k d lt =
        let less : b + k < length xs = omega (arith, lt, length-drop b xs) in
        ap p (get_or-drop b xs k d)
        ∙ false_from_ne_true _ (λ holds.
        let inside = ((exactly (b + k) (get_or xs (b + k) d) (slice_get-get_or xs (b + k) d less)).0 holds).1 in
        omega (arith, inside))

in_filter : {X : Type 0} (p : X → Bool) (xs : List X) (x : X) → IsIn xs x → p x ≡ true → IsIn (filter p xs) x
in_filter p [] x there holds = absurd there
in_filter p (y ∷ ys) x (inl same) holds =
    subst (λ zs. IsIn zs x) (sym (cond-true (p y) _ _ (ap p same ∙ holds))) (inl same)
in_filter p (y ∷ ys) x (inr later) holds = elim (cases_Bool (p y)) [
  | inl has ↦ subst (λ zs. IsIn zs x) (sym (cond-true (p y) _ _ has)) (inr (in_filter p ys x later holds))
  | inr none ↦ subst (λ zs. IsIn zs x) (sym (cond-false (p y) _ _ none)) (in_filter p ys x later holds)
]

filter_in : {X : Type 0} (p : X → Bool) (xs : List X) (x : X) → IsIn (filter p xs) x
    → IsIn xs x × (p x ≡ true)
filter_in p [] x there = absurd there
filter_in p (y ∷ ys) x there = elim (cases_Bool (p y)) [
  | inl has ↦ elim (subst (λ zs. IsIn zs x) (cond-true (p y) _ _ has) there) [
    | inl same ↦ (inl same, sym (ap p same) ∙ has)
    | inr later ↦ let r = filter_in p ys x later in (inr r.0, r.1)
  ]
  | inr none ↦
      let r = filter_in p ys x (subst (λ zs. IsIn zs x) (cond-false (p y) _ _ none) there) in (inr r.0, r.1)
]

pub any_in : {X : Type 0} (p : X → Bool) (xs : List X) (x : X) → IsIn xs x → p x ≡ true → list_any p xs ≡ true
any_in p [] x there holds = absurd there
any_in p (y ∷ ys) x (inl same) holds = or_left (p y) _ (ap p same ∙ holds)
any_in p (y ∷ ys) x (inr later) holds = or_right (p y) _ (any_in p ys x later holds)

-- ---- Labels of a name in one label set.

abbrev is_named : List ℕ → List ℕ → Bool
is_named name = eq_by_cmp (slice_cmp nat_cmp) name

entry_after : (x name : List ℕ) (es : List (List ℕ × List ℕ)) → below_all (slice_cmp nat_cmp) x es ≡ true
    → x ≡ name → count_by (λ e. is_named name e.0) es ≡ 0
entry_after x name [] below same = refl
entry_after x name (e ∷ es) below same =
    let parts = and_parts (is_lt (slice_cmp nat_cmp x e.0)) _ below in
    let other : is_named name e.0 ≡ false =
    false_from_ne_true _ (λ holds. true≢false (sym parts.0
    ∙ ap (λ y. is_lt (slice_cmp nat_cmp x y)) (sym (ties name e.0 holds) ∙ sym same)
    ∙ ap is_lt (tied_itself nat_list_cmp_total x))) in
    let more = sum_by-cons (λ (d : List ℕ × List ℕ). cond (is_named name d.0) 1 0) e es in
    let zero = cond-false {A = ℕ} (is_named name e.0) 1 0 other in
    let rest = entry_after x name es parts.1 same in omega (arith, more, zero, rest)

entries_once : (name : List ℕ) (es : List (List ℕ × List ℕ)) → is_sorted (slice_cmp nat_cmp) es ≡ true
    → count_by (λ e. is_named name e.0) es ≤ 1
entries_once name [] sorted = omega arith
entries_once name (e ∷ es) sorted =
    let parts = and_parts (below_all (slice_cmp nat_cmp) e.0 es) _ sorted in
    let more = sum_by-cons (λ (d : List ℕ × List ℕ). cond (is_named name d.0) 1 0) e es in
    elim (cases_Bool (is_named name e.0)) [
      | inl same ↦
          let none = entry_after e.0 name es parts.0 (sym (ties name e.0 same)) in
          let one = cond-true {A = ℕ} (is_named name e.0) 1 0 same in omega (arith, more, none, one)
      | inr other ↦
          let rest = entries_once name es parts.1 in
          let zero = cond-false {A = ℕ} (is_named name e.0) 1 0 other in omega (arith, more, zero, rest)
    ]

entry_counted : (name : List ℕ) (es : List (List ℕ × List ℕ)) → 0 < count_by (λ e. is_named name e.0) es
    → (value : List ℕ) × IsIn es (name, value)
entry_counted name [] some = absurd (omega (arith, some))
entry_counted name (e ∷ es) some = elim (cases_Bool (is_named name e.0)) [
  | inl same ↦ (e.1, inl (λ j. (sym (ties name e.0 same) j, e.1)))
  | inr other ↦
      let more = sum_by-cons (λ (d : List ℕ × List ℕ). cond (is_named name d.0) 1 0) e es in
      let zero = cond-false {A = ℕ} (is_named name e.0) 1 0 other in
      let found = entry_counted name es (omega (arith, more, zero, some)) in (found.0, inr found.1)
]

-- ---- Labels of a name in all label sets.

count : List ℕ → List (ℕ × (List ℕ × List ℕ)) → ℕ
count name = count_by (λ v. is_named name v.1.0)

sum_by-map : {X Y : Type 0} (f : Y → ℕ) (g : X → Y) (xs : List X)
    → sum_by f (map g xs) ≡ sum_by (λ x. f (g x)) xs
sum_by-map f g xs = fold-map (λ a y. a + f y) g 0 xs

count_of_one : (name : List ℕ) (i : ℕ) (s : LabelMap)
    → count name (labels_of (i, s)) ≡ count_by (λ e. is_named name e.0) (entries s)
unfolding count
count_of_one name i s =
    sum_by-map (λ (v : ℕ × (List ℕ × List ℕ)). cond (is_named name v.1.0) 1 0) (λ e. (i, e)) (entries s)

count_more : (name : List ℕ) (s : LabelMap) (alerts : List LabelMap) (from : ℕ)
    → count name (flat_map labels_of (enumerate_from from (s ∷ alerts)))
    ≡ count_by (λ e. is_named name e.0) (entries s)
    + count name (flat_map labels_of (enumerate_from (from + 1) alerts))
unfolding count
count_more name s alerts from =
    sum_by-append (λ (v : ℕ × (List ℕ × List ℕ)). cond (is_named name v.1.0) 1 0) (labels_of (from, s)) _
    ∙ ap (λ n. n + count name (flat_map labels_of (enumerate_from (from + 1) alerts))) (count_of_one name from s)

one_each : (name : List ℕ) (s : LabelMap) → count_by (λ e. is_named name e.0) (entries s) ≤ 1
one_each name s = entries_once name (entries s) (true_of _ (entries_sorted s))

count_within : (name : List ℕ) (alerts : List LabelMap) (from : ℕ)
    → count name (flat_map labels_of (enumerate_from from alerts)) ≤ length alerts
unfolding count
count_within name [] from = omega arith
count_within name (s ∷ alerts) from =
    let more = count_more name s alerts from in
    let first = one_each name s in
    let rest = count_within name alerts (from + 1) in omega (arith, more, first, rest)

all_counted : (name : List ℕ) (alerts : List LabelMap) (from : ℕ)
    → length alerts ≤ count name (flat_map labels_of (enumerate_from from alerts))
    → (i : ℕ) (s : LabelMap) → slice_get alerts i ≡ Some s → (value : List ℕ) × IsIn (entries s) (name, value)
all_counted name [] from full i s at = absurd (cc)
all_counted name (t ∷ alerts) from full zero s at =
    let more = count_more name t alerts from in
    let rest = count_within name alerts (from + 1) in
    let same : t ≡ s = same_Some t s at in
    subst (λ (u : LabelMap). (value : List ℕ) × IsIn (entries u) (name, value)) same
    (entry_counted name (entries t) (omega (arith, more, rest, full)))
all_counted name (t ∷ alerts) from full (suc i) s at =
    let more = count_more name t alerts from in
    let first = one_each name t in all_counted name alerts (from + 1) (omega (arith, more, first, full)) i s at

-- ---- The labels of a name, among those of all alerts.

pub named : List ℕ → List AlertLabel → List AlertLabel
named name labels = filter (λ l. is_named name l.name.now) labels

named_count : (alerts : List LabelMap) (labels : List AlertLabel) (name : List ℕ) → AreLabels alerts labels
    → length (named name labels) ≡ count name (all_labels alerts)
unfolding count named
named_count alerts labels name all =
    length-filter (λ l. is_named name l.name.now) labels
    ∙ sym (sum_by-map (λ (v : ℕ × (List ℕ × List ℕ)). cond (is_named name v.1.0) 1 0) label_view labels)
    ∙ sum_by-IsPermutation (λ (v : ℕ × (List ℕ × List ℕ)). cond (is_named name v.1.0) 1 0) (all_labels alerts)
    (map label_view labels) all

has_from : (labels : List AlertLabel) (l : AlertLabel) → IsIn labels l → has labels l.alert ≡ true
has_from [] l there = absurd there
has_from (m ∷ labels) l (inl same) =
    or_left (m.alert == l.alert) _ (eq-eqb m.alert l.alert (ap (λ (n : AlertLabel). n.alert) same))
has_from (m ∷ labels) l (inr later) = or_right (m.alert == l.alert) _ (has_from labels l later)

named_there : (alerts : List LabelMap) (labels : List AlertLabel) (name : List ℕ) → AreLabels alerts labels
    → (i : ℕ) (s : LabelMap) (value : List ℕ) → slice_get alerts i ≡ Some s → IsIn (entries s) (name, value)
    → has (named name labels) i ≡ true
unfolding named
named_there alerts labels name all i s value at there =
    let l = label_there alerts labels all i s name value at there in
    let is : is_named name l.0.name.now ≡ true =
    ap (λ (v : ℕ × (List ℕ × List ℕ)). is_named name v.1.0) l.2 ∙ tied name in
    ap (has (named name labels)) (sym (ap (λ (v : ℕ × (List ℕ × List ℕ)). v.0) l.2))
    ∙ has_from (named name labels) l.0 (in_filter (λ m. is_named name m.name.now) labels l.0 l.1 is)

each_named : (alerts : List LabelMap) (labels : List AlertLabel) (name : List ℕ) → AreLabels alerts labels
    → length alerts ≤ length (named name labels)
    → (i : ℕ) (s : LabelMap) → slice_get alerts i ≡ Some s → has (named name labels) i ≡ true
each_named alerts labels name all full i s at =
    let counted = named_count alerts labels name all in
    let entry = all_counted name alerts 0 (omega (arith, counted, full)) i s at in
    named_there alerts labels name all i s entry.0 at entry.1

-- an alert without such a label has the empty text
named_none : (alerts : List LabelMap) (labels : List AlertLabel) (name : List ℕ) → AreLabels alerts labels
    → (i : ℕ) (s : LabelMap) → slice_get alerts i ≡ Some s → has (named name labels) i ≡ false
    → value_of s name ≡ []
named_none alerts labels name all i s at none = by (get s name) refl
  where
    by : (value : Option (List ℕ)) → get s name ≡ value → unwrap_or value [] ≡ []
    by None e = refl
    by (Some value) e =
        absurd (true≢false (sym (named_there alerts labels name all i s value at (value_entry s name value e)) ∙ none))

-- ---- The alerts that are kept.

judged_is : (a n h t : Bool) → (h ≡ false → t ≡ n) → ((a && (n || h)) && (t || not h)) ≡ (a && t)
judged_is false n h t same = refl
judged_is true true true true same = refl
judged_is true true true false same = refl
judged_is true false true true same = refl
judged_is true false true false same = refl
judged_is true true false true same = refl
judged_is true true false false same = absurd (false≢true (same refl))
judged_is true false false true same = absurd (true≢false (same refl))
judged_is true false false false same = refl

-- Of the alerts that can pass, those are kept whose label passes.
pub kept_of : (alerts : List LabelMap) (labels : List AlertLabel) (name : List ℕ) (test : ValueTest)
    (among before after : Bool) (i : ℕ) (s : LabelMap) → AreLabels alerts labels
    → slice_get alerts i ≡ Some s
    → before ≡ (among && (passes test [] || has (named name labels) i))
    → after ≡ (before && all_pass test (named name labels) i)
    → after ≡ (among && passes test (value_of s name))
unfolding named
kept_of alerts labels name test among before after i s all at first judged =
    let t = passes test (value_of s name) in
    let h = has (named name labels) i in
    let answer : all_pass test (named name labels) i ≡ (t || not h) =
    one_answer test i t (named name labels) (λ l there own.
    let from = filter_in (λ m. is_named name m.name.now) labels l there in
    ap (passes test) (sym ((label_right alerts labels all l from.0).1 s (ap (slice_get alerts) own ∙ at))
    ∙ ap (value_of s) (sym (ties name l.name.now from.1)))) in
    judged ∙ ap (λ b. before && b) answer ∙ ap (λ b. b && (t || not h)) first
    ∙ judged_is among (passes test []) h t
    (λ none. ap (passes test) (named_none alerts labels name all i s at none))

-- The labels of a name, as those in a range.
pub named_in : (labels : List AlertLabel) (name : List ℕ) (a b : ℕ) → a ≤ b → b ≤ length labels
    → ((k : ℕ) (l : AlertLabel) → slice_get labels k ≡ Some l → (l.name.now ≡ name ↔ ((a ≤ k) × (k < b))))
    → named name labels ≡ slice_range labels a b
unfolding named
named_in labels name a b le within exactly =
    range_filters (λ l. is_named name l.name.now) labels a b le within
    (λ k l at. (
      λ is. (exactly k l at).0 (sym (ties name l.name.now is)),
      λ inside. ap (is_named name) ((exactly k l at).1 inside) ∙ tied name,
    ))

-- the positions of these labels
pub at_named : (labels : List AlertLabel) (positions : List ℕ) (name : List ℕ) (a b : ℕ)
    → map (λ l. l.alert) labels ≡ positions → a ≤ b → b ≤ length labels
    → ((k : ℕ) (l : AlertLabel) → slice_get labels k ≡ Some l → (l.name.now ≡ name ↔ ((a ≤ k) × (k < b))))
    → slice_range positions a b ≡ map (λ l. l.alert) (named name labels)
at_named labels positions name a b placed le within exactly =
    ap (λ ps. slice_range ps a b) (sym placed)
    ∙ sym (range_map (λ (l : AlertLabel). l.alert) labels a b)
    ∙ ap (map (λ (l : AlertLabel). l.alert)) (sym (named_in labels name a b le within exactly))

-- if they are as many as the alerts, they are those of each alert
pub each_at : (alerts : List LabelMap) (labels : List AlertLabel) (name : List ℕ) (positions : List ℕ)
    → AreLabels alerts labels → positions ≡ map (λ l. l.alert) (named name labels)
    → length positions ≡ length alerts → (i : ℕ) → i < length alerts → is_at positions i ≡ true
each_at alerts labels name positions all are full i lt =
    let count : length (named name labels) ≡ length alerts =
    sym (length-map (named name labels) (λ (l : AlertLabel). l.alert)) ∙ ap length (sym are) ∙ full in
    elim (slice_get_cases alerts i).1 [
      | inl found ↦ ap (λ ps. is_at ps i) are ∙ each_named alerts labels name all (omega (arith, count)) i found.0 found.2
      | inr past ↦ absurd (omega (arith, past.0, lt))
    ]
