-- The entries of a label set, and the labels of all alerts, in any order; and which alerts pass two
-- tests.
use Rattle.std.proofs.Common.{◌≡◌, ℕ, ◌<◌, List, [], ◌∷◌, map, Bool, true, false, ◌&&◌, cond}
use Rattle.std.proofs.Common.{arith, Some, inl, inr, refl, sym, ap, ◌∙◌, subst, get_or, All, length}
use lib.Dec.{T}
use Rattle.std.specs.Prelude.{slice_get, unwrap_or}
use Rattle.std.specs.List.{enumerate_from}
use Rattle.std.specs.List.Sorted.{IsPermutation}
use Rattle.std.specs.FinMap.{get, find, entries, get-entries, entries_sorted, is_sorted}
use Rattle.std.specs.FinMap.Entries.{below_all}
use Rattle.std.specs.Ordering.{nat_cmp, is_lt, is_eq, eq_by_cmp}
use Rattle.std.specs.Cmp.{tied_itself}
use Rattle.std.proofs.lemmas.Bool.{cases_Bool, and_parts, false≢true}
use Rattle.std.proofs.lemmas.Map.Text.{is_eq-slice_cmp}
use Rattle.std.specs.Cmp.Lexicographic.{slice_cmp, nat_list_cmp_total, bytes_decides}
use Rattle.std.proofs.lemmas.List.Elements.{Contains-get_or}
use Rattle.std.proofs.lemmas.List.Sorted.{Contains-permutation, IsPermutation-sym}
use Rattle.std.proofs.lemmas.Option.{slice_get_within, same_Some, none-some}
use Rattle.am_universe.specs.LabelSet.{LabelMap, value_of}
use Rattle.am_universe.proofs.ListLemmas.{IsIn, IsIn-from_Contains, Contains-from_IsIn, IsIn-map, IsIn-unmap}
use Rattle.am_universe.proofs.Members.{in_joined, joined_in, item_at, numbered_at}
use Rattle.am_alerts.specs.declared.alert_labels.AlertLabel.{AlertLabel}
use Rattle.am_alerts.specs.AlertLabels.{label_view, labels_of, all_labels, flag, Keeps}

-- ---- The entries of a label set.

below_in : (x name value : List ℕ) (es : List (List ℕ × List ℕ)) → below_all (slice_cmp nat_cmp) x es ≡ true
    → IsIn es (name, value) → is_lt (slice_cmp nat_cmp x name) ≡ true
below_in x name value [] below h = absurd h
below_in x name value (e ∷ es) below (inl same) =
    ap (λ (d : List ℕ × List ℕ). is_lt (slice_cmp nat_cmp x d.0)) (sym same) ∙ (and_parts _ _ below).0
below_in x name value (e ∷ es) below (inr later) =
    below_in x name value es (and_parts (is_lt (slice_cmp nat_cmp x e.0)) _ below).1 later

-- a name ties with itself, and with no other
pub ties : (x y : List ℕ) → eq_by_cmp (slice_cmp nat_cmp) x y ≡ true → x ≡ y
ties x y e = (bytes_decides x y).0 (sym (is_eq-slice_cmp x y) ∙ e)

pub tied : (x : List ℕ) → eq_by_cmp (slice_cmp nat_cmp) x x ≡ true
tied x = ap is_eq (tied_itself nat_list_cmp_total x)

find_entry : (name value : List ℕ) (es : List (List ℕ × List ℕ)) → is_sorted (slice_cmp nat_cmp) es ≡ true
    → IsIn es (name, value) → find (slice_cmp nat_cmp) name es ≡ Some value
find_entry name value [] sorted h = absurd h
find_entry name value (e ∷ es) sorted (inl same) =
    ap (λ (d : List ℕ × List ℕ). cond (eq_by_cmp (slice_cmp nat_cmp) name d.0) (Some d.1) (find (slice_cmp nat_cmp) name es)) same
    ∙ ap (λ b. cond b (Some value) (find (slice_cmp nat_cmp) name es)) (tied name)
find_entry name value (e ∷ es) sorted (inr later) =
    let parts = and_parts (below_all (slice_cmp nat_cmp) e.0 es) _ sorted in
    elim (cases_Bool (eq_by_cmp (slice_cmp nat_cmp) name e.0)) [
      | inl same ↦
          let below : is_lt (slice_cmp nat_cmp e.0 e.0) ≡ true =
          ap (λ x. is_lt (slice_cmp nat_cmp e.0 x)) (sym (ties name e.0 same)) ∙ below_in e.0 name value es parts.0 later in
          absurd (false≢true (ap is_lt (sym (tied_itself nat_list_cmp_total e.0)) ∙ below))
      | inr other ↦
          ap (λ b. cond b (Some e.1) (find (slice_cmp nat_cmp) name es)) other ∙ find_entry name value es parts.1 later
    ]

entry_found : (name value : List ℕ) (es : List (List ℕ × List ℕ)) → find (slice_cmp nat_cmp) name es ≡ Some value
    → IsIn es (name, value)
entry_found name value [] e = absurd (none-some value e)
entry_found name value (e ∷ es) found = elim (cases_Bool (eq_by_cmp (slice_cmp nat_cmp) name e.0)) [
  | inl same ↦
      let here : Some e.1 ≡ Some value =
      sym (ap (λ b. cond b (Some e.1) (find (slice_cmp nat_cmp) name es)) same) ∙ found in
      inl (λ j. (sym (ties name e.0 same) j, same_Some e.1 value here j))
  | inr other ↦ inr (entry_found name value es
      (sym (ap (λ b. cond b (Some e.1) (find (slice_cmp nat_cmp) name es)) other) ∙ found))
]

pub true_of : (b : Bool) → T b → b ≡ true
true_of true h = refl
true_of false h = absurd h

pub entry_value : (s : LabelMap) (name value : List ℕ) → IsIn (entries s) (name, value)
    → value_of s name ≡ value
entry_value s name value h =
    ap (λ found. unwrap_or found []) (get-entries s name
    ∙ find_entry name value (entries s) (true_of _ (entries_sorted s)) h)

pub value_entry : (s : LabelMap) (name value : List ℕ) → get s name ≡ Some value
    → IsIn (entries s) (name, value)
value_entry s name value h = entry_found name value (entries s) (sym (get-entries s name) ∙ h)

-- ---- The labels of all alerts.

-- These labels are those of the alerts, in some order.
abbrev pub AreLabels : List LabelMap → List AlertLabel → Type 0
AreLabels alerts labels = IsPermutation (all_labels alerts) (map label_view labels)

in_moved : {X : Type 0} (xs ys : List X) (x : X) → IsPermutation xs ys → IsIn xs x → IsIn ys x
in_moved xs ys x moved there =
    IsIn-from_Contains ys x (Contains-permutation xs ys x moved (Contains-from_IsIn xs x there))

-- each of them has the value that its alert has for it
pub label_right : (alerts : List LabelMap) (labels : List AlertLabel) → AreLabels alerts labels
    → (l : AlertLabel) → IsIn labels l
    → (l.alert < length alerts)
    × ((s : LabelMap) → slice_get alerts l.alert ≡ Some s → value_of s l.name.now ≡ l.value.now)
label_right alerts labels all l there =
    let view = in_moved (map label_view labels) (all_labels alerts) (label_view l) (IsPermutation-sym _ _ all)
    (IsIn-map label_view labels l there) in
    let from = in_joined labels_of (enumerate_from 0 alerts) (label_view l) view in
    let alert = from.0 in
    let entry = IsIn-unmap (λ e. (alert.0, e)) (entries alert.1) (label_view l) from.2 in
    let at : slice_get alerts l.alert ≡ Some alert.1 =
    ap (λ (v : ℕ × (List ℕ × List ℕ)). slice_get alerts v.0) (sym entry.2)
    ∙ item_at alerts alert from.1 in (
      slice_get_within alerts l.alert alert.1 at,
      λ s is.
          let same : s ≡ alert.1 = same_Some s alert.1 (sym is ∙ at) in
          ap (λ (t : LabelMap). value_of t l.name.now) same
          ∙ entry_value alert.1 l.name.now l.value.now
          (subst (IsIn (entries alert.1)) (ap (λ (v : ℕ × (List ℕ × List ℕ)). v.1) entry.2) entry.1),
    )

pub alerts_below : (alerts : List LabelMap) (labels : List AlertLabel) → AreLabels alerts labels
    → All (λ l. l.alert < length alerts) labels
alerts_below alerts labels all k d lt =
    (label_right alerts labels all (get_or labels k d)
    (IsIn-from_Contains labels (get_or labels k d) (Contains-get_or labels k d lt))).0

-- each entry of an alert is among them
pub label_there : (alerts : List LabelMap) (labels : List AlertLabel) → AreLabels alerts labels
    → (i : ℕ) (s : LabelMap) (name value : List ℕ) → slice_get alerts i ≡ Some s
    → IsIn (entries s) (name, value)
    → (l : AlertLabel) × IsIn labels l × (label_view l ≡ (i, (name, value)))
label_there alerts labels all i s name value at there =
    IsIn-unmap label_view labels (i, (name, value))
    (in_moved (all_labels alerts) (map label_view labels) (i, (name, value)) all
    (joined_in labels_of (enumerate_from 0 alerts) (i, s) (i, (name, value))
    (numbered_at 0 alerts i s at i (omega arith))
    (IsIn-map (λ e. (i, e)) (entries s) (name, value) there)))

-- ---- Alerts that pass tests.

pub both_kept : (a p q : Bool) (x y : Bool) → x ≡ (a && p) → y ≡ (x && q) → y ≡ (a && (p && q))
both_kept true p q x y e f = f ∙ ap (λ b. b && q) e
both_kept false p q x y e f = f ∙ ap (λ b. b && q) e

pub Keeps-both : (alerts : List LabelMap) (p q r : LabelMap → Bool) (before between after : List Bool)
    → ((s : LabelMap) → r s ≡ (p s && q s))
    → Keeps alerts p before between → Keeps alerts q between after → Keeps alerts r before after
Keeps-both alerts p q r before between after both first second = (
  second.0,
  λ i s at. both_kept (flag before i) (p s) (q s) _ _ (first.1 i s at) (second.1 i s at)
      ∙ ap (λ b. flag before i && b) (sym (both s)),
)
