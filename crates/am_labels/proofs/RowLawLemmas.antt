-- What a row says about the label set of a choice.
use Rattle.std.proofs.Common.{◌≡◌, ℕ, ◌<◌, Bool, true, false, ◌&&◌, List, [], ◌∷◌, length, map, get_or, Option, Some, None, option_map, unwrap_or, slice_get, slice_index, ap, sym, ◌∙◌, refl, inl, inr, arith}
use Rattle.std.specs.Cmp.Lexicographic.{bytes_decides}
use Rattle.std.specs.List.{position, position_or_len}
use Rattle.std.proofs.lemmas.Bool.{cases_lt, false≢true, lt-ltb}
use Rattle.std.proofs.lemmas.List.{length-map, get_or-map}
use Rattle.std.proofs.lemmas.List.Quantifiers.{position-Some}
use Rattle.std.proofs.lemmas.List.Sums.{fails_before_first}
use Rattle.std.proofs.lemmas.Option.{slice_get-get_or}
use Rattle.am_universe.specs.Text.{same_text}
use Rattle.am_universe.specs.Universe.{Label, IsUniverse, sizes, values_at, label_position}
use Rattle.am_universe.specs.Choice.{IsWhole}
use Rattle.am_universe.specs.LabelSet.{value_of, label_set_of}
use Rattle.am_labels.specs.Matcher.{Matcher, holds, condition_holds, all_hold}
use Rattle.am_labels.specs.Row.{is_reached, truth_on_value, truths_of, truth_among, row_of, row_holds, rows_hold}
use Rattle.am_universe.proofs.LabelValueLemmas.{value_in}
use Rattle.am_universe.proofs.LabelSetLemmas.{value_of_declared, value_of_undeclared}
use Rattle.am_universe.proofs.UniverseLemmas.{no_label}
use Rattle.am_universe.proofs.WholeChoiceLemmas.{admitted_at}

-- If there is no first index at which a test passes, it passes nowhere.
none_passes : {X : Type 0} (p : X → Bool) (xs : List X) → position p xs ≡ None → (k : ℕ) (d : X)
    → k < length xs → p (get_or xs k d) ≡ false
none_passes p xs e k d h = elim (cases_lt (position_or_len p xs) (length xs)) [
  | inl found ↦ absurd (let some = rw (lt-ltb _ _ found) at e in cc)
  | inr past ↦ fails_before_first p xs k d (omega (arith, past))
]

declared : (u : List Label) (c : List ℕ) (m : Matcher) (i : ℕ) → IsUniverse u → IsWhole (sizes u) c → label_position u m.name ≡ Some i
    → condition_holds (label_set_of u c) m ≡ truth_among (Some i) (truths_of u m (Some i)) (slice_index c i)
declared u c m i h whole e =
    let found = position-Some (λ l. same_text l.name m.name) u i no_label e in
    let l : Label = get_or u i no_label in
    let label : slice_get u i ≡ Some l = slice_get-get_or u i no_label found.0 in
    let named : l.name ≡ m.name = (bytes_decides l.name m.name).0 found.1 in
    let p : ℕ = slice_index c i in
    let long : i < length c = omega (arith, whole.1, length-map u (λ (l : Label). length l.values)) in
    let chosen : slice_get c i ≡ Some p = slice_get-get_or c i 0 long in
    let size : slice_index (sizes u) i ≡ length l.values = get_or-map (λ l. length l.values) u i no_label 0 found.0 in
    let below : p < length l.values = omega (arith, admitted_at (sizes u) c i whole.0 long) in
    let value : value_of (label_set_of u c) m.name ≡ unwrap_or (get_or l.values p None) [] =
    ap (value_of (label_set_of u c)) (sym named) ∙ value_of_declared u c i l p h label chosen ∙ ap (λ o. unwrap_or o []) (value_in l.values p below) in
    let values : values_at u i ≡ l.values = ap (λ o. unwrap_or (option_map (λ l. l.values) o) []) label in
    ap (holds m.op m.value) value ∙ sym (ap (λ vs. get_or (map (truth_on_value m) vs) p false) values ∙ get_or-map (truth_on_value m) l.values p None false below)

undeclared : (u : List Label) (c : List ℕ) (m : Matcher) → label_position u m.name ≡ None
    → condition_holds (label_set_of u c) m ≡ truth_among None (truths_of u m None) 0
undeclared u c m e = ap (holds m.op m.value) (value_of_undeclared u c m.name (λ at.
    let inside : at.0 < length u = omega (arith, at.1, length-map u (λ (l : Label). l.name)) in
    let named : (get_or u at.0 no_label).name ≡ m.name = sym (get_or-map (λ l. l.name) u at.0 no_label m.name inside) ∙ at.2 in
    false≢true (sym (none_passes (λ l. same_text l.name m.name) u e at.0 no_label inside) ∙ (bytes_decides (get_or u at.0 no_label).name m.name).1 named)))

by_label : (u : List Label) (c : List ℕ) (m : Matcher) (o : Option ℕ) → IsUniverse u → IsWhole (sizes u) c → label_position u m.name ≡ o
    → condition_holds (label_set_of u c) m ≡ truth_among o (truths_of u m o) (slice_index c (unwrap_or o 0))
by_label u c m None h whole e = undeclared u c m e
by_label u c m (Some i) h whole e = declared u c m i h whole e

-- a whole choice has a position for a declared label
is_reached_by : (u : List Label) (c : List ℕ) (m : Matcher) (o : Option ℕ) → IsWhole (sizes u) c → label_position u m.name ≡ o
    → is_reached o (length c) ≡ true
is_reached_by u c m None whole e = refl
is_reached_by u c m (Some i) whole e =
    let found = position-Some (λ l. same_text l.name m.name) u i no_label e in
    lt-ltb i (length c) (omega (arith, found.0, whole.1, length-map u (λ (l : Label). length l.values)))

pub row_decides : (u : List Label) (c : List ℕ) (m : Matcher) → IsUniverse u → IsWhole (sizes u) c → condition_holds (label_set_of u c) m ≡ row_holds (row_of u m) c
row_decides u c m h whole =
    let o = label_position u m.name in
    let reached : is_reached o (length c) ≡ true = is_reached_by u c m o whole refl in
    by_label u c m o h whole refl ∙ sym (ap (λ b. b && truth_among o (truths_of u m o) (slice_index c (unwrap_or o 0))) reached)

pub rows_decide : (u : List Label) (c : List ℕ) (ms : List Matcher) → IsUniverse u → IsWhole (sizes u) c → all_hold (label_set_of u c) ms ≡ rows_hold u ms c
rows_decide u c [] h whole = refl
rows_decide u c (m ∷ ms) h whole =
    ap (λ b. b && all_hold (label_set_of u c) ms) (row_decides u c m h whole) ∙ ap (λ b. row_holds (row_of u m) c && b) (rows_decide u c ms h whole)
