-- What an active silence hides, and one that is not active.
use Rattle.std.proofs.Common.{◌≡◌, ◌+◌, ◌<◌, ◌≤◌, ◌&&◌, ◌++◌, ℕ, zero, suc, List, [], ◌∷◌, length, map}
use Rattle.std.proofs.Common.{true, false, refl, ap, sym, subst, ◌∙◌, arith}
use Rattle.std.specs.Global.{Vec}
use Rattle.std.specs.List.{All, AllByRecursion, list_all, flat_map, range_with_len}
use Rattle.std.proofs.lemmas.List.{map-id}
use Rattle.std.proofs.lemmas.List.Concat.{flat_map-append}
use Rattle.std.proofs.lemmas.List.FromFn.{map-range_with_len_more}
use Rattle.std.proofs.lemmas.List.Elements.{All-from_recursion}
use Rattle.am_universe.specs.LabelSet.{LabelMap}
use Rattle.am_labels.specs.Matcher.{all_hold}
use Rattle.am_list_files.specs.SilencesFile.{Silence}
use Rattle.am_eval.specs.World.{World}
use Rattle.am_eval.specs.Silencing.{is_active}
use Rattle.am_firing.specs.Unreached.{goes_to}
use Rattle.am_firing.specs.HidesAll.{alerts_of, hides_each}
use Rattle.am_firing.specs.Going.{are_all_marked, positions_of}
use Rattle.am_firing.specs.FiringLines.{hiding_lines, silence_lines}
use Rattle.am_firing.proofs.Positions.{is_each, all_marked, where_within}

pub hides_as_marks : (w : World) (silence : Silence) → is_active w.instant silence ≡ true
    → (alerts : List LabelMap)
    → hides_each w silence alerts ≡ is_each (λ alert. all_hold alert silence.matchers) alerts
hides_as_marks w silence active [] = refl
hides_as_marks w silence active (alert ∷ alerts) =
    ap (λ b. list_all (λ a. b && all_hold a silence.matchers) (alert ∷ alerts)) active

hides_none : (w : World) (silence : Silence) → is_active w.instant silence ≡ false
    → (alerts : List LabelMap) → hides_each w silence alerts ≡ false
hides_none w silence inactive [] = refl
hides_none w silence inactive (alert ∷ alerts) =
    ap (λ b. list_all (λ a. b && all_hold a silence.matchers) (alert ∷ alerts)) inactive

none_of_each : {X Y : Type 0} (f : X → List Y) (xs : List X) → ((x : X) → f x ≡ [])
    → flat_map f xs ≡ []
none_of_each f [] none = refl
none_of_each f (x ∷ xs) none = rw (none x) (none_of_each f xs none)

pub inactive_none : (w : World) (silence : ℕ × Silence) → is_active w.instant silence.1 ≡ false
    → silence_lines w silence ≡ []
inactive_none w silence inactive =
    none_of_each (hiding_lines w silence) _ (λ receiver.
    rw (hides_none w silence.1 inactive (alerts_of w receiver)) refl)

pub range_more : (from n j : ℕ) → from + n ≡ j
    → range_with_len from (n + 1) ≡ range_with_len from n ++ j ∷ []
range_more from n j at =
    sym (map-id (range_with_len from (n + 1))) ∙ map-range_with_len_more (λ k. k) from n j at
    ∙ ap (λ ks. ks ++ j ∷ []) (map-id (range_with_len from n))

none_in_range : {L : Type 0} (f : ℕ → List L) (n : ℕ) → ((k : ℕ) → k < n → f k ≡ [])
    → flat_map f (range_with_len 0 n) ≡ []
none_in_range f zero none = refl
none_in_range f (suc n) none =
    let next : n + 1 ≡ suc n = omega arith in
    let before = none_in_range f n (λ k lt. none k (omega (arith, lt))) in
    let here : flat_map f (range_with_len 0 (n + 1)) ≡ [] =
    ap (flat_map f) (range_more 0 n n (omega arith))
    ∙ flat_map-append f (range_with_len 0 n) (n ∷ [])
    ∙ rw (before, none n (omega arith)) refl in
    subst (λ m. flat_map f (range_with_len 0 m) ≡ []) next here

-- a silence that does not match all alerts of any receiver has no line
pub unmatched_none : (w : World) (silence : ℕ × Silence) → is_active w.instant silence.1 ≡ true
    → ((receiver : ℕ) → receiver < length w.config.receivers
    → are_all_marked (map (λ alert. all_hold alert silence.1.matchers) w.alerts)
    (positions_of w receiver) ≡ false)
    → silence_lines w silence ≡ []
unmatched_none w silence active none =
    none_in_range (hiding_lines w silence) (length w.config.receivers) (λ receiver lt.
    let fails : hides_each w silence.1 (alerts_of w receiver) ≡ false =
    hides_as_marks w silence.1 active (alerts_of w receiver)
    ∙ sym (all_marked (λ alert. all_hold alert silence.1.matchers) (goes_to w.config receiver) w.alerts)
    ∙ none receiver lt in
    rw fails refl)

-- the alerts that go to each receiver are among all alerts
rows_within : (w : World) (m : ℕ) → length w.alerts ≤ m → (rows : List (Vec ℕ)) (ks : List ℕ)
    → map (λ row. row.items) rows ≡ map (positions_of w) ks
    → AllByRecursion (λ row. All (λ i. i < m) row.items) rows
rows_within w m le [] ks same = tt
rows_within w m le (row ∷ rows) [] same = absurd (cc)
rows_within w m le (row ∷ rows) (k ∷ ks) same =
    let here : row.items ≡ positions_of w k = cc in
    let later : map (λ r. r.items) rows ≡ map (positions_of w) ks = cc in (
      subst (All (λ i. i < m)) (sym here)
          (All-from_recursion (λ i. i < m) (positions_of w k)
          (where_within (goes_to w.config k) 0 w.alerts m (omega (arith, le)))),
      rows_within w m le rows ks later,
    )

pub all_within : (w : World) (m : ℕ) → length w.alerts ≤ m → (rows : List (Vec ℕ)) (ks : List ℕ)
    → map (λ row. row.items) rows ≡ map (positions_of w) ks
    → All (λ row. All (λ i. i < m) row.items) rows
all_within w m le rows ks same =
    All-from_recursion (λ row. All (λ i. i < m) row.items) rows (rows_within w m le rows ks same)
