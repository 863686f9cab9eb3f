-- A choice near one that meets literals meets those that ask about no label where the two differ.
use Rattle.std.proofs.Common.{◌≡◌, ◌<◌, ◌⊎◌, ℕ, zero, suc, List, [], ◌∷◌, ◌++◌, Bool, true, false, not}
use Rattle.std.proofs.Common.{◌||◌, ◌&&◌, ◌==◌, cond, Some, IsTrue, IsFalse, refl, sym, ap, ◌∙◌}
use Rattle.std.proofs.Common.{inl, inr, arith, length, nat_lt, get_or, subst}
use Rattle.std.specs.Prelude.{slice_get, slice_index, Option, None, IfSome}
use Rattle.std.specs.Global.{Vec}
use Rattle.std.specs.List.{list_all, AllByRecursion}
use Rattle.std.proofs.lemmas.Bool.{and_from, and_right, or_right, cases_lt, eq-eqb}
use Rattle.std.proofs.lemmas.List.{get_or_past}
use Rattle.am_judged_lists.specs.declared.cube.LabelMask.{LabelMask}
use Rattle.am_judged_lists.specs.Cube.{reaches, permits_at}
use Rattle.am_first_sets.specs.declared.candidate.Candidate.{Candidate}
use Rattle.am_first_sets.specs.Literals.{holds_at, meets}
use Rattle.am_first_sets.specs.Reason.{AreFewer}
use Rattle.am_first_sets.proofs.ReasonLemmas.{fewer_met, met_at}
use Rattle.am_route_alerts.specs.Implied.{negated}
use Rattle.am_route_alerts.specs.declared.hints.Hints.{Hints}
use Rattle.am_route_alerts.specs.declared.nearby.Nearby.{Nearby}
use Rattle.am_route_alerts.specs.Nearby.{is_free, ListsAsking, IsNearby, AreHints}
use Rattle.am_route_alerts.proofs.ImpliedLemmas.{opposite, opposite_holds}

-- ---- One label more.

pushed_cases : {X : Type 0} (xs : List X) (x : X) (i : ℕ) (y : X)
    → slice_get (xs ++ x ∷ []) i ≡ Some y
    → (slice_get xs i ≡ Some y) ⊎ ((i ≡ length xs) × (x ≡ y))
pushed_cases [] x zero y at = inr (refl, cc)
pushed_cases [] x (suc i) y at = absurd (cc)
pushed_cases (z ∷ xs) x zero y at = inl at
pushed_cases (z ∷ xs) x (suc i) y at = elim (pushed_cases xs x i y at) [
  | inl there ↦ inl there
  | inr last ↦ inr (ap suc last.0, last.1)
]

pub listed_more : (ks : List Candidate) (lists : List (Vec ℕ)) (list : Vec ℕ) (n : ℕ)
    → length lists ≡ n
    → ((label : ℕ) (l : Vec ℕ) → slice_get lists label ≡ Some l → ListsAsking ks label l.items)
    → ListsAsking ks n list.items → (label : ℕ) (l : Vec ℕ)
    → slice_get (lists ++ list ∷ []) label ≡ Some l → ListsAsking ks label l.items
listed_more ks lists list n long before own label l at =
    elim (pushed_cases lists list label l at) [
      | inl there ↦ before label l there
      | inr last ↦
          subst (λ (m : ℕ). ListsAsking ks m l.items) (sym (last.0 ∙ long))
          (subst (λ (v : Vec ℕ). ListsAsking ks n v.items) last.1 own)
    ]

-- ---- Fewer names.

-- a literal at a position has the cube that it had
same_cube : (ks ls : List Candidate) (i : ℕ) (l : Candidate) → AreFewer ks ls
    → slice_get ls i ≡ Some l
    → (k : Candidate) × (slice_get ks i ≡ Some k) × (k.cube ≡ l.cube)
same_cube [] [] i l h at = cc
same_cube (k ∷ ks) (m ∷ ls) zero l h at =
    let is : m ≡ l = cc in (k, refl, h.0.0 ∙ ap (λ (x : Candidate). x.cube) is)
same_cube (k ∷ ks) (m ∷ ls) (suc i) l h at = same_cube ks ls i l h.1 at
same_cube ks ls i l h at = absurd h

-- so what is nearby stays so if literals lose their names
pub nearby_fewer : (ks ls : List Candidate) (nearby : Nearby) → AreFewer ks ls
    → IsNearby ks nearby → IsNearby ls nearby
nearby_fewer ks ls nearby fewer is = record {
  met = fewer_met nearby.choice ks ls fewer is.met;
  long = is.long;
  lists = λ label list there i l at asks.
      let r = same_cube ks ls i l fewer at in
      is.lists label list there i r.0 r.1
      (ap (λ x. list_all (λ (m : LabelMask). not (m.label == label)) x.now.masks) r.2 ∙ asks);
}

pub hints_fewer : (ks ls : List Candidate) (hints : Hints) → AreFewer ks ls → AreHints ks hints
    → AreHints ls hints
hints_fewer ks ls hints fewer are = if_nearby hints.nearby are
  where
    if_nearby : (found : Option Nearby) → IfSome found (IsNearby ks) → IfSome found (IsNearby ls)
    if_nearby None is = tt
    if_nearby (Some nearby) is = nearby_fewer ks ls nearby fewer is

-- ---- A literal that asks about no label where two choices differ.

-- two choices have the same position of the label of a mask
abbrev IsAlike : List ℕ → List ℕ → LabelMask → Type 0
IsAlike b c m = slice_index c m.label ≡ slice_index b m.label

module _ (b c : List ℕ) (long : length c ≡ length b) where
  fits_alike : (masks : List LabelMask) → AllByRecursion (IsAlike b c) masks
      → list_all (λ m. not (reaches c m) || permits_at c m) masks
      ≡ list_all (λ m. not (reaches b m) || permits_at b m) masks
  fits_alike [] alike = refl
  fits_alike (m ∷ masks) alike =
      λ t. (not (nat_lt m.label (long t)) || get_or m.mask (alike.0 t) false)
      && fits_alike masks alike.1 t

  holds_alike : (k : Candidate) → AllByRecursion (IsAlike b c) k.cube.now.masks
      → holds_at c k ≡ holds_at b k
  holds_alike k alike =
      ap (λ (x : Bool). cond k.wanted x (not x)) (λ t.
      (not k.cube.now.empty && fits_alike k.cube.now.masks alike t)
      && list_all (λ (m : LabelMask). nat_lt m.label (long t)) k.cube.now.masks)

  -- they are alike at each label of a cube, or something holds
  alike_or : {Q : Type 0} (masks : List LabelMask)
      → ((label : ℕ) → list_all (λ m. not (m.label == label)) masks ≡ false
      → (slice_index c label ≡ slice_index b label) ⊎ Q)
      → AllByRecursion (IsAlike b c) masks ⊎ Q
  alike_or [] each = inl tt
  alike_or (m ∷ masks) each =
      let own = ap (λ (x : Bool). not x && list_all (λ (n : LabelMask). not (n.label == m.label)) masks)
      (eq-eqb m.label m.label refl) in
      elim (each m.label own) [
        | inr q ↦ inr q
        | inl here ↦ elim (alike_or masks (λ label asks.
            each label (and_right (not (m.label == label))
            (list_all (λ (n : LabelMask). not (n.label == label)) masks) asks))) [
              | inr q ↦ inr q
              | inl rest ↦ inl (here, rest)
            ]
      ]

-- ---- All literals but one.

-- of the literals that ask about a label, the named ones are true at a choice, but for the one at a
-- position
abbrev pub OthersHold : List Candidate → ℕ → List ℕ → ℕ → Type 0
OthersHold ks i c label =
    (j : ℕ) (k : Candidate) → slice_get ks j ≡ Some k → IsFalse (is_free label k)
    → (j ≡ i → ⊥) → IsTrue k.named → IsTrue (holds_at c k)

-- two choices have the same position of a label, or these literals are true at one of them
abbrev pub IsPassed : List Candidate → ℕ → List ℕ → List ℕ → ℕ → Type 0
IsPassed ks i b c label = (slice_index c label ≡ slice_index b label) ⊎ OthersHold ks i c label

named_or : (named holds : Bool) → (named ≡ true → holds ≡ true) → (not named || holds) ≡ true
named_or true holds so = so refl
named_or false holds so = refl

each_met : (c : List ℕ) (ks : List Candidate)
    → ((j : ℕ) (k : Candidate) → slice_get ks j ≡ Some k → k.named ≡ true
    → holds_at c k ≡ true) → meets c ks ≡ true
each_met c [] each = refl
each_met c (k ∷ ks) each =
    and_from (not k.named || holds_at c k) (meets c ks)
    (named_or k.named (holds_at c k) (each 0 k refl))
    (each_met c ks (λ j. each (suc j)))

others_met : (c : List ℕ) (i : ℕ) (ks : List Candidate)
    → ((j : ℕ) (k : Candidate) → slice_get ks j ≡ Some k → (j ≡ i → ⊥) → k.named ≡ true
    → holds_at c k ≡ true)
    → ((k : Candidate) → slice_get ks i ≡ Some k → holds_at c k ≡ false)
    → meets c (negated i ks) ≡ true
others_met c i [] each fails = refl
others_met c zero (k ∷ ks) each fails =
    and_from (not k.named || holds_at c (opposite k)) (meets c ks)
    (or_right (not k.named) (holds_at c (opposite k))
    (opposite_holds c k ∙ ap not (fails k refl)))
    (each_met c ks (λ j l at. each (suc j) l at (λ e. absurd (omega (arith, e)))))
others_met c (suc i) (k ∷ ks) each fails =
    and_from (not k.named || holds_at c k) (meets c (negated i ks))
    (named_or k.named (holds_at c k) (each 0 k refl (λ e. absurd (omega (arith, e)))))
    (others_met c i ks
    (λ j l at apart. each (suc j) l at (λ e. apart (omega (arith, e)))) fails)

-- a choice at which all labels are passed, and which fails the literal at the position, meets the
-- others and its opposite
pub met_nearby : (b c : List ℕ) (i : ℕ) (ks : List Candidate) → length c ≡ length b
    → meets b ks ≡ true → ((label : ℕ) → label < length b → IsPassed ks i b c label)
    → ((k : Candidate) → slice_get ks i ≡ Some k → holds_at c k ≡ false)
    → meets c (negated i ks) ≡ true
met_nearby b c i ks long met passed fails =
    others_met c i ks (λ j k at apart named.
    elim (alike_or b c long k.cube.now.masks (λ label asks. elim (cases_lt label (length b)) [
      | inl lt ↦ elim (passed label lt) [
        | inl same ↦ inl same
        | inr hold ↦ inr (hold j k at asks apart named)
      ]
      | inr ge ↦
          inl (get_or_past c label 0 (omega (arith, ge, long)) ∙ sym (get_or_past b label 0 ge))
    ])) [
      | inl alike ↦ holds_alike b c long k alike ∙ met_at b ks j k met at named
      | inr hold ↦ hold
    ]) fails
