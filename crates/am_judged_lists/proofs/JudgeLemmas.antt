-- The verdict of a cube, as the code computes it.
use Rattle.std.proofs.Common.{◌≡◌, ℕ, ◌+◌, ◌<◌, ◌≤◌, max, Bool, true, false, not, cond, ◌&&◌, List, [], ◌∷◌, ◌++◌, nat_lt, refl, ap, sym, ◌∙◌, inl, inr, arith}
use Rattle.std.specs.List.{list_all, AllByRecursion}
use Rattle.std.proofs.lemmas.Bool.{cases_lt, and_from, and_left, and_right, lt-ltb, le-ltb}
use Rattle.am_search.specs.declared.verdict.Verdict.TheVariants.{Yes, No, Open}
use Rattle.am_judged_lists.specs.declared.cube.LabelMask.{LabelMask}
use Rattle.am_search.specs.Judge.{is_yes, is_no}
use Rattle.am_judged_lists.specs.Cube.{MaskedLabels, reaches, may_at, reaches_all, verdict_at}
use Rattle.am_judged_lists.specs.CubeView.{AscendByLabel, reach_of, IsKept}
use Rattle.am_judged_lists.proofs.ListLemmas.{each_pushed}

-- ---- How far the masks reach.

pub reached : (n : ℕ) (masks : List LabelMask) → reach_of masks ≤ n → list_all (λ m. nat_lt m.label n) masks ≡ true
reached n [] h = refl
reached n (m ∷ masks) h = and_from (nat_lt m.label n) (list_all (λ k. nat_lt k.label n) masks) (lt-ltb m.label n (omega arith)) (reached n masks (omega arith))

pub not_reached : (n : ℕ) (masks : List LabelMask) → n < reach_of masks → list_all (λ m. nat_lt m.label n) masks ≡ false
not_reached n [] h = absurd (omega arith)
not_reached n (m ∷ masks) h = elim (cases_lt m.label n) [
  | inl within ↦ and_right (nat_lt m.label n) (list_all (λ k. nat_lt k.label n) masks) (not_reached n masks (omega (arith, within)))
  | inr past ↦ and_left (nat_lt m.label n) (list_all (λ k. nat_lt k.label n) masks) (le-ltb m.label n past)
]

-- ---- From two tests to a verdict.

may_of : (may all : Bool) → not (is_no (cond (not may) No (cond all Yes Open))) ≡ may
may_of true true = refl
may_of true false = refl
may_of false all = refl

must_of : (may all : Bool) → is_yes (cond (not may) No (cond all Yes Open)) ≡ (may && all)
must_of true true = refl
must_of true false = refl
must_of false all = refl

pub may_is : (cube : MaskedLabels) (prefix : List ℕ) → not (is_no (verdict_at cube prefix)) ≡ may_at cube prefix
may_is cube prefix = may_of (may_at cube prefix) (list_all (reaches prefix) cube.masks)

pub must_is : (cube : MaskedLabels) (prefix : List ℕ) → is_yes (verdict_at cube prefix) ≡ (may_at cube prefix && reaches_all cube prefix)
must_is cube prefix = must_of (may_at cube prefix) (list_all (reaches prefix) cube.masks)

-- ---- One more mask, behind the others.

pub ascend_pushed : (masks : List LabelMask) (m : LabelMask) → AscendByLabel masks → AllByRecursion (λ n. n.label < m.label) masks → AscendByLabel (masks ++ m ∷ [])
ascend_pushed [] m ascend before = (tt, tt)
ascend_pushed (n ∷ masks) m ascend before =
    (each_pushed (λ k. n.label < k.label) masks m ascend.0 before.0, ascend_pushed masks m ascend.1 before.1)

reach_pushed : (masks : List LabelMask) (m : LabelMask) → AllByRecursion (λ n. n.label < m.label) masks → reach_of (masks ++ m ∷ []) ≡ m.label + 1
reach_pushed [] m before = omega arith
reach_pushed (n ∷ masks) m before = ap (max (n.label + 1)) (reach_pushed masks m before.1) ∙ omega (arith, before.0)

pub kept_pushed : (masks : List LabelMask) (m : LabelMask) (reach : ℕ) → IsKept masks reach → AllByRecursion (λ n. n.label < m.label) masks → IsKept (masks ++ m ∷ []) (m.label + 1)
kept_pushed masks m reach kept before =
    record { ascend = ascend_pushed masks m kept.ascend before; same = sym (reach_pushed masks m before) }
