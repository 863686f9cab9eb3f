-- Choices that a cube does not match.
use Rattle.std.proofs.Common.{◌≡◌, ℕ, Bool, true, false, not, ◌||◌, List, [], ◌∷◌, slice_index}
use Rattle.std.proofs.Common.{refl, ap, sym, ◌∙◌, inl, inr, nat_eq}
use Rattle.std.specs.Prelude.{slice_index_or}
use Rattle.std.specs.List.{list_all}
use Rattle.std.proofs.lemmas.Bool.{and_from, and_parts, cases_eq, false_from_ne_true}
use Rattle.std.proofs.lemmas.Bool.Decides.{nat_tests}
use Rattle.std.proofs.lemmas.Grind.{common_steps}
use Rattle.std.proofs.Common.{arith}
use Rattle.am_judged_lists.specs.declared.cube.LabelMask.{LabelMask}
use Rattle.am_judged_lists.specs.Cube.{MaskedLabels, matches, may_at, reaches, reaches_all}
use Rattle.am_judged_lists.specs.Cube.{permits_at, permits_position}

module _ (c : List ℕ) (label : ℕ) where
  abbrev permits_here : LabelMask → Bool
  permits_here m = not (nat_eq m.label label) || slice_index_or m.mask (slice_index c label) false

  one_permits : (m : LabelMask) → (not (reaches c m) || permits_at c m) ≡ true → reaches c m ≡ true
      → permits_here m ≡ true
  one_permits m may reached = elim (cases_eq m.label label) [
    | inl same ↦
        let permitted : permits_at c m ≡ true = ap (λ b. not b || permits_at c m) (sym reached) ∙ may in
        or_true (not (nat_eq m.label label)) (slice_index_or m.mask (slice_index c label) false)
        (ap (λ k. slice_index_or m.mask (slice_index c k) false) (sym same) ∙ permitted)
    | inr other ↦ grind (arith, common_steps, nat_tests)
  ]
    where
      or_true : (a b : Bool) → b ≡ true → (a || b) ≡ true
      or_true true b e = refl
      or_true false b e = e

  all_permit : (masks : List LabelMask)
      → list_all (λ m. not (reaches c m) || permits_at c m) masks ≡ true
      → list_all (reaches c) masks ≡ true → list_all permits_here masks ≡ true
  all_permit [] may reached = refl
  all_permit (m ∷ masks) may reached =
      let first = and_parts (not (reaches c m) || permits_at c m)
      (list_all (λ m. not (reaches c m) || permits_at c m) masks) may in
      let second = and_parts (reaches c m) (list_all (reaches c) masks) reached in
      and_from (permits_here m) (list_all permits_here masks) (one_permits m first.0 second.0)
      (all_permit masks first.1 second.1)

-- a cube matches no choice whose position of a label it does not permit
pub missed_at : (cube : MaskedLabels) (c : List ℕ) (label : ℕ)
    → not (permits_position cube label (slice_index c label)) ≡ true → matches cube c ≡ false
missed_at cube c label forbidden =
    false_from_ne_true (matches cube c) (λ e.
    let parts = and_parts (may_at cube c) (reaches_all cube c) e in
    let may = and_parts (not cube.empty)
    (list_all (λ m. not (reaches c m) || permits_at c m) cube.masks) parts.0 in
    let apart : false ≡ true =
    sym (ap not (all_permit c label cube.masks may.1 parts.1)) ∙ forbidden in cc)
