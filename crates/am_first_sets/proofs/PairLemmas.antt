-- Pairs of choices of a space as choices over twice as many labels.
use Rattle.std.proofs.Common.{◌≡◌, ℕ, ◌+◌, ◌*◌, Bool, true, false, not, ◌&&◌, List, [], ◌∷◌}
use Rattle.std.proofs.Common.{◌++◌, length, take, refl, ap, sym, ◌∙◌, subst, arith}
use Rattle.std.proofs.lemmas.Bool.{and_parts, and_from}
use Rattle.std.proofs.lemmas.List.Folds.{list_all-append}
use Rattle.am_labels.specs.Space.{Space}
use Rattle.am_judged_lists.specs.declared.pairs.Side.{Side}
use Rattle.am_judged_lists.specs.declared.pairs.Side.TheVariants.{First, Second}
use Rattle.am_judged_lists.specs.Boxes.{IsInBox}
use Rattle.am_judged_lists.specs.Cube.{MaskedLabels, matches}
use Rattle.am_judged_lists.specs.Pairs.{seen, IsTwice}
use Rattle.am_judged_lists.proofs.PairLemmas.{side_inside, sides_agree, both_of, length_both, both_inside, first_seen, second_seen}
use Rattle.am_first_sets.specs.declared.possible_choices.PossibleChoices.{PossibleChoices}
use Rattle.am_first_sets.specs.Meeting.{is_possible_by}
use Rattle.am_first_sets.specs.PossibleChoices.{IsPossible, AreChoicesOf}
use Rattle.am_first_sets.specs.Pairs.{IsPairOf}
use Rattle.am_first_sets.proofs.MeetingLemmas.{choices_of}

-- ---- The cubes of both sides.

-- one impossible cube more, of both sides
pub both_more : (old cubes : List MaskedLabels) (i : ℕ) (cube first second : MaskedLabels) (e c d : List ℕ)
    → take (i + 1) cubes ≡ take i cubes ++ cube ∷ []
    → matches first e ≡ matches cube c → matches second e ≡ matches cube d
    → is_possible_by old e ≡ (is_possible_by (take i cubes) c && is_possible_by (take i cubes) d)
    → is_possible_by ((old ++ first ∷ []) ++ second ∷ []) e
    ≡ (is_possible_by (take (i + 1) cubes) c && is_possible_by (take (i + 1) cubes) d)
both_more old cubes i cube first second e c d grows is is_too before =
    rw (grows, pushed (old ++ first ∷ []) second e, pushed old first e, pushed (take i cubes) cube c, pushed (take i cubes) cube d, before, is, is_too)
    (crossed (is_possible_by (take i cubes) c) (is_possible_by (take i cubes) d) (not (matches cube c)) (not (matches cube d)))
  where
    pushed : (xs : List MaskedLabels) (x : MaskedLabels) (f : List ℕ) → is_possible_by (xs ++ x ∷ []) f ≡ (is_possible_by xs f && (not (matches x f) && true))
    pushed xs x f = list_all-append (λ (y : MaskedLabels). not (matches y f)) xs (x ∷ [])

    crossed : (a b x y : Bool) → (((a && b) && (x && true)) && (y && true)) ≡ ((a && (x && true)) && (b && (y && true)))
    crossed true true x y = refl
    crossed true false true y = refl
    crossed true false false y = refl
    crossed false b x y = refl

-- ---- The choices that stand for pairs.

module _ (s : Space) (p pairs : PossibleChoices) (are : AreChoicesOf s p) (n : ℕ)
    (shared : List ℕ) (many : n ≡ length p.all) (twice : IsTwice p.all pairs.all)
    (both : (e : List ℕ) → length e ≡ 2 * n → is_possible_by pairs.impossible.items e
    ≡ (is_possible_by p.impossible.items (seen First shared n e)
    && is_possible_by p.impossible.items (seen Second shared n e))) where
  inside : (side : Side) (e : List ℕ) → IsInBox pairs.all e → IsInBox p.all (seen side shared n e)
  inside side e h =
      subst (λ m. IsInBox p.all (seen side shared m e)) (sym many) (side_inside p.all pairs.all side shared e twice h)

  pub sides_pair : (e : List ℕ) → IsPossible pairs e
      → IsPairOf s shared (seen First shared n e) (seen Second shared n e)
  sides_pair e possible =
      let c = seen First shared n e in
      let d = seen Second shared n e in
      let long : length e ≡ 2 * n = omega (arith, possible.0.long, twice.long, many) in
      let parts = and_parts (is_possible_by p.impossible.items c) (is_possible_by p.impossible.items d)
      (sym (both e long) ∙ possible.1) in
      record {
        first = (choices_of s p are c).0 (inside First e possible.0, parts.0);
        second = (choices_of s p are d).0 (inside Second e possible.0, parts.1);
        same = sides_agree shared n e;
      }

  pub pair_seen : (c d : List ℕ) → IsPairOf s shared c d
      → (e : List ℕ) × IsPossible pairs e × (seen First shared n e ≡ c) × (seen Second shared n e ≡ d)
  pair_seen c d pair =
      let one = (choices_of s p are c).1 pair.first in
      let two = (choices_of s p are d).1 pair.second in
      let e = both_of n c d in
      let left = first_seen n c d shared (one.0.long ∙ sym many) in
      let right = second_seen n c d shared (two.0.long ∙ sym many) pair.same in (
        e,
        (
          both_inside n c d p.all pairs.all twice (sym many) one.0 two.0,
          both e (length_both n c d)
              ∙ and_from (is_possible_by p.impossible.items (seen First shared n e)) (is_possible_by p.impossible.items (seen Second shared n e))
              (ap (is_possible_by p.impossible.items) left ∙ one.1) (ap (is_possible_by p.impossible.items) right ∙ two.1),
        ),
        left,
        right,
      )
