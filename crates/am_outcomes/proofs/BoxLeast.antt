-- The first choice of a box.
use Rattle.std.proofs.Common.{◌≡◌, ℕ, suc, ◌+◌, ◌<◌, ◌≤◌, Bool, true, false, List, [], ◌∷◌}
use Rattle.std.proofs.Common.{◌++◌, length, Some, slice_index, slice_get, refl, ap, sym, ◌∙◌, subst, inl, inr, arith}
use Rattle.std.specs.List.{find}
use Rattle.std.specs.Ordering.{nat_cmp, is_lt, ordering_then}
use Rattle.std.specs.declared.cmp.Ordering.{Ordering}
use Rattle.std.specs.Cmp.Lexicographic.{slice_cmp}
use Rattle.std.specs.Prelude.{IsTrue}
use Rattle.std.proofs.lemmas.Bool.{cases_Bool, cases_lt, both_ways}
use Rattle.std.proofs.lemmas.Bool.Decides.{nat_tests}
use Rattle.std.proofs.lemmas.List.{length_push, get_or_push, get_or_append_left}
use Rattle.std.proofs.lemmas.Grind.{common_steps}
use Rattle.std.proofs.lemmas.Option.{get_or_from_slice_get}
use Rattle.am_universe.specs.Choice.{IsWhole}
use Rattle.am_universe.proofs.ListLemmas.{IsIn}
use Rattle.am_universe.proofs.WholeChoiceLemmas.{admitted_at}
use Rattle.am_search.specs.Start.{comes_before}
use Rattle.am_search.proofs.ChoiceOrder.{Ascends, above_first, ascends_rest}
use Rattle.am_judged_lists.specs.Boxes.{box_permits, IsInBox}

-- ---- Positions that are nowhere less.

not_less : (q p : ℕ) (later : Ordering) → p ≤ q → is_lt later ≡ false
    → is_lt (ordering_then (nat_cmp q p) later) ≡ false
not_less q p later more e = grind (arith, common_steps, nat_tests)

-- a choice whose positions are nowhere less than those of another does not come before it
not_before : (c x : List ℕ) → length c ≡ length x
    → ((i : ℕ) → i < length x → slice_index x i ≤ slice_index c i) → comes_before c x ≡ false
not_before [] [] long more = refl
not_before [] (p ∷ x) long more = absurd (omega (arith, long))
not_before (q ∷ c) [] long more = absurd (omega (arith, long))
not_before (q ∷ c) (p ∷ x) long more =
    not_less q p (slice_cmp nat_cmp c x) (more 0 (omega arith))
    (not_before c x (omega (arith, long)) (λ i lt. more (suc i) (omega (arith, lt))))

-- ---- The least positions.

-- The first labels of a box have these positions, and each of them is the least that the box
-- permits.
pub record AreLeast (b : List (List Bool)) (x : List ℕ) : Type 0 where
  pub permitted : (i : ℕ) → i < length x → IsTrue (box_permits b i (slice_index x i))
  pub least : (i p : ℕ) → i < length x → p < slice_index x i → box_permits b i p ≡ false

pub none_least : (b : List (List Bool)) → AreLeast b []
none_least b = record {
  permitted = λ i lt. absurd (omega (arith, lt));
  least = λ i p lt less. absurd (omega (arith, lt));
}

pub one_more : (b : List (List Bool)) (x : List ℕ) (p : ℕ) → AreLeast b x
    → IsTrue (box_permits b (length x) p)
    → ((q : ℕ) → q < p → box_permits b (length x) q ≡ false) → AreLeast b (x ++ p ∷ [])
one_more b x p so_far permitted least = record {
  permitted = λ i lt. elim (cases_lt i (length x)) [
    | inl before ↦
        subst (λ q. IsTrue (box_permits b i q)) (sym (get_or_append_left x (p ∷ []) 0 i before))
        (so_far.permitted i before)
    | inr last ↦
        let same : i ≡ length x = omega (arith, last, lt, length_push x p) in
        subst (λ q. IsTrue (box_permits b i q)) (sym (get_or_push x p 0 i (sym same)))
        (subst (λ k. IsTrue (box_permits b k p)) (sym same) permitted)
  ];
  least = λ i q lt less. elim (cases_lt i (length x)) [
    | inl before ↦
        so_far.least i q before (omega (arith, less, get_or_append_left x (p ∷ []) 0 i before))
    | inr last ↦
        let same : i ≡ length x = omega (arith, last, lt, length_push x p) in
        ap (λ k. box_permits b k q) same
        ∙ least q (omega (arith, less, get_or_push x p 0 i (sym same)))
  ];
}

-- the choice of the least positions is in the box, and no other choice of it comes before this one
pub least_inside : (b : List (List Bool)) (x : List ℕ) → AreLeast b x → length x ≡ length b
    → IsInBox b x
least_inside b x are long = record {
  long = long;
  each = λ i lt. are.permitted i (omega (arith, lt, long));
}

pub least_first : (b : List (List Bool)) (x c : List ℕ) → AreLeast b x → length x ≡ length b
    → IsInBox b c → comes_before c x ≡ false
least_first b x c are long inside =
    not_before c x (inside.long ∙ sym long) (λ i lt. elim (cases_lt (slice_index c i) (slice_index x i)) [
      | inl less ↦
          absurd (both_ways (box_permits b i (slice_index c i)) (are.least i (slice_index c i) lt less)
          (inside.each i (omega (arith, lt, long))))
      | inr more ↦ more
    ])

-- ---- A box within another.

-- Of the labels up to a number, each position that the inner box permits is permitted by the outer.
abbrev pub AreWithin : List ℕ → List (List Bool) → List (List Bool) → ℕ → Type 0
AreWithin ns inner outer n =
    (label p : ℕ) → label < n → p < slice_index ns label → IsTrue (box_permits inner label p)
    → IsTrue (box_permits outer label p)

pub one_within : (ns : List ℕ) (inner outer : List (List Bool)) (n size : ℕ)
    → AreWithin ns inner outer n → slice_get ns n ≡ Some size
    → ((p : ℕ) → p < size → IsTrue (box_permits inner n p) → IsTrue (box_permits outer n p))
    → AreWithin ns inner outer (n + 1)
one_within ns inner outer n size so_far is here = λ label p lt less permitted.
    elim (cases_lt label n) [
      | inl before ↦ so_far label p before less permitted
      | inr last ↦
          let same : label ≡ n = omega (arith, lt, last) in
          subst (λ k. IsTrue (box_permits outer k p)) (sym same)
          (here p (omega (arith, less, ap (slice_index ns) same, get_or_from_slice_get ns n size 0 is))
          (subst (λ k. IsTrue (box_permits inner k p)) same permitted))
    ]

pub all_within : (ns : List ℕ) (inner outer : List (List Bool))
    → ((c : List ℕ) → IsInBox inner c → IsWhole ns c) → AreWithin ns inner outer (length ns)
    → length outer ≡ length ns → (c : List ℕ) → IsInBox inner c → IsInBox outer c
all_within ns inner outer whole within long c inside =
    let w = whole c inside in
    record {
      long = w.1 ∙ sym long;
      each = λ label lt.
          within label (slice_index c label) (omega (arith, lt, long))
          (admitted_at ns c label w.0 (omega (arith, lt, long, w.1)))
          (inside.each label (omega (arith, lt, long, w.1, inside.long)));
    }

-- ---- The first that passes a test.

-- the one that passes a test and that no other comes before which passes
pub found_first : (test : List ℕ → Bool) (xs : List (List ℕ)) (x : List ℕ) → Ascends xs
    → IsIn xs x → test x ≡ true
    → ((c : List ℕ) → IsIn xs c → test c ≡ true → comes_before c x ≡ false) → Some x ≡ find test xs
found_first test [] x up there passes least = absurd there
found_first test (y ∷ xs) x up (inl same) passes least =
    grind (arith, common_steps, cases_Bool)
found_first test (y ∷ xs) x up (inr later) passes least = elim (cases_Bool (test y)) [
  | inl first ↦
      absurd (both_ways (comes_before y x) (least y (inl refl) first) (above_first y xs x up later))
  | inr other ↦
      rw other
      (found_first test xs x (ascends_rest y xs up) later passes (λ c i. least c (inr i)))
]
