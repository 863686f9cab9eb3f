-- Texts, no two of which are alike: they are distinct; with one more; and how many there are.
use Rattle.std.proofs.Common.{◌≡◌, ◌≤◌, ℕ, zero, suc, true, List, [], ◌∷◌, length}
use Rattle.std.proofs.Common.{get_or, refl, subst, inl, inr, arith}
use Rattle.std.specs.List.{AllByRecursion, IsDistinct}
use Rattle.std.specs.Cmp.{IsEquivalence}
use Rattle.std.specs.Cmp.Lexicographic.{bytes_decides}
use Rattle.std.proofs.lemmas.Bool.{cases_Bool}
use Rattle.std.proofs.lemmas.Map.Keys.{IsDistinct-from_apart}
use Rattle.std.proofs.lemmas.Map.Made.{length-le_from_is_member}
use Rattle.std.proofs.lemmas.Option.{slice_get-get_or}
use Rattle.std.proofs.lemmas.Grind.{common_steps}
use Rattle.am_universe.specs.Text.{same_text}
use Rattle.am_universe.proofs.ListLemmas.{IsIn-from_Contains, AllByRecursion-at}
use Rattle.am_labels.specs.Matcher.{Matcher}
use Rattle.am_labels.proofs.Passing.{any_in, in_any}
use Rattle.am_classes.specs.Alike.{AreAlike, AreApart, HasAlikeIn}
use Rattle.am_classes.proofs.AlikeLemmas.{alike_itself, alike_turned, alike_joined}
use Rattle.am_classes.specs.Truths.{alike}
use Rattle.am_classes.proofs.AlikeLemmas.{alike_is, is_alike}
use Rattle.am_complete.proofs.ChosenTexts.{turned, distinct_from_apart}
use Rattle.am_complete.proofs.ChosenTexts.{same_where_both}

-- ---- What is apart is distinct.

pub one_distinct : (x : List ℕ) → IsDistinct same_text (x ∷ [])
unfolding IsDistinct
one_distinct x = (tt, tt)

pub one_apart : (ms : List Matcher) (t : List ℕ) → AreApart ms (t ∷ [])
one_apart ms t zero zero x y at_x at_y alike = refl
one_apart ms t zero (suc j) x y at_x at_y alike = absurd (cc)
one_apart ms t (suc i) j x y at_x at_y alike = absurd (cc)

pub distinct_where_apart : (ms : List Matcher) (xs : List (List ℕ)) → AreApart ms xs
    → IsDistinct same_text xs
distinct_where_apart ms xs apart =
    IsDistinct-from_apart same_text xs (λ i j d before inside.
    elim (cases_Bool (same_text (get_or xs i d) (get_or xs j d))) [
      | inl same ↦
          let at_i = slice_get-get_or xs i d (omega arith) in
          let at_j = slice_get-get_or xs j d inside in
          let x = get_or xs i d in
          let one : x ≡ get_or xs j d = (bytes_decides x (get_or xs j d)).0 same in
          let e : i ≡ j = apart i j x (get_or xs j d) at_i at_j
          (subst (AreAlike ms x) one (alike_itself ms x)) in
          absurd (omega (arith, e, before))
      | inr differs ↦ differs
    ])

-- ---- How many there are.

alike_through : (ms : List Matcher) (x y z : List ℕ) → alike ms x y ≡ true
    → alike ms x z ≡ alike ms y z
alike_through ms x y z e =
    grind (arith, common_steps, is_alike, same_where_both, alike_is, alike_joined, alike_turned)

alike_equivalence : (ms : List Matcher) → IsEquivalence (alike ms)
alike_equivalence ms =
    grind (arith, common_steps, alike_is, alike_itself, turned, alike_through)

-- if no two of some texts are alike, and each is alike to one of others, they are no more than the
-- others
pub apart_are_no_more : (ms : List Matcher) (xs ys : List (List ℕ)) → AreApart ms xs
    → AllByRecursion (HasAlikeIn ms ys) xs → length xs ≤ length ys
apart_are_no_more ms xs ys apart each =
    length-le_from_is_member (alike_equivalence ms) xs ys (distinct_from_apart ms xs apart)
    (λ q h.
    let x = any_in (alike ms q) xs h in
    let y = AllByRecursion-at (HasAlikeIn ms ys) xs x.0 each x.1 in
    in_any (alike ms q) ys y.0 (IsIn-from_Contains ys y.0 y.1)
    (alike_is ms q y.0
    (alike_joined ms q x.0 y.0 (is_alike ms q x.0 x.2) (alike_turned ms y.0 x.0 y.2))))
