-- Texts that stand for classes of texts. Other texts of these classes stand for them too, and so do
-- the texts in another order.
use Rattle.std.proofs.Common.{◌≡◌, ◌<◌, ℕ, Bool, true, false, List}
use Rattle.std.proofs.Common.{option_map, string_bytes, get_or, Some}
use Rattle.std.proofs.Common.{refl, sym, ap, ◌∙◌, subst, inl, inr, arith}
use Rattle.std.specs.Prelude.{slice_get, IsPermutation, nat_eq}
use Rattle.std.specs.List.{IsDistinct}
use Rattle.std.specs.Cmp.Lexicographic.{pointwise}
use Rattle.std.proofs.lemmas.Bool.{both_ways, cases_Bool, cases_lt}
use Rattle.std.proofs.lemmas.List.Sorted.{Contains-permutation, IsPermutation-sym}
use Rattle.std.proofs.lemmas.Map.Keys.{IsDistinct-IsPermutation, IsDistinct-from_apart}
use Rattle.std.proofs.lemmas.Map.Keys.{apart_from_distinct}
use Rattle.std.proofs.lemmas.Option.{slice_get-get_or, get_or_from_slice_get, slice_get_within}
use Rattle.std.proofs.lemmas.Option.{slice_get-map}
use Rattle.std.proofs.lemmas.Grind.{common_steps}
use Rattle.am_universe.proofs.ListLemmas.{IsIn, IsIn-map, IsIn-unmap, IsIn-from_Contains}
use Rattle.am_universe.proofs.ListLemmas.{Contains-from_IsIn}
use Rattle.am_universe.proofs.ListLemmas.{AllByRecursion-at, AllByRecursion-each}
use Rattle.am_universe.proofs.Members.{at_in, in_at}
use Rattle.am_labels.specs.Matcher.{Matcher}
use Rattle.am_classes.specs.declared.alphabet.Alphabet.{Alphabet}
use Rattle.am_classes.specs.Alphabet.{IsOver, AreOver}
use Rattle.am_classes.specs.Alike.{AreAlike, AreApart}
use Rattle.am_complete.specs.Covering.{AreClasses}
use Rattle.am_classes.specs.declared.tested.Tested.{Tested}
use Rattle.am_classes.specs.Truths.{alike, hits, texts_of, AreTested}
use Rattle.am_complete.specs.Chosen.{IsChosen, AreChosenEach}
use Rattle.am_classes.proofs.AlikeLemmas.{alike_itself, alike_turned, alike_joined}
use Rattle.am_classes.proofs.AlikeLemmas.{alike_is, is_alike}
use Rattle.am_complete.proofs.Pushed.{zip_left, zip_right}

-- ---- A chosen text.

-- a chosen text is alike to the wanted one
chosen_alike : (ms : List Matcher) (usual : List Tested) (w : Tested) (x : List ℕ)
    → AreTested ms usual → w.hits.items ≡ hits ms (string_bytes w.text) → IsChosen usual w x
    → AreAlike ms x (string_bytes w.text)
chosen_alike ms usual w x tested here (inl same) =
    subst (λ v. AreAlike ms v (string_bytes w.text)) (sym same)
    (alike_itself ms (string_bytes w.text))
chosen_alike ms usual w x tested here (inr r) =
    let at = AllByRecursion-at _ usual r.0 tested (IsIn-from_Contains usual r.0 r.1) in
    let test : pointwise nat_eq r.0.hits.items w.hits.items
    ≡ alike ms (string_bytes r.0.text) (string_bytes w.text) = λ i. pointwise nat_eq (at i) (here i) in
    subst (λ v. AreAlike ms v (string_bytes w.text)) (sym r.2)
    (is_alike ms (string_bytes r.0.text) (string_bytes w.text) (sym test ∙ r.3))

-- ---- Others of their classes.

module _ (alphabet : Alphabet) (ms : List Matcher) (usual ws : List Tested)
    (xs : List (List ℕ)) (tested : AreTested ms usual) (here : AreTested ms ws)
    (over : AreOver alphabet (texts_of usual)) (each : AreChosenEach usual ws xs) where
  like : (w : Tested) (x : List ℕ) → IsIn ws w → IsChosen usual w x
      → AreAlike ms x (string_bytes w.text)
  like w x i chosen = chosen_alike ms usual w x tested (AllByRecursion-at _ ws w here i) chosen

  -- the wanted text at a position, and the text that is chosen for it
  wanted_at : (i : ℕ) (x : List ℕ) → slice_get xs i ≡ Some x
      → (y : List ℕ) × (slice_get (texts_of ws) i ≡ Some y) × AreAlike ms x y
  wanted_at i x at =
      let w = zip_right (IsChosen usual) ws xs i x each at in (
        string_bytes w.0.text,
        slice_get-map (λ t. string_bytes t.text) ws i ∙ ap (option_map (λ t. string_bytes t.text)) w.1,
        like w.0 x (in_at ws i w.0 w.1) w.2,
      )

  chosen_over : AreOver alphabet (texts_of ws) → AreOver alphabet xs
  chosen_over wanted =
      AllByRecursion-each (IsOver alphabet) xs (λ x i.
      let at = at_in xs x i in
      let w = zip_right (IsChosen usual) ws xs at.0 x each at.1 in
      by w.0 x (in_at ws at.0 w.0 w.1) w.2)
    where
      at_text : (ts : List Tested) (t : Tested) → AreOver alphabet (texts_of ts) → IsIn ts t
          → IsOver alphabet (string_bytes t.text)
      at_text ts t all i =
          AllByRecursion-at (IsOver alphabet) (texts_of ts) (string_bytes t.text) all
          (IsIn-map (λ u. string_bytes u.text) ts t i)

      by : (w : Tested) (x : List ℕ) → IsIn ws w → IsChosen usual w x → IsOver alphabet x
      by w x i (inl same) = subst (IsOver alphabet) (sym same) (at_text ws w wanted i)
      by w x i (inr r) =
          subst (IsOver alphabet) (sym r.2)
          (at_text usual r.0 over (IsIn-from_Contains usual r.0 r.1))

  pub classes_chosen : (all : Bool) → AreClasses alphabet ms (texts_of ws) all
      → AreClasses alphabet ms xs all
  classes_chosen all classes = record {
    covers = λ whole text valid.
        let one = classes.covers whole text valid in
        let w = IsIn-unmap (λ t. string_bytes t.text) ws one.0
        (IsIn-from_Contains (texts_of ws) one.0 one.1) in
        let at = at_in ws w.0 w.1 in
        let x = zip_left (IsChosen usual) ws xs at.0 w.0 each at.1 in (
          x.0,
          Contains-from_IsIn xs x.0 (in_at xs at.0 x.0 x.1),
          alike_joined ms x.0 one.0 text (subst (AreAlike ms x.0) w.2 (like w.0 x.0 w.1 x.2)) one.2,
        );
    apart = λ i j x y at_x at_y alike.
        let a = wanted_at i x at_x in
        let b = wanted_at j y at_y in
        classes.apart i j a.0 b.0 a.1 b.1
        (alike_joined ms a.0 x b.0 (alike_turned ms x a.0 a.2) (alike_joined ms x y b.0 alike b.2));
    over = chosen_over classes.over;
  }

-- ---- Another order.

-- two truths are the same if each gives the other
pub same_where_both : (a b : Bool) → (a ≡ true → b ≡ true) → (b ≡ true → a ≡ true) → a ≡ b
same_where_both true b f g = sym (f refl)
same_where_both false true f g = g refl
same_where_both false false f g = refl

pub turned : (ms : List Matcher) (x y : List ℕ) → alike ms x y ≡ alike ms y x
turned ms x y = grind (arith, common_steps, same_where_both, alike_is, alike_turned, is_alike)

pub distinct_from_apart : (ms : List Matcher) (xs : List (List ℕ)) → AreApart ms xs
    → IsDistinct (alike ms) xs
distinct_from_apart ms xs apart =
    IsDistinct-from_apart (alike ms) xs (λ i j d before inside.
    elim (cases_Bool (alike ms (get_or xs i d) (get_or xs j d))) [
      | inl same ↦
          let at_i = slice_get-get_or xs i d (omega arith) in
          let at_j = slice_get-get_or xs j d inside in
          let e : i ≡ j = apart i j (get_or xs i d) (get_or xs j d) at_i at_j
          (is_alike ms (get_or xs i d) (get_or xs j d) same) in
          absurd (omega (arith, e, before))
      | inr differs ↦ differs
    ])

apart_before : (ms : List Matcher) (xs : List (List ℕ)) (i j : ℕ) (x y : List ℕ)
    → IsDistinct (alike ms) xs → slice_get xs i ≡ Some x → slice_get xs j ≡ Some y
    → AreAlike ms x y → i < j → ⊥
apart_before ms xs i j x y distinct at_x at_y h before =
    let inside = slice_get_within xs j y at_y in
    let differs = apart_from_distinct (alike ms) xs i j x distinct before inside in
    let same : alike ms (get_or xs i x) (get_or xs j x) ≡ true =
    ap (λ w. alike ms w (get_or xs j x)) (get_or_from_slice_get xs i x x at_x)
    ∙ ap (alike ms x) (get_or_from_slice_get xs j y x at_y) ∙ alike_is ms x y h in
    both_ways (alike ms (get_or xs i x) (get_or xs j x)) differs same

pub apart_from_distinct_texts : (ms : List Matcher) (xs : List (List ℕ))
    → IsDistinct (alike ms) xs → AreApart ms xs
apart_from_distinct_texts ms xs distinct i j x y at_x at_y h =
    grind (arith, common_steps, cases_lt, apart_before, alike_turned)

pub classes_moved : (alphabet : Alphabet) (ms : List Matcher) (xs ys : List (List ℕ)) (all : Bool)
    → IsPermutation xs ys → AreClasses alphabet ms xs all → AreClasses alphabet ms ys all
classes_moved alphabet ms xs ys all moved classes = record {
  covers = λ whole text valid.
      let one = classes.covers whole text valid in
      (one.0, Contains-permutation xs ys one.0 moved one.1, one.2);
  apart = apart_from_distinct_texts ms ys
      (IsDistinct-IsPermutation (alike ms) (turned ms) xs ys moved
      (distinct_from_apart ms xs classes.apart));
  over = AllByRecursion-each (IsOver alphabet) ys (λ y i.
      AllByRecursion-at (IsOver alphabet) xs y classes.over
      (IsIn-from_Contains xs y
      (Contains-permutation ys xs y (IsPermutation-sym xs ys moved) (Contains-from_IsIn ys y i))));
}
