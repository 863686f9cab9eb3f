-- From one judged prefix to the next, and from one given choice to the next.
use Rattle.std.proofs.Common.{◌≡◌, ℕ, zero, suc, ◌<◌, ◌≤◌, true, false, nat_eq, List, [], ◌∷◌, ◌++◌, length, take, slice_index, slice_get, Some, None, ap, sym, ◌∙◌, refl, inl, inr, arith}
use Rattle.std.specs.List.{starts_with}
use Rattle.std.proofs.lemmas.Bool.{false≢true, false_from_ne_true}
use Rattle.std.proofs.lemmas.Grind.{common_steps}
use Rattle.am_universe.specs.Choice.{IsWhole}
use Rattle.am_universe.proofs.ListLemmas.{IsIn}
use Rattle.am_universe.proofs.CompletionLemmas.{admits_next}
use Rattle.am_universe.proofs.WholeChoiceLemmas.{admitted_at}
use Rattle.am_search.specs.declared.start.Start.{Start}
use Rattle.am_search.specs.declared.verdict.Verdict.{Verdict}
use Rattle.am_search.specs.declared.verdict.Verdict.TheVariants.{Open}
use Rattle.am_search.specs.Judge.{is_open}
use Rattle.am_search.specs.Start.{comes_before, first_of_start}
use Rattle.am_search.specs.Visits.{visited}
use Rattle.am_search.specs.NextPrefix.{next_beside}
use Rattle.am_search.proofs.ChoiceOrder.{got_at, Ascends, above_first, ascends_rest, first_is, not_itself, not_back, before_trans}
use Rattle.am_search.proofs.Odometer.{ArePositive, positive_at}
use Rattle.am_search.proofs.PrefixOrder.{begins_same, begins_parts, begins_pushed, before_pushed, before_begins, before_beside, between_pushed, begins_one, fronts_pushed, front_passes}
use Rattle.am_search.proofs.NextPrefix.{beside_is, none_beside}
use Rattle.am_search.proofs.VisitedPrefixes.{visited_sorted, in_visited, into_visited, IsVisited}

-- ---- One after another in a list that ascends.

pub next_at : (xs : List (List ℕ)) (k : ℕ) (p next : List ℕ) → Ascends xs → slice_get xs k ≡ Some p → IsIn xs next → comes_before p next ≡ true
    → ((x : List ℕ) → IsIn xs x → comes_before p x ≡ true → comes_before x next ≡ false) → slice_get xs (suc k) ≡ Some next
next_at [] k p next s e i less least = absurd i
next_at (x ∷ xs) zero p next s e (inl same) less least = grind (arith, common_steps, not_itself)
next_at (x ∷ xs) zero p next s e (inr i) less least =
    let here : x ≡ p = cc in
    first_is xs next (ascends_rest x xs s) i (λ y j. least y (inr j) (ap (λ q. comes_before q y) (sym here) ∙ above_first x xs y s j))
next_at (x ∷ xs) (suc k) p next s e (inl same) less least = grind (arith, common_steps, above_first, got_at, not_back)
next_at (x ∷ xs) (suc k) p next s e (inr i) less least = next_at xs k p next (ascends_rest x xs s) e i less (λ y j. least y (inr j))

pub none_at : (xs : List (List ℕ)) (k : ℕ) (p : List ℕ) → Ascends xs → slice_get xs k ≡ Some p → ((x : List ℕ) → IsIn xs x → comes_before p x ≡ true → ⊥) → slice_get xs (suc k) ≡ None
none_at [] k p s e last = cc
none_at (x ∷ []) zero p s e last = refl
none_at (x ∷ y ∷ xs) zero p s e last =
    let here : x ≡ p = cc in
    absurd (last y (inr (inl refl)) (ap (λ q. comes_before q y) (sym here) ∙ above_first x (y ∷ xs) y s (inl refl)))
none_at (x ∷ xs) (suc k) p s e last = none_at xs k p (ascends_rest x xs s) e (λ y i. last y (inr i))

pub taken_pushed : (xs : List (List ℕ)) (k : ℕ) (p : List ℕ) → slice_get xs k ≡ Some p → take k xs ++ p ∷ [] ≡ take (suc k) xs
taken_pushed [] k p e = cc
taken_pushed (x ∷ xs) zero p e = ap (λ y. y ∷ []) cc
taken_pushed (x ∷ xs) (suc k) p e = ap (λ l. x ∷ l) (taken_pushed xs k p e)

pub past_length : (xs : List (List ℕ)) (k : ℕ) → slice_get xs k ≡ None → length xs ≤ k
past_length [] k e = omega arith
past_length (x ∷ xs) zero e = cc
past_length (x ∷ xs) (suc k) e = omega (arith, past_length xs k e)

-- ---- A choice that begins with a prefix, one position on.

pub begins_next : (prefix f : List ℕ) → starts_with nat_eq f prefix ≡ true → length prefix < length f → starts_with nat_eq f (prefix ++ slice_index f (length prefix) ∷ []) ≡ true
begins_next [] [] h k = absurd (omega arith)
begins_next [] (q ∷ f) h k = begins_same q f []
begins_next (p ∷ prefix) [] h k = absurd (false≢true h)
begins_next (p ∷ prefix) (q ∷ f) h k = grind (arith, common_steps, begins_parts, begins_same, begins_next prefix f)

-- ---- From one judged prefix to the next.

module _ (sizes : List ℕ) (verdict : List ℕ → Verdict) (start : Start) (f : List ℕ) (begins : first_of_start sizes start ≡ Some f) (w : IsWhole sizes f) (some : ArePositive sizes)
    (k : ℕ) (p : List ℕ) (at_k : slice_get (visited sizes verdict start) k ≡ Some p) where
  pub judged_is : IsVisited sizes verdict f p
  judged_is = in_visited sizes verdict start f begins p (got_at (visited sizes verdict start) k p at_k)

  -- if the prefix is open and lies along the first choice, the next judged prefix does so too
  pub open_along : verdict p ≡ Open → length p < length sizes → starts_with nat_eq f p ≡ true → slice_get (visited sizes verdict start) (suc k) ≡ Some (p ++ slice_index f (length p) ∷ [])
  open_along e room b =
      let q : ℕ = slice_index f (length p) in
      let next : List ℕ = p ++ q ∷ [] in
      let here = judged_is in
      let long : length p < length f = omega (arith, w.1, room) in
      let goes : starts_with nat_eq f next ≡ true = begins_next p f b long in
      let there : IsVisited sizes verdict f next = record {
        admitted = admits_next sizes p q here.admitted room (admitted_at sizes f (length p) w.0 long);
        fronts = fronts_pushed (λ front. is_open (verdict front)) p q here.fronts (ap is_open e);
        reaches_to = inl goes;
      } in
      next_at (visited sizes verdict start) k p next (visited_sorted sizes verdict start) at_k
      (into_visited sizes verdict start f begins next some w there) (before_pushed p q)
      (λ x i less. false_from_ne_true (comes_before x next) (λ high.
      let between = between_pushed p x q less high in
      elim (in_visited sizes verdict start f begins x i).reaches_to [
        | inl a ↦ false≢true (sym (begins_one p between.rest f q between.position goes between.less) ∙ ap (starts_with nat_eq f) (sym between.is) ∙ a)
        | inr a ↦ false≢true (sym (not_back x f (before_begins x next f high goes)) ∙ a)
      ]))

  -- if the prefix is open and does not lie along it, the position 0 is added
  pub open_behind : verdict p ≡ Open → length p < length sizes → starts_with nat_eq f p ≡ false → slice_get (visited sizes verdict start) (suc k) ≡ Some (p ++ 0 ∷ [])
  open_behind e room b =
      let next : List ℕ = p ++ 0 ∷ [] in
      let here = judged_is in
      let less : comes_before f p ≡ true = elim here.reaches_to [ inl a ↦ absurd (false≢true (sym b ∙ a)) | inr a ↦ a ] in
      let there : IsVisited sizes verdict f next = record {
        admitted = admits_next sizes p 0 here.admitted room (positive_at sizes (length p) some room);
        fronts = fronts_pushed (λ front. is_open (verdict front)) p 0 here.fronts (ap is_open e);
        reaches_to = inr (before_begins f p next less (begins_pushed p 0));
      } in
      next_at (visited sizes verdict start) k p next (visited_sorted sizes verdict start) at_k
      (into_visited sizes verdict start f begins next some w there) (before_pushed p 0)
      (λ x i l. false_from_ne_true (comes_before x next) (λ high. omega (arith, (between_pushed p x 0 l high).less)))

  -- no later judged prefix begins with a prefix that is not open
  apart_from : is_open (verdict p) ≡ false → (x : List ℕ) → IsIn (visited sizes verdict start) x → comes_before p x ≡ true → starts_with nat_eq x p ≡ false
  apart_from closed x i less = false_from_ne_true (starts_with nat_eq x p) (λ b.
      false≢true (sym closed ∙ front_passes (λ front. is_open (verdict front)) p x (in_visited sizes verdict start f begins x i).fronts b less))

  -- if the prefix is not open, the prefix beside it is judged next
  pub closed_next : is_open (verdict p) ≡ false → (next : List ℕ) → next_beside sizes p ≡ Some next → (slice_get (visited sizes verdict start) (suc k) ≡ Some next) × (comes_before f next ≡ true)
  closed_next closed next e =
      let here = judged_is in
      let beside = beside_is sizes p next here.admitted e in
      let less : comes_before f next ≡ true = elim here.reaches_to [
        | inl b ↦ before_beside p next f beside.after beside.apart b
        | inr l ↦ before_trans f p next l beside.after
      ] in
      let there : IsVisited sizes verdict f next = record {
        admitted = beside.admitted;
        fronts = beside.fronts (λ front. is_open (verdict front)) here.fronts;
        reaches_to = inr less;
      } in (
        next_at (visited sizes verdict start) k p next (visited_sorted sizes verdict start) at_k
            (into_visited sizes verdict start f begins next some w there) beside.after
            (λ x i l. beside.least x (in_visited sizes verdict start f begins x i).admitted l (apart_from closed x i l)),
        less,
      )

  pub closed_none : is_open (verdict p) ≡ false → next_beside sizes p ≡ None → slice_get (visited sizes verdict start) (suc k) ≡ None
  closed_none closed e =
      none_at (visited sizes verdict start) k p (visited_sorted sizes verdict start) at_k
      (λ x i l. false≢true (sym (apart_from closed x i l) ∙ none_beside sizes p x e judged_is.admitted (in_visited sizes verdict start f begins x i).admitted l))
