-- The outcomes of the choices of a space, from the first choice of each way.
use Rattle.std.proofs.Common.{◌≡◌, ◌⊎◌, ℕ, zero, suc, ◌+◌, ◌<◌, Bool, true, false, cond, ◌&&◌}
use Rattle.std.proofs.Common.{◌||◌, List, [], ◌∷◌, ◌++◌, map, fold, length, take, get_or, nat_eq}
use Rattle.std.proofs.Common.{refl, ap, sym, ◌∙◌, subst, inl, inr, arith}
use Rattle.std.specs.Prelude.{⊤}
use Rattle.std.specs.Global.{Vec}
use Rattle.std.specs.List.{list_any, AllPairs}
use Rattle.std.specs.List.Sorted.{IsSortedBy}
use Rattle.std.specs.Cmp.{IsEquivalence, IsStrictWeakOrder}
use Rattle.std.specs.Cmp.Lexicographic.{lists_equiv, nat_list_eq_equiv, pointwise, slice_cmp}
use Rattle.std.specs.FinMap.{nat_cmp-IsAntisymmetric, slice_cmp-IsAntisymmetric}
use Rattle.std.specs.Ordering.{nat_cmp, is_lt, ordering_reverse}
use Rattle.std.specs.declared.cmp.Ordering.{Ordering}
use Rattle.std.specs.declared.cmp.Ordering.TheVariants.{Less, Equal, Greater}
use Rattle.std.proofs.lemmas.Bool.{cases_Bool, or_right}
use Rattle.std.proofs.lemmas.Cmp.{nat_list_cmp_total}
use Rattle.std.proofs.lemmas.List.{map-append, take_more}
use Rattle.std.proofs.lemmas.List.Sorted.{ranks_by, sorted_far}
use Rattle.std.proofs.lemmas.List.Sums.{fold-append}
use Rattle.std.proofs.lemmas.List.Folds.{list_any-append}
use Rattle.std.proofs.lemmas.Grind.{common_steps}
use Rattle.am_universe.specs.LabelSet.{label_set_of}
use Rattle.am_universe.specs.Text.{same_text}
use Rattle.am_universe.proofs.ListLemmas.{IsIn, IsIn-from_Contains, Contains-from_IsIn}
use Rattle.am_labels.specs.Space.{Space, all_choices}
use Rattle.am_labels.proofs.SpaceLaws.{space_choices, space_choices_sorted}
use Rattle.am_search.specs.Start.{comes_before}
use Rattle.am_search.proofs.ChoiceOrder.{Ascends, above_first, ascends_rest, not_itself, not_back}
use Rattle.am_outcomes.specs.Configurations.{Configurations, tried_of}
use Rattle.am_outcomes.specs.Outcomes.{same_outcome, with_first, with_outcome, outcome_of, outcomes_of}
use Rattle.am_outcomes.specs.OutcomesView.{lists_view, entry_view}
use Rattle.am_outcomes.specs.FirstsOfWays.{AreFirstsOfWays}
use Rattle.am_outcomes.proofs.WayReceivers.{same_on_way}

-- ---- The first of each key.

pub same_outcome_laws : IsEquivalence same_outcome
same_outcome_laws = lists_equiv nat_list_eq_equiv

module _ {K A : Type 0} (same : K → K → Bool) where
  abbrev pub is_there : List (K × A) → K → Bool
  is_there found key = list_any (λ e. same key e.0) found

  there_or_not : (b : Bool) (found : List (K × A)) (one : K × A) (key : K)
      → is_there found key ≡ true
      → is_there (cond b found (found ++ one ∷ [])) key ≡ true
  there_or_not true found one key h = h
  there_or_not false found one key h = grind (arith, common_steps, list_any-append)

  -- what is added is there
  now_there : ((k : K) → same k k ≡ true) → (found : List (K × A)) (x : K × A)
      → is_there (with_first same found x) x.0 ≡ true
  now_there itself found x = grind (arith, common_steps, cases_Bool, list_any-append, or_right)

-- ---- Outcomes in memory.

abbrev pub same_list : Vec ℕ → Vec ℕ → Bool
same_list a b = pointwise nat_eq a.items b.items

abbrev pub same_kept : Vec (Vec ℕ) → Vec (Vec ℕ) → Bool
same_kept a b = pointwise same_list a.items b.items

same_seen : (xs ys : List (Vec ℕ))
    → pointwise same_list xs ys ≡ pointwise same_text (lists_view xs) (lists_view ys)
same_seen [] [] = refl
same_seen [] (y ∷ ys) = refl
same_seen (x ∷ xs) [] = refl
same_seen (x ∷ xs) (y ∷ ys) = ap (λ b. pointwise nat_eq x.items y.items && b) (same_seen xs ys)

abbrev Entry : Type 0
Entry = Vec (Vec ℕ) × List ℕ

there_alike : (entries : List Entry) (key : Vec (Vec ℕ))
    → list_any (λ e. same_kept key e.0) entries
    ≡ list_any (λ e. same_outcome (lists_view key.items) e.0) (map entry_view entries)
there_alike [] key = refl
there_alike (e ∷ entries) key =
    λ i. same_seen key.items e.0.items i || there_alike entries key i

if_there : (b : Bool) (entries : List Entry) (one : Entry)
    → map entry_view (cond b entries (entries ++ one ∷ []))
    ≡ cond b (map entry_view entries) (map entry_view entries ++ entry_view one ∷ [])
if_there true entries one = refl
if_there false entries one = map-append entry_view entries (one ∷ [])

pub seen_alike : (entries : List Entry) (one : Entry)
    → map entry_view (with_first same_kept entries one)
    ≡ with_first same_outcome (map entry_view entries) (entry_view one)
seen_alike entries one =
    if_there (list_any (λ e. same_kept one.0 e.0) entries) entries one
    ∙ ap (λ b. cond b (map entry_view entries) (map entry_view entries ++ entry_view one ∷ []))
    (there_alike entries one.0)

-- an outcome that is there adds nothing
pub there_already : (entries : List Entry) (one : Entry)
    → list_any (λ e. same_kept one.0 e.0) entries ≡ true
    → entries ≡ with_first same_kept entries one
there_already entries one there = sym (ap (λ b. cond b entries (entries ++ one ∷ [])) there)

-- ---- Choices in order.

-- no choice comes before one that stands in front of it
abbrev InOrder : List (List ℕ) → Type 0
InOrder [] = ⊤
InOrder (x ∷ xs) = ((y : List ℕ) → IsIn xs y → comes_before y x ≡ false) × InOrder xs

order_of_ascending : (xs : List (List ℕ)) → Ascends xs → InOrder xs
order_of_ascending [] up = tt
order_of_ascending (x ∷ xs) up = (
  λ y there. not_back x y (above_first x xs y up there),
  order_of_ascending xs (ascends_rest x xs up),
)

total : IsStrictWeakOrder comes_before
total = ranks_by nat_list_cmp_total (λ c. c)

order_of_sorted : (xs : List (List ℕ)) → IsSortedBy comes_before xs → InOrder xs
order_of_sorted xs up =
    by xs (λ i j d below inside. sorted_far comes_before total xs up i j d (omega (arith, below)) inside)
  where
    by : (xs : List (List ℕ)) → AllPairs (λ x y. comes_before y x ≡ false) xs → InOrder xs
    by [] apart = tt
    by (x ∷ xs) apart = (
      λ y there.
          let r = Contains-from_IsIn xs y there in
          subst (λ (z : List ℕ). comes_before z x ≡ false) r.2
          (apart zero (suc r.0) y (omega arith) (omega (arith, r.1))),
      by xs (λ i j d below inside.
          apart (suc i) (suc j) d (omega (arith, below)) (omega (arith, inside))),
    )

not_before_trans : (x y z : List ℕ) → comes_before x y ≡ false → comes_before y z ≡ false
    → comes_before x z ≡ false
not_before_trans x y z = total.chain x y z

-- of two different choices one comes before the other
same_choice : (x y : List ℕ) → comes_before x y ≡ false → comes_before y x ≡ false → x ≡ y
same_choice x y before behind = by (slice_cmp nat_cmp x y) refl
  where
    by : (o : Ordering) → slice_cmp nat_cmp x y ≡ o → x ≡ y
    by Less e = let apart : true ≡ false = sym (ap is_lt e) ∙ before in absurd cc
    by Equal e = slice_cmp-IsAntisymmetric nat_cmp-IsAntisymmetric x y e
    by Greater e =
        let back : comes_before y x ≡ true =
        ap is_lt (nat_list_cmp_total.antisymm y x ∙ ap ordering_reverse e) in
        let apart : true ≡ false = sym back ∙ behind in absurd cc

-- ---- Only the first choices of ways are looked at.

module _ (s : Space) (k : Configurations) where
  abbrev Found : Type 0
  Found = List (List (List ℕ) × List ℕ)

  abbrev outcome_of_choice : List ℕ → List (List ℕ)
  outcome_of_choice c = outcome_of k (label_set_of s.labels c)

  -- the outcomes of some choices, behind those that are found
  abbrev pub outcomes_after : Found → List (List ℕ) → Found
  outcomes_after found choices = fold (with_first same_outcome) found (map (with_outcome s k) choices)

  -- the outcome of a choice is found, or is that of one of some others that does not come after it
  abbrev IsKnown : Found → List (List ℕ) → List ℕ → Type 0
  IsKnown found ys x =
      (is_there same_outcome found (outcome_of_choice x) ≡ true)
      ⊎ ((y : List ℕ) × IsIn ys y × (outcome_of_choice y ≡ outcome_of_choice x) × (comes_before x y ≡ false))

  abbrev AreKnown : Found → List (List ℕ) → List (List ℕ) → Type 0
  AreKnown found ys xs = (x : List ℕ) → IsIn xs x → IsKnown found ys x

  there_anyway : (found : Found) (x : List ℕ) → is_there same_outcome found (outcome_of_choice x) ≡ true
      → with_first same_outcome found (with_outcome s k x) ≡ found
  there_anyway found x there =
      ap (λ b. cond b found (found ++ with_outcome s k x ∷ [])) there

  -- whoever is known by a choice whose outcome is found is known without it
  known_without : (found : Found) (y : List ℕ) (ys : List (List ℕ)) (x : List ℕ)
      → is_there same_outcome found (outcome_of_choice y) ≡ true → IsKnown found (y ∷ ys) x
      → IsKnown found ys x
  known_without found y ys x there (inl already) = inl already
  known_without found y ys x there (inr (z, inl first, same, before)) =
      inl (subst (λ k. is_there same_outcome found k ≡ true) (ap outcome_of_choice first ∙ same) there)
  known_without found y ys x there (inr (z, inr later, same, before)) =
      inr (z, later, same, before)

  known_more : (found : Found) (one : List ℕ) (ys : List (List ℕ)) (x : List ℕ)
      → IsKnown found ys x → IsKnown (with_first same_outcome found (with_outcome s k one)) ys x
  known_more found one ys x (inl there) =
      inl (there_or_not same_outcome (is_there same_outcome found (outcome_of_choice one)) found
      (with_outcome s k one) (outcome_of_choice x) there)
  known_more found one ys x (inr by) = inr by

  -- the first of some choices in order does not come after another that knows one of them
  not_after_first : (x y z : List ℕ) (ys : List (List ℕ)) → IsIn (y ∷ ys) z
      → InOrder (y ∷ ys) → comes_before x z ≡ false → comes_before x y ≡ false
  not_after_first x y z ys (inl first) up before =
      subst (λ (w : List ℕ). comes_before x w ≡ false) (sym first) before
  not_after_first x y z ys (inr later) up before = not_before_trans x z y before (up.0 z later)

  -- two lists of choices in order, each of which knows the other, add the same
  same_outcomes : (xs ys : List (List ℕ)) (found : Found) → InOrder xs → InOrder ys
      → AreKnown found ys xs → AreKnown found xs ys
      → outcomes_after found xs ≡ outcomes_after found ys
  same_outcomes [] [] found up ups known knowns = refl
  same_outcomes (x ∷ xs) [] found up ups known knowns = elim (known x (inl refl)) [
    | inl there ↦
        ap (λ f. outcomes_after f xs) (there_anyway found x there)
        ∙ same_outcomes xs [] found up.1 ups (λ z i. known z (inr i)) (λ z i. absurd i)
    | inr by ↦ absurd by.1
  ]
  same_outcomes [] (y ∷ ys) found up ups known knowns = elim (knowns y (inl refl)) [
    | inl there ↦
        same_outcomes [] ys found up ups.1 (λ z i. absurd i) (λ z i. knowns z (inr i))
        ∙ sym (ap (λ f. outcomes_after f ys) (there_anyway found y there))
    | inr by ↦ absurd by.1
  ]
  same_outcomes (x ∷ xs) (y ∷ ys) found up ups known knowns = elim (known x (inl refl)) [
    | inl there ↦
        ap (λ f. outcomes_after f xs) (there_anyway found x there)
        ∙ same_outcomes xs (y ∷ ys) found up.1 ups (λ z i. known z (inr i))
        (λ z i. known_without found x xs z there (knowns z i))
    | inr by ↦
        elim (knowns y (inl refl)) [
          | inl there ↦
              same_outcomes (x ∷ xs) ys found up ups.1
              (λ z i. known_without found y ys z there (known z i)) (λ z i. knowns z (inr i))
              ∙ sym (ap (λ f. outcomes_after f ys) (there_anyway found y there))
          | inr back ↦
              let equal : x ≡ y =
              same_choice x y (not_after_first x y by.0 ys by.1 ups by.3)
              (not_after_first y x back.0 xs back.1 up back.3) in
              let more = with_first same_outcome found (with_outcome s k x) in
              let there = now_there same_outcome same_outcome_laws.refl found (with_outcome s k x) in
              same_outcomes xs ys more up.1 ups.1
              (λ z i. known_without more y ys z
              (subst (λ w. is_there same_outcome more (outcome_of_choice w) ≡ true) equal there)
              (known_more found x (y ∷ ys) z (known z (inr i))))
              (λ z i. known_without more x xs z there
              (known_more found x (x ∷ xs) z (knowns z (inr i))))
              ∙ ap (λ w. outcomes_after (with_first same_outcome found (with_outcome s k w)) ys) equal
        ]
  ]

  pub outcomes_are : (firsts : List (List ℕ)) → AreFirstsOfWays s (tried_of k) firsts
      → IsSortedBy comes_before firsts → outcomes_after [] firsts ≡ outcomes_of s k
  outcomes_are firsts are up =
      sym (same_outcomes (all_choices s) firsts []
      (order_of_ascending (all_choices s) (space_choices_sorted s)) (order_of_sorted firsts up)
      (λ x i.
      let choice = (space_choices s x).0 (Contains-from_IsIn (all_choices s) x i) in
      let r = are.all x choice in
      inr (
        r.0,
        IsIn-from_Contains firsts r.0 r.1,
        same_on_way (label_set_of s.labels r.0) (label_set_of s.labels x) k r.2,
        (are.each r.0 r.1).before x choice (sym r.2),
      ))
      (λ y i.
      let choice = (are.each y (Contains-from_IsIn firsts y i)).choice in inr (
        y,
        IsIn-from_Contains (all_choices s) y ((space_choices s y).1 choice),
        refl,
        not_itself y,
      )))

  -- ---- One more choice.

  pub one_outcome_more : (choices : List (List ℕ)) (i : ℕ) (choice : List ℕ)
      (now after : List (Vec (Vec ℕ) × List ℕ)) (found : Vec (Vec ℕ)) → i < length choices
      → choice ≡ get_or choices i choice
      → map entry_view now ≡ outcomes_after [] (take i choices)
      → lists_view found.items ≡ outcome_of_choice choice
      → after ≡ with_first same_kept now (found, choice)
      → map entry_view after ≡ outcomes_after [] (take (i + 1) choices)
  one_outcome_more choices i choice now after found within at so_far is adds =
      let more : take (i + 1) choices ≡ take i choices ++ choice ∷ [] =
      take_more choices i choice within ∙ ap (λ c. take i choices ++ c ∷ []) (sym at) in
      ap (map entry_view) adds ∙ seen_alike now (found, choice)
      ∙ (λ j. with_first same_outcome (so_far j) (is j, choice))
      ∙ sym (fold-append (with_first same_outcome) [] (map (with_outcome s k) (take i choices))
      (with_outcome s k choice ∷ []))
      ∙ ap (fold (with_first same_outcome) [])
      (sym (map-append (with_outcome s k) (take i choices) (choice ∷ [])))
      ∙ ap (outcomes_after []) (sym more)
