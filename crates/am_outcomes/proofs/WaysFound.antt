-- The first choices of ways that are found while walks go on.
use Rattle.std.proofs.Common.{◌≡◌, ℕ, zero, suc, ◌+◌, ◌<◌, ◌≤◌, Bool, true, false, List, []}
use Rattle.std.proofs.Common.{◌∷◌, ◌++◌, length, Contains, Some, None, refl, ap, sym, ◌∙◌}
use Rattle.std.proofs.Common.{get_or, append-nil, Bor, Option, ◌-◌, subst, subst₂, inl, inr, arith}
use Rattle.std.specs.Bool.{Decides, beq}
use Rattle.std.specs.List.{AllByRecursion, count_by, find, sum_by}
use Rattle.std.specs.List.Sorted.{IsSortedBy, IsPermutation, IsSortedByClosure}
use Rattle.std.specs.Fn.{Called}
use denote.Param.Members.{Mut}
use Rattle.std.specs.Cmp.{booleans_Decides}
use Rattle.std.specs.Cmp.Lexicographic.{pointwise, pointwise_decides, slice_cmp}
use Rattle.std.specs.Ordering.{nat_cmp, is_lt}
use Rattle.std.specs.declared.cmp.Ordering.{Ordering}
use Rattle.std.proofs.lemmas.Bool.{both_ways, cases_Bool}
use Rattle.std.proofs.lemmas.Bool.Decides.{same_from_decides}
use Rattle.std.proofs.lemmas.Cmp.{nat_list_cmp_total}
use Rattle.std.proofs.lemmas.List.Sorted.{Contains-permutation, IsPermutation-sym, ranks_by}
use Rattle.std.proofs.lemmas.Fn.{always_returns_same}
use Rattle.std.proofs.lemmas.Grind.{common_steps}
use Rattle.std.proofs.lemmas.Option.{slice_get_read}
use Rattle.std.proofs.lemmas.List.Sums.{sum_by-append, sum_by-cons, count_by-le-length}
use Rattle.am_universe.proofs.DistinctLists.{all_pushed}
use Rattle.am_universe.proofs.ListLemmas.{IsIn, IsIn-from_Contains, Contains-from_IsIn, IsIn-split}
use Rattle.am_universe.proofs.ListLemmas.{AllByRecursion-each}
use Rattle.am_universe.specs.LabelSet.{label_set_of}
use Rattle.am_labels.specs.Matcher.{Matcher, all_hold}
use Rattle.am_labels.specs.Space.{Space, IsChoiceOf, all_choices}
use Rattle.am_labels.proofs.SpaceLaws.{space_choices, space_choices_sorted}
use Rattle.am_judged_lists.specs.Cube.{MaskedLabels, matches}
use Rattle.am_search.specs.Start.{comes_before}
use Rattle.am_search.proofs.ChoiceOrder.{Ascends, above_first, ascends_rest, not_itself, not_back}
use Rattle.am_first_sets.proofs.FirstPossible.{is_found, none_passes}
use Rattle.am_outcomes.specs.Configurations.{Tried}
use Rattle.am_outcomes.specs.declared.limits.TheConstants.{MAX_WAYS}
use Rattle.am_outcomes.specs.declared.steps.Step.{Step}
use Rattle.am_outcomes.specs.declared.walks.Walk.{Walk}
use Rattle.am_outcomes.specs.FirstsOfWays.{IsFirstOfWay, AreFirstsOfWays}
use Rattle.am_outcomes.specs.MatchedPart.{matched_part}
use Rattle.am_outcomes.specs.Steps.{AreSteps, GoesFrom}
use Rattle.am_outcomes.specs.Walks.{is_on, IsWalk, IsPartOf, IsFirstWalk, AreBoxesOf}
use Rattle.am_outcomes.specs.Walks.{AreBranches, AddsBranches}
use Rattle.am_outcomes.specs.Ways.{way_of, HaveDistinctWays, HaveManyWays}
use Rattle.am_outcomes.proofs.MatchedPart.{choice_of_part, choice_there}
use Rattle.am_outcomes.proofs.WalkLemmas.{one_if, count_one}

-- ---- Lists.

all_joined : {X : Type 0} (P : X → Type 0) (xs ys : List X) → AllByRecursion P xs
    → AllByRecursion P ys → AllByRecursion P (xs ++ ys)
all_joined P [] ys all more = more
all_joined P (x ∷ xs) ys all more = (all.0, all_joined P xs ys all.1 more)

counted_both : {X : Type 0} (test : X → Bool) (xs ys : List X)
    → count_by test (xs ++ ys) ≡ count_by test xs + count_by test ys
counted_both test xs ys = sum_by-append (λ x. one_if (test x)) xs ys

counted_front : {X : Type 0} (test : X → Bool) (x : X) (xs : List X)
    → count_by test (x ∷ xs) ≡ one_if (test x) + count_by test xs
counted_front test x xs = sum_by-cons (λ y. one_if (test y)) x xs

-- one that is counted
one_counted : {X : Type 0} (test : X → Bool) (xs : List X) → 0 < count_by test xs
    → (x : X) × IsIn xs x × (test x ≡ true)
one_counted test [] some = absurd (omega (arith, some))
one_counted test (x ∷ xs) some = elim (cases_Bool (test x)) [
  | inl passes ↦ (x, inl refl, passes)
  | inr fails ↦
      let r = one_counted test xs (grind (arith, common_steps, counted_front)) in
      (r.0, inr r.1, r.2)
]

some_counted : {X : Type 0} (test : X → Bool) (xs : List X) (x : X) → IsIn xs x → test x ≡ true
    → 0 < count_by test xs
some_counted test [] x i e = absurd i
some_counted test (y ∷ xs) x (inl same) e = grind (arith, common_steps, counted_front)
some_counted test (y ∷ xs) x (inr i) e =
    grind (arith, common_steps, counted_front, some_counted test xs x i e)

-- ---- The first that passes a test.

none_before : (test : List ℕ → Bool) (xs : List (List ℕ)) (x c : List ℕ) → Ascends xs
    → find test xs ≡ Some x → IsIn xs c → test c ≡ true → comes_before c x ≡ false
none_before test [] x c up e i passes = absurd i
none_before test (y ∷ xs) x c up e (inl first) passes =
    grind (arith, common_steps, cases_Bool, not_itself)
none_before test (y ∷ xs) x c up e (inr later) passes =
    grind (
      arith,
      common_steps,
      cases_Bool,
      not_back,
      above_first,
      ascends_rest,
      none_before test xs x c,
    )

-- ---- How far the walks still are from the end.

abbrev pub three : ℕ → ℕ
three zero = 1
three (suc n) = three n + three n + three n

-- what is left of a walk: at a step it can become two, and both are nearer to the end
abbrev pub weight : List Walk → ℕ
weight walks = sum_by (λ walk. three walk.next) walks

three_some : (n : ℕ) → 0 < three n
three_some zero = omega arith
three_some (suc n) = omega (arith, three_some n)

three_more : (m n : ℕ) → m ≤ n → three m ≤ three n
three_more zero n h = three_some n
three_more (suc m) zero h = absurd (omega (arith, h))
three_more (suc m) (suc n) h = omega (arith, three_more m n (omega (arith, h)))

three_times : (m n : ℕ) → m < n → three m + three m + three m ≤ three n
three_times m zero h = absurd (omega (arith, h))
three_times m (suc n) h = omega (arith, three_more m n (omega (arith, h)))

weight_joined : (walks more : List Walk) → weight (walks ++ more) ≡ weight walks + weight more
weight_joined walks more = sum_by-append (λ (w : Walk). three w.next) walks more

weight_front : (walk : Walk) (walks : List Walk)
    → weight (walk ∷ walks) ≡ three walk.next + weight walks
weight_front walk walks = sum_by-cons (λ (w : Walk). three w.next) walk walks

lighter_alone : (walk : Walk) (branches : List Walk)
    → AllByRecursion (λ b. b.next < walk.next) branches → length branches ≤ 2
    → weight branches < three walk.next
lighter_alone walk [] nearer few = three_some walk.next
lighter_alone walk (a ∷ []) nearer few =
    let front = weight_front a [] in
    let times = three_times a.next walk.next nearer.0 in
    let some = three_some a.next in
    omega (arith, front, times, some)
lighter_alone walk (a ∷ (b ∷ [])) nearer few =
    let front = weight_front a (b ∷ []) in
    let back = weight_front b [] in
    let times = three_times a.next walk.next nearer.0 in
    let again = three_times b.next walk.next nearer.1.0 in
    let some = three_some a.next in
    let too = three_some b.next in
    omega (arith, front, back, times, again, some, too)
lighter_alone walk (a ∷ (b ∷ (c ∷ more))) nearer few = absurd (omega (arith, few))

pub lighter : (walks : List Walk) (walk : Walk) (branches : List Walk)
    → AllByRecursion (λ b. b.next < walk.next) branches → length branches ≤ 2
    → weight (walks ++ branches) < weight (walks ++ walk ∷ [])
lighter walks walk branches nearer few =
    let before = weight_joined walks (walk ∷ []) in
    let one = weight_front walk [] in
    let after = weight_joined walks branches in
    let less = lighter_alone walk branches nearer few in
    omega (arith, before, one, after, less)

-- ---- Choices with the same way.

module _ (s : Space) (t : Tried) where
  abbrev same_way : List ℕ → List ℕ → Bool
  same_way c x = pointwise beq (way_of s t x) (way_of s t c)

  same_decided : (c x : List ℕ)
      → Decides (same_way c x) (way_of s t x ≡ way_of s t c)
  same_decided c x = pointwise_decides booleans_Decides (way_of s t x) (way_of s t c)

-- ---- Walks and what they have found.

module _ (all : Space) (ms : List Matcher) (t : Tried) (steps : List Step) where
  -- the walks go through the part of a space that some matchers match
  abbrev pub s : Space
  s = matched_part all ms

  part : IsPartOf s all
  part c choice = (choice_there all ms c choice).0

  -- Each choice of the part is on one of the walks, or has the way of one of those that are found,
  -- and only once.
  pub record AreWalked (walks : List Walk) (firsts : List (List ℕ)) : Type 0 where
    pub each : AllByRecursion (IsWalk all s t steps) walks
    pub found : (first : List ℕ) → Contains firsts first → IsFirstOfWay s t first
    pub once : (c : List ℕ) → IsChoiceOf s c
        → count_by (is_on c) walks + count_by (same_way s t c) firsts ≡ 1

  none_there : (x : List ℕ) → Contains [] x → ⊥
  none_there x there = IsIn-from_Contains [] x there

  -- a cube matches exactly the choices of the part
  module _ (cube : MaskedLabels)
      (exact : (c : List ℕ) → IsChoiceOf all c
      → matches cube c ≡ all_hold (label_set_of all.labels c) ms) where
    matched : (c : List ℕ) → IsChoiceOf s c → matches cube c ≡ true
    matched c choice = let r = choice_there all ms c choice in exact c r.0 ∙ r.1

    pub not_started : ((c : List ℕ) → IsChoiceOf all c → matches cube c ≡ false) → AreWalked [] []
    not_started none = record {
      each = tt;
      found = λ x there. absurd (none_there x there);
      once = λ c choice.
          absurd (both_ways (matches cube c) (none c (part c choice)) (matched c choice));
    }

    pub started : (walk : Walk) → IsFirstWalk all cube (length steps) walk
        → ((c : List ℕ) → IsChoiceOf s c → GoesFrom steps (length steps) c (way_of s t c))
        → AreWalked (walk ∷ []) []
    started walk is goes = record {
      each = (
        record {
          near = omega (arith, is.at);
          own = λ c choice on.
              choice_of_part all ms c choice (sym (exact c choice) ∙ sym (is.on c) ∙ on);
          boxes = is.boxes;
          begun = [];
          goes = λ c choice on. (
            way_of s t c,
            refl,
            subst (λ (n : ℕ). GoesFrom steps n c (way_of s t c)) (sym is.at) (goes c choice),
          );
          every = λ c choice rest way. is.on c ∙ matched c choice;
        },
        tt,
      );
      found = λ x there. absurd (none_there x there);
      once = λ c choice.
          let one = count_one (is_on c) walk in
          let on : one_if (is_on c walk) ≡ 1 = ap one_if (is.on c ∙ matched c choice) in
          omega (arith, one, on);
    }

  pub branched : (walks : List Walk) (walk : Walk) (branches : List Walk) (firsts : List (List ℕ))
      → AreWalked (walks ++ walk ∷ []) firsts → AreBranches all s t steps walk branches
      → AreWalked (walks ++ branches) firsts
  branched walks walk branches firsts so_far are = record {
    each = all_joined (IsWalk all s t steps) walks branches
        (all_pushed (IsWalk all s t steps) walks walk so_far.each).0 are.each;
    found = so_far.found;
    once = λ c choice.
        let before = counted_both (is_on c) walks (walk ∷ []) in
        let one = count_one (is_on c) walk in
        let after = counted_both (is_on c) walks branches in
        let split = are.split c choice in
        let was = so_far.once c choice in
        omega (arith, before, one, after, split, was);
  }

  pub last_walk : (walks : List Walk) (walk : Walk) (firsts : List (List ℕ))
      → AreWalked (walks ++ walk ∷ []) firsts → IsWalk all s t steps walk
  last_walk walks walk firsts so_far = (all_pushed (IsWalk all s t steps) walks walk so_far.each).1

  -- ---- The end of a walk.

  -- no choice is on it
  pub ended_empty : (walks : List Walk) (walk : Walk) (firsts : List (List ℕ))
      → AreWalked (walks ++ walk ∷ []) firsts → None ≡ find (λ c. is_on c walk) (all_choices all)
      → AreWalked walks firsts
  ended_empty walks walk firsts so_far none = record {
    each = (all_pushed (IsWalk all s t steps) walks walk so_far.each).0;
    found = so_far.found;
    once = λ c choice.
        let before = counted_both (is_on c) walks (walk ∷ []) in
        let one = count_one (is_on c) walk in
        let off : one_if (is_on c walk) ≡ 0 =
        ap one_if (none_passes all (λ d. is_on d walk) none c (part c choice)) in
        let was = so_far.once c choice in
        omega (arith, before, one, off, was);
  }

  no_way_left : (c : List ℕ) (begun rest way : List Bool) → GoesFrom steps 0 c rest
      → way ≡ begun ++ rest → way ≡ begun
  no_way_left c begun [] way goes e = e ∙ append-nil begun
  no_way_left c begun (b ∷ rest) way goes e = absurd (omega (arith, goes.2))

  module _ (walk : Walk) (is : IsWalk all s t steps walk) (at_end : walk.next ≡ 0) (x : List ℕ)
      (first : Some x ≡ find (λ c. is_on c walk) (all_choices all)) where
    its_way : (c : List ℕ) → IsChoiceOf s c → is_on c walk ≡ true → way_of s t c ≡ is.begun
    its_way c choice on =
        let told = is.goes c choice on in
        no_way_left c is.begun told.0 (way_of s t c)
        (subst (λ (n : ℕ). GoesFrom steps n c told.0) at_end told.2) told.1

    found_there : IsChoiceOf s x × (is_on x walk ≡ true)
    found_there =
        let r = is_found (λ c. is_on c walk) (all_choices all) x (sym first) in
        (is.own x ((space_choices all x).0 (Contains-from_IsIn (all_choices all) x r.0)) r.1, r.1)

    on_if_same : (c : List ℕ) → IsChoiceOf s c → way_of s t x ≡ way_of s t c
        → is_on c walk ≡ true
    on_if_same c choice same =
        is.every c choice []
        (sym same ∙ its_way x found_there.0 found_there.1 ∙ sym (append-nil is.begun))

    on_exactly : (c : List ℕ) → IsChoiceOf s c → same_way s t c x ≡ is_on c walk
    on_exactly c choice =
        same_from_decides (same_way s t c x) (is_on c walk)
        (same_decided s t c x) (
          λ on. its_way x found_there.0 found_there.1 ∙ sym (its_way c choice on),
          on_if_same c choice,
        )

    is_first : IsFirstOfWay s t x
    is_first = record {
      choice = found_there.0;
      before = λ c choice same.
          none_before (λ d. is_on d walk) (all_choices all) x c (space_choices_sorted all) (sym first)
          (IsIn-from_Contains (all_choices all) c ((space_choices all c).1 (part c choice)))
          (on_if_same c choice (sym same));
    }

    -- the first choice of its way is found
    pub ended : (walks : List Walk) (firsts : List (List ℕ))
        → AreWalked (walks ++ walk ∷ []) firsts → AreWalked walks (firsts ++ x ∷ [])
    ended walks firsts so_far = record {
      each = (all_pushed (IsWalk all s t steps) walks walk so_far.each).0;
      found = λ y there. elim (IsIn-split firsts (x ∷ []) y
          (IsIn-from_Contains (firsts ++ x ∷ []) y there)) [
            | inl old ↦ so_far.found y (Contains-from_IsIn firsts y old)
            | inr (inl new) ↦ subst (IsFirstOfWay s t) new is_first
            | inr (inr none) ↦ absurd none
          ];
      once = λ c choice.
          let before = counted_both (is_on c) walks (walk ∷ []) in
          let one = count_one (is_on c) walk in
          let more = counted_both (same_way s t c) firsts (x ∷ []) in
          let new = count_one (same_way s t c) x in
          let same : one_if (same_way s t c x) ≡ one_if (is_on c walk) =
          ap one_if (on_exactly c choice) in
          let was = so_far.once c choice in
          omega (arith, before, one, more, new, same, was);
    }

  -- ---- A walk that was taken from the others.

  module _ (old walks : List Walk) (walk : Walk) (firsts : List (List ℕ))
      (taken : old ≡ walks ++ walk ∷ []) (so_far : AreWalked old firsts) where
    apart_from_it : AreWalked (walks ++ walk ∷ []) firsts
    apart_from_it = subst (λ (ws : List Walk). AreWalked ws firsts) taken so_far

    pub taken_walk : IsWalk all s t steps walk
    taken_walk = last_walk walks walk firsts apart_from_it

    -- it goes on with its branches
    pub gone_on : (new : List Walk) (step : Step) → 0 < walk.next
        → step ≡ get_or steps (walk.next - 1) step → AreSteps steps
        → AddsBranches all walks walk step new → AreWalked new firsts × (weight new < weight old)
    gone_on new step more at are adds =
        let near = taken_walk.near in
        let k = walk.next - 1 in
        let added = adds s t steps k part taken_walk (omega (arith, more))
        (slice_get_read steps (length steps) k step refl (omega (arith, more, near)) at) are in (
          subst (λ (ws : List Walk). AreWalked ws firsts) (sym added.1)
              (branched walks walk added.0 firsts apart_from_it added.2),
          subst₂ (λ (xs ys : List Walk). weight xs < weight ys) (sym added.1) (sym taken)
              (lighter walks walk added.0 added.2.nearer added.2.at_most),
        )

    module _ (found : Option (List ℕ))
        (is : AreBoxesOf all walk → found ≡ find (λ c. is_on c walk) (all_choices all)) where
      found_on : found ≡ find (λ c. is_on c walk) (all_choices all)
      found_on = is taken_walk.boxes

      -- it ends with the first of its choices
      pub found_one : (x : List ℕ) → found ≡ Some x → walk.next ≡ 0
          → AreWalked walks (firsts ++ x ∷ [])
      found_one x first at_end =
          ended walk taken_walk at_end x (sym first ∙ found_on) walks firsts apart_from_it

      -- or it has no choice
      pub found_none : found ≡ None → AreWalked walks firsts
      found_none none = ended_empty walks walk firsts apart_from_it (sym none ∙ found_on)

  -- ---- When no walk is left.

  pub all_found : (walks : List Walk) (firsts : List (List ℕ)) → length walks ≡ 0
      → AreWalked walks firsts → AreFirstsOfWays s t firsts
  all_found walks firsts none so_far = record {
    each = so_far.found;
    all = λ c choice.
        let once = so_far.once c choice in
        let off = count_by-le-length (is_on c) walks in
        let r = one_counted (same_way s t c) firsts (omega (arith, once, off, none)) in
        (r.0, Contains-from_IsIn firsts r.0 r.1, (same_decided s t c r.0).0 r.2);
  }

  -- ---- Too many ways.

  distinct : (firsts : List (List ℕ))
      → ((c : List ℕ) → IsIn firsts c → count_by (same_way s t c) firsts ≤ 1)
      → HaveDistinctWays s t firsts
  distinct [] at_most = tt
  distinct (x ∷ firsts) at_most = (
    AllByRecursion-each (λ y. way_of s t x ≡ way_of s t y → ⊥) firsts (λ y i same.
        let front = counted_front (same_way s t x) x firsts in
        let itself : one_if (same_way s t x x) ≡ 1 =
        ap one_if ((same_decided s t x x).1 refl) in
        let other = some_counted (same_way s t x) firsts y i ((same_decided s t x y).1 (sym same)) in
        let most = at_most x (inl refl) in
        absurd (omega (arith, front, itself, other, most))),
    distinct firsts (λ c i.
        let front = counted_front (same_way s t c) x firsts in
        let most = at_most c (inr i) in omega (arith, front, most)),
  )

  pub many_ways : (walks : List Walk) (firsts : List (List ℕ)) → AreWalked walks firsts
      → MAX_WAYS < length firsts → HaveManyWays s t
  many_ways walks firsts so_far many =
      let choice = λ (c : List ℕ) (i : IsIn firsts c).
      (so_far.found c (Contains-from_IsIn firsts c i)).choice in
      record {
        choices = firsts;
        each = AllByRecursion-each (IsChoiceOf s) firsts choice;
        apart = distinct firsts (λ c i.
            let once = so_far.once c (choice c i) in omega (arith, once));
        many = many;
      }

module _ (s : Space) (t : Tried) where
  -- ---- In declared order.

  pub permuted : (xs ys : List (List ℕ)) → IsPermutation xs ys → AreFirstsOfWays s t xs
      → AreFirstsOfWays s t ys
  permuted xs ys same are = record {
    each = λ x there. are.each x (Contains-permutation ys xs x (IsPermutation-sym xs ys same) there);
    all = λ c choice.
        let r = are.all c choice in (r.0, Contains-permutation xs ys r.0 same r.1, r.2);
  }

-- a closure that compares two choices sorts them in declared order
pub sorted_by_closure : {F : Type 0} {g : Mut F (Bor (List ℕ) × (Bor (List ℕ) × Unit {0})) Ordering}
    {f : F} (xs : List (List ℕ)) → IsSortedByClosure g f xs
    → ((a : Bor (List ℕ) × (Bor (List ℕ) × Unit {0})) (r : Ordering) (f' : F) → Called g f a r f'
    → (r ≡ slice_cmp nat_cmp a.0.now a.1.0.now) × (f' ≡ f))
    → IsSortedBy comes_before xs
sorted_by_closure {g = g} {f = f} xs sorted compares =
    sorted comes_before (ranks_by nat_list_cmp_total (λ c. c))
    (always_returns_same g (λ a r. is_lt r ≡ comes_before a.0.now a.1.0.now) f
    (λ a r f' called.
    let told = compares a r f' called in (ap is_lt told.0, told.1)))
