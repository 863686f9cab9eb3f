-- The walks on which the choices of a walk go on.
use Rattle.std.proofs.Common.{◌≡◌, ℕ, ◌+◌, ◌<◌, ◌≤◌, Bool, true, false, cond, List, []}
use Rattle.std.proofs.Common.{◌∷◌, ◌++◌, slice_get, Some, append_assoc, refl, ap, sym, ◌∙◌}
use Rattle.std.proofs.Common.{Bor, subst, inl, inr, arith}
use Rattle.std.specs.Prelude.{not, ◌&&◌}
use Rattle.std.specs.List.{count_by}
use Rattle.std.proofs.lemmas.Bool.{cases_Bool, and_from, and_parts}
use Rattle.std.proofs.lemmas.List.{append_cancel_left}
use Rattle.std.proofs.lemmas.List.Folds.{list_all-append}
use Rattle.std.proofs.lemmas.List.Sums.{sum_by-cons}
use Rattle.std.proofs.lemmas.Grind.{common_steps}
use Rattle.std.proofs.lemmas.Option.{same_Some, slice_get_within}
use Rattle.am_labels.specs.Space.{Space, IsChoiceOf}
use Rattle.am_judged_lists.specs.Cube.{MaskedLabels, matches}
use Rattle.am_judged_lists.specs.Boxes.{IsInBox}
use Rattle.am_first_sets.specs.Solving.{avoids}
use Rattle.am_first_sets.specs.Meeting.{all_match, meets_cubes}
use Rattle.am_outcomes.specs.Configurations.{Tried}
use Rattle.am_outcomes.specs.declared.steps.Step.{Step}
use Rattle.am_outcomes.specs.declared.walks.Walk.{Walk}
use Rattle.am_outcomes.specs.Steps.{AreSteps, GoesFrom, step_after}
use Rattle.am_outcomes.specs.Walks.{is_on, IsWalk, AreAllOn, AreBoxesOf, AreBranches, IsPartOf}
use Rattle.am_outcomes.specs.Walks.{known_box, own_or}
use Rattle.am_outcomes.specs.Ways.{way_of}

-- ---- One cube more.

abbrev Cubes : Type 0
Cubes = List (Bor MaskedLabels)

wanted_with : (may all none : Bool) → (((all && (may && true)) && none) ≡ ((all && none) && may))
wanted_with may all none = grind (arith, common_steps, cases_Bool)

unwanted_with : (must all none : Bool)
    → ((all && (none && (not must && true))) ≡ ((all && none) && not must))
unwanted_with must all none = grind (arith, common_steps, cases_Bool)

meets_wanted : (wanted unwanted : Cubes) (cube : Bor MaskedLabels) (c : List ℕ)
    → meets_cubes (wanted ++ cube ∷ []) unwanted c
    ≡ (meets_cubes wanted unwanted c && matches cube.now c)
meets_wanted wanted unwanted cube c =
    ap (λ b. b && avoids unwanted c)
    (list_all-append (λ (x : Bor MaskedLabels). matches x.now c) wanted (cube ∷ []))
    ∙ wanted_with (matches cube.now c) (all_match wanted c) (avoids unwanted c)

meets_unwanted : (wanted unwanted : Cubes) (cube : Bor MaskedLabels) (c : List ℕ)
    → meets_cubes wanted (unwanted ++ cube ∷ []) c
    ≡ (meets_cubes wanted unwanted c && not (matches cube.now c))
meets_unwanted wanted unwanted cube c =
    ap (λ b. all_match wanted c && b)
    (list_all-append (λ (x : Bor MaskedLabels). not (matches x.now c)) unwanted (cube ∷ []))
    ∙ unwanted_with (matches cube.now c) (all_match wanted c) (avoids unwanted c)

-- some known choices of a walk match a cube, or do not
pub on_matched : (all : Space) (walk : Walk) (cube : Bor MaskedLabels) (b : List (List Bool))
    → AreBoxesOf all walk
    → ((c : List ℕ) → IsInBox b c → IsInBox (known_box walk) c × (matches cube.now c ≡ true))
    → AreAllOn all (walk.wanted.items ++ cube ∷ []) walk.unwanted.items b
on_matched all walk cube b boxes narrower c inside =
    let old = narrower c inside in
    let r = boxes.known c old.0 in (
      r.0,
      meets_wanted walk.wanted.items walk.unwanted.items cube c
          ∙ and_from (is_on c walk) (matches cube.now c) r.1 old.1,
    )

pub on_unmatched : (all : Space) (walk : Walk) (cube : Bor MaskedLabels) (b : List (List Bool))
    → AreBoxesOf all walk
    → ((c : List ℕ) → IsInBox b c → IsInBox (known_box walk) c × (matches cube.now c ≡ false))
    → AreAllOn all walk.wanted.items (walk.unwanted.items ++ cube ∷ []) b
on_unmatched all walk cube b boxes narrower c inside =
    let old = narrower c inside in
    let r = boxes.known c old.0 in (
      r.0,
      meets_unwanted walk.wanted.items walk.unwanted.items cube c
          ∙ and_from (is_on c walk) (not (matches cube.now c)) r.1 (ap not old.1),
    )

pub pushed_twice : {X : Type 0} (old once twice : List X) (x y : X) → once ≡ old ++ x ∷ []
    → twice ≡ once ++ y ∷ [] → twice ≡ old ++ (x ∷ y ∷ [])
pushed_twice old once twice x y first second =
    second ∙ ap (λ l. l ++ y ∷ []) first ∙ append_assoc old (x ∷ []) (y ∷ [])

-- ---- A branch of a walk.

-- one and no more than one, by a test
abbrev pub one_if : Bool → ℕ
one_if b = cond b 1 0

pub count_one : {X : Type 0} (test : X → Bool) (x : X) → count_by test (x ∷ []) ≡ one_if (test x)
count_one test x = sum_by-cons (λ y. one_if (test y)) x [] ∙ omega arith

count_two : {X : Type 0} (test : X → Bool) (x y : X)
    → count_by test (x ∷ y ∷ []) ≡ one_if (test x) + one_if (test y)
count_two test x y =
    sum_by-cons (λ z. one_if (test z)) x (y ∷ [])
    ∙ ap (λ n. one_if (test x) + n) (count_one test y)

-- whether it is as it must be
abbrev is_as : Bool → Bool → Bool
is_as b matched = cond b matched (not matched)

as_it_must : (b matched : Bool) → is_as b matched ≡ true → matched ≡ b
as_it_must b matched e = grind (arith, common_steps, cases_Bool)

is_itself : (b : Bool) → is_as b b ≡ true
is_itself true = refl
is_itself false = refl

module _ (all s : Space) (t : Tried) (steps : List Step) (walk : Walk)
    (k : ℕ) (step : Step) (is : IsWalk all s t steps walk) (next : walk.next ≡ k + 1)
    (at : slice_get steps k ≡ Some step) (are : AreSteps steps) where
  -- at the next step of a walk, the cube of the step matches its choices or does not
  record IsDecided (c : List ℕ) : Type 0 where
    pub rest : List Bool
    pub way : way_of s t c ≡ is.begun ++ matches step.cube c ∷ rest
    pub goes : GoesFrom steps (step_after step (matches step.cube c)) c rest

  decided : (c : List ℕ) → IsChoiceOf s c → is_on c walk ≡ true → IsDecided c
  decided c choice on = let told = is.goes c choice on in by told.0 told.1 told.2
    where
      by : (rest : List Bool) → way_of s t c ≡ is.begun ++ rest
          → GoesFrom steps walk.next c rest → IsDecided c
      by [] way goes = absurd (omega (arith, goes, next))
      by (b ∷ rest) way (j, one, here, there, says, goes) =
          let same : j ≡ k = omega (arith, here, next) in
          let equal : one ≡ step =
          same_Some one step (sym there ∙ ap (slice_get steps) same ∙ at) in
          let matched : b ≡ matches step.cube c =
          sym says ∙ ap (λ (x : Step). matches x.cube c) equal in
          record {
            rest = rest;
            way = way ∙ ap (λ m. is.begun ++ m ∷ rest) matched;
            goes = subst (λ (n : ℕ). GoesFrom steps n c rest) (λ i. step_after (equal i) (matched i)) goes;
          }

  -- The choices of a branch are those of the walk that the cube matches, or those that it does not.
  pub record IsBranch (b : Bool) (branch : Walk) : Type 0 where
    pub to : branch.next ≡ step_after step b
    pub same : (c : List ℕ) → IsChoiceOf s c
        → is_on c branch ≡ (is_on c walk && is_as b (matches step.cube c))
    pub inside : (c : List ℕ) → is_on c branch ≡ true → is_on c walk ≡ true
    pub boxes : AreBoxesOf all branch

  -- a choice of a branch is one of the walk
  on_both : (b : Bool) (branch : Walk) → IsBranch b branch → (c : List ℕ) → IsChoiceOf s c
      → is_on c branch ≡ true → (is_on c walk ≡ true) × (matches step.cube c ≡ b)
  on_both b branch it c choice on =
      let parts = and_parts (is_on c walk) (is_as b (matches step.cube c))
      (sym (it.same c choice) ∙ on) in
      (parts.0, as_it_must b (matches step.cube c) parts.1)

  nearer_if : (b : Bool) → step_after step b ≤ k
  nearer_if true = (are k step at).0
  nearer_if false = (are k step at).1

  is_nearer : (b : Bool) (branch : Walk) → IsBranch b branch → branch.next < walk.next
  is_nearer b branch it = omega (arith, nearer_if b, it.to, next)

  is_walk : (b : Bool) (branch : Walk) → IsBranch b branch → IsWalk all s t steps branch
  is_walk b branch it = record {
    near = omega (arith, nearer_if b, it.to, slice_get_within steps k step at);
    own = λ c choice on. is.own c choice (it.inside c on);
    boxes = it.boxes;
    begun = is.begun ++ b ∷ [];
    goes = λ c choice on.
        let told = on_both b branch it c choice on in
        let d = decided c choice told.0 in (
          d.rest,
          d.way ∙ ap (λ m. is.begun ++ m ∷ d.rest) told.1
              ∙ sym (append_assoc is.begun (b ∷ []) d.rest),
          subst (λ (n : ℕ). GoesFrom steps n c d.rest) (ap (step_after step) told.1 ∙ sym it.to)
              d.goes,
        );
    every = λ c choice rest way.
        let longer = way ∙ append_assoc is.begun (b ∷ []) rest in
        let on = is.every c choice (b ∷ rest) longer in
        let d = decided c choice on in
        let equal : matches step.cube c ∷ d.rest ≡ b ∷ rest =
        append_cancel_left is.begun (matches step.cube c ∷ d.rest) (b ∷ rest)
        (sym d.way ∙ longer) in
        let is_b : matches step.cube c ≡ b = cc in
        it.same c choice ∙ (λ i. on i && is_as b (is_b i)) ∙ is_itself b;
  }

  -- ---- Only one branch has a choice.

  abbrev pub AllAre : Bool → Type 0
  AllAre b = (c : List ℕ) → IsChoiceOf s c → is_on c walk ≡ true → matches step.cube c ≡ b

  all_on : (b : Bool) → AllAre b → (c : List ℕ) → IsChoiceOf s c
      → is_on c walk ≡ (is_on c walk && is_as b (matches step.cube c))
  all_on b each c choice = elim (cases_Bool (is_on c walk)) [
    | inl on ↦
        on ∙ sym (is_itself b) ∙ (λ i. sym on i && is_as b (sym (each c choice on) i))
    | inr off ↦ off ∙ (λ i. sym off i && is_as b (matches step.cube c))
  ]

  pub one_branch : (b : Bool) (branch : Walk) → AllAre b → IsBranch b branch
      → AreBranches all s t steps walk (branch ∷ [])
  one_branch b branch each it = record {
    each = (is_walk b branch it, tt);
    nearer = (is_nearer b branch it, tt);
    at_most = omega arith;
    split = λ c choice.
        count_one (is_on c) branch ∙ ap one_if (it.same c choice ∙ sym (all_on b each c choice));
  }

  -- the walk goes on as it is
  pub whole_branch : (b : Bool) (branch : Walk) → AllAre b → branch.next ≡ step_after step b
      → ((c : List ℕ) → is_on c branch ≡ is_on c walk) → branch.within ≡ walk.within
      → branch.some ≡ walk.some → AreBranches all s t steps walk (branch ∷ [])
  whole_branch b branch each to same box some = one_branch b branch each (record {
    to = to;
    same = λ c choice. same c ∙ all_on b each c choice;
    inside = λ c on. sym (same c) ∙ on;
    boxes = record {
      within = λ c choice on.
          subst (λ (x : List (List Bool)). IsInBox x c) (sym box)
          (is.boxes.within c choice (sym (same c) ∙ on));
      known = λ c inside.
          let r = is.boxes.known c
          (subst (λ (x : List (List Bool)). IsInBox x c) (λ i. own_or (some i) (box i)) inside) in
          (r.0, same c ∙ r.1);
    };
  })

  -- ---- Both branches.

  -- a choice of the walk is on one of the two
  on_either : (on matched : Bool)
      → one_if (on && matched) + one_if (on && not matched) ≡ one_if on
  on_either true true = omega arith
  on_either true false = omega arith
  on_either false matched = omega arith

  pub both_branches : (matched unmatched : Walk) → IsBranch true matched
      → IsBranch false unmatched → AreBranches all s t steps walk (matched ∷ unmatched ∷ [])
  both_branches matched unmatched one other = record {
    each = (is_walk true matched one, (is_walk false unmatched other, tt));
    nearer = (is_nearer true matched one, (is_nearer false unmatched other, tt));
    at_most = omega arith;
    split = λ c choice.
        count_two (is_on c) matched unmatched
        ∙ (λ i. one_if (one.same c choice i) + one_if (other.same c choice i))
        ∙ on_either (is_on c walk) (matches step.cube c);
  }

  -- ---- The cube of the step is wanted, or unwanted.

  module _ (part : IsPartOf s all) (cube : Bor MaskedLabels) (same : cube.now ≡ step.cube) where
    wanted_is : (c : List ℕ)
        → meets_cubes (walk.wanted.items ++ cube ∷ []) walk.unwanted.items c
        ≡ (is_on c walk && matches step.cube c)
    wanted_is c =
        meets_wanted walk.wanted.items walk.unwanted.items cube c
        ∙ ap (λ m. is_on c walk && matches m c) same

    unwanted_is : (c : List ℕ)
        → meets_cubes walk.wanted.items (walk.unwanted.items ++ cube ∷ []) c
        ≡ (is_on c walk && not (matches step.cube c))
    unwanted_is c =
        meets_unwanted walk.wanted.items walk.unwanted.items cube c
        ∙ ap (λ m. is_on c walk && not (matches m c)) same

    pub matched_branch : (branch : Walk) → branch.next ≡ step.matched
        → branch.wanted.items ≡ walk.wanted.items ++ cube ∷ []
        → branch.unwanted.items ≡ walk.unwanted.items
        → ((c : List ℕ) → IsInBox walk.within c → matches cube.now c ≡ true
        → IsInBox branch.within c)
        → AreAllOn all (walk.wanted.items ++ cube ∷ []) walk.unwanted.items (known_box branch)
        → IsBranch true branch
    matched_branch branch to wanted unwanted narrower sure =
        let on : (c : List ℕ) → is_on c branch ≡ (is_on c walk && matches step.cube c) =
        λ c. (λ i. meets_cubes (wanted i) (unwanted i) c) ∙ wanted_is c in
        record {
          to = to;
          same = λ c choice. on c;
          inside = λ c there. (and_parts (is_on c walk) (matches step.cube c) (sym (on c) ∙ there)).0;
          boxes = record {
            within = λ c choice there.
                let parts = and_parts (is_on c walk) (matches step.cube c) (sym (on c) ∙ there) in
                narrower c (is.boxes.within c choice parts.0)
                (ap (λ m. matches m c) same ∙ parts.1);
            known = λ c inside.
                let r = sure c inside in (r.0, (λ i. meets_cubes (wanted i) (unwanted i) c) ∙ r.1);
          };
        }

    pub unmatched_branch : (branch : Walk) → branch.next ≡ step.unmatched
        → branch.wanted.items ≡ walk.wanted.items
        → branch.unwanted.items ≡ walk.unwanted.items ++ cube ∷ []
        → ((c : List ℕ) → IsInBox walk.within c → matches cube.now c ≡ false
        → IsInBox branch.within c)
        → AreAllOn all walk.wanted.items (walk.unwanted.items ++ cube ∷ []) (known_box branch)
        → IsBranch false branch
    unmatched_branch branch to wanted unwanted narrower sure =
        let on : (c : List ℕ) → is_on c branch ≡ (is_on c walk && not (matches step.cube c)) =
        λ c. (λ i. meets_cubes (wanted i) (unwanted i) c) ∙ unwanted_is c in
        record {
          to = to;
          same = λ c choice. on c;
          inside = λ c there.
              (and_parts (is_on c walk) (not (matches step.cube c)) (sym (on c) ∙ there)).0;
          boxes = record {
            within = λ c choice there.
                let parts = and_parts (is_on c walk) (not (matches step.cube c))
                (sym (on c) ∙ there) in
                narrower c (is.boxes.within c choice parts.0)
                (ap (λ m. matches m c) same ∙ as_it_must false (matches step.cube c) parts.1);
            known = λ c inside.
                let r = sure c inside in (r.0, (λ i. meets_cubes (wanted i) (unwanted i) c) ∙ r.1);
          };
        }

    -- the cube matches no choice of the walk, or each
    pub none_matched : ((c : List ℕ) → IsChoiceOf all c
        → meets_cubes (walk.wanted.items ++ cube ∷ []) walk.unwanted.items c ≡ false)
        → AllAre false
    none_matched none c choice on =
        (λ i. sym on i && matches step.cube c) ∙ sym (wanted_is c) ∙ none c (part c choice)

    pub all_matched : ((c : List ℕ) → IsChoiceOf all c
        → meets_cubes walk.wanted.items (walk.unwanted.items ++ cube ∷ []) c ≡ false)
        → AllAre true
    all_matched none c choice on =
        let no = (λ i. sym on i && not (matches step.cube c)) ∙ sym (unwanted_is c)
        ∙ none c (part c choice) in
        is_true (matches step.cube c) no
      where
        is_true : (b : Bool) → not b ≡ false → b ≡ true
        is_true true e = refl
        is_true false e = absurd cc
