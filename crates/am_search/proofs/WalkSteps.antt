-- Where the search stands after it has judged a prefix, and after it has given a choice.
use Rattle.std.proofs.Common.{◌≡◌, ℕ, suc, ◌-◌, ◌<◌, ◌≤◌, Bool, true, false, cond, nat_eq, List, [], ◌∷◌, ◌++◌, length, map, nat_lt, take, slice_get, Option, Some, None, IfSome, MatchOption, ap, sym, subst, ◌∙◌, refl, inl, inr, arith, append-nil, append_assoc, length-append, rules}
use Rattle.std.specs.Prelude.{option_map}
use Rattle.std.specs.List.{filter, find, flat_map, range_with_len, starts_with}
use Rattle.std.proofs.lemmas.Bool.{false≢true, false_from_ne_true, cases_Bool, cases_lt}
use Rattle.std.proofs.lemmas.List.{length-take-le}
use Rattle.std.proofs.lemmas.List.Kept.{IsStrictlySortedBy-filter}
use Rattle.std.proofs.lemmas.Grind.{flat_map-append, common_steps}
use Rattle.std.specs.Ordering.{nat_cmp}
use Rattle.std.specs.Cmp.Lexicographic.{slice_cmp}
use Rattle.am_universe.specs.Choice.{choices, admits, IsWhole}
use Rattle.am_universe.specs.Completions.{completions}
use Rattle.am_universe.proofs.ListLemmas.{IsIn}
use Rattle.am_universe.proofs.ChoiceLemmas.{choices_sorted}
use Rattle.am_search.specs.declared.start.Start.{Start}
use Rattle.am_search.specs.declared.stage.Stage.{Stage}
use Rattle.am_search.specs.declared.stage.Stage.TheVariants.{Judging, Giving, Done}
use Rattle.am_search.specs.declared.verdict.Verdict.{Verdict}
use Rattle.am_search.specs.declared.verdict.Verdict.TheVariants.{Yes, No, Open}
use Rattle.am_search.specs.Judge.{IsJudge, is_open, is_yes}
use Rattle.am_search.specs.Start.{comes_before, first_of_start, at_or_after}
use Rattle.am_search.specs.Visits.{all_prefixes, is_visited, visited, given_at, given_by}
use Rattle.am_search.specs.NextPrefix.{next_beside}
use Rattle.am_search.specs.Walk.{if_begins, first_position, IsJudging, IsGiving, IsDone, IsWalk}
use Rattle.am_search.proofs.ChoiceOrder.{got_at, none_found, Ascends, not_itself, not_back, filter_all, filter_step, from_first, member_then_rest}
use Rattle.am_search.proofs.Odometer.{ArePositive, positive, admits_at_most, filled, first_completion_is}
use Rattle.am_search.proofs.PrefixOrder.{before_begins, before_beside, begins_front, taken_is, begins_length, begins_whole, begins_behind, begins_through}
use Rattle.am_search.proofs.NextPrefix.{IsBeside, beside_is, none_beside, none_of_front, beside_front, beside_begins}
use Rattle.am_search.proofs.VisitedPrefixes.{IsVisited, none_visited, in_completions, reached}
use Rattle.am_search.proofs.VisitSteps.{taken_pushed, past_length, begins_next, judged_is, open_along, open_behind, closed_next, closed_none}
use Rattle.am_search.proofs.Walks.{first_is_whole, completion_whole, next_choice_is}

-- ---- Where completions begin.

pub completions_ascend : (sizes prefix : List ℕ) → Ascends (completions sizes prefix)
completions_ascend sizes prefix = IsStrictlySortedBy-filter (slice_cmp nat_cmp) (λ c. starts_with nat_eq c prefix) (choices sizes) (choices_sorted sizes)

at_first : (cs : List (List ℕ)) (c : List ℕ) → Ascends cs → slice_get cs 0 ≡ Some c → at_or_after (Some c) cs ≡ cs
at_first [] c s e = cc
at_first (d ∷ cs) c s e = let same : d ≡ c = cc in ap (λ x. at_or_after (Some x) (d ∷ cs)) (sym same) ∙ from_first d cs s

-- if a choice comes before a prefix, all completions of the prefix are from the choice on
all_from : (sizes prefix f c : List ℕ) → comes_before f prefix ≡ true → slice_get (completions sizes prefix) 0 ≡ Some c
    → at_or_after (Some c) (completions sizes prefix) ≡ at_or_after (Some f) (completions sizes prefix)
all_from sizes prefix f c less e =
    grind (arith, common_steps, at_first, completions_ascend, filter_all, not_back, before_begins, completion_whole)

-- ---- Where the start begins.

pub record HasBegun (sizes : List ℕ) (start : Start) : Type 0 where
  pub first : List ℕ
  pub begins : first_of_start sizes start ≡ Some first
  pub whole : IsWhole sizes first

pub begun_at : (sizes : List ℕ) (verdict : List ℕ → Verdict) (start : Start) (k : ℕ) (p : List ℕ) → slice_get (visited sizes verdict start) k ≡ Some p → HasBegun sizes start
begun_at sizes verdict start k p e = by (first_of_start sizes start) refl
  where
    by : (o : Option (List ℕ)) → first_of_start sizes start ≡ o → HasBegun sizes start
    by None begins = absurd (subst (λ xs. IsIn xs p) (none_visited sizes verdict start begins) (got_at (visited sizes verdict start) k p e))
    by (Some f) begins = record { first = f; begins = begins; whole = first_is_whole sizes start f begins }

along_if : (prefix f : List ℕ) {b : Bool} → starts_with nat_eq f prefix ≡ b → if_begins prefix (Some f) ≡ cond b (Some f) None
along_if prefix f e = ap (λ x. cond x (Some f) None) e

-- a prefix that comes after the choice does not lie along it
behind_false : (prefix f : List ℕ) → comes_before f prefix ≡ true → starts_with nat_eq f prefix ≡ false
behind_false prefix f less = grind (arith, common_steps, false_from_ne_true, begins_behind)

-- ---- The stages.

module _ {sizes : List ℕ} {verdict : List ℕ → Verdict} {start : Start} where
  pub at_judging : {current : List ℕ} {along : Option (List ℕ)} {judged given : List (List ℕ)} → judged ≡ take (length judged) (visited sizes verdict start)
      → IsJudging sizes verdict start current along judged given → IsWalk sizes verdict start Judging current along judged given
  at_judging front h = record { front = front; judging = λ e. h; giving = λ d e. cc; done = λ e. cc }

  pub at_giving : {current : List ℕ} {along : Option (List ℕ)} {judged given : List (List ℕ)} (depth : ℕ) → judged ≡ take (length judged) (visited sizes verdict start)
      → IsGiving sizes verdict start depth current judged given → IsWalk sizes verdict start (Giving depth) current along judged given
  at_giving {current} {along} {judged} {given} depth front h = record { front = front; judging = λ e. cc; giving = λ d e. let same : depth ≡ d = cc in subst (λ n. IsGiving sizes verdict start n current judged given) same h; done = λ e. cc }

  pub at_done : {current : List ℕ} {along : Option (List ℕ)} {judged given : List (List ℕ)} → judged ≡ take (length judged) (visited sizes verdict start)
      → IsDone sizes verdict start judged given → IsWalk sizes verdict start Done current along judged given
  at_done front h = record { front = front; judging = λ e. cc; giving = λ d e. cc; done = λ e. h }

-- ---- After a judgement.

module _ {sizes : List ℕ} {truth : List ℕ → Bool} {verdict : List ℕ → Verdict} {start : Start} {stage : Stage} {p : List ℕ} {along : Option (List ℕ)} {judged given : List (List ℕ)}
    (law : IsJudge sizes truth verdict) (walk : IsWalk sizes verdict start stage p along judged given) (at : stage ≡ Judging) where
  some : ArePositive sizes
  some = positive sizes law.limits.values

  here : IsJudging sizes verdict start p along judged given
  here = walk.judging at

  longer : suc (length judged) ≡ length (judged ++ p ∷ [])
  longer = omega (arith, length-append judged (p ∷ []))

  front_more : judged ++ p ∷ [] ≡ take (length (judged ++ p ∷ [])) (visited sizes verdict start)
  front_more = grind (arith, common_steps, taken_pushed, longer, walk.front, here.next)

  given_more : given_by sizes verdict start (judged ++ p ∷ []) ≡ given ++ given_at sizes verdict start p
  given_more = grind (arith, common_steps, flat_map-append, append-nil, here.given_all)

  given_none : is_yes (verdict p) ≡ false → given ≡ given_by sizes verdict start (judged ++ p ∷ [])
  given_none e = grind (arith, common_steps, append-nil, given_more)

  begun : HasBegun sizes start
  begun = begun_at sizes verdict start (length judged) p here.next

  is_visited_now : IsVisited sizes verdict begun.first p
  is_visited_now = judged_is sizes verdict start begun.first begun.begins begun.whole some (length judged) p here.next

  pub judged_admits : admits sizes p ≡ true
  judged_admits = is_visited_now.admitted

  -- an open prefix is shorter than a choice
  pub open_room : verdict p ≡ Open → length p < length sizes
  open_room e = grind (arith, common_steps, cases_lt, admits_at_most, judged_admits, law.whole p)

  along_of : {o : Option (List ℕ)} → along ≡ o → if_begins p (Some begun.first) ≡ o
  along_of e = ap (if_begins p) (sym begun.begins) ∙ sym here.along_is ∙ e

  -- the choice along which the prefix lies is the one at which the start begins
  along_some : (f : List ℕ) → along ≡ Some f → (first_of_start sizes start ≡ Some f) × IsWhole sizes f × (starts_with nat_eq f p ≡ true)
  along_some f e = grind (arith, common_steps, cases_Bool, along_if, along_of, begun)

  along_none : along ≡ None → starts_with nat_eq begun.first p ≡ false
  along_none e = grind (arith, common_steps, false_from_ne_true, along_if, along_of)

  less_none : along ≡ None → comes_before begun.first p ≡ true
  less_none e = elim is_visited_now.reaches_to [
    | inl b ↦ absurd (false≢true (sym (along_none e) ∙ b))
    | inr l ↦ l
  ]

  pub along_longer : verdict p ≡ Open → {n : ℕ} → n ≡ length p → IfSome along (λ f. n < length f)
  along_longer e {n} same = grind (arith, common_steps, open_room, along_some)

  -- the verdict is `Open`
  after_open : verdict p ≡ Open → (o : Option (List ℕ)) → along ≡ o → IsWalk sizes verdict start Judging (p ++ first_position o (length p) ∷ []) along (judged ++ p ∷ []) given
  after_open e None none =
      grind (arith, common_steps, along_none, open_behind, some, open_room, at_judging, front_more, longer, along_if, false_from_ne_true, false≢true, begins_front, given_none)
  after_open e (Some f) is =
      grind (arith, common_steps, along_some, open_along, some, open_room, at_judging, front_more, longer, along_if, begins_next, given_none)

  pub opened : verdict p ≡ Open → {n q : ℕ} {next : List ℕ} {more : List (List ℕ)} → n ≡ length p → q ≡ first_position along n → next ≡ p ++ q ∷ [] → more ≡ judged ++ p ∷ []
      → IsWalk sizes verdict start stage next along more given
  opened e {n} {q} {next} {more} length_is position_is next_is more_is = rw (at, next_is, more_is, position_is, length_is) (after_open e along refl)

  after_yes : verdict p ≡ Yes → (f c : List ℕ) → first_of_start sizes start ≡ Some f → IsWhole sizes c → starts_with nat_eq c p ≡ true
      → at_or_after (Some c) (completions sizes p) ≡ at_or_after (Some f) (completions sizes p)
      → IsGiving sizes verdict start (length p) c (judged ++ p ∷ []) given
  after_yes e f c begins w b same = grind (arith, common_steps, taken_is, longer, begins_length, given_more)

  after_yes_at : verdict p ≡ Yes → (o : Option (List ℕ)) → along ≡ o → (c : List ℕ) → MatchOption o (slice_get (completions sizes p) 0 ≡ Some c) (λ f. c ≡ f)
      → IsGiving sizes verdict start (length p) c (judged ++ p ∷ []) given
  after_yes_at e None none c first =
      let member = completion_whole sizes p c (got_at (completions sizes p) 0 c first) in
      after_yes e begun.first c begun.begins member.0 member.1 (all_from sizes p begun.first c (less_none none) first)
  after_yes_at e (Some f) is c same =
      let parts = along_some f is in
      rw same (after_yes e f f parts.0 parts.1 parts.2 refl)

  pub confirmed : verdict p ≡ Yes → {n : ℕ} {c : List ℕ} {other : Option (List ℕ)} {more : List (List ℕ)} → n ≡ length p → MatchOption along (slice_get (completions sizes p) 0 ≡ Some c) (λ f. c ≡ f)
      → more ≡ judged ++ p ∷ [] → IsWalk sizes verdict start (Giving n) c other more given
  confirmed e {n} {c} {other} {more} length_is first more_is = rw (length_is, more_is) (at_giving (length p) front_more (after_yes_at e along refl c first))

  -- the verdict is `No`
  pub denied : verdict p ≡ No → {next : List ℕ} {more : List (List ℕ)} → next_beside sizes p ≡ Some next → more ≡ judged ++ p ∷ [] → IsWalk sizes verdict start stage next None more given
  denied e {next} {more} beside more_is =
      let r = closed_next sizes verdict start begun.first begun.begins begun.whole some (length judged) p here.next (ap is_open e) next beside in
      grind (arith, common_steps, at_judging, front_more, longer, along_if, behind_false, given_none)

  pub denied_last : verdict p ≡ No → next_beside sizes p ≡ None → {current : List ℕ} {other : Option (List ℕ)} {more : List (List ℕ)} → more ≡ judged ++ p ∷ [] → IsWalk sizes verdict start Done current other more given
  denied_last e beside {current} {other} {more} more_is =
      let none = closed_none sizes verdict start begun.first begun.begins begun.whole some (length judged) p here.next (ap is_open e) beside in
      grind (arith, common_steps, at_done, front_more, past_length, longer, given_none)

-- ---- After a choice was given.

-- the first member that passes is also the first among those that a filter keeps
found_kept : (test keep : List ℕ → Bool) (xs : List (List ℕ)) (d : List ℕ) → find test xs ≡ Some d → keep d ≡ true → find test (filter keep xs) ≡ Some d
found_kept test keep [] d e k = cc
found_kept test keep (x ∷ xs) d e k = grind (arith, common_steps, found_kept test keep xs d)

module _ {sizes : List ℕ} {truth : List ℕ → Bool} {verdict : List ℕ → Verdict} {start : Start} {stage : Stage} {c : List ℕ} {along : Option (List ℕ)} {judged given : List (List ℕ)} {depth : ℕ}
    (law : IsJudge sizes truth verdict) (walk : IsWalk sizes verdict start stage c along judged given) (at : stage ≡ Giving depth) where
  positive_sizes : ArePositive sizes
  positive_sizes = positive sizes law.limits.values

  giving : IsGiving sizes verdict start depth c judged given
  giving = walk.giving depth at

  begun_giving : HasBegun sizes start
  begun_giving = begun_at sizes verdict start (length judged - 1) (take depth c) giving.last

  -- the completions from the choice on are the choice and those from the next on
  given_one : (given ++ c ∷ []) ++ at_or_after (find (comes_before c) (completions sizes (take depth c))) (completions sizes (take depth c)) ≡ given_by sizes verdict start judged
  given_one = search (rules, append_assoc, member_then_rest, completions_ascend, in_completions, giving)

  -- the next choice begins with the same `depth` positions
  given_longer : (next d : List ℕ) → next_beside sizes c ≡ Some next → depth < length next → slice_get (completions sizes next) 0 ≡ Some d → IsGiving sizes verdict start depth d judged (given ++ c ∷ [])
  given_longer next d e long first =
      let beside = beside_is sizes c next giving.whole.0 e in
      let is : filled sizes next ≡ d = (let both : Some (filled sizes next) ≡ Some d = sym (first_completion_is sizes next positive_sizes beside.admitted) ∙ first in cc) in
      let member = completion_whole sizes next d (got_at (completions sizes next) 0 d first) in
      let next_begins : starts_with nat_eq next (take depth c) ≡ true = beside_begins sizes c next depth e long in
      let d_begins : starts_with nat_eq d (take depth c) ≡ true = begins_through (take depth c) next d next_begins member.1 in
      let length_is : length (take depth c) ≡ depth = length-take-le depth c giving.depth_is in
      let same : take depth d ≡ take depth c = ap (λ n. take n d) (sym length_is) ∙ taken_is (take depth c) d d_begins in
      let found : find (comes_before c) (completions sizes (take depth c)) ≡ Some d =
      found_kept (comes_before c) (λ x. starts_with nat_eq x (take depth c)) (choices sizes) d
      (next_choice_is sizes c positive_sizes giving.whole ∙ ap (option_map (filled sizes)) e ∙ ap Some is) d_begins in
      grind (arith, common_steps, some, begins_length, given_one)

  pub goes_on_giving : {next d : List ℕ} {other : Option (List ℕ)} {after : List (List ℕ)} → next_beside sizes c ≡ Some next → depth < length next → slice_get (completions sizes next) 0 ≡ Some d
      → after ≡ given ++ c ∷ [] → IsWalk sizes verdict start stage d other judged after
  goes_on_giving {next} {d} e long first after_is = rw (at, after_is) (at_giving depth walk.front (given_longer next d e long first))

  -- a later completion of these positions is not the choice itself
  other_choice : (x : List ℕ) → IsWhole sizes x → comes_before c x ≡ true → starts_with nat_eq x c ≡ false
  other_choice x w less = search (rules, false_from_ne_true, begins_whole, not_itself, giving)

  given_all_of : find (comes_before c) (completions sizes (take depth c)) ≡ None → given ++ c ∷ [] ≡ given_by sizes verdict start judged
  given_all_of none = sym (append-nil (given ++ c ∷ [])) ∙ ap (λ o. (given ++ c ∷ []) ++ at_or_after o (completions sizes (take depth c))) (sym none) ∙ given_one

  upcoming : suc (length judged - 1) ≡ length judged
  upcoming = omega (arith, giving.some)

  -- no other completion of these positions is left, but a prefix is
  pub given_last : {next : List ℕ} {after : List (List ℕ)} → next_beside sizes c ≡ Some next → length next ≤ depth → after ≡ given ++ c ∷ [] → IsWalk sizes verdict start Judging next None judged after
  given_last {next} e short after_is =
      let y : List ℕ = take depth c in
      let from_front : next_beside sizes y ≡ Some next = beside_front sizes c next depth e short in
      let r = closed_next sizes verdict start begun_giving.first begun_giving.begins begun_giving.whole positive_sizes (length judged - 1) y giving.last (ap is_open giving.yes) next from_front in
      let y_admits = (judged_is sizes verdict start begun_giving.first begun_giving.begins begun_giving.whole positive_sizes (length judged - 1) y giving.last).admitted in
      let beside = beside_is sizes c next giving.whole.0 e in
      let beside_y = beside_is sizes y next y_admits from_front in
      let none : find (comes_before c) (completions sizes y) ≡ None = none_found (comes_before c) (completions sizes y) (none_of beside beside_y) in
      rw after_is (at_judging walk.front (record {
        next = ap (slice_get (visited sizes verdict start)) (sym upcoming) ∙ r.0;
        along_is = sym (along_if next begun_giving.first (behind_false next begun_giving.first r.1)) ∙ ap (if_begins next) (sym begun_giving.begins);
        given_all = given_all_of none;
      }))
    where
      none_of : IsBeside sizes c next → IsBeside sizes (take depth c) next → (x : List ℕ) → IsIn (completions sizes (take depth c)) x
          → comes_before c x ≡ false
      none_of beside beside_y x i = false_from_ne_true (comes_before c x) (λ less.
          let member = completion_whole sizes (take depth c) x i in
          let late : comes_before x next ≡ false = beside.least x member.0.0 less (other_choice x member.0 less) in
          false≢true (sym late ∙ before_beside (take depth c) next x beside_y.after beside_y.apart member.1))

  -- nothing is left
  pub given_end : next_beside sizes c ≡ None → {current : List ℕ} {other : Option (List ℕ)} {after : List (List ℕ)} → after ≡ given ++ c ∷ [] → IsWalk sizes verdict start Done current other judged after
  given_end e after_is =
      let y : List ℕ = take depth c in
      let after = closed_none sizes verdict start begun_giving.first begun_giving.begins begun_giving.whole positive_sizes (length judged - 1) y giving.last (ap is_open giving.yes) (none_of_front sizes c depth e) in
      let none : find (comes_before c) (completions sizes y) ≡ None = none_found (comes_before c) (completions sizes y) none_of in
      rw after_is (at_done walk.front (record {
        all = omega (arith, past_length (visited sizes verdict start) (suc (length judged - 1)) after, upcoming);
        given_all = given_all_of none;
      }))
    where
      none_of : (x : List ℕ) → IsIn (completions sizes (take depth c)) x → comes_before c x ≡ false
      none_of x i = false_from_ne_true (comes_before c x) (λ less.
          let member = completion_whole sizes (take depth c) x i in
          false≢true (sym (other_choice x member.0 less) ∙ none_beside sizes c x e giving.whole.0 member.0.0 less))

-- ---- Where the search begins.

first_visited : (sizes : List ℕ) (verdict : List ℕ → Verdict) (start : Start) (f : List ℕ) → ArePositive sizes → first_of_start sizes start ≡ Some f → IsWhole sizes f → slice_get (visited sizes verdict start) 0 ≡ Some []
first_visited sizes verdict start f some begins w = by sizes refl
  where
    judged : is_visited sizes verdict start [] ≡ true
    judged = subst (λ o. nat_lt 0 (length (at_or_after o (completions sizes []))) ≡ true) (sym begins) (reached sizes f [] some w refl (inl refl))

    by : (ns : List ℕ) → sizes ≡ ns → slice_get (filter (is_visited sizes verdict start) (all_prefixes ns)) 0 ≡ Some []
    by [] e = ap (λ xs. slice_get xs 0) (filter_step (is_visited sizes verdict start) [] [] true judged)
    by (n ∷ ns) e = ap (λ xs. slice_get xs 0) (filter_step (is_visited sizes verdict start) [] (flat_map (λ p. map (λ prefix. p ∷ prefix) (all_prefixes ns)) (range_with_len 0 n)) true judged)

pub walk_begins : {sizes : List ℕ} {truth : List ℕ → Bool} {verdict : List ℕ → Verdict} (start : Start) → IsJudge sizes truth verdict → (o : Option (List ℕ)) {stage : Stage} {current : List ℕ} {judged given : List (List ℕ)}
    → o ≡ first_of_start sizes start → MatchOption o (stage ≡ Done) (λ f. stage ≡ Judging) → current ≡ [] → judged ≡ [] → given ≡ [] → IsWalk sizes verdict start stage current o judged given
walk_begins {sizes} {truth} {verdict} start law None begins is p j t =
    rw (is, p, j, t) (at_done refl (record { all = omega (arith, ap length (none_visited sizes verdict start (sym begins))); given_all = refl }))
walk_begins {sizes} {truth} {verdict} start law (Some f) begins is p j t =
    rw (is, p, j, t) (at_judging refl (record {
      next = first_visited sizes verdict start f (positive sizes law.limits.values) (sym begins) (first_is_whole sizes start f (sym begins));
      along_is = ap (if_begins []) begins;
      given_all = refl;
    }))
