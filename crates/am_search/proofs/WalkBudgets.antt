-- What a search has given and what it has left, under a budget.
use Rattle.std.proofs.Common.{◌≡◌, ℕ, ◌+◌, ◌-◌, ◌<◌, ◌≤◌, List, [], ◌∷◌, ◌++◌, length, take, drop, get_or, Option, Some, None, IfSome, ap, sym, ◌∙◌, refl, arith, append-nil, append_assoc, length-append, length-take}
use Rattle.std.specs.Prelude.{option_map}
use Rattle.std.proofs.Math.Seq.{take-add, take-append_seam}
use Rattle.std.proofs.lemmas.List.{drop_at, take-append-drop}
use Rattle.std.proofs.lemmas.Grind.{flat_map-append, common_steps}
use Rattle.am_universe.specs.Completions.{completions}
use Rattle.am_search.specs.declared.answers.Answers.{Answers}
use Rattle.am_search.specs.declared.judge.Judge.{Ghosts}
use Rattle.am_search.specs.declared.start.Start.{Start}
use Rattle.am_search.specs.declared.stage.Stage.{Stage}
use Rattle.am_search.specs.declared.stage.Stage.TheVariants.{Judging, Giving, Done}
use Rattle.am_search.specs.declared.verdict.Verdict.{Verdict}
use Rattle.am_search.specs.Start.{at_or_after}
use Rattle.am_search.specs.Visits.{visited, given_at, given_by, up_to_budget, given_under, IsPartOfSearch, BeginsWithLast}
use Rattle.am_search.specs.BudgetPage.{page_under}
use Rattle.am_search.specs.AnswersView.{answers_left, answers_stop, answers_page}
use Rattle.am_search.specs.Walk.{IsLeft, IsWalk}
use Rattle.am_search.proofs.VisitsGive.{visited_give}

-- ---- What is left of a budget.

pub left_first : (budget : Option ℕ) (judged : List (List ℕ)) → judged ≡ [] → IsLeft budget budget judged
left_first None judged none = refl
left_first (Some n) judged none = ap Some (omega (arith, ap length none))

-- the rules by which a search begins
pub ruleset at_first = (left_first, visited_give)

pub left_after : (budget left after : Option ℕ) (judged more : List (List ℕ)) (p : List ℕ) → IsLeft budget left judged
    → left ≡ option_map (λ n. 1 + n) after → more ≡ judged ++ p ∷ [] → IsLeft budget after more
left_after budget left None judged more p is less e = is ∙ ap (option_map (λ n. length judged + n)) less
left_after budget left (Some k) judged more p is less e = grind (arith, common_steps, length-append)

-- ---- What is judged under a budget.

-- the prefixes judged so far are the first of those that are judged under the budget
pub record IsFrontUnder (all : List (List ℕ)) (budget : Option ℕ) (judged : List (List ℕ)) : Type 0 where
  pub more : List (List ℕ)
  pub is : up_to_budget budget all ≡ judged ++ more

pub front_under : (all : List (List ℕ)) (budget left : Option ℕ) (judged : List (List ℕ)) → IsLeft budget left judged → judged ≡ take (length judged) all → IsFrontUnder all budget judged
front_under all budget None judged is front = record {
  more = drop (length judged) all;
  is = ap (λ b. up_to_budget b all) is ∙ sym (take-append-drop (length judged) all) ∙ ap (λ l. l ++ drop (length judged) all) (sym front);
}
front_under all budget (Some n) judged is front = record {
  more = take n (drop (length judged) all);
  is = ap (λ b. up_to_budget b all) is ∙ take-add (length judged) n all ∙ ap (λ l. l ++ take n (drop (length judged) all)) (sym front);
}

-- ---- What is left to give.

given_of_judged : (sizes : List ℕ) (verdict : List ℕ → Verdict) (start : Start) (stage : Stage) (current : List ℕ) (along : Option (List ℕ)) (judged given : List (List ℕ))
    → IsWalk sizes verdict start stage current along judged given → (rest : List (List ℕ)) × (given ++ rest ≡ given_by sizes verdict start judged)
given_of_judged sizes verdict start Judging current along judged given h = ([], append-nil given ∙ (h.judging refl).given_all)
given_of_judged sizes verdict start (Giving depth) current along judged given h = (at_or_after (Some current) (completions sizes (take depth current)), (h.giving depth refl).given_next)
given_of_judged sizes verdict start Done current along judged given h = ([], append-nil given ∙ (h.done refl).given_all)

-- the choices that were given are the first of those that are given in all
pub given_front : {sizes : List ℕ} {verdict : List ℕ → Verdict} {start : Start} {stage : Stage} {current : List ℕ} {along : Option (List ℕ)} {judged given : List (List ℕ)} (budget left : Option ℕ)
    → IsWalk sizes verdict start stage current along judged given → IsLeft budget left judged → (rest : List (List ℕ)) × (given ++ rest ≡ given_under sizes verdict start budget)
given_front {sizes} {verdict} {start} {stage} {current} {along} {judged} {given} budget left h is =
    let some = given_of_judged sizes verdict start stage current along judged given h in
    let front = front_under (visited sizes verdict start) budget left judged is h.front in
    let later : List (List ℕ) = given_by sizes verdict start front.more in (
      some.0 ++ later,
      sym (append_assoc given some.0 later) ∙ ap (λ l. l ++ later) some.1
          ∙ sym (flat_map-append (given_at sizes verdict start) judged front.more)
          ∙ ap (given_by sizes verdict start) (sym front.is),
    )

pub left_one : (given rest all : List (List ℕ)) (c : List ℕ) → (given ++ c ∷ []) ++ rest ≡ all → drop (length given) all ≡ c ∷ drop (length (given ++ c ∷ [])) all
left_one given rest all c e = grind (arith, common_steps, append_assoc, drop_at)

pub part_of_search : {sizes : List ℕ} {verdict : List ℕ → Verdict} {start : Start} {stage : Stage} {current : List ℕ} {along : Option (List ℕ)} {judged given : List (List ℕ)} (budget left : Option ℕ)
    → IsWalk sizes verdict start stage current along judged given → IsLeft budget left judged → IsPartOfSearch sizes verdict start budget judged given
part_of_search {sizes} {verdict} {start} {stage} {current} {along} {judged} {given} budget left h is =
    let front = front_under (visited sizes verdict start) budget left judged is h.front in
    record {
      judged_first = sym (ap (take (length judged)) front.is ∙ take-append_seam judged front.more);
      given_first = given_of_judged sizes verdict start stage current along judged given h;
    }

pub begins_with_last : {sizes : List ℕ} {verdict : List ℕ → Verdict} {start : Start} {stage : Stage} {current : List ℕ} {along : Option (List ℕ)} {judged given : List (List ℕ)} (depth : ℕ)
    → IsWalk sizes verdict start stage current along judged given → stage ≡ Giving depth → BeginsWithLast judged current
begins_with_last {sizes} {verdict} {start} {stage} {current} {along} {judged} {given} depth h e =
    let w = h.giving depth e in
    let all : List (List ℕ) = visited sizes verdict start in
    let i : ℕ = length judged - 1 in
    let x : List ℕ = take depth current in
    let below : i < length judged = omega (arith, w.some) in
    let here : get_or all i x ≡ x = Rattle.std.proofs.lemmas.Option.get_or_from_slice_get all i x x w.last in
    record { depth = depth; last = Rattle.std.proofs.lemmas.Option.slice_get_read judged (length judged) i x refl below (sym (ap (λ l. get_or l i x) h.front ∙ Rattle.std.proofs.lemmas.List.get_or-take (length judged) all i x below ∙ here)) }

-- answers with the same judge, start and budget stop at the same prefix
pub same_stop : {J : Type 0} {j : Ghosts J} (a b : Answers J j) → a.judge.now ≡ b.judge.now → a.start ≡ b.start → a.budget ≡ b.budget → answers_stop a ≡ answers_stop b
same_stop {J} {j} a b judge start budget = grind (arith, common_steps)

-- the page of answers that have just begun is the page of a search
pub page_is : {J : Type 0} {j : Ghosts J} (a : Answers J j) (judge : J) (start : Start) (limit budget : Option ℕ) → a.judge.now ≡ judge → a.start ≡ start → a.budget ≡ budget
    → answers_left a ≡ given_under (j.sizes judge) (j.verdict judge) start budget → answers_page a limit ≡ page_under (j.sizes judge) (j.verdict judge) start limit budget
page_is {J} {j} a judge start limit budget same begins under left = grind (arith, common_steps)

-- ---- How many are judged.

taken_length : (judged all : List (List ℕ)) → judged ≡ take (length judged) all → length judged ≤ length all
taken_length judged all e = omega (arith, ap length e, length-take (length judged) all)

pub judged_within : (sizes : List ℕ) (verdict : List ℕ → Verdict) (start : Start) (budget : Option ℕ) (judged given : List (List ℕ)) → IsPartOfSearch sizes verdict start budget judged given
    → length judged ≤ length (visited sizes verdict start)
judged_within sizes verdict start budget judged given h = grind (arith, common_steps, taken_length)

pub judged_budget : (sizes : List ℕ) (verdict : List ℕ → Verdict) (start : Start) (budget : Option ℕ) (judged given : List (List ℕ)) → IsPartOfSearch sizes verdict start budget judged given
    → IfSome budget (λ n. length judged ≤ n)
judged_budget sizes verdict start None judged given h = tt
judged_budget sizes verdict start (Some n) judged given h = grind (arith, common_steps, taken_length, length-take)
