use Rattle.std.proofs.Common.{rules, ◌≡◌, ◌++◌, ◌∷◌, [], ℕ, List, ap, sym, subst, ◌∙◌, arith}
use Rattle.std.proofs.lemmas.Grind.{common_steps}
use Rattle.am_universe.specs.Choice.{IsWhole}
use Rattle.am_search.specs.Visits.{given_under, BeginsWithLast}
use Rattle.am_search.specs.AnswersView.{answers_left}
use Rattle.am_search.proofs.Walks.{progress}
use Rattle.am_search.proofs.WalkBudgets.{given_front, left_one, part_of_search, begins_with_last}
use Rattle.am_search.proofs.answers.AnswersIterator.next.Goals as goal

pub returns-in-Giving-clause-first : goal.returns-in-Giving-clause-first
returns-in-Giving-clause-first g c =
    let old = c.args.self.now in
    let new = c.give_next.new.self in
    let ns = g.J.Judge.sizes new.judge.now in
    let v = g.J.Judge.verdict new.judge.now in
    let front = given_front new.budget new.left new.walk new.steps in
    let all : List (List ℕ) = given_under ns v new.start new.budget in
    let now_given : new.given.items ≡ old.given.items ++ c.give_next.result ∷ [] = c.give_next.ensures.given ∙ ap (λ l. l ++ c.give_next.result ∷ []) c.loop-self.invariant.given in
    grind (arith, common_steps, left_one)

pub returns-in-Giving-clause-fewer : goal.returns-in-Giving-clause-fewer
returns-in-Giving-clause-fewer g c = progress answers_left _ _ _ (returns-in-Giving-clause-first g c)

pub returns-in-Giving-clause-whole : goal.returns-in-Giving-clause-whole
returns-in-Giving-clause-whole g c =
    subst (λ judge. IsWhole (g.J.Judge.sizes judge) c.give_next.result) c.loop-self.invariant.judge
    (subst (IsWhole (g.J.Judge.sizes c.loop-self.self.judge.now)) (sym c.give_next.ensures.choice) (c.loop-self.self.walk.giving c.in-Giving.depth c.in-Giving.is).whole)

pub returns-in-Giving-clause-judged : goal.returns-in-Giving-clause-judged
returns-in-Giving-clause-judged g c = search (rules, part_of_search)

pub returns-in-Giving-clause-last : goal.returns-in-Giving-clause-last
returns-in-Giving-clause-last g c =
    subst (BeginsWithLast c.give_next.new.self.judged.items) (sym c.give_next.ensures.choice)
    (subst (λ j. BeginsWithLast j c.loop-self.self.current) (sym c.give_next.ensures.judged) (begins_with_last c.in-Giving.depth c.loop-self.self.walk c.in-Giving.is))

pub returns-clause-first : goal.returns-clause-first
returns-clause-first g c = grind (arith, common_steps)
