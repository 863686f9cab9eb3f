use Rattle.std.proofs.Common.{◌≡◌, List, Bool, false, sym, ◌∙◌, arith, subst}
use Rattle.am_judged_lists.specs.Boxes.{box_permits}
use Rattle.am_first_sets.proofs.SolverLemmas.{answer_fixed, some_below}
use Rattle.am_first_sets.proofs.solver.fix_least.Goals as goal

pub returns-then-permits-clause-found : goal.returns-then-permits-clause-found
returns-then-permits-clause-found c =
    let so = c.loop-position.invariant in
    answer_fixed c.loop-position.left c.loop-position.found c.keep_only.new.self
    c.keep_only-then-permits.new.self c.args.unwanted.now c.args.label c.loop-position.position
    (rw (so.left, so.same) c.requires.found)
    (sym c.permits.ensures ∙ c.if-permits.true)
    c.keep_only.ensures.choices c.keep_only-then-permits.ensures.choices

pub unreachable-requires : goal.unreachable-requires
unreachable-requires c =
    let so = c.loop-position.invariant in
    some_below c.args.left.now c.args.found.now c.args.unwanted.now c.args.label c.args.size
    c.requires.found c.requires.label c.requires.below
    (λ p less. subst (λ (b : List (List Bool)). box_permits b c.args.label p ≡ false) so.same
    (so.none p (omega (arith, less, c.loop-position-test.false))))
