-- One more column.
use Rattle.std.proofs.Common.{◌≡◌, refl, sym, length, take, arith}
use lib.ListN.{length-take}
use Rattle.std.proofs.lemmas.Option.{slice_get_read}
use Rattle.am_scan.specs.Automaton.{LeadsTo}
use Rattle.am_scan.proofs.Places.{each_pushed, take_front, get_whole}
use Rattle.am_scan.proofs.pattern_scan.PatternScan.next_states.Goals as goal

pub loop-class-preserved : goal.loop-class-preserved
loop-class-preserved c =
    let h = c.loop-class.invariant in
    let scan = c.args.self.now in
    let state = c.args.state.now in
    let columns = c.args.columns.now.columns.items in
    let i = c.loop-class.class in
    let column = c.column-item.result in
    let nexts = c.loop-class.nexts in
    let next = c.in_ok-next.field-0 in
    let inside = rw c.deref-column-items.ensures.value at c.loop-class-test.true in
    let is = rw c.deref-column-items.ensures.value at c.column-item.is in
    let steps = rw c.in-Some.is at c.in_ok-steps.ensures.steps in
    let kind = rw c.in-Some.is at c.in_ok-steps.ensures.kind in
    let leads = steps i column next (slice_get_read columns _ i column refl inside is) (sym kind) c.in_ok-next.ensures in
    let longer = take_front columns i column inside is in
    let same : length (take i columns) ≡ length nexts.items =
    omega (arith, length-take i columns, nexts.ok.0, h.count, inside) in
    record {
      last = steps;
      count = grind (arith, c.in_ok-push.ensures.items, h.count);
      each = λ k one other at also.
          each_pushed (λ x y. LeadsTo scan x state y) (take i columns) nexts.items column next same h.each leads k one other
          (rw longer at at) (rw c.in_ok-push.ensures.items at also);
    }

pub returns-clause-each : goal.returns-clause-each
returns-clause-each c = λ k column next at also.
    c.loop-class.invariant.each k column next
    (get_whole c.args.columns.now.columns.items c.loop-class.class k column (let out = rw c.deref-column-items.ensures.value at c.loop-class-test.false in let end = rw c.deref-column-items.ensures.value at c.loop-class.auto.class-end in omega (arith, out, end)) at) also
