-- One more byte.
use Rattle.std.proofs.Common.{◌≡◌, length, arith}
use Rattle.am_scan.proofs.AutomatonLemmas.{AreClasses-more}
use Rattle.am_scan.proofs.columns.Columns.of.Goals as goal
use Rattle.am_scan.proofs.columns.Columns.of.Goals.{else-loop-byte-test, then-loop-byte-test+in_ok-class+in-Some+in_ok-push+else-byte-lt255}

pub loop-byte-preserved : goal.loop-byte-preserved
loop-byte-preserved c =
    let old = c.loop-byte.classes in
    let count : length old.items ≡ c.loop-byte.byte = omega (arith, old.ok.0, c.loop-byte.invariant.count) in
    record {
      count = grind (arith, c.in_ok-push.ensures.items, c.loop-byte.invariant.count);
      each =
          AreClasses-more c.args.scan.now c.loop-byte.columns.items c.class_of.new.columns.items old.items c.push.new.self.items c.loop-byte.byte c.in-Some.class
          c.loop-byte.invariant.each c.in_ok-class.ensures.grows count c.in_ok-push.ensures.items (rw c.in-Some.is at c.in_ok-class.ensures.class);
    }

pub returns-clause-classes : goal.returns-clause-classes
returns-clause-classes c =
    let old = c.loop-byte.classes in
    let count : length old.items ≡ c.loop-byte.byte = omega (arith, old.ok.0, c.loop-byte.invariant.count) in
    elim c.loop-byte-test.branch [
      | else-loop-byte-test w ↦ absurd (omega (arith, c.loop-byte.auto.byte-end, w.loop-byte-test.false))
      | then-loop-byte-test+in_ok-class+in-Some+in_ok-push+else-byte-lt255 w ↦
          rw (w.columns-is, w.classes-is)
          (AreClasses-more c.args.scan.now c.loop-byte.columns.items w.class_of.new.columns.items old.items w.push.new.self.items c.loop-byte.byte w.in-Some.class
          c.loop-byte.invariant.each w.in_ok-class.ensures.grows count w.in_ok-push.ensures.items (rw w.in-Some.is at w.in_ok-class.ensures.class))
    ]
