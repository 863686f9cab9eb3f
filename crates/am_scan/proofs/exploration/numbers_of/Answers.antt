-- One more state.
use Rattle.std.proofs.Common.{◌≡◌, length, refl, sym, subst, arith, ◌∙◌}
use Rattle.std.proofs.lemmas.Iterator.Adapters.{YieldsList-from_vec}
use Rattle.std.proofs.lemmas.Iterator.Consumers.{YieldsList-end}
use Rattle.std.proofs.lemmas.List.{length_push}
use Rattle.std.proofs.lemmas.List.Folds.{map_fixed}
use Rattle.am_scan.specs.Automaton.{IsNumber, AreNumbers}
use Rattle.am_scan.proofs.Places.{each_pushed, grows_inserted}
use Rattle.am_scan.proofs.AutomatonLemmas.{IsNumber_kept, are_same, same_follows}
use Rattle.am_scan.proofs.exploration.numbers_of.Goals as goal

pub loop-other-preserved : goal.loop-other-preserved
loop-other-preserved c =
    let old = c.loop-other.states.keys in
    let new = c.insert_full.new.self.keys in
    let numbers = c.loop-other.numbers in
    let grows = grows_inserted are_same old new c.in-Some.other c.in_ok-number.ensures.keys in
    let stored = c.in_ok-number.ensures.stored in
    let same : length c.loop-other.yielded ≡ length numbers.items = omega (arith, numbers.ok.0, c.loop-other.invariant.count) in
    let longer = length_push c.loop-other.yielded c.in-Some.other in
    record {
      grows = λ k state at. grows k state (c.loop-other.invariant.grows k state at);
      count = grind (arith, c.in_ok-push.ensures.items, c.loop-other.invariant.count);
      each = λ k state number at also.
          each_pushed (IsNumber new) c.loop-other.yielded numbers.items c.in-Some.other c.in_ok-number.number same
          (λ j one other here there. IsNumber_kept old new one other grows (c.loop-other.invariant.each j one other here there))
          (stored.0, stored.1, same_follows c.in-Some.other stored.0 stored.2) k state number at (rw c.in_ok-push.ensures.items at also);
    }

pub returns-clause-each : goal.returns-clause-each
returns-clause-each c =
    let start = c.into_iter-other-iterator.ensures.into_iter_gives in
    let all =
    YieldsList-end (YieldsList-from_vec {s = c.into_iter-other-iterator.result} c.args.others.items start.0 (start.1 ∙ c.args.others.ok.0))
    c.loop-other.yielded c.loop-other.other-iterator c.loop-other.yielded_by c.next.result c.next.new.self c.in-None.is c.next.ensures.steps in
    let whole : c.loop-other.yielded ≡ c.args.others.items = sym (map_fixed (λ x. x) c.loop-other.yielded (λ k d h. refl)) ∙ all.0 in
    subst (λ states. AreNumbers c.loop-other.states.keys states c.loop-other.numbers.items) whole c.loop-other.invariant.each
