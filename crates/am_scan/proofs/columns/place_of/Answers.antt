-- A column that is the same was there already, or the column now comes last.
use Rattle.std.proofs.Common.{◌≡◌, Some, slice_get, refl, subst, sym, length, arith}
use Rattle.std.proofs.lemmas.Option.{slice_get_read}
use Rattle.am_scan.proofs.Places.{get_last}
use Rattle.am_scan.proofs.columns.place_of.Goals as goal

pub returns-then-same-clause-place : goal.returns-then-same-clause-place
returns-then-same-clause-place c =
    let other = c.other-item.result in
    let at = slice_get_read c.deref-other-items.result.now _ c.loop-place.place other refl c.loop-place-test.true c.other-item.is in
    (other, subst (λ columns. slice_get columns c.loop-place.place ≡ Some other) c.deref-other-items.ensures.value at, c.same.ensures c.if-same.true)

pub returns-clause-place : goal.returns-clause-place
returns-clause-place c =
    let old = c.args.columns.now in
    let last : length old.items ≡ c.len-place.result = omega (arith, old.ok.0, c.len-place.ensures) in
    let at = rw (sym c.in_ok-push.ensures.items, last) at (get_last old.items c.args.column) in
    (c.args.column, at, λ nfa sight byte column. column)
