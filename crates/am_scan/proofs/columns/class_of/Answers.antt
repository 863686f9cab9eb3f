-- The column is that of the byte before, or was made for this byte.
use Rattle.std.proofs.Common.{◌≡◌, Some, slice_get, refl, sym, subst}
use Rattle.std.proofs.lemmas.Option.{slice_get_read}
use Rattle.am_scan.proofs.columns.class_of.Goals as goal

pub returns-then-is_of-clause-class : goal.returns-then-is_of-clause-class
returns-then-is_of-clause-class c = λ scanned.
    let found = c.in-Some.ensures.lookup in
    let at = rw (c.deref.ensures.value, c.from.ensures) at (slice_get_read c.deref.result.now _ c.from.result _ refl found.3.0 found.1) in
    (c.in-Some.column.now, at, c.is_of.ensures c.if-is_of.true)

pub returns-clause-class : goal.returns-clause-class
returns-clause-class c = λ scanned.
    let scan = c.args.scan.now in
    let column = c.in_ok-place.ensures.place in (
      column.0,
      subst (λ k. slice_get c.place_of.new.columns.items k ≡ Some column.0) (sym c.in-Ok.ensures.1) column.1,
      column.2 scan.nfa scan.sight c.args.byte c.in_ok-column.ensures,
    )
