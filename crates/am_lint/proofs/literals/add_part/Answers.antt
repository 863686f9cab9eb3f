-- The next route is one of the part, or it is not.
use Rattle.std.proofs.Common.{◌≡◌, List, length, Some, refl, sym, ap, ◌∙◌, slice_get, subst, arith}
use Rattle.std.proofs.lemmas.List.{take_all}
use Rattle.std.proofs.lemmas.Option.{slice_get_read}
use Rattle.am_lint.specs.declared.table.TableRoute.{TableRoute}
use Rattle.am_lint.specs.Literals.{AddsPart}
use Rattle.am_lint.proofs.LiteralLemmas.{nothing_yet, one_passed, one_taken}
use Rattle.am_lint.proofs.literals.add_part.Goals as goal
use Rattle.am_lint.proofs.literals.add_part.Goals.{then-has+in_ok-push, else-has}

pub loop-i-init : goal.loop-i-init
loop-i-init c =
    nothing_yet c.args.table.now.routes.items c.args.part c.args.path.now c.args.literals.now.items

pub loop-i-preserved : goal.loop-i-preserved
loop-i-preserved c =
    let routes = c.args.table.now.routes.items in
    let listed = c.deref-route-items.result.now in
    let i = c.loop-i.i in
    let route = c.route-item.result in
    let at : slice_get routes i ≡ Some route =
    ap (λ (xs : List TableRoute). slice_get xs i) (sym c.deref-route-items.ensures.value)
    ∙ slice_get_read listed (length listed) i route refl c.loop-i-test.true c.route-item.is in
    let part = c.args.part in
    let path = c.args.path.now in
    let old = c.args.literals.now.items in
    let before = c.loop-i.literals.items in
    elim c.if-has.branch [
      | then-has+in_ok-push w ↦
          one_taken routes part path i route _ old before c.if-has.literals.items
          c.loop-i.invariant at (sym c.has.ensures ∙ w.if-has.true) refl refl
          w.is_wanted.ensures refl
          (ap (λ v. v.items) w.literals-is ∙ w.in_ok-push.ensures.items)
      | else-has w ↦ rw (w.literals-is)
          (one_passed routes part path i route old before c.loop-i.invariant at
          (sym c.has.ensures ∙ w.if-has.false))
    ]

pub returns : goal.returns
returns c =
    let routes = c.args.table.now.routes.items in
    let past = c.loop-i-test.false in
    let same = ap length c.deref-route-items.ensures.value in
    subst (λ (seen : List TableRoute). AddsPart routes c.args.part c.args.path.now seen
    c.args.literals.now.items c.loop-i.literals.items)
    (take_all c.loop-i.i routes (omega (arith, past, same))) c.loop-i.invariant
