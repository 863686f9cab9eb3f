-- A label more is passed, and where all are, the choice nearby shows that the literal is needed.
use Rattle.std.proofs.Common.{◌≡◌, ◌<◌, ℕ, List, Some, Contains, length, refl, sym, ap, ◌∙◌}
use Rattle.std.proofs.Common.{subst, inl, inr, arith}
use Rattle.std.specs.Prelude.{slice_get}
use Rattle.std.proofs.lemmas.Bool.{cases_lt}
use Rattle.std.proofs.lemmas.Option.{get_or_from_slice_get, slice_get_read}
use Rattle.am_first_sets.specs.Literals.{holds_at}
use Rattle.am_route_alerts.proofs.NearbyLemmas.{IsPassed, met_nearby}
use Rattle.am_route_alerts.proofs.nearby.Nearby.shows_needed.Goals as goal
use Rattle.am_route_alerts.proofs.nearby.Nearby.shows_needed.Goals.{else-get-via-then-get+else-not-others_hold}
use Rattle.am_route_alerts.proofs.nearby.Nearby.shows_needed.Goals.{else-get-via-else-get}

pub loop-label-preserved : goal.loop-label-preserved
loop-label-preserved c =
    let ks = c.args.literals.now in
    let i = c.args.i in
    let b = c.args.self.now.choice in
    let next = c.nearest-nearest.result in
    let own = c.loop-label.label in
    let passed : IsPassed ks i b next own = elim c.else-get.branch [
      | else-get-via-then-get+else-not-others_hold w ↦
          (let lists = c.args.self.now.asking.items in
          let list = w.index.result.now in
          let within : own < length lists =
          omega (
            arith,
            c.loop-label-test.true,
            c.loop-label.auto.label-end,
            c.len-label-end.ensures.len,
            c.requires.nearby.long,
          ) in
          let its : slice_get lists own ≡ Some list =
          slice_get_read lists (length lists) own list refl within w.index.ensures in
          inr (λ j k at asks apart named.
          w.others_hold.ensures w.if-not-others_hold.false j k
          (subst (λ (xs : List ℕ). Contains xs j) (sym w.as_slice.ensures.value)
          (c.requires.nearby.lists own list its j k at asks)) apart at named))
      | else-get-via-else-get w ↦
          inl (omega (
            arith,
            c.get.ensures.position,
            c.get-in-loop-label.ensures.position,
            w.if-get.false,
          ))
    ] in
    λ label lt. elim (cases_lt label own) [
      | inl below ↦ c.loop-label.invariant label below
      | inr ge ↦ subst (IsPassed ks i b next) (omega (arith, lt, ge)) passed
    ]

pub returns : goal.returns
returns c = λ yes.
    let ks = c.args.literals.now in
    let i = c.args.i in
    let next = c.nearest-nearest.result in
    let literal = c.index-literals-i-2.result in (
      next,
      c.has.ensures.0 c.if-not-has.false,
      met_nearby c.args.self.now.choice next i ks c.nearest-nearest.ensures.long
          c.requires.nearby.met
          (λ label lt.
          c.loop-label.invariant label (omega (
            arith,
            lt,
            c.loop-label-test.false,
            c.loop-label.auto.label-end,
            c.len-label-end.ensures.len,
          )))
          (λ k at.
          ap (holds_at next)
          (sym (c.index-literals-i-2.is ∙ get_or_from_slice_get ks i k literal at))
          ∙ sym c.holds.ensures ∙ c.if-holds.false),
    )
