use Rattle.std.proofs.Common.{sym, ◌∙◌, refl}
use Rattle.am_idle.proofs.RuleLiterals.{none_if, first_spared, second_spared}
use Rattle.am_idle.proofs.sides.has_inhibiting.Goals as goal

pub returns-then-is_some : goal.returns-then-is_some
returns-then-is_some c = λ s rule source target are.
    let found = rw c.choices-choices.ensures at c.in_ok-first.ensures.some in (
      λ is. first_spared s rule.equal c.args.pairs.now are rule c.args.source.now c.args.target.now
          c.in_ok-in_source.in_source c.in_ok-in_target.in_target
          c.in_ok-first_in_target.first_in_target c.in_ok-second_in_source.second_in_source source
          target c.in_ok-in_source.ensures c.in_ok-in_target.ensures
          c.in_ok-first_in_target.ensures c.in_ok-second_in_source.ensures c.in_ok-first.first
          found (sym c.is_some.ensures ∙ c.if-is_some.true),
      λ two. refl,
    )

pub returns : goal.returns
returns c = λ s rule source target are.
    rw c.is_some-2.ensures
    (second_spared s rule.equal c.args.pairs.now are rule c.args.source.now c.args.target.now
    c.in_ok-in_source.in_source c.in_ok-in_target.in_target
    c.in_ok-first_in_target.first_in_target c.in_ok-second_in_source.second_in_source source target
    c.in_ok-in_source.ensures c.in_ok-in_target.ensures c.in_ok-first_in_target.ensures
    c.in_ok-second_in_source.ensures
    (none_if c.in_ok-first.first _ (rw c.choices-choices.ensures at c.in_ok-first.ensures.none)
    (sym c.is_some.ensures ∙ c.if-is_some.false)) c.in_ok-second.second
    (rw c.choices-choices.ensures at c.in_ok-second.ensures.some)
    (rw c.choices-choices.ensures at c.in_ok-second.ensures.none))
