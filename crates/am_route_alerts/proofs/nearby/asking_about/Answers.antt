-- One literal more is listed, or does not ask about the label.
use Rattle.std.proofs.Common.{◌≡◌, ◌++◌, ◌∷◌, [], ℕ, List, Some, true, Contains, sym, ap, ◌∙◌}
use Rattle.std.proofs.Common.{subst, inl, inr, arith, get_or}
use Rattle.std.specs.Prelude.{slice_get}
use Rattle.std.specs.Global.{Vec}
use Rattle.std.proofs.lemmas.Bool.{both_ways, cases_lt}
use Rattle.std.proofs.lemmas.List.Elements.{Contains-append_left, Contains-push}
use Rattle.std.proofs.lemmas.Option.{get_or_from_slice_get, slice_get_within}
use Rattle.am_route_alerts.specs.Nearby.{is_free}
use Rattle.am_route_alerts.proofs.nearby.asking_about.Goals as goal
use Rattle.am_route_alerts.proofs.nearby.asking_about.Goals.{then-not-is_free+in_ok-push, else-not-is_free}

pub loop-i-preserved : goal.loop-i-preserved
loop-i-preserved c = λ j k lt at asks.
    let ks = c.args.literals.now in
    let i = c.loop-i.i in
    let before = c.loop-i.found.items in
    elim c.if-not-is_free.branch [
      | then-not-is_free+in_ok-push w ↦
          subst (λ (v : Vec ℕ). Contains v.items j) (sym w.found-is)
          (subst (λ (xs : List ℕ). Contains xs j) (sym w.in_ok-push.ensures.items)
          (elim (cases_lt j i) [
            | inl below ↦
                Contains-append_left before (i ∷ []) j (c.loop-i.invariant j k below at asks)
            | inr ge ↦
                subst (Contains (before ++ i ∷ [])) (omega (arith, lt, ge)) (Contains-push before i)
          ]))
      | else-not-is_free w ↦
          subst (λ (v : Vec ℕ). Contains v.items j) (sym w.found-is) (elim (cases_lt j i) [
            | inl below ↦ c.loop-i.invariant j k below at asks
            | inr ge ↦
                (let here : slice_get ks i ≡ Some k =
                subst (λ (n : ℕ). slice_get ks n ≡ Some k) (omega (arith, lt, ge)) at in
                let literal = c.index-literals-i.result in
                let told : c.is_free.result ≡ is_free c.args.label (get_or ks i literal) =
                c.is_free.ensures.free in
                let free : is_free c.args.label k ≡ true =
                ap (is_free c.args.label) (sym (get_or_from_slice_get ks i k literal here))
                ∙ sym told ∙ w.if-not-is_free.false in
                absurd (both_ways (is_free c.args.label k) asks free))
          ])
    ]

pub returns : goal.returns
returns c = λ j k at asks.
    c.loop-i.invariant j k
    (omega (
      arith,
      slice_get_within c.args.literals.now j k at,
      c.loop-i-test.false,
      c.loop-i.auto.i-end,
    )) at asks
