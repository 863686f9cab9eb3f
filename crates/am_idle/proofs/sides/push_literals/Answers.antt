use Rattle.std.proofs.Common.{refl, sym, ap, subst, ◌∙◌, [], ◌∷◌, ◌++◌, ◌≡◌, true, List, append_assoc, append-nil}
use Rattle.std.proofs.lemmas.List.{take_all}
use Rattle.am_universe.proofs.DistinctLists.{all_push}
use Rattle.am_judged_lists.specs.Cube.{MaskedLabels}
use Rattle.am_report_texts.proofs.PieceSteps.{item_here}
use Rattle.am_first_sets.specs.declared.candidate.Candidate.{Candidate}
use Rattle.am_idle.specs.RuleChoices.{AreWantedFor}
use Rattle.am_idle.proofs.SilenceSteps.{zip_more}
use Rattle.am_idle.proofs.sides.push_literals.Goals as goal

pub loop-i-init : goal.loop-i-init
loop-i-init c = ([], sym (append-nil c.args.literals.now.items), tt, tt)

pub loop-i-preserved : goal.loop-i-preserved
loop-i-preserved c =
    let cubes = c.args.cubes.now in
    let cube = c.index-cubes-i.result in
    let at = item_here cubes c.loop-i.i cube c.loop-i-test.true c.index-cubes-i.is in
    let so = c.loop-i.invariant in
    let k : Candidate = record { cube = _; wanted = true; named = true; tag = c.loop-i.i } in (
      so.0 ++ k ∷ [],
      c.in_ok-push.ensures.items ∙ ap (λ (xs : List Candidate). xs ++ k ∷ []) so.1
          ∙ append_assoc c.args.literals.now.items so.0 (k ∷ []),
      zip_more (λ (d : MaskedLabels) (l : Candidate). (l.cube.now ≡ d) × (l.wanted ≡ true)) cubes
          c.loop-i.i cube k so.0 (so.0 ++ k ∷ []) at refl so.2 (refl, refl),
      all_push (λ (l : Candidate). l.named ≡ true) so.0 k so.3 refl,
    )

pub returns : goal.returns
returns c =
    let so = c.loop-i.invariant in (
      so.0,
      so.1,
      subst (λ (cubes : List MaskedLabels). AreWantedFor cubes so.0)
          (take_all c.loop-i.i c.args.cubes.now c.loop-i-test.false) so.2,
      so.3,
    )
