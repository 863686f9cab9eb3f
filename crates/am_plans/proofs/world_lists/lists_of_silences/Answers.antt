use Rattle.std.proofs.Common.{◌&&◌, ◌||◌, inl, inr, sym, ap, ◌∙◌, length, arith}
use Rattle.std.specs.Prelude.{slice_get}
use Rattle.std.specs.List.{list_any}
use Rattle.std.proofs.lemmas.List.{take_all}
use Rattle.std.proofs.lemmas.Option.{slice_get_cases, same_Some}
use Rattle.am_judged_lists.specs.Certainty.{passes}
use Rattle.am_judged_lists.specs.Cube.{verdict_at}
use Rattle.am_judged_lists.specs.Verdicts.{verdict_of_list}
use Rattle.am_plans.proofs.SilenceSteps.{hides, silences_truth}
use Rattle.am_plans.proofs.ListTests.{any_more}
use Rattle.std.proofs.Math.Bool.{or-false}
use Rattle.am_plans.proofs.world_lists.lists_of_silences.Goals as goal
use Rattle.am_plans.proofs.world_lists.lists_of_silences.Goals.{then-active+in_ok-list+in_ok-add_list, else-active}

pub loop-i-preserved : goal.loop-i-preserved
loop-i-preserved c = λ prefix m admitted.
    let u = c.args.universe.now in
    let world = c.args.world.now in
    let i = c.loop-i.i in
    let so_far = list_any (λ cube. passes m (verdict_at cube prefix)) c.loop-i.lists.items in
    let told = c.loop-i.invariant prefix m admitted in
    elim (slice_get_cases world.silences i).1 [
      | inl at ↦
          let one = any_more (hides u world prefix m) world.silences i at.0 so_far _ at.2 told in
          elim c.if-active.branch [
            | then-active+in_ok-list+in_ok-add_list w ↦
                let active = sym (c.active.ensures.active at.0 at.2) ∙ w.if-active.true in
                let here = ap (λ xs. slice_get xs i) (sym w.silences-then-active.ensures.silences)
                ∙ w.get.ensures.silence in
                let same = same_Some w.get.result.now at.0 (sym here ∙ at.2) in
                let exact = w.in_ok-list.ensures.exact prefix admitted
                ∙ ap (λ ms. verdict_of_list u ms prefix) w.matchers.ensures.matchers
                ∙ ap (λ silence. verdict_of_list u silence.matchers prefix) same in
                one (rw w.lists-is (w.in_ok-add_list.ensures prefix m)
                ∙ (λ j. so_far || (sym active j && passes m (exact j))))
            | else-active w ↦
                let idle = sym (c.active.ensures.active at.0 at.2) ∙ w.if-active.false in
                one (rw w.lists-is (sym (or-false so_far))
                ∙ ap (λ b. so_far || (b && passes m (verdict_of_list u at.0.matchers prefix)))
                (sym idle))
          ]
      | inr past ↦
          absurd (omega (
            arith,
            past.0,
            c.loop-i-test.true,
            c.len-i-end.ensures.count,
            ap (λ xs. length xs) c.silences.ensures.silences,
          ))
    ]

pub returns : goal.returns
returns c =
    let world = c.args.world.now in
    let all = take_all c.loop-i.i world.silences
    (omega (
      arith,
      c.loop-i-test.false,
      c.len-i-end.ensures.count,
      ap (λ xs. length xs) c.silences.ensures.silences,
    )) in
    record {
      silenced = λ prefix m admitted.
          c.loop-i.invariant prefix m admitted
          ∙ ap (list_any (hides c.args.universe.now world prefix m)) all
          ∙ silences_truth c.args.universe.now world prefix m;
    }
