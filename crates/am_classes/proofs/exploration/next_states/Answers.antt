use Rattle.std.proofs.Common.{◌≡◌, ◌∙◌, slice_get, sym, ap, subst, arith, inl, inr}
use Rattle.std.proofs.lemmas.Bool.{cases_Bool, cases_lt}
use Rattle.std.proofs.lemmas.Grind.{common_steps}
use Rattle.std.proofs.lemmas.Option.{same_Some, slice_get-get_or, slice_get_within}
use Rattle.am_scan.specs.Sight.{is_scanned}
use Rattle.am_classes.specs.Exploration.{LeadsOn}
use Rattle.am_classes.proofs.ExplorationLemmas.{leads_kept, none_led, unscanned_leads}
use Rattle.am_classes.proofs.exploration.next_states.Goals as goal

pub loop-byte-init : goal.loop-byte-init
loop-byte-init c = record {
  own = grind (arith, common_steps);
  same = grind (arith, common_steps);
  led = λ class byte at. absurd (none_led 256 class byte at);
  leads = λ k byte below at. absurd (omega arith);
}

pub loop-byte-preserved : goal.loop-byte-preserved
loop-byte-preserved c =
    let q = c.args.questions.now in
    let item = c.args.item.now in
    let old = c.loop-byte.nexts.items in
    let new = c.step_on.new.nexts.items in
    let order = c.args.order.now in
    let i = c.loop-byte.byte-index in
    let here = slice_get-get_or order i 0 c.loop-byte-test.true in
    record {
      own = c.step_on.ensures.own;
      same = c.step_on.ensures.same;
      led = c.step_on.ensures.led;
      leads = λ k byte below at. elim (cases_lt k i) [
        | inl before ↦
            leads_kept q old new item byte c.step_on.ensures.grows
            (c.loop-byte.invariant.leads k byte before at)
        | inr last ↦
            let same : k ≡ i = omega (arith, below, last) in
            subst (LeadsOn q new item)
            (same_Some _ byte (sym here ∙ ap (slice_get order) (sym same) ∙ at))
            c.in_ok-step_on.ensures.leads
      ];
    }

pub returns-clause-leads : goal.returns-clause-leads
returns-clause-leads c = λ byte small.
    elim (cases_Bool (is_scanned c.args.questions.now.bytes byte)) [
      | inl scanned ↦
          let listed = c.requires.order byte small scanned in
          c.loop-byte.invariant.leads listed.0 byte
          (omega (arith, c.loop-byte-test.false, slice_get_within c.args.order.now listed.0 byte listed.1))
          listed.1
      | inr not ↦ unscanned_leads c.args.questions.now c.loop-byte.nexts.items c.args.item.now byte not
    ]
