-- Each turn adds the value of one more label.
use Rattle.std.proofs.Common.{◌≡◌, length, string_bytes, ap, sym, ◌∙◌, arith}
use Rattle.std.specs.Option.{option_map}
use Rattle.std.proofs.lemmas.List.{length-map}
use Rattle.am_universe.specs.LabelSet.{with_value}
use Rattle.am_universe.proofs.WholeChoiceLemmas.{admitted_at}
use Rattle.am_universe.proofs.LabelSetLemmas.{turn_with, turn_without}
use Rattle.am_universe.proofs.label_set.set_of.Goals as goal
use Rattle.am_universe.proofs.label_set.set_of.Goals.{in-Some+in_ok-name+in_ok-value+in_ok-put, in_default}

pub value-requires-clause-value : goal.value-requires-clause-value
value-requires-clause-value c =
    let whole : length c.args.choice.now ≡ length c.args.universe.now = c.requires.1 ∙ length-map _ _ in
    let below = admitted_at _ c.args.choice.now c.loop-i.i c.requires.0 (omega arith) in
    omega arith

pub loop-i-preserved : goal.loop-i-preserved
loop-i-preserved c =
    let u = c.args.universe.now in
    let whole : length c.args.choice.now ≡ length u = c.requires.1 ∙ length-map _ _ in
    let is = c.from.ensures ∙ c.get.ensures.position in
    elim c.match-value.branch [
      | in-Some+in_ok-name+in_ok-value+in_ok-put w ↦
          let text = sym (ap (option_map (λ t. t.now)) w.in-Some.is) ∙ c.value.ensures.text in
          let put = w.in_ok-put.ensures.ok ∙ ap (λ n. with_value c.loop-i.set n (string_bytes w.in_ok-value.value)) w.in_ok-name.ensures.ok ∙ ap (with_value c.loop-i.set w.name.result.now) w.in_ok-value.ensures.ok in
          w.set-is ∙ put ∙ turn_with u c.args.choice.now c.loop-i.i _ _ w.name.result.now w.in-Some.value.now c.len-i-end.ensures.universe whole (omega arith) is c.loop-i.invariant w.name.ensures.name text
      | in_default w ↦
          let none = sym (ap (option_map (λ t. t.now)) w.in_default.is) ∙ c.value.ensures.text in
          w.set-is ∙ turn_without u c.args.choice.now c.loop-i.i _ _ whole (omega arith) is c.loop-i.invariant none
    ]
