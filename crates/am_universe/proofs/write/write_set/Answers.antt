-- Each turn writes one more label, after its separator.
use Rattle.std.proofs.Common.{◌≡◌, length, ap, sym, ◌∙◌, arith}
use Rattle.std.specs.Option.{option_map}
use Rattle.std.proofs.lemmas.List.{length-map}
use Rattle.am_universe.proofs.WholeChoiceLemmas.{admitted_at}
use Rattle.am_universe.proofs.Writing.{◌⟩◌, fails, wrote_then, wrote_as, writes_as}
use Rattle.am_universe.proofs.SetTextLemmas.{next_pair, no_pair, pair_among, set_through, set_more, set_end, separator, separator_behind}
use Rattle.am_universe.proofs.write.write_set.Goals as goal
use Rattle.am_universe.proofs.write.write_set.Goals.{in-Some+in_ok-write_pair, in_default}

pub value-requires-clause-value : goal.value-requires-clause-value
value-requires-clause-value g c =
    let whole : length c.args.choice.now ≡ length c.args.universe.now = c.requires.1 ∙ length-map _ _ in
    let below = admitted_at _ c.args.choice.now c.loop-i.i c.requires.0 (omega arith) in
    omega arith

pub returns-in_err-write_pair : goal.returns-in_err-write_pair
returns-in_err-write_pair g c = record {
  written =
      let u = c.args.universe.now in
      let whole : length c.args.choice.now ≡ length u = c.requires.1 ∙ length-map _ _ in
      let text = sym (ap (option_map (λ t. t.now)) c.in-Some.is) ∙ c.value.ensures.text in
      let among = pair_among u c.args.choice.now c.loop-i.i _ c.name.result.now c.in-Some.value.now whole (omega arith) (c.from.ensures ∙ c.get.ensures.position) c.name.ensures.name text in
      writes_as (set_through _ _ _ _ _ among c.loop-i.invariant.separator) (c.loop-i.invariant.written ⟩ fails _ c.from_residual-in_err-write_pair.ensures c.in_err-write_pair.ensures);
}

pub loop-i-preserved : goal.loop-i-preserved
loop-i-preserved g c =
    let u = c.args.universe.now in
    let whole : length c.args.choice.now ≡ length u = c.requires.1 ∙ length-map _ _ in
    let is = c.from.ensures ∙ c.get.ensures.position in
    elim c.match-value.branch [
      | in-Some+in_ok-write_pair w ↦
          let text = sym (ap (option_map (λ t. t.now)) w.in-Some.is) ∙ c.value.ensures.text in
          let next = next_pair u c.args.choice.now c.loop-i.i _ w.name.result.now w.in-Some.value.now whole (omega arith) is w.name.ensures.name text in
          record {
            written = simp w.out-is (wrote_as (set_more _ _ _ _ next c.loop-i.invariant.separator) (wrote_then c.loop-i.invariant.written w.in_ok-write_pair.ensures.ok));
            separator = ap (λ s. s.now) w.separator-is ∙ separator_behind _ _ ∙ ap separator (sym next);
          }
      | in_default w ↦
          let none = sym (ap (option_map (λ t. t.now)) w.in_default.is) ∙ c.value.ensures.text in
          let same = no_pair u c.args.choice.now c.loop-i.i _ whole (omega arith) is none in
          record {
            written = simp (w.out-is, same) c.loop-i.invariant.written;
            separator = ap (λ s. s.now) w.separator-is ∙ c.loop-i.invariant.separator ∙ ap separator (sym same);
          }
    ]

pub returns : goal.returns
returns g c = record {
  written =
      let whole : length c.args.choice.now ≡ length c.args.universe.now = c.requires.1 ∙ length-map _ _ in
      writes_as (set_end c.args.universe.now c.args.choice.now c.loop-i.i whole (omega arith)) (c.loop-i.invariant.written ⟩ c.put_all-2.ensures.written);
}
