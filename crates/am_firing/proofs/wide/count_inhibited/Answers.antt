-- No alert that the source side misses inhibits another. And one more alert, which is inhibited or not.
use Rattle.std.proofs.Common.{◌≡◌, ◌<◌, false, length, refl, ap, sym, ◌∙◌, arith}
use Rattle.std.proofs.lemmas.List.{length-map}
use Rattle.am_universe.proofs.LabelPairLemmas.{found_at}
use Rattle.am_universe.specs.LabelSet.{LabelMap}
use Rattle.am_labels.specs.Matcher.{all_hold}
use Rattle.am_eval.specs.Inhibition.{inhibits}
use Rattle.am_firing.proofs.Inhibiting.{read_at, counted_yes, counted_no, counted_none}
use Rattle.am_firing.proofs.wide.count_inhibited.Goals as goal
use Rattle.am_firing.proofs.wide.count_inhibited.Goals.{then-inhibits, else-inhibits}

pub returns-then-not-index : goal.returns-then-not-index
returns-then-not-index c = λ rule alerts alert known at.
    let source = λ (a : LabelMap). all_hold a rule.source in
    let misses : source alert ≡ false =
    sym (read_at source alerts c.args.deciding.now.source.items c.args.firing alert _ known.source at
    c.index.ensures) ∙ c.if-not-index.true in
    counted_none (inhibits rule alert) (λ other. rw misses refl) alerts

pub loop-other-preserved : goal.loop-other-preserved
loop-other-preserved c = record {
  counted = λ rule alerts alert known at.
      let i = c.loop-other.other in
      let within : i < length alerts =
      omega (
        arith,
        c.loop-other-test.true,
        c.len-other-end.ensures,
        c.args.deciding.now.source.ok.0,
        ap length known.source,
        length-map alerts (λ (a : LabelMap). all_hold a rule.source),
      ) in
      let there = found_at alerts i within in
      let test = c.inhibits.ensures rule alerts alert there.0 known at there.1 in
      elim c.if-inhibits.branch [
        | then-inhibits w ↦
            counted_yes (inhibits rule alert) alerts i there.0 c.loop-other.count _ there.1
            (sym test ∙ w.if-inhibits.true) (c.loop-other.invariant.counted rule alerts alert known at) w.count-is
        | else-inhibits w ↦
            counted_no (inhibits rule alert) alerts i there.0 c.loop-other.count _ there.1
            (sym test ∙ w.if-inhibits.false) (c.loop-other.invariant.counted rule alerts alert known at) w.count-is
      ];
  few = elim c.if-inhibits.branch [
    | then-inhibits w ↦ omega (arith, w.count-is, c.loop-other.invariant.few)
    | else-inhibits w ↦ omega (arith, w.count-is, c.loop-other.invariant.few)
  ];
}
