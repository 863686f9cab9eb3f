use Rattle.std.proofs.Common.{arith}
use Rattle.std.proofs.lemmas.Slice.Zip.{all_zipped_more}
use Rattle.std.proofs.lemmas.Grind.{common_steps}
use Rattle.am_universe.proofs.Members.{in_at}
use Rattle.am_complete.proofs.AskedLabels.{asked_for}
use Rattle.am_complete.proofs.LabelStates.{stands_at}
use Rattle.am_complete.proofs.Pushed.{one_longer}
use Rattle.am_complete.proofs.made_universe.missing_of_each.Goals as goal

pub missing_at-requires : goal.missing_at-requires
missing_at-requires c = λ some.
    let asked = c.args.asked.now in
    let i = c.loop-label.label-index in
    let l = c.label-item.result in
    asked_for c.args.space.now.impossible asked c.requires.0 l c.requires.1 c.requires.2
    (in_at asked i l (stands_at asked i l c.loop-label-test.true c.label-item.is)) some

pub loop-label-preserved : goal.loop-label-preserved
loop-label-preserved c = grind (arith, common_steps, stands_at, one_longer, all_zipped_more)
