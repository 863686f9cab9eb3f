use Rattle.std.proofs.Common.{◌≡◌, None, is_ok}
use Rattle.am_universe.specs.Universe.{label_fault}
use Rattle.am_universe.specs.UniverseView.{label_of}
use Rattle.am_universe.proofs.LabelFaultLemmas.{checked_label, pushed_universe}
use Rattle.am_universe.proofs.universe.Universe.add_checked.Goals as goal

pub invariant_of-self : goal.invariant_of-self
invariant_of-self c =
    let u = c.self.inside.labels.items in
    let label = label_of c.args.name c.args.values in
    let fine : label_fault u label ≡ None = cc in
    rw c.push.ensures.items (pushed_universe u label (is_ok c.push.result) c.self.invariant (checked_label u label fine))
