use Rattle.std.proofs.Common.{◌<◌, sym, subst}
use Rattle.std.specs.List.{AllByRecursion}
use Rattle.am_judged_lists.proofs.JudgeLemmas.{kept_pushed}
use Rattle.am_judged_lists.proofs.cube.Cube.push.Goals as goal

pub invariant_of-self-2 : goal.invariant_of-self-2
invariant_of-self-2 c =
    rw c.in_ok-push.ensures.items
    (kept_pushed c.self.inside.masks.items (record { label = c.args.label; mask = c.args.mask }) c.self.inside.reach c.self.invariant
    (subst (λ v. AllByRecursion (λ m. m.label < c.args.label) v.masks) (sym c.self.view_is) c.requires.last))
