use Rattle.std.proofs.Common.{nat_lt, sym, ap, ◌∙◌, inl, inr, arith}
use Rattle.std.specs.List.{list_all}
use Rattle.std.proofs.lemmas.Bool.{cases_lt, lt-leb, le-leb}
use Rattle.am_judged_lists.proofs.JudgeLemmas.{reached, not_reached}
use Rattle.am_judged_lists.proofs.cube.Cube.is_within.Goals as goal

pub returns : goal.returns
returns c =
    let masks = c.self.inside.masks.items in
    let n = c.args.len in
    let same = ap (λ v. list_all (λ m. nat_lt m.label n) v.masks) c.self.view_is in
    elim (cases_lt n c.self.inside.reach) [
      | inl past ↦ lt-leb c.self.inside.reach n past ∙ sym (not_reached n masks (omega (arith, c.self.invariant.same, past))) ∙ same
      | inr within ↦ le-leb c.self.inside.reach n within ∙ sym (reached n masks (omega (arith, c.self.invariant.same, within))) ∙ same
    ]
