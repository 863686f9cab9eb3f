use Rattle.std.proofs.Common.{◌∷◌, length, sym, ap, ◌∙◌, arith}
use Rattle.am_judged_lists.proofs.WordLemmas.{length_permitted}
use Rattle.am_judged_lists.proofs.mask.Mask.words.Goals as goal

pub returns : goal.returns
returns c =
    let inside = c.self.inside in
    let long = sym (ap length c.self.view_is) ∙ length_permitted (inside.first ∷ inside.more.items) in
    omega (arith, long, c.len.ensures)
