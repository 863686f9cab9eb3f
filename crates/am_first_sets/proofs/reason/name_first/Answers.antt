-- One literal more is named.
use Rattle.std.proofs.Common.{◌≡◌, subst, sym, ap, ◌∙◌, add-one, true}
use Rattle.am_first_sets.specs.Reason.{named_first, renamed}
use Rattle.am_first_sets.proofs.ReasonLemmas.{first_named}
use Rattle.am_first_sets.proofs.reason.name_first.Goals as goal

pub loop-i-preserved : goal.loop-i-preserved
loop-i-preserved c =
    let ks = c.args.candidates.now in
    let i = c.loop-i.i in
    subst (λ m. c.set_named.new.candidates ≡ named_first m ks) (sym (add-one i))
    (c.set_named.ensures ∙ ap (renamed i true) c.loop-i.invariant ∙ first_named i ks)
