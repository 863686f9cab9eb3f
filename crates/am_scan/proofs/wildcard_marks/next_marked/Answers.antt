-- All marked places together add those that are marked for the longer text.
use Rattle.std.proofs.Common.{[], fold, ap, ◌∙◌, arith}
use Rattle.std.proofs.lemmas.List.{take_all}
use Rattle.am_scan.specs.WildcardPlaces.{push_next}
use Rattle.am_scan.proofs.WildcardLemmas.{next_marked}
use Rattle.am_scan.proofs.wildcard_marks.next_marked.Goals as goal

pub returns : goal.returns
returns c = λ text is.
    c.loop-at.invariant ∙ ap (fold (push_next c.args.places.now c.args.byte) []) (take_all c.loop-at.at-index c.args.marked.now (omega (arith, c.loop-at-test.false)) ∙ is)
    ∙ next_marked c.args.places.now c.args.byte text
