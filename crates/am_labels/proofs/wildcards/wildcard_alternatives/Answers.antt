use Rattle.std.proofs.Common.{map, lit<, ap, ◌∙◌}
use Rattle.std.proofs.lemmas.Iterator.Consumers.{YieldsList-end}
use Rattle.std.proofs.lemmas.Iterator.Splits.{YieldsList-from_str_split}
use Rattle.am_labels.specs.Wildcards.{pieces_of}
use Rattle.am_labels.proofs.wildcards.wildcard_alternatives.Goals as goal

pub returns : goal.returns
returns c =
    let splits = YieldsList-from_str_split {s = c.into_iter-alternative-iterator.result} 124
    c.args.pattern.now (lit< tt) (cc) (cc) (cc) in
    let loop = c.loop-alternative in
    let all = YieldsList-end splits loop.yielded loop.alternative-iterator loop.yielded_by
    c.next.result c.next.new.self c.in-None.is c.next.ensures.steps in
    loop.invariant ∙ ap (map pieces_of) all.0
