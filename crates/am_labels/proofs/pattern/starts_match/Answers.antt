use Rattle.std.proofs.Common.{◌∙◌, ap, sym, None, is_some, cond, length}
use Rattle.regex_nfa.specs.Run.{run}
use Rattle.am_labels.proofs.PatternLemmas.{at_one}
use Rattle.am_labels.proofs.pattern.starts_match.Goals as goal

pub returns-then-is_boundary-clause-match_there : goal.returns-then-is_boundary-clause-match_there
returns-then-is_boundary-clause-match_there c =
    let at = run c.args.nfa.now c.args.bytes.now (length c.args.bytes.now) c.args.nfa.now.start in
    c.is_match.ensures.found ∙ at_one at c.args.start
    ∙ ap (λ b. is_some (cond b (at c.args.start) None))
    (sym (sym c.is_boundary.ensures ∙ c.if-is_boundary.true))
