-- The text is searched from its first position on.
use Rattle.std.proofs.Common.{◌∙◌, sym, refl, arith}
use Rattle.std.proofs.lemmas.Grind.{common_steps}
use Rattle.am_labels.proofs.PatternLemmas.{here_or_later, nothing_past}
use Rattle.am_labels.proofs.pattern.has_match.Goals as goal

pub loop-start-init : goal.loop-start-init
loop-start-init c = (refl, rw c.as_bytes-bytes.ensures.value refl)

pub returns-then-starts_match-clause-found : goal.returns-then-starts_match-clause-found
returns-then-starts_match-clause-found c = grind (arith, common_steps, here_or_later)

pub loop-start-preserved : goal.loop-start-preserved
loop-start-preserved c = grind (arith, common_steps, here_or_later)

pub returns-clause-found : goal.returns-clause-found
returns-clause-found c =
    sym (c.loop-start.invariant.1
    ∙ nothing_past _ c.loop-start.start _ (omega (arith, c.loop-start-test.false)))
