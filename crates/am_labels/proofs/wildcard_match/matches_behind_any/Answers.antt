-- What is left of both decides, behind any text.
use Rattle.std.proofs.Common.{sym, ◌∙◌}
use Rattle.am_labels.specs.Wildcards.{matches, pieces_of}
use Rattle.am_labels.proofs.WildcardMatches.{any_here}
use Rattle.am_labels.proofs.WildcardFronts.{any_front}
use Rattle.am_labels.proofs.wildcard_match.matches_behind_any.Goals as goal

pub returns-in-Whole : goal.returns-in-Whole
returns-in-Whole c =
    let loop = c.loop-byte in
    sym (any_here (matches (pieces_of loop.alternative.now)) loop.text.now c.in-Whole.ensures.front)
    ∙ loop.invariant

pub loop-byte-preserved : goal.loop-byte-preserved
loop-byte-preserved c =
    let front = c.in-AtAnyText.ensures.front in
    sym (any_front _ _ _ _ front.0 front.1 front.2) ∙ c.loop-byte.invariant
