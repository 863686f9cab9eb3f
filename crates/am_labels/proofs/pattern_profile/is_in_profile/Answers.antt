-- The context and the text that is left decide what the whole pattern decides.
use Rattle.std.proofs.Common.{◌∙◌, drop, sym}
use Rattle.std.proofs.lemmas.List.{take_rest}
use Rattle.am_labels.proofs.PatternJoins.{cut_first, none_left}
use Rattle.am_labels.proofs.pattern_profile.is_in_profile.Goals as goal

pub returns-then-piece : goal.returns-then-piece
returns-then-piece c =
    let cut = cut_first c.loop-rest.context c.loop-rest.rest.now c.first_piece-piece.result
    c.in-len1-up.len_at_least c.first_piece-piece.ensures.value in
    sym (rw c.if-piece.true at cut) ∙ c.loop-rest.invariant

pub loop-rest-preserved : goal.loop-rest-preserved
loop-rest-preserved c =
    let rest = c.loop-rest.rest.now in
    let piece = c.first_piece-piece.result in
    let cut = cut_first c.loop-rest.context rest piece c.in-len1-up.len_at_least
    c.first_piece-piece.ensures.value in
    rw (take_rest rest 1, take_rest (drop 1 rest) piece.more)
    (sym (rw c.if-piece.false at cut) ∙ c.loop-rest.invariant)

pub returns : goal.returns
returns c =
    sym (none_left c.loop-rest.context c.loop-rest.rest.now c.in_default.len_below)
    ∙ c.loop-rest.invariant
