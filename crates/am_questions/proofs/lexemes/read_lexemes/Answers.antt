use Rattle.std.proofs.Common.{◌≡◌, ◌<◌, length, ap, arith}
use Rattle.std.proofs.lemmas.Grind.{common_steps}
use Rattle.std.proofs.lemmas.List.{map-append, length-drop}
use Rattle.std.specs.List.{prefix_len}
use Rattle.am_labels.specs.MatcherText.{is_space}
use Rattle.std.proofs.lemmas.Str.Ascii.{trim_ascii_start_is}
use Rattle.std.proofs.lemmas.Result.{err_from_is_err_and}
use Rattle.am_questions.specs.LexemeView.{lexeme_view}
use Rattle.am_questions.proofs.LexemeTexts.{at_first, one_more, at_end, none_here}
use Rattle.am_questions.proofs.LexemeTexts.{trimmed_first}
use Rattle.am_questions.proofs.lexemes.read_lexemes.Goals as goal

pub loop-rest-init : goal.loop-rest-init
loop-rest-init c =
    let is = trim_ascii_start_is c.args.text.now c.trim_ascii_start-rest.result.now
    c.trim_ascii_start-rest.ensures.value in
    (c.trim_ascii_start-rest.utf8, rw (c.new-lexemes.ensures.items, is) (at_first c.args.text.now))

pub returns-in_err-lexeme-clause-refused : goal.returns-in_err-lexeme-clause-refused
returns-in_err-lexeme-clause-refused c =
    let p = err_from_is_err_and c.from_residual.result c.from_residual.ensures.1 in
    let some : 0 < length c.loop-rest.rest.now = grind (arith, common_steps) in
    rw (p.1, p.2) (λ other.
    let refused = c.in_err-lexeme.ensures.refused other in (
      refused.0,
      none_here _ _ _ c.loop-rest.invariant.1 some refused.1,
    ))

pub loop-rest-smaller : goal.loop-rest-smaller
loop-rest-smaller c =
    let some : 0 < length c.loop-rest.rest.now = grind (arith, common_steps) in
    let is = ap length
    (trim_ascii_start_is c.in_ok-lexeme.behind.now
    c.trim_ascii_start-rest-in-loop-rest.result.now
    c.trim_ascii_start-rest-in-loop-rest.ensures.value) in
    let on = c.loop-rest.invariant.1 in
    let first = rw (← on.trimmed) at (trimmed_first on.left) in
    let less = c.in_ok-lexeme.ensures.shorter some first in
    let cut = length-drop (prefix_len is_space c.in_ok-lexeme.behind.now) c.in_ok-lexeme.behind.now in
    omega arith

pub loop-rest-preserved : goal.loop-rest-preserved
loop-rest-preserved c =
    let some : 0 < length c.loop-rest.rest.now = grind (arith, common_steps) in
    let trimmed = c.trim_ascii_start-rest-in-loop-rest in
    let is =
    trim_ascii_start_is c.in_ok-lexeme.behind.now trimmed.result.now trimmed.ensures.value in
    let more =
    one_more _ _ _ c.loop-rest.invariant.1 (lexeme_view c.in_ok-lexeme.lexeme)
    c.in_ok-lexeme.behind.now some c.in_ok-lexeme.ensures.read in
    (trimmed.utf8, rw (is, c.in_ok-push.ensures.items, map-append) more)

pub returns-clause-read : goal.returns-clause-read
returns-clause-read c =
    let none : length c.loop-rest.rest.now ≡ 0 = grind (arith, common_steps) in
    at_end _ _ _ c.loop-rest.invariant.1 none
