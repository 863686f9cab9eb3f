use Rattle.std.proofs.Common.{refl}
use Rattle.std.proofs.lemmas.Result.{err_from_is_err_and}
use Rattle.std.proofs.lemmas.Str.Ascii.{trim_ascii_start_is, trim_ascii_is}
use Rattle.am_labels.proofs.MatcherTextSteps.{no_name, no_operator, no_body, whole_piece}
use Rattle.am_labels.proofs.matcher_text.read_piece.Goals as goal

pub returns-in_err-name : goal.returns-in_err-name
returns-in_err-name c =
    let p = err_from_is_err_and c.from_residual.result c.from_residual.ensures.1 in
    let begun = trim_ascii_start_is _ _ c.trim_ascii_start.ensures.value in
    rw (p.1, p.2) (no_name _ _ begun _ c.in_err-name.ensures)

pub returns-in_err-op : goal.returns-in_err-op
returns-in_err-op c =
    let p = err_from_is_err_and c.from_residual-in_err-op.result c.from_residual-in_err-op.ensures.1 in
    let begun = trim_ascii_start_is _ _ c.trim_ascii_start.ensures.value in
    let next = trim_ascii_start_is _ _ c.trim_ascii_start-2.ensures.value in
    rw (p.1, p.2) (no_operator _ _ begun _ _ _ c.in_ok-name.ensures next _ c.in_err-op.ensures)

pub returns-in_err-body : goal.returns-in_err-body
returns-in_err-body c =
    let p = err_from_is_err_and c.from_residual-in_err-body.result c.from_residual-in_err-body.ensures.1 in
    let begun = trim_ascii_start_is _ _ c.trim_ascii_start.ensures.value in
    let next = trim_ascii_start_is _ _ c.trim_ascii_start-2.ensures.value in
    let cut = trim_ascii_is _ _ _ refl c.trim_ascii.ensures.value in
    rw (p.1, p.2) (no_body _ _ begun _ _ _ c.in_ok-name.ensures next _ _ _ c.in_ok-op.ensures cut _ c.in_err-body.ensures)

pub returns : goal.returns
returns c =
    let begun = trim_ascii_start_is _ _ c.trim_ascii_start.ensures.value in
    let next = trim_ascii_start_is _ _ c.trim_ascii_start-2.ensures.value in
    let cut = trim_ascii_is _ _ _ refl c.trim_ascii.ensures.value in
    rw (c.in_ok-name-2.ensures.ok, c.in_ok-value.ensures)
    (whole_piece _ _ begun _ _ _ c.in_ok-name.ensures next _ _ _ c.in_ok-op.ensures cut _ c.in_ok-body.ensures)
