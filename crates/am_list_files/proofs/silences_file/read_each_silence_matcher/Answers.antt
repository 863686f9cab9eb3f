use Rattle.std.proofs.Common.{rules}
use Rattle.std.proofs.lemmas.Result.{err_from_is_err_and}
use Rattle.am_list_files.specs.SilencesForm.{silence_matcher_form}
use Rattle.am_list_files.proofs.silences_file.read_each_silence_matcher.Goals as goal

pub returns-in_err-matchers : goal.returns-in_err-matchers
returns-in_err-matchers c =
    let p = err_from_is_err_and c.from_residual.result c.from_residual.ensures.1 in
    let each = c.in_err-matchers.ensures.reading silence_matcher_form in
    rw (p.1, p.2) (each (λ value found at. search rules))

pub returns : goal.returns
returns c =
    let each = c.in_ok-matchers.ensures.reading silence_matcher_form in
    rw c.of.ensures.matchers (each (λ value found at. search rules))
