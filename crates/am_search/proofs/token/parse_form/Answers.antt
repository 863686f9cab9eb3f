use Rattle.std.proofs.Common.{◌≡◌, ◌++◌, lit<, sym}
use Rattle.std.specs.Prelude.{codes}
use Rattle.std.proofs.lemmas.Str.Pattern.{split_after}
use Rattle.hex.specs.Hex.{encode_lower}
use Rattle.am_search.proofs.TokenTexts.{cut}
use Rattle.am_search.proofs.TokenForms.{written_form, no_colon}
use Rattle.am_search.proofs.token.parse_form.Goals as goal

pub returns-in_err-digits : goal.returns-in_err-digits
returns-in_err-digits c =
    let rest = c.in_ok-strip_prefix.field-0.now in
    let text : c.args.text.now ≡ codes "2:" ++ rest = cut (codes "2:") c.args.text.now rest c.in_ok-strip_prefix.ensures.cases in
    rw c.from_residual-in_err-digits.ensures
    (written_form c.args.text.now rest c.in_default.ensures.cases text
    (λ h a is e. rw c.in_err-digits.was at (split_after 58 rest (encode_lower h) a c.split_once.result c.split_once.ensures.cases (lit< tt) e (no_colon h is))))

pub returns-in_err-parse_digits : goal.returns-in_err-parse_digits
returns-in_err-parse_digits c =
    let rest = c.in_ok-strip_prefix.field-0.now in
    let text : c.args.text.now ≡ codes "2:" ++ rest = cut (codes "2:") c.args.text.now rest c.in_ok-strip_prefix.ensures.cases in
    let none = rw c.in_err-parse_digits.was at c.parse_digits.ensures in
    rw c.from_residual-in_err-parse_digits.ensures
    (written_form c.args.text.now rest c.in_default.ensures.cases text
    (λ h a is e.
    let parts = rw c.in_ok-digits.was at (split_after 58 rest (encode_lower h) a c.split_once.result c.split_once.ensures.cases (lit< tt) e (no_colon h is)) in
    none h is (sym parts.0)))
