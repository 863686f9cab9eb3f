use Rattle.std.proofs.Common.{◌≡◌, ◌∷◌, lit<}
use Rattle.std.proofs.lemmas.Str.Pattern.{strip_prefix_char}
use Rattle.am_universe.specs.Universe.{sizes}
use Rattle.am_search.proofs.TokenForms.{no_form, no_prefix, no_whole, no_letter}
use Rattle.am_search.proofs.token.parse_spelled.Goals as goal

pub returns-in_err-form : goal.returns-in_err-form
returns-in_err-form c =
    let text = c.args.text.now in
    let cut : text ≡ 115 ∷ c.in-Some.rest.now = rw c.in-Some.is at (strip_prefix_char 115 text c.strip_prefix.result c.strip_prefix.ensures.cases (lit< tt)) in
    rw c.from_residual.ensures (no_form (sizes c.args.universe.now) text c.in-Some.rest.now 115 cut (rw c.in_err-form.was at c.parse_form.ensures))

pub returns-in_err-prefix : goal.returns-in_err-prefix
returns-in_err-prefix c =
    let text = c.args.text.now in
    let cut : text ≡ 115 ∷ c.in-Some.rest.now = rw c.in-Some.is at (strip_prefix_char 115 text c.strip_prefix.result c.strip_prefix.ensures.cases (lit< tt)) in
    let form = rw c.in_ok-form.was at c.parse_form.ensures in
    rw c.from_residual-in_err-prefix.ensures (no_prefix (sizes c.args.universe.now) text c.in-Some.rest.now c.in_ok-form.form c.in_ok-form.positions.now cut form.0 form.1 (rw c.in_err-prefix.was at c.parse_positions.ensures))

pub returns-in_err-strip_prefix : goal.returns-in_err-strip_prefix
returns-in_err-strip_prefix c =
    let text = c.args.text.now in
    let s = rw c.in_default.is at (strip_prefix_char 115 text c.strip_prefix.result c.strip_prefix.ensures.cases (lit< tt)) in
    let t = rw c.in_err-strip_prefix.was at (strip_prefix_char 116 text c.strip_prefix-2.result c.strip_prefix-2.ensures.cases (lit< tt)) in
    rw c.from_residual-in_err-strip_prefix.ensures (no_letter (sizes c.args.universe.now) text s t)

pub returns-in_err-form-2 : goal.returns-in_err-form-2
returns-in_err-form-2 c =
    let text = c.args.text.now in
    let rest = c.in_ok-strip_prefix.field-0.now in
    let cut : text ≡ 116 ∷ rest = rw c.in_ok-strip_prefix.was at (strip_prefix_char 116 text c.strip_prefix-2.result c.strip_prefix-2.ensures.cases (lit< tt)) in
    rw c.from_residual-in_err-form-2.ensures (no_form (sizes c.args.universe.now) text rest 116 cut (rw c.in_err-form-2.was at c.parse_form-2.ensures))

pub returns-in_err-choice : goal.returns-in_err-choice
returns-in_err-choice c =
    let text = c.args.text.now in
    let rest = c.in_ok-strip_prefix.field-0.now in
    let cut : text ≡ 116 ∷ rest = rw c.in_ok-strip_prefix.was at (strip_prefix_char 116 text c.strip_prefix-2.result c.strip_prefix-2.ensures.cases (lit< tt)) in
    let form = rw c.in_ok-form-2.was at c.parse_form-2.ensures in
    rw c.from_residual-in_err-choice.ensures (no_whole (sizes c.args.universe.now) text rest c.in_ok-form-2.form c.in_ok-form-2.positions.now cut form.0 form.1 (rw c.in_err-choice.was at c.parse_whole.ensures))
