use Rattle.std.proofs.Common.{◌≡◌, ◌∷◌, subst}
use Rattle.std.proofs.lemmas.Result.{err_from_is_err_and}
use Rattle.std.specs.Vec.Iter.{into_iter_items}
use Rattle.am_labels.specs.Matcher.{Matcher}
use Rattle.am_labels.specs.MatcherRefusals.{MatcherRefusedFor}
use Rattle.am_labels.proofs.MatcherRefusalLemmas.{refused_at}
use Rattle.am_labels.proofs.matcher_text.matchers_of.Goals as goal

pub returns-in_err-matcher-clause-refused : goal.returns-in_err-matcher-clause-refused
returns-in_err-matcher-clause-refused c =
    let p = err_from_is_err_and c.from_residual.result c.from_residual.ensures.1 in
    let at = c.loop-spelled in
    let steps : into_iter_items at.spelled-iterator ≡ c.in-Some.spelled ∷ into_iter_items c.next.new.self = c.in-Some.ensures.steps.0 in
    rw (p.1, p.2) (λ other.
    let refused =
    subst (λ (m : Matcher). MatcherRefusedFor m c.in_err-matcher.field-0.0) c.spelled.view_is
    (c.in_err-matcher.ensures.refused other) in
    refused_at at.yielded c.in-Some.spelled _ c.args.list.items _
    (rw steps at at.invariant.left) c.requires.named
    (rw at.invariant.taken at at.invariant.valid_patterns) refused)
