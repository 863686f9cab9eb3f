-- The test of all routes, in terms of what is said of them.
use Rattle.std.proofs.Common.{◌∙◌, sym, rules}
use Rattle.std.specs.Prelude.{Bool, ◌&&◌}
use borrow.Author.Tests.{tests}
use Rattle.std.proofs.lemmas.Iterator.{YieldsList-from_slice}
use Rattle.std.proofs.lemmas.Iterator.Search.{any_from_yields_List}
use Rattle.am_universe.proofs.UniverseLemmas.{list_any-map}
use Rattle.am_lint.specs.FoundView.{said_of}
use Rattle.am_lint.specs.LintLines.{Said, are_both}
use Rattle.am_lint.specs.Places.{is_child_of}
use Rattle.am_lint.proofs.below.is_said_above.Goals as goal

pub returns : goal.returns
returns c =
    let routes = c.args.routes.now in
    let said = said_of c.args.route.now in
    let says : Said → Bool =
    λ above. is_child_of above.path said.path && are_both above.finding said.finding in
    any_from_yields_List (λ route. says (said_of route)) _ _ c.any.result c.any.ensures.ran
    (YieldsList-from_slice routes cc) (λ x b q k. search (rules, tests))
    ∙ sym (list_any-map says said_of routes)
