-- The two tests of all routes, in terms of what is said of them.
use Rattle.std.proofs.Common.{◌≡◌, ◌∙◌, sym, refl, map, rules}
use Rattle.std.specs.Prelude.{Bool, true, false, ◌==◌}
use Rattle.std.specs.List.{list_any}
use borrow.Author.Tests.{tests}
use Rattle.std.proofs.lemmas.Iterator.{YieldsList-from_slice}
use Rattle.std.proofs.lemmas.Iterator.Search.{any_from_yields_List}
use Rattle.am_universe.proofs.UniverseLemmas.{list_any-map}
use Rattle.am_lint.specs.FoundView.{said_of}
use Rattle.am_lint.specs.LintLines.{Said, has_and_keeps}
use Rattle.am_lint.proofs.lint_lines.only_group.Goals as goal

pub returns-then-any : goal.returns-then-any
returns-then-any c =
    let routes = c.args.routes.now in
    let has : Said → Bool = λ said. said.receiver == c.args.receiver in
    let keeps : Said → Bool = has_and_keeps c.args.receiver in
    let some : list_any has (map said_of routes) ≡ true =
    list_any-map has said_of routes
    ∙ sym (any_from_yields_List (λ route. has (said_of route)) _ _ c.any.result c.any.ensures.ran
    (YieldsList-from_slice routes cc) (λ x b q k. search (rules, tests))) ∙ c.if-any.true in
    let kept : list_any keeps (map said_of routes) ≡ c.any-then-any.result =
    list_any-map keeps said_of routes
    ∙ sym (any_from_yields_List (λ route. keeps (said_of route)) _ _ c.any-then-any.result
    c.any-then-any.ensures.ran (YieldsList-from_slice routes cc)
    (λ x b q k. search (rules, tests))) in
    rw (some, kept) refl

pub returns-else-any : goal.returns-else-any
returns-else-any c =
    let routes = c.args.routes.now in
    let has : Said → Bool = λ said. said.receiver == c.args.receiver in
    let none : list_any has (map said_of routes) ≡ false =
    list_any-map has said_of routes
    ∙ sym (any_from_yields_List (λ route. has (said_of route)) _ _ c.any.result c.any.ensures.ran
    (YieldsList-from_slice routes cc) (λ x b q k. search (rules, tests))) ∙ c.if-any.false in
    rw (none, c.if-any.false) refl
