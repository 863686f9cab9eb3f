-- What the three tests of all routes give.
use Rattle.std.proofs.Common.{◌≡◌, ◌∙◌, refl, sym, map, rules}
use borrow.Author.Tests.{tests}
use Rattle.std.specs.List.{list_any}
use Rattle.std.proofs.lemmas.Iterator.{YieldsList-from_slice}
use Rattle.std.proofs.lemmas.Iterator.Search.{any_from_yields_List}
use Rattle.am_universe.proofs.UniverseLemmas.{list_any-map}
use Rattle.am_lint.specs.FoundView.{has_ordinary, has_other, said_of}
use Rattle.am_lint.specs.Report.{has_undecided}
use Rattle.am_lint.proofs.found.receiver_finding.Goals as goal
use Rattle.am_lint.proofs.found.receiver_finding.Goals.{After-any, After-any-else-any}
use Rattle.am_lint.proofs.found.receiver_finding.Goals.{After-any-else-any-2}

ordinary : (c : After-any)
    → list_any (has_ordinary c.args.receiver) c.args.routes.now ≡ c.any.result
ordinary c =
    sym (any_from_yields_List (has_ordinary c.args.receiver) _ _ c.any.result c.any.ensures.ran
    (YieldsList-from_slice c.args.routes.now cc) (λ x b q k. search (rules, tests)))

undecided : (c : After-any-else-any)
    → list_any (has_undecided c.args.receiver) (map said_of c.args.routes.now)
    ≡ c.any-else-any.result
undecided c =
    list_any-map (has_undecided c.args.receiver) said_of c.args.routes.now
    ∙ sym (any_from_yields_List (λ route. has_undecided c.args.receiver (said_of route)) _ _
    c.any-else-any.result c.any-else-any.ensures.ran
    (YieldsList-from_slice c.args.routes.now cc) (λ x b q k. search (rules, tests)))

other : (c : After-any-else-any-2)
    → list_any (has_other c.args.receiver) c.args.routes.now ≡ c.any-else-any-2.result
other c =
    sym (any_from_yields_List (has_other c.args.receiver) _ _ c.any-else-any-2.result
    c.any-else-any-2.ensures.ran (YieldsList-from_slice c.args.routes.now cc)
    (λ x b q k. search (rules, tests)))

pub returns-then-any-2 : goal.returns-then-any-2
returns-then-any-2 c =
    let at = goal.at.returns-then-any-2 c in
    record {
      finding = rw (
        ordinary at.After-any ∙ c.if-any.false,
        undecided at.After-any-else-any ∙ c.if-any-2.true,
      ) refl;
    }

pub returns-then-any-3 : goal.returns-then-any-3
returns-then-any-3 c =
    let at = goal.at.returns-then-any-3 c in
    record {
      finding = rw (
        ordinary at.After-any ∙ c.if-any.false,
        undecided at.After-any-else-any ∙ c.if-any-2.false,
        other at.After-any-else-any-2 ∙ c.if-any-3.true,
      ) refl;
    }

pub returns-else-any-3 : goal.returns-else-any-3
returns-else-any-3 c =
    let at = goal.at.returns-else-any-3 c in
    record {
      finding = rw (
        ordinary at.After-any ∙ c.if-any.false,
        undecided at.After-any-else-any ∙ c.if-any-2.false,
        other at.After-any-else-any-2 ∙ c.if-any-3.false,
      ) refl;
    }
