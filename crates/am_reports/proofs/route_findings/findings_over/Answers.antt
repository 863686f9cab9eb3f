-- What is found over the universes is true of the alerts that they stand for, and the lines say it.
use Rattle.std.proofs.Common.{List, length, refl, sym, ap, subst, ◌∙◌}
use Rattle.std.specs.List.{AllByRecursion, AllZip}
use Rattle.std.proofs.lemmas.List.FromFn.{length-map-range_with_len}
use Rattle.am_config.specs.ConfigView.{config_view}
use Rattle.am_lint.specs.declared.found.FoundRoute.{FoundRoute}
use Rattle.am_lint.specs.Table.{IsRoute}
use Rattle.am_lint.specs.FoundView.{IsSameButEvery, receiver_finding}
use Rattle.am_lint.proofs.FoundLemmas.{lines_so}
use Rattle.am_lint.proofs.FoundOver.{found_there, found_shown}
use Rattle.am_reports.specs.Made.{alphabet_over}
use Rattle.am_reports.proofs.RoutesFound.{AreFoundSo, IsSpaceWith, found_ordinary, found_every}
use Rattle.am_reports.proofs.route_findings.findings_over.Goals as goal
use Rattle.am_reports.proofs.route_findings.findings_over.Goals.{in-Some+in_ok-look_further, in_default}
use Rattle.am_reports.proofs.route_findings.findings_over.Goals.{In_ok-receivers}

pub look_further-requires : goal.look_further-requires
look_further-requires c =
    let config = config_view c.args.config.now in
    record {
      routes = subst (λ (found : List FoundRoute).
          AllByRecursion (λ route. IsRoute config route.path) found) (sym c.deref_mut.ensures.value)
          (found_there c.declare.new.self config c.in_ok-routes.routes.items
          c.in_ok-routes.ensures.found);
    }

-- what is found about the routes is true, whether every alert counts or only ordinary ones
so : (c : In_ok-receivers)
    → AreFoundSo (alphabet_over c.args.every) c.args.space.now c.match-every-2.space.labels
    (config_view c.args.config.now) c.match-every-2.routes.items
so c =
    let s = c.args.space.now in
    let o = c.declare.new.self in
    let config = config_view c.args.config.now in
    let every = c.args.every in
    let old = c.in_ok-routes.routes.items in
    let first : IsSpaceWith s c.args.ordinary o =
    (c.declare.ensures.labels, c.declare.ensures.impossible) in
    elim c.match-every-2.branch [
      | in-Some+in_ok-look_further w ↦
          let new = w.look_further.new.found in
          rw (w.space-is, w.routes-is) (found_every s o config c.args.ordinary c.requires.ordinary
          first every w.in-Some.universe w.declare-in-Some.new.self c.in_ok-routes.routes new w.in-Some.is
          c.requires.every
          (w.declare-in-Some.ensures.labels, w.declare-in-Some.ensures.impossible ∙ first.1)
          c.in_ok-routes.ensures.found
          (subst (λ (found : List FoundRoute). AllZip IsSameButEvery found new)
          w.deref_mut.ensures.value w.in_ok-look_further.ensures.same)
          w.in_ok-look_further.ensures.looked)
      | in_default w ↦
          rw (w.space-is, w.routes-is) (found_ordinary s o config c.args.ordinary
          c.requires.ordinary first every old w.in_default.is
          c.in_ok-routes.ensures.found c.in_ok-routes.ensures.once)
    ]

pub returns-clause-shown : goal.returns-clause-shown
returns-clause-shown c =
    let config = config_view c.args.config.now in
    let routes = c.match-every-2.routes.items in
    let found = so (goal.at.returns-clause-shown c).In_ok-receivers in
    rw c.undeclare.ensures.returned
    (found_shown (alphabet_over c.args.every) c.args.space.now found.1
    c.match-every-2.space.labels config routes c.args.config.now.sound found.2)

pub returns-clause-each : goal.returns-clause-each
returns-clause-each c =
    let config = config_view c.args.config.now in
    ap length c.in_ok-receivers.ensures.found
    ∙ length-map-range_with_len (receiver_finding c.as_slice.result.now) 0 (length config.receivers)

pub returns-clause-says : goal.returns-clause-says
returns-clause-says c =
    let config = config_view c.args.config.now in
    let labels = c.match-every-2.space.labels in
    let found = so (goal.at.returns-clause-says c).In_ok-receivers in
    rw c.undeclare.ensures.returned (record {
      labels = labels;
      stands = found.0;
      says = lines_so (alphabet_over c.args.every) c.args.space.now found.1 labels config
          c.match-every-2.routes.items found.2 c.in_ok-receivers.receivers.items _
          (rw c.as_slice.ensures.value at c.in_ok-receivers.ensures.found) refl;
    })
