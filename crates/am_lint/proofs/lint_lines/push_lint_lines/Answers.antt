-- The lines of one receiver more, and then those of all routes and receivers.
use Rattle.std.proofs.Common.{◌≡◌, ◌+◌, ◌∙◌, [], ◌∷◌, ◌++◌, None, take, ap, sym, arith, append_assoc}
use Rattle.std.specs.List.{enumerate_from}
use Rattle.std.proofs.lemmas.Grind.{common_steps}
use Rattle.std.proofs.lemmas.List.{take_more, flat_map_more, map-append}
use Rattle.std.proofs.lemmas.List.FromFn.{length-enumerate_from, get_or-enumerate_from}
use Rattle.am_lint.specs.FoundView.{said_of}
use Rattle.am_lint.proofs.lint_lines.push_lint_lines.Goals as goal
use Rattle.am_lint.proofs.lint_lines.push_lint_lines.Goals.{in_default}
use Rattle.am_lint.proofs.lint_lines.push_lint_lines.Goals.{in-Some+in_ok-receiver_line+in_ok-push}

pub loop-route-preserved : goal.loop-route-preserved
loop-route-preserved c =
    let routes = c.args.routes.now in
    let i = c.loop-route.route-index in
    let one : take (i + 1) routes ≡ take i routes ++ c.route-item.result ∷ [] =
    take_more routes i c.route-item.result c.loop-route-test.true
    ∙ ap (λ a. take i routes ++ a ∷ []) (sym c.route-item.is) in
    rw (one, map-append said_of, ← flat_map_more, c.in_ok-push_route_line.ensures, c.loop-route.invariant)
    (simp append_assoc)

pub loop-i-preserved : goal.loop-i-preserved
loop-i-preserved c =
    let xs = c.args.receivers.now in
    let i = c.loop-i.i in
    let same : 0 + i ≡ i = omega arith in
    rw (
      take_more (enumerate_from 0 xs) i (0, None) (omega (arith, length-enumerate_from 0 xs)),
      get_or-enumerate_from 0 xs i (0, None) c.loop-i-test.true,
      same,
      ← flat_map_more,
      ← c.loop-i.invariant,
    ) (elim c.match-finding.branch [
      | in-Some+in_ok-receiver_line+in_ok-push w ↦
          grind (arith, common_steps)
      | in_default w ↦ grind (arith, common_steps)
    ])

pub returns : goal.returns
returns c =
    grind (arith, common_steps, length-enumerate_from 0 c.args.receivers.now)
