use Rattle.std.proofs.Common.{◌≡◌, arith, false, true, sym}
use Rattle.std.proofs.Common.{◌∙◌, append_assoc}
use Rattle.std.proofs.lemmas.List.{length-append, append-nil, map-append}
use Rattle.std.proofs.lemmas.Grind.{common_steps}
use Rattle.am_labels.specs.Matcher.{all_hold}
use Rattle.am_config.specs.ConfigFile.{matchers_of, continues_of}
use Rattle.am_config.specs.RouteView.{route_view}
use Rattle.am_json.proofs.Items.{left_is}
use Rattle.am_eval.specs.Routing.{ends_at, is_last}
use Rattle.am_config.proofs.RouteLists.{child_within, paths_below}
use Rattle.am_eval.proofs.ChildEnds.{is_last-true, is_last-goes_on, is_last-unmatched}
use Rattle.am_eval.proofs.routing.+ends.Goals as goal

pub add_ends_of_children-overflow_cast-position : goal.add_ends_of_children-overflow_cast-position
add_ends_of_children-overflow_cast-position t c = grind (arith, common_steps, child_within)

pub add_ends_of_children-child-requires : goal.add_ends_of_children-child-requires
add_ends_of_children-child-requires t c = grind (arith, common_steps, child_within)

pub add_ends_of_children-add_ends-requires : goal.add_ends_of_children-add_ends-requires
add_ends_of_children-add_ends-requires t c = grind (arith, common_steps, child_within, length-append)

pub add_ends_of_children-loop-position-preserved :
    goal.add_ends_of_children-loop-position-preserved
add_ends_of_children-loop-position-preserved t c =
    let l = c.loop-position in
    let child = c.index-children-position.result in
    let matched = c.in_ok-matches.ensures.matches in
    let last : is_last c.args.set.now (route_view child) ≡ false =
    elim c.else-matches.branch [
      | goal.add_ends_of_children-else-matches-via-then-matches+else-not-continues w ↦
          is_last-goes_on c.args.set.now (route_view child) (sym matched ∙ w.if-matches.true)
          (sym w.continues.ensures.continues ∙ w.if-not-continues.false)
      | goal.add_ends_of_children-else-matches-via-else-matches w ↦
          is_last-unmatched c.args.set.now (route_view child) (sym matched ∙ w.if-matches.false)
    ] in
    let left = left_is route_view c.args.children.now l.position child c.loop-position-test.true
    c.index-children-position.is in
    let below = paths_below c.args.path l.position (ends_at c.args.set.now (route_view child)) in
    rw (c.in_ok-matches.ensures.added, c.child.ensures.steps, below, append_assoc)
    (rw (left, last, map-append) at l.invariant)

pub add_ends_of_children-returns-then-not-continues :
    goal.add_ends_of_children-returns-then-not-continues
add_ends_of_children-returns-then-not-continues t c =
    let l = c.loop-position in
    let child = c.index-children-position.result in
    let matched : all_hold c.args.set.now (matchers_of (route_view child)) ≡ true =
    sym c.in_ok-matches.ensures.matches ∙ c.if-matches.true in
    let stops : continues_of (route_view child) ≡ false =
    sym c.continues.ensures.continues ∙ c.if-not-continues.true in
    let left = left_is route_view c.args.children.now l.position child c.loop-position-test.true
    c.index-children-position.is in
    let last = is_last-true c.args.set.now (route_view child) matched stops in
    let below = paths_below c.args.path l.position (ends_at c.args.set.now (route_view child)) in
    record {
      added = rw (c.in_ok-matches.ensures.added, c.child.ensures.steps, below)
          (rw (left, last, append-nil) at l.invariant);
    }
