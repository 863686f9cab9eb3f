use Rattle.std.proofs.Common.{◌≡◌, ◌+◌, ◌++◌, [], ◌&&◌, ℕ, List, Bool, Some, arith, false, true, not, if◌then◌else◌, map, drop, refl, sym, ap, ◌∙◌, length, append-nil}
use Rattle.std.specs.Prelude.{slice_get}
use Rattle.std.specs.Global.{Vec}
use Rattle.std.proofs.lemmas.List.{length-append, drop_all}
use Rattle.std.proofs.lemmas.Grind.{common_steps}
use Rattle.am_labels.specs.Matcher.{all_hold}
use Rattle.am_config.specs.ConfigFile.{Routes, matchers_of, continues_of}
use Rattle.am_config.specs.RouteView.{route_view}
use Rattle.am_config.proofs.RouteLists.{child_within}
use Rattle.am_json.proofs.Items.{left_is}
use Rattle.am_universe.specs.LabelSet.{LabelMap}
use Rattle.am_config.specs.declared.route.Route.{Route}
use Rattle.am_eval.proofs.ChildEnds.{ends_from}
use Rattle.am_eval.specs.Routing.{ends_at, ends_tried, children_seen}
use Rattle.am_alerts.specs.AlertLabels.{flag}
use Rattle.am_alerts.specs.AlertLists.{ends_nowhere}
use Rattle.am_alerts.specs.RouteEnds.{ends_of}
use Rattle.am_alerts.proofs.RowLemmas.{pushed_row}
use Rattle.am_alerts.proofs.AlertEnds.{ends_here, child_ends, child_nowhere, if_left}
use Rattle.am_alerts.proofs.alert_ends.+ends.Goals as goal

pub add_ends-returns-clause-added : goal.add_ends-returns-clause-added
add_ends-returns-clause-added t c = λ i s at.
    let path = c.args.path in
    let below = λ (children : Routes). ends_tried (children_seen s 0 children) in
    ends_here s (route_view c.args.route.now) path (flag c.args.among.now i)
    (flag c.in_ok-matched.matched.items i) (flag c.in_ok-alerts.alerts.items i)
    (ends_of c.args.found.now.items i) (ends_of c.add_ends_of_children.new.found.items i)
    (ends_of c.push.new.self.items i)
    (c.in_ok-matched.ensures.matched.1 i s at
    ∙ ap (λ ms. flag c.args.among.now i && all_hold s ms) c.matchers.ensures.matchers)
    (c.in_ok-alerts.ensures.none.1 i s at
    ∙ (λ j. flag (c.as_slice.ensures.value j) i && ends_nowhere (below (c.routes.ensures.children j))))
    (c.in_ok-alerts.ensures.added i s at
    ∙ (λ j. ends_of c.args.found.now.items i ++ (if flag (c.as_slice.ensures.value j) i
    then map (λ b. path ++ b) (below (c.routes.ensures.children j)) else [])))
    (ap (λ rows. ends_of rows i) c.in_ok-push.ensures.items
    ∙ pushed_row c.add_ends_of_children.new.found.items (record { path = path; alerts = c.in_ok-alerts.alerts }) i)

pub add_ends_of_children-overflow_cast-position : goal.add_ends_of_children-overflow_cast-position
add_ends_of_children-overflow_cast-position t c = grind (arith, common_steps, child_within)

pub add_ends_of_children-child-below-requires : goal.add_ends_of_children-child-below-requires
add_ends_of_children-child-below-requires t c = grind (arith, common_steps, child_within)

pub add_ends_of_children-add_ends-requires : goal.add_ends_of_children-add_ends-requires
add_ends_of_children-add_ends-requires t c = grind (arith, common_steps, child_within, length-append)

pub add_ends_of_children-loop-position-preserved :
    goal.add_ends_of_children-loop-position-preserved
add_ends_of_children-loop-position-preserved t c =
    let k = c.loop-position.position in
    let child = c.index-children-position.result in
    let tree = route_view child in
    let old = c.loop-position.invariant in
    let left = λ (i : ℕ). flag c.loop-position.left.items i in
    let matched = λ (i : ℕ). flag c.in_ok-matched.matched.items i in
    let next = λ (i : ℕ). flag c.if-not-continues.left.items i in
    let rest = map route_view (drop (k + 1) c.args.children.now) in
    let all = left_is route_view c.args.children.now k child c.loop-position-test.true
    c.index-children-position.is in
    let is = λ (i : ℕ) (s : LabelMap) (at : slice_get c.args.labels.now i ≡ Some s).
    c.in_ok-matched.ensures.matched.1 i s at
    ∙ ap (λ flags. flag flags i && all_hold s (matchers_of tree)) c.as_slice.ensures.value in
    let goes : (i : ℕ) → next i ≡ (if continues_of tree then left i else (left i && not (matched i))) =
    λ i. elim c.if-not-continues.branch [
      | goal.add_ends_of_children-then-not-continues+in_ok-left-2 w ↦
          ap (λ (v : Vec Bool). flag v.items i) w.left-is ∙ w.in_ok-left-2.ensures.rest i
          ∙ (λ j. flag (w.as_slice-then-not-continues.ensures.value j) i
          && not (flag (w.as_slice-then-not-continues-2.ensures.value j) i))
          ∙ ap (λ b. if b then left i else (left i && not (matched i)))
          (sym w.if-not-continues.true ∙ c.continues.ensures.continues)
      | goal.add_ends_of_children-else-not-continues w ↦
          ap (λ (v : Vec Bool). flag v.items i) w.left-is
          ∙ ap (λ b. if b then left i else (left i && not (matched i)))
          (sym w.if-not-continues.false ∙ c.continues.ensures.continues)
    ] in
    record {
      count = (
        elim c.if-not-continues.branch [
          | goal.add_ends_of_children-then-not-continues+in_ok-left-2 w ↦
              ap (λ (v : Vec Bool). length v.items) w.left-is ∙ w.in_ok-left-2.ensures.count
              ∙ ap length w.as_slice-then-not-continues.ensures.value ∙ old.count.0
          | goal.add_ends_of_children-else-not-continues w ↦
              ap (λ (v : Vec Bool). length v.items) w.left-is ∙ old.count.0
        ],
        c.in_ok-none-2.ensures.count ∙ ap length c.as_slice-in-loop-position.ensures.value ∙ old.count.1,
      );
      added = λ i s at.
          child_ends s k tree rest _ (left i) (matched i) (next i) c.args.path (ends_of c.loop-position.found.items i)
          (ends_of c.add_ends.new.found.items i) all (is i s at) (goes i)
          (c.in_ok-matched.ensures.added i s at
          ∙ (λ j. ends_of c.loop-position.found.items i ++ if_left (flag (c.as_slice.ensures.value j) i)
          (c.child-below.ensures.steps j) (ends_at s tree)))
          ∙ old.added i s at;
      none = λ i s at.
          child_nowhere s k tree rest _ (left i) (matched i) (next i) (flag c.loop-position.none.items i)
          (flag c.in_ok-none-2.none.items i) all (is i s at) (goes i)
          (c.in_ok-none-2.ensures.rest i
          ∙ (λ j. flag (c.as_slice-in-loop-position.ensures.value j) i
          && not (flag (c.as_slice-in-loop-position-2.ensures.value j) i)))
          ∙ old.none i s at;
    }

pub add_ends_of_children-returns-clause-added : goal.add_ends_of_children-returns-clause-added
add_ends_of_children-returns-clause-added t c = λ i s at.
    let k = c.loop-position.position in
    let children = c.args.children.now in
    let path = c.args.path in
    let found = ends_of c.loop-position.found.items i in
    sym (append-nil found)
    ∙ ap (λ ends. found ++ ends) (sym (nothing (flag c.loop-position.left.items i)))
    ∙ ap (λ (cs : List Route). found ++ if_left (flag c.loop-position.left.items i) path (ends_from s k (map route_view cs)))
    (sym (drop_all k children c.loop-position-test.false))
    ∙ c.loop-position.invariant.added i s at
  where
    nothing : (b : Bool) → if_left b c.args.path [] ≡ []
    nothing true = refl
    nothing false = refl
