use Rattle.std.proofs.Common.{◌≡◌, ◌+◌, ◌*◌, ◌++◌, ◌&&◌, ℕ, Some, length, map, drop}
use Rattle.std.specs.Prelude.{slice_get}
use Rattle.am_universe.specs.LabelSet.{LabelMap}
use Rattle.am_config.specs.ConfigFile.{routes_of, route_count, routes_count}
use Rattle.am_config.specs.RouteView.{route_view}
use Rattle.am_eval.proofs.ChildEnds.{ends_from}
use Rattle.am_alerts.specs.AlertLabels.{flag}
use Rattle.am_alerts.specs.AlertLists.{ends_nowhere}
use Rattle.am_alerts.specs.RouteEnds.{ends_of}
use Rattle.am_alerts.proofs.AlertEnds.{if_left, nowhere_if_left}
use Rattle.am_alerts.proofs.alert_ends.+ends.Given as goal

-- the ends so far, and those of the children that are left, are all ends
abbrev pub invariant-add_ends_of_children-loop-position :
    goal.invariant-add_ends_of_children-loop-position
invariant-add_ends_of_children-loop-position l = record {
  count : (length l.left.items ≡ length l.labels) × (length l.none.items ≡ length l.labels);
  added : (i : ℕ) (s : LabelMap) → slice_get l.labels i ≡ Some s
      → ends_of l.found.items i ++ if_left (flag l.left.items i) l.path
      (ends_from s l.position (map route_view (drop l.position l.children)))
      ≡ ends_of l.fn.found.items i ++ if_left (flag l.among i) l.path
      (ends_from s 0 (map route_view l.children));
  none : (i : ℕ) (s : LabelMap) → slice_get l.labels i ≡ Some s
      → (flag l.none.items i && nowhere_if_left (flag l.left.items i)
      (ends_from s l.position (map route_view (drop l.position l.children))))
      ≡ (flag l.among i && ends_nowhere (ends_from s 0 (map route_view l.children)));
}

abbrev pub decreases-add_ends : goal.decreases-add_ends
decreases-add_ends l = 2 * route_count (route_view l.route.now)

abbrev pub decreases-add_ends_of_children : goal.decreases-add_ends_of_children
decreases-add_ends_of_children l =
    2 * routes_count (routes_of (map route_view l.children.now)) + 1
