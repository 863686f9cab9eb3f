use Rattle.std.proofs.Common.{[], ◌++◌, fold}
use Rattle.std.proofs.lemmas.List.Sums.{fold-append}
use Rattle.am_config.specs.ConfigView.{config_view}
use Rattle.am_complete.specs.AskedLabel.{with_asked}
use Rattle.am_asked.specs.Placed.{placed_in_routes, placed_in_lists}
use Rattle.am_asked.proofs.AskedLemmas.{asked_of}
use Rattle.am_asked.proofs.PlacedMatchers.{both_placed, of_routes, of_impossible}
use Rattle.am_asked.proofs.asked.asked_by_both.Goals as goal

pub returns-clause-asked : goal.returns-clause-asked
returns-clause-asked c =
    let before = config_view c.args.old.now in
    let after = config_view c.args.new.now in
    let lists = c.args.impossible.now in
    let first = placed_in_routes before in
    let second = placed_in_routes after in
    rw (
      c.into_labels.ensures,
      c.in_ok-visit_lists.ensures.visit,
      c.in_ok-visit_routes-2.ensures.visit,
      c.in_ok-visit_routes.ensures.visit,
      c.empty-gathering.ensures,
      ← fold-append with_asked (fold with_asked [] first) second (placed_in_lists lists),
      ← fold-append with_asked [] first (second ++ placed_in_lists lists),
    ) (asked_of (both_placed (of_routes [] before.root)
    (both_placed (of_routes [] after.root) (of_impossible lists))))
