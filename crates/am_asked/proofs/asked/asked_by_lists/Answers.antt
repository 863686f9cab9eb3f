use Rattle.std.proofs.Common.{[], List, map}
use Rattle.std.proofs.lemmas.List.Sums.{fold-append}
use Rattle.am_labels.specs.Matcher.{Matcher}
use Rattle.am_complete.specs.AskedLabel.{with_asked}
use Rattle.am_asked.specs.Placed.{placed_in_lists}
use Rattle.am_asked.proofs.AskedLemmas.{asked_of}
use Rattle.am_asked.proofs.PlacedMatchers.{both_placed, of_impossible}
use Rattle.am_asked.proofs.asked.asked_by_lists.Goals as goal

pub returns-clause-asked : goal.returns-clause-asked
returns-clause-asked c =
    let lists : List (List Matcher) = map (λ list. list.now) c.args.lists.now in
    let impossible = c.args.impossible.now in
    rw (
      c.into_labels.ensures,
      c.in_ok-visit_lists.ensures.visit,
      c.in_ok-add_lists.ensures,
      c.empty-gathering.ensures,
      ← fold-append with_asked [] (placed_in_lists lists) (placed_in_lists impossible),
    ) (asked_of (both_placed (of_impossible lists) (of_impossible impossible)))
