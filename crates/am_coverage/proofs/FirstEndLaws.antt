-- The first choice that enters a route, or goes to a receiver, is the earliest of the first choices
-- that end at each of some routes.
use Rattle.std.proofs.Common.{◌≡◌, ℕ, List, map, Bool, ◌∙◌}
use Rattle.std.specs.List.{filter, find, list_any}
use Rattle.am_universe.specs.LabelSet.{LabelMap, label_set_of}
use Rattle.am_labels.specs.Space.{Space, all_choices}
use Rattle.am_labels.proofs.SpaceLaws.{space_choices_sorted}
use Rattle.am_config.specs.ConfigFile.{Configuration}
use Rattle.am_config.specs.Path.{leads_through}
use Rattle.am_config.specs.RoutePaths.{paths_of}
use Rattle.am_eval.specs.Conditions.{paths_to}
use Rattle.am_eval.proofs.RouteConditions.{is_end, ends_among, goes_by_ends}
use Rattle.am_coverage.specs.Coverage.{first_passing, first_end, first_entry, first_receipt}
use Rattle.am_coverage.specs.FirstEnds.{earliest}
use Rattle.am_coverage.proofs.EarliestFound.{find_any}

module _ (s : Space) (c : Configuration) where
  by_ends : (test : LabelMap → Bool) (paths : List (List ℕ))
      → ((set : LabelMap) → test set ≡ list_any (is_end set c) paths)
      → first_passing s test ≡ earliest (map (first_end s c) paths)
  by_ends test paths same =
      (λ i. find (λ choice. same (label_set_of s.labels choice) i) (all_choices s))
      ∙ find_any (λ path choice. is_end (label_set_of s.labels choice) c path) paths
      (all_choices s) (space_choices_sorted s)

  pub entry_is_earliest : (path : List ℕ)
      → first_entry s c path
      ≡ earliest (map (first_end s c) (filter (leads_through path) (paths_of c)))
  entry_is_earliest path = by_ends _ _ (λ set. ends_among set c (leads_through path))

  pub receipt_is_earliest : (receiver : ℕ)
      → first_receipt s c receiver
      ≡ earliest (map (first_end s c) (paths_to receiver c.root))
  receipt_is_earliest receiver = by_ends _ _ (λ set. goes_by_ends set c receiver)
