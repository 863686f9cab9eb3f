-- Routes differ in no option exactly if all their options are the same.
use Rattle.std.proofs.Common.{◌≡◌, true, not, List, [], ap}
use Rattle.std.specs.Prelude.{◌↔◌}
use Rattle.std.specs.List.{list_all}
use Rattle.am_config.specs.RouteOptions.{RouteOptions}
use Rattle.am_differences.specs.Options.{option_positions, same_option, same_options}
use Rattle.am_differences.specs.Options.{have_same_option, differing_options}
use Rattle.am_differences.proofs.ListTests.{none_pass, keeps_none, each_passes, all_pass, not_false}

abbrev Pair : Type 0
Pair = RouteOptions × RouteOptions

-- No option differs in pairs exactly if in each pair all options are the same.
pub none_differs : (pairs : List Pair)
    → (differing_options pairs ≡ []) ↔ (list_all (λ p. same_options p.0 p.1) pairs ≡ true)
none_differs pairs = (
  λ none. all_pass (λ (p : Pair). same_options p.0 p.1) pairs (λ p there.
      all_pass (λ k. same_option k p.0 p.1) option_positions (λ k known.
      each_passes (λ (p : Pair). same_option k p.0 p.1) pairs
      (not_false (have_same_option pairs k)
      (none_pass (λ k. not (have_same_option pairs k)) option_positions none k known)) p there)),
  λ all. keeps_none (λ k. not (have_same_option pairs k)) option_positions (λ k known.
      ap not (all_pass (λ (p : Pair). same_option k p.0 p.1) pairs (λ p there.
      each_passes (λ k. same_option k p.0 p.1) option_positions
      (each_passes (λ (p : Pair). same_options p.0 p.1) pairs all p there) k known))),
)
