use Rattle.std.proofs.Common.{[], ◌∷◌}
use Rattle.am_plans.proofs.SpaceExample.{any_by_rows}
use Rattle.am_plans.proofs.laws.an_example_of_verdicts_in_a_space.Goals as goal

pub returns : goal.returns
returns c = record {
  nothing_chosen = λ w. any_by_rows w [];
  db = λ w. any_by_rows w (0 ∷ []);
  web = λ w. any_by_rows w (1 ∷ []);
  no_team = λ w. any_by_rows w (2 ∷ []);
  web_critical = λ w. any_by_rows w (1 ∷ 0 ∷ []);
  web_warning = λ w. any_by_rows w (1 ∷ 1 ∷ []);
}
