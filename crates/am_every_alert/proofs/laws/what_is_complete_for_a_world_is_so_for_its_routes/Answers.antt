use Rattle.am_every_alert.proofs.CompleteSpaces.{complete_for_world, complete_for_routes_alone}
use Rattle.am_every_alert.proofs.CompleteSpaces.{complete_for_question, complete_without_lists}
use Rattle.am_asked.specs.Asked.{route_matchers, world_matchers}
use Rattle.am_every_alert.proofs.laws.what_is_complete_for_a_world_is_so_for_its_routes.Goals as goal

pub returns : goal.returns
returns c = record {
  routes = complete_for_world;
  routes_alone = complete_for_routes_alone;
  question = λ a s w. complete_for_question a s (world_matchers w);
  question_by_routes = λ a s c. complete_for_question a s (route_matchers c.root);
  all_possible = complete_without_lists;
}
