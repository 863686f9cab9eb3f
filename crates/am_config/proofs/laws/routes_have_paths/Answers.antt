use Rattle.am_config.proofs.Paths.{path_of_route, levels_down, room_for_child, route_at-child}
use Rattle.am_config.proofs.laws.routes_have_paths.Goals as goal

pub returns : goal.returns
returns c = record {
  paths = path_of_route;
  levels = λ t below path. levels_down path t below;
  room = room_for_child;
  child = λ t path p. route_at-child path t p;
}
