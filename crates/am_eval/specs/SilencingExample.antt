-- A worked example of silencing: a world with one silence.
use Rattle.std.specs.Prelude.{[], ◌∷◌, pos, None}
use Rattle.am_eval.specs.RoutingExamples.{worked, team_db}
use Rattle.am_eval.specs.World.{World}

-- A world with the configuration of the routing example and one silence, which is of the team `db`
-- and goes from the instant 10 to the instant 20. The world has no instant.
abbrev pub silenced_world : World
silenced_world = record {
  config = worked;
  silences = record { matchers = team_db ∷ []; starts = pos 10; ends = pos 20 } ∷ [];
  alerts = [];
  instant = None;
}
