-- The smallest configuration: what a file must say, and no more.
use Rattle.std.specs.Prelude.{ℕ, List, [], ◌∷◌, false, codes}
use Rattle.am_config.specs.ConfigFile.{Configuration, route, no_routes, settings_with}

-- A file that names one receiver, `none`, and has only the top-level route; and the configuration
-- that it says. (Reference, "File layout and global settings": both fields are required.)
abbrev pub smallest_config_file : List ℕ
smallest_config_file =
    codes "{\"receivers\":[{\"name\":\"none\"}],\"route\":{\"receiver\":\"none\"}}"

abbrev pub smallest_config : Configuration
smallest_config = record {
  receivers = codes "none" ∷ [];
  root = route (settings_with 0 [] false) no_routes;
  rules = [];
}
