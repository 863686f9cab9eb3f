-- Configurations with the fields of their files, for a comparison of two files. (This project's
-- own.)
use Rattle.std.specs.Prelude.{◌≡◌, ℕ, List, unwrap_or, codes, if◌then◌else◌}
use Rattle.serde_json.specs.Data.{Data, Members, no_members, member}
use Rattle.serde_json.specs.Find.{as_object}
use Rattle.am_universe.specs.Text.{same_text}
use Rattle.am_json.specs.Json.{FileSays}
use Rattle.am_config.specs.ConfigFile.{Configuration, SaysConfig}

-- A configuration, and the fields of its file but `route`, as they were read.
pub record WholeConfiguration : Type 0 where
  pub config : Configuration
  pub rest : Members

-- Members without the first one that has this key. (An object has each key once.)
abbrev pub without : List ℕ → Members → Members
without key no_members = no_members
without key (member k d rest) =
    if same_text key k then rest else member k d (without key rest)

-- The fields of an object but `route`, with their values.
-- Source: own choice.
-- Example: those of `{"receivers": [], "route": {}, "x": null}` are `receivers` and `x`.
abbrev pub rest_of : Data → Members
rest_of d = without (codes "route") (unwrap_or (as_object d) no_members)

-- A JSON value says a configuration, and what its fields but `route` are.
-- Source: own choice.
-- Example: `{"receivers": [{"name": "a"}], "route": {"receiver": "a"}, "x": 1}` says one receiver,
-- one route that has it, and the fields `receivers` and `x`.
abbrev pub SaysWholeConfig : Data → WholeConfiguration → Type 0
SaysWholeConfig d w = SaysConfig d w.config × (w.rest ≡ rest_of d)

-- The bytes of a file, at most `MAX_FILE_BYTES`, say what their JSON value says.
abbrev pub FileSaysWholeConfig : List ℕ → WholeConfiguration → Type 0
FileSaysWholeConfig bytes w = FileSays SaysWholeConfig bytes w
