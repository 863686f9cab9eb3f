-- Why a label set goes where it goes: the text of `explain`. (This project's own.)
use Rattle.std.specs.Prelude.{◌≡◌, ℕ, List, [], ◌∷◌, ◌++◌, option_and_then, slice_get, unwrap_or}
use Rattle.std.specs.Prelude.{codes, decimal, ⊤}
use Rattle.std.specs.List.{flat_map}
use Rattle.am_universe.specs.LabelSet.{LabelMap}
use Rattle.am_universe.specs.Text.{quoted_text}
use Rattle.am_universe.specs.WrittenLabelSet.{map_text}
use Rattle.am_labels.specs.ParsedLabelSet.{WordsSpellSet}
use Rattle.am_config.specs.ConfigFile.{Configuration}
use Rattle.am_config.specs.Path.{path_text}
use Rattle.am_eval.specs.World.{World}
use Rattle.am_eval.specs.Routing.{ends, receiver_at}
use Rattle.am_eval.specs.Silencing.{silencers}
use Rattle.am_eval.specs.Inhibition.{inhibitors}
use Rattle.am_files.specs.Faults.{Stage, set_stage}
use Rattle.am_files.specs.Promise.{Promise}
use Rattle.am_files.specs.Files.{Files}
use Rattle.am_files.specs.AcceptedWorld.{AcceptsWorld, world_stages}

-- The name of the receiver of the route at a path, or the empty text if there is none.
abbrev pub receiver_name_at : Configuration → List ℕ → List ℕ
receiver_name_at c path =
    unwrap_or (option_and_then (slice_get c.receivers) (receiver_at c path)) []

-- The line of an end, with the path of the route and the name of its receiver in quotes; the line
-- of a silence; and the line of a rule and a firing alert. Silences, rules and alerts are given by
-- their positions, in decimal.
abbrev pub end_line : Configuration → List ℕ → List ℕ
end_line c path =
    codes "end " ++ (path_text path
    ++ (codes " " ++ (quoted_text (receiver_name_at c path) ++ codes "\n")))

abbrev pub silenced_line : ℕ → List ℕ
silenced_line i = codes "silenced " ++ (decimal i ++ codes "\n")

abbrev pub inhibited_line : ℕ × ℕ → List ℕ
inhibited_line found =
    codes "inhibited " ++ (decimal found.0 ++ (codes " " ++ (decimal found.1 ++ codes "\n")))

-- The text that explains a label set by its ends, the silences that hide it, and the rules and
-- firing alerts that inhibit it. The first line is the set itself, with its labels in the order of
-- the bytes of their names. Then come a line for each end, in order; a line for each silence; and a
-- line for each rule with its alert.
-- Source: own choice.
-- Example: let `{team="db"}` end at `/0`, whose receiver is `dba`. Let the first silence hide it,
-- and let the third alert inhibit it by the first rule. Then the lines are `{team="db"}`,
-- `end /0 "dba"`, `silenced 0` and `inhibited 0 2`.
abbrev pub explanation_text : Configuration → LabelMap → List (List ℕ) → List ℕ → List (ℕ × ℕ)
    → List ℕ
explanation_text c set ends silencers inhibitors =
    map_text set ++ (codes "\n" ++ (flat_map (end_line c) ends
    ++ (flat_map silenced_line silencers ++ flat_map inhibited_line inhibitors)))

-- The files are accepted as the world, the words spell the label set, and the text explains the set
-- by all its ends in the world, all silences that hide it there, and all rules and alerts that
-- inhibit it there.
-- Source: own choice.
-- Example: if the top-level route is the only route and has the receiver `a`, and there are no
-- silences and no alerts, the text for the word `team=db` is the lines `{team="db"}` and
-- `end / "a"`.
pub record ExplainsSet (files : Files) (words : List (List ℕ)) (text : List ℕ) : Type 0 where
  pub world : World
  pub set : LabelMap
  pub accepts : AcceptsWorld files world
  pub spelled : WordsSpellSet words set
  pub explanation : text ≡ explanation_text world.config set (ends set world.config)
      (silencers world set) (inhibitors world set)

-- What `explain` owes. Its stages are those of the world, and then the words of the label set.
-- Source: own choice.
-- Example: let the configuration be accepted, let there be no file of silences and no instant, let
-- the file of alerts be `{}`, and let the one word of the set be `a!=b`. Then the first fault is
-- the `shape` of the alerts. Without that file it is the `bad-matcher` of the set.
abbrev pub explain_stages : Files → List (List ℕ) → List Stage
explain_stages files words = world_stages files ++ set_stage words ∷ []

abbrev pub explain_promise : Files → List (List ℕ) → Promise ⊤
explain_promise files words = record {
  stages = explain_stages files words;
  May = λ _. ExplainsSet files words;
}
