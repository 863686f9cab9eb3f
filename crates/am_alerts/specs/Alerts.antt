-- The alerts of which a question is true: the text of `alerts`. (This project's own.)
use Rattle.std.specs.Prelude.{ℕ, List, [], ◌∷◌, ◌++◌, Option, unwrap_or, codes, ⊤}
use Rattle.am_eval.specs.World.{World}
use Rattle.am_eval.specs.Question.{Question}
use Rattle.am_files.specs.Faults.{Stage}
use Rattle.am_files.specs.Promise.{Promise}
use Rattle.am_files.specs.Files.{Files, config_of}
use Rattle.am_files.specs.AcceptedWorld.{AcceptsWorld, world_stages}
use Rattle.am_report_texts.specs.declared.writing.Form.{Form}
use Rattle.am_report_texts.specs.Written.{IsWritten}
use Rattle.am_questions.specs.QuestionText.{ReadsQuestion}
use Rattle.am_questions.specs.QuestionStages.{question_stage}
use Rattle.am_alerts.specs.SilenceIds.{ids_of_file}
use Rattle.am_alerts.specs.AlertLines.{lines_of, alerts_report}

-- The text of the question. Without a text it is `any`.
abbrev pub asked_text : Option (List ℕ) → List ℕ
asked_text asked = unwrap_or asked (codes "any")

-- The world is accepted, the text is read as the question about its configuration, and the report
-- that is written, in its form, has a line for each alert of the file of which the question is
-- true, in their order: with its receivers, the silences that hide it, the rules and alerts that
-- inhibit it, and the time intervals that may mute it.
-- Source: own choice.
-- Example: let `{team="db"}` be the only alert of the file, let nothing silence or inhibit it, and
-- let the top-level route be the only route and have the receiver `a`. Then the text without a
-- question is the lines `0 {team="db"} -> "a"` and `# end`.
pub record ReportsAlerts (files : Files) (asked : Option (List ℕ)) (form : Form)
    (text : List ℕ) : Type 0 where
  pub world : World
  pub question : Question
  pub accepts : AcceptsWorld files world
  pub reads : ReadsQuestion world.config (asked_text asked) question
  pub report : IsWritten form
      (alerts_report world.config (lines_of world (ids_of_file files.silences) question)) text

-- What `alerts` owes. Its stages are those of the world, and then the question.
-- Source: own choice.
-- Example: let the configuration be accepted, and let there be no file of silences. If the file of
-- alerts is `{}` and the question is `silenced and`, the first fault is the `shape` of the alerts,
-- and not the `question-syntax` of the question.
abbrev pub alerts_stages : Files → Option (List ℕ) → List Stage
alerts_stages files asked =
    world_stages files ++ question_stage (config_of files.config) (asked_text asked) ∷ []

abbrev pub alerts_promise : Files → Option (List ℕ) → Form → Promise ⊤
alerts_promise files asked form = record {
  stages = alerts_stages files asked;
  May = λ _. ReportsAlerts files asked form;
}
