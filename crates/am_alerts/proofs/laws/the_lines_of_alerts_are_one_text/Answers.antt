use Rattle.std.proofs.Common.{◌≡◌, ℕ, List, sym, ◌∙◌, subst, subst₂}
use Rattle.am_eval.specs.World.{World}
use Rattle.am_eval.specs.Question.{Question}
use Rattle.am_files.proofs.AcceptedInputs.{one_world}
use Rattle.am_questions.specs.QuestionText.{ReadsQuestion}
use Rattle.am_questions.proofs.OneMeaning.{one_question}
use Rattle.am_report_texts.specs.Line.{Report}
use Rattle.am_report_texts.specs.Written.{IsWritten}
use Rattle.am_report_texts.specs.declared.writing.Form.{Form}
use Rattle.am_report_texts.specs.declared.writing.Form.TheVariants as form_is
use Rattle.am_alerts.specs.SilenceIds.{ids_of_file}
use Rattle.am_alerts.specs.AlertLines.{alerts_report, lines_of}
use Rattle.am_alerts.specs.Alerts.{asked_text}
use Rattle.am_alerts.proofs.laws.the_lines_of_alerts_are_one_text.Goals as goal

one_written : (form : Form) (r : Report) (text other : List ℕ) → IsWritten form r text
    → IsWritten form r other → text ≡ other
one_written form_is.Lines r text other is again = is ∙ sym again
one_written form_is.Json r text other is again = is.0 ∙ sym again.0

pub returns : goal.returns
returns _ = record {
  one = λ files asked form text other said again.
      let world : said.world ≡ again.world =
      one_world files said.world again.world said.accepts again.accepts in
      let question : said.question ≡ again.question =
      one_question again.world.config (asked_text asked) said.question again.question
      (subst (λ (w : World). ReadsQuestion w.config (asked_text asked) said.question) world said.reads)
      again.reads in
      let ids = ids_of_file files.silences in
      one_written form _ text other
      (subst₂ (λ (w : World) (q : Question). IsWritten form
      (alerts_report w.config (lines_of w ids q)) text) world question said.report) again.report;
}
