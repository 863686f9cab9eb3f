use Rattle.std.proofs.Common.{◌≡◌, ℕ, List, subst, arith}
use Rattle.std.proofs.lemmas.Grind.{common_steps}
use Rattle.am_labels.specs.Space.{Space}
use Rattle.am_config.specs.ConfigFile.{Configuration}
use Rattle.am_files.proofs.AcceptedInputs.{one_space, one_configuration}
use Rattle.am_search.specs.PageText.{page_text}
use Rattle.am_coverage.specs.Report.{IsRoutesReport, IsReceiversReport}
use Rattle.am_coverage.proofs.ReportFacts.{one_routes_report, one_receivers_report}
use Rattle.am_questions.specs.Inputs.{inputs_fingerprint}
use Rattle.am_questions.proofs.OneInputs.{one_meaning_of_inputs}
use Rattle.am_commands.specs.AskOutcome.{searched_page}
use Rattle.am_commands.specs.Reports.{ReportsFiles}
use Rattle.am_commands.proofs.laws.what_is_written_is_one_text.Goals as goal

-- the files fix a report, if what they say fixes it
one_report : (IsReport : Space → Configuration → List ℕ → Type 0)
    → ((s : Space) (c : Configuration) (report other : List ℕ) → IsReport s c report
    → IsReport s c other → report ≡ other)
    → (universe_file config_file report other : List ℕ)
    → ReportsFiles universe_file config_file IsReport report
    → ReportsFiles universe_file config_file IsReport other → report ≡ other
one_report IsReport one universe_file config_file report other h k =
    let space : h.space ≡ k.space = one_space universe_file h.space k.space h.accepts.says_universe
    k.accepts.says_universe in
    let config : h.configuration ≡ k.configuration = one_configuration config_file h.configuration
    k.configuration h.accepts.says_config k.accepts.says_config in
    let reports : IsReport k.space k.configuration report =
    subst (λ (s : Space). IsReport s k.configuration report) space
    (subst (λ (c : Configuration). IsReport h.space c report) config h.reports) in
    one k.space k.configuration report other reports k.reports

pub returns : goal.returns
returns _ = record {
  ask = λ inputs limit steps page other trailer again h k.
      let fingerprint : List ℕ = inputs_fingerprint inputs in
      let same = one_meaning_of_inputs inputs h.space k.space h.world k.world h.question k.question
      h.start k.start h.accepts k.accepts in
      let pages : searched_page h.space h.world h.question h.start limit steps
      ≡ searched_page k.space k.world k.question k.start limit steps =
      λ i. searched_page (same.0 i) (same.1 i) (same.2 i) (same.3 i) limit steps in
      let texts : page_text h.space.labels fingerprint
      (searched_page h.space h.world h.question h.start limit steps)
      ≡ page_text k.space.labels fingerprint
      (searched_page k.space k.world k.question k.start limit steps) =
      λ i. page_text (same.0 i).labels fingerprint (pages i) in
      grind (arith, common_steps);
  dead = one_report IsRoutesReport one_routes_report;
  receivers = one_report IsReceiversReport one_receivers_report;
}
