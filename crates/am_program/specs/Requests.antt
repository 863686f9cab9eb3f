-- What is owed for a request, over the bytes of its files. (This project's own.)
use Rattle.std.specs.Prelude.{◌≡◌, ℕ, List, [], map, Option, option_map, option_copied, unwrap_or}
use Rattle.std.specs.Prelude.{Bool, false, nat_lt, if◌then◌else◌}
use Rattle.std.specs.Global.{Vec}
use Rattle.std.specs.Int.NonZero.{non_zero_u64_get}
use Rattle.am_classes.specs.declared.alphabet.Alphabet.{Alphabet}
use Rattle.am_classes.specs.declared.alphabet.Alphabet.TheVariants.{Unicode, Ascii}
use Rattle.am_command_line.specs.StepsView.{step_count}
use Rattle.am_command_line.specs.declared.command_line.CommandLine.{CommandLine}
use Rattle.am_command_line.specs.declared.table.Request.{Request}
use Rattle.am_command_line.specs.declared.table.Request.TheVariants as requests
use Rattle.am_files.specs.Files.{Files, config_of}
use Rattle.am_commands.specs.Explanation.{explain_promise}
use Rattle.am_files.specs.Promise.{Promise}
use Rattle.am_commands.specs.AskOutcome.{ask_promise}
use Rattle.am_commands.specs.Reports.{dead_promise, receivers_promise}
use Rattle.am_report_texts.specs.declared.writing.Form.{Form}
use Rattle.am_report_texts.specs.declared.writing.Form.TheVariants as form_is
use Rattle.am_alerts.specs.Alerts.{alerts_promise}
use Rattle.am_universe_command.specs.Universes.{universe_promise, check_promise}
use Rattle.am_reports.specs.ReportInputs.{ReportInputs}
use Rattle.am_reports.specs.WorldInputs.{WorldInputs}
use Rattle.am_reports.specs.Linting.{lint_promise}
use Rattle.am_reports.specs.Comparing.{compare_promise}
use Rattle.am_reports.specs.OutcomesReport.{outcomes_promise}
use Rattle.am_reports.specs.RoutesReport.{routes_promise}
use Rattle.am_reports.specs.WhereReport.{where_promise}

-- A command line whose files are read; the bytes of an optional file; those of a file that the
-- request needs; and the files other than those of a universe and of a comparison, with the
-- instant.
abbrev pub Call : Type 0
Call = CommandLine (Vec ℕ)

abbrev pub bytes_if_any : Option (Vec ℕ) → Option (List ℕ)
bytes_if_any file = option_map (λ bytes. bytes.items) file

abbrev pub bytes_of : Option (Vec ℕ) → List ℕ
bytes_of file = unwrap_or (bytes_if_any file) []

abbrev pub files_of : Call → Files
files_of call = record {
  config = bytes_if_any call.config;
  silences = bytes_if_any call.silences;
  alerts = bytes_if_any call.alerts;
  at = option_copied call.at;
}

-- The texts that the labels of alerts may have: with `--ascii`, only those of printable ASCII.
abbrev pub alphabet_of : Bool → Alphabet
alphabet_of ascii = if ascii then Ascii else Unicode

-- The form of a report: with `--json` a JSON document, and else lines.
abbrev pub form_of : Bool → Form
form_of json = if json then form_is.Json else form_is.Lines

-- The inputs of `lint` and of `where`, and those of `routes` and of `outcomes`.
abbrev pub world_inputs : Call → Bool → WorldInputs
world_inputs call ascii = record {
  universe = bytes_if_any call.universe;
  files = files_of call;
  rules = bytes_if_any call.rules;
  alphabet = alphabet_of ascii;
  form = form_of call.json;
}

abbrev pub report_inputs : Call → Bool → ReportInputs
report_inputs call ascii = record {
  universe = bytes_if_any call.universe;
  config = config_of (bytes_if_any call.config);
  alphabet = alphabet_of ascii;
  form = form_of call.json;
}

-- What is owed if the answer is whether something was found: by a command that looks for nothing
-- wrong, and so finds nothing; and by a command that returns how many changes there are.
abbrev pub finds_nothing : {A : Type 0} → Promise A → Promise Bool
finds_nothing {A = A} promise = record {
  stages = promise.stages;
  May = λ found text. (found ≡ false) × ((answer : A) × promise.May answer text);
}

abbrev pub finds : Promise ℕ → Promise Bool
finds promise = record {
  stages = promise.stages;
  May = λ found text. (count : ℕ) × (found ≡ nat_lt 0 count) × promise.May count text;
}

-- What is owed for a request, over the bytes of the files of a call. For `lint`, it is the report
-- on a configuration; for `where`, where the alerts of alerting rules go; for `routes`, which
-- alerts end at each route; for `compare`, what changes between two configurations; for `outcomes`,
-- the lists of receivers that alerts go to; for `ask`, the page of the answers to the question,
-- from the token on and under the limit and the budget; for `dead`, the report on routes; for
-- `receivers`, the report on receivers; for `explain`, the explanation of the label set; for
-- `alerts`, the alerts for which the question is true; for `universe`, a universe of the given
-- form, or the report on the universe that is checked.
-- Source: own choice.
-- Example: for `dead --universe u.json --config alertmanager.json` it is what `dead` owes for the
-- bytes of these files.
abbrev pub owed : Request → Call → Promise Bool
owed (requests.Lint ascii) call = lint_promise (world_inputs call ascii)
owed (requests.Where ascii receivers) call =
    finds_nothing (where_promise (world_inputs call ascii) (map (λ name. name.now) receivers.items))
owed (requests.Routes ascii receivers) call =
    finds_nothing
    (routes_promise (report_inputs call ascii) (map (λ name. name.now) receivers.items))
owed (requests.Compare ascii) call =
    finds (compare_promise (record {
      universe = bytes_if_any call.universe;
      old = bytes_of call.old;
      new = bytes_of call.new;
      rules = bytes_if_any call.rules;
      alphabet = alphabet_of ascii;
      form = form_of call.json;
    }))
owed (requests.Outcomes ascii) call =
    finds_nothing (outcomes_promise (report_inputs call ascii))
owed (requests.Ask question after limit steps) call =
    finds_nothing (ask_promise (record {
      universe = bytes_of call.universe;
      files = files_of call;
      question = question.now;
      after = option_copied after;
    }) (option_map non_zero_u64_get limit) (option_map step_count steps))
owed requests.Dead call =
    finds_nothing (dead_promise (bytes_of call.universe) (config_of (bytes_if_any call.config)))
owed requests.Receivers call =
    finds_nothing
    (receivers_promise (bytes_of call.universe) (config_of (bytes_if_any call.config)))
owed (requests.Explain set) call =
    finds_nothing (explain_promise (files_of call) (map (λ word. word.now) set.items))
owed (requests.Alerts question) call =
    finds_nothing (alerts_promise (files_of call) (option_copied question) (form_of call.json))
owed (requests.Universe routes ascii open_form questions) call =
    finds_nothing (universe_promise (record {
      universe = bytes_if_any call.universe;
      files = files_of call;
      questions = map (λ question. question.now) questions.items;
    }) (record { routes = routes; alphabet = alphabet_of ascii; «open» = open_form }))
owed (requests.CheckUniverse routes ascii questions) call =
    finds_nothing (check_promise (alphabet_of ascii) (record {
      universe = bytes_if_any call.universe;
      files = files_of call;
      questions = map (λ question. question.now) questions.items;
    }) routes)

-- What is owed for a call, by its request.
-- Source: own choice.
-- Example: it is what `dead` owes, if that is the request.
abbrev pub promise_of : Call → Promise Bool
promise_of call = owed call.request call
