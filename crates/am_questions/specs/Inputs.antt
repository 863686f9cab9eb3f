-- The inputs of a call that asks a question, when they are accepted, and the order of their faults.
-- (This project's own.)
use Rattle.std.specs.Prelude.{ℕ, List, [], ◌∷◌, ◌++◌, Option, Some, option_copied}
use Rattle.am_labels.specs.Space.{Space}
use Rattle.am_list_files.specs.UniverseFile.{FileSaysUniverse}
use Rattle.am_search.specs.declared.start.Start.{Start}
use Rattle.am_search.specs.declared.page.Page.{Page}
use Rattle.am_files.specs.Files.{Files, config_of}
use Rattle.am_eval.specs.World.{World}
use Rattle.am_files.specs.AcceptedWorld.{AcceptsWorld, world_stages}
use Rattle.am_eval.specs.Question.{Question}
use Rattle.am_files.specs.Faults.{Stage, universe_stage}
use Rattle.am_fingerprint.specs.Fingerprint.{fingerprint_of}
use Rattle.am_questions.specs.QuestionText.{ReadsQuestion}
use Rattle.am_questions.specs.AskedStart.{AsksStart}
use Rattle.am_questions.specs.QuestionStages.{question_stage, token_stage}

-- The inputs of `ask`: the bytes of the universe file, the other files with the instant, the text
-- of the question, and the token that says where the answers begin, if there is one.
pub record Inputs : Type 0 where
  pub universe : List ℕ
  pub files : Files
  pub question : List ℕ
  pub after : Option (List ℕ)

-- The inputs that a call is given.
abbrev pub inputs_of : List ℕ → Files → List ℕ → Page → Inputs
inputs_of universe files question page = record {
  universe = universe;
  files = files;
  question = question;
  after = option_copied page.after;
}

-- The same inputs with this token.
abbrev pub after_token : Inputs → List ℕ → Inputs
after_token inputs token = record {
  universe = inputs.universe;
  files = inputs.files;
  question = inputs.question;
  after = Some token;
}

-- The fingerprint of a universe file, of the other files and the instant, as far as they are given,
-- and of the text of a question.
abbrev pub files_fingerprint : List ℕ → Files → List ℕ → List ℕ
files_fingerprint universe files question =
    fingerprint_of (Some universe
    ∷ files.config
    ∷ files.silences
    ∷ files.alerts
    ∷ files.at
    ∷ Some question
    ∷ [])

-- The fingerprint of the inputs. The token is not part of it, nor are the limits that a page sets.
abbrev pub inputs_fingerprint : Inputs → List ℕ
inputs_fingerprint inputs = files_fingerprint inputs.universe inputs.files inputs.question

-- The inputs are accepted: the universe file says the space, the world is accepted, the text is
-- read as the question about its configuration, and the start is the one that is asked for over the
-- labels of the space. A token may name a choice that is impossible.
pub record AcceptsInputs (inputs : Inputs) (space : Space) (world : World)
    (question : Question) (start : Start) : Type 0 where
  pub says_universe : FileSaysUniverse inputs.universe space
  pub accepts_world : AcceptsWorld inputs.files world
  pub reads : ReadsQuestion world.config inputs.question question
  pub starts : AsksStart space.labels (inputs_fingerprint inputs) inputs.after start

-- The stages of `ask`, in order: the universe file, the stages of the world, the question, and the
-- token.
-- Source: own choice.
-- Example: if the universe file is not JSON and the question is the empty text, the first fault is
-- the `not-json` of the universe file, not the `question-syntax` of the question. If all files are
-- accepted, but there is a file of silences and no instant, it is `need-at`, even if the token is
-- one of another universe.
abbrev pub ask_stages : Inputs → List Stage
ask_stages inputs =
    universe_stage inputs.universe
    ∷ (world_stages inputs.files
    ++ question_stage (config_of inputs.files.config) inputs.question
    ∷ token_stage inputs.universe (inputs_fingerprint inputs) inputs.after
    ∷ [])
