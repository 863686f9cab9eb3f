-- The inputs of `universe`, when they are accepted, and the order of their faults. (This project's
-- own.)
use Rattle.std.specs.Prelude.{◌≡◌, ℕ, List, [], ◌∷◌, ◌++◌, take, Option, Some, None, codes, decimal}
use Rattle.std.specs.Prelude.{slice_get}
use Rattle.std.specs.List.{AllByRecursion, AllZip}
use Rattle.am_universe.specs.declared.place.Place.TheVariants as places
use Rattle.am_labels.specs.Space.{Space}
use Rattle.am_json.specs.Pointer.{Refusal}
use Rattle.am_list_files.specs.UniverseFile.{FileHasImpossibleTexts}
use Rattle.am_config.specs.ConfigFile.{Configuration, FileSaysConfig}
use Rattle.am_files.specs.Files.{Files, config_of, SaysUniverseIfAny}
use Rattle.am_eval.specs.World.{World}
use Rattle.am_eval.specs.Question.{Question}
use Rattle.am_files.specs.AcceptedWorld.{AcceptsFiles, timeless_stages}
use Rattle.am_files.specs.Faults.{Stage, universe_stage_if_any}
use Rattle.am_questions.specs.QuestionText.{ReadsQuestion, QuestionRefusedFor}

-- The bytes of a universe file, if there is one; the other files; and the texts of questions.
pub record UniverseInputs : Type 0 where
  pub universe : Option (List ℕ)
  pub files : Files
  pub questions : List (List ℕ)

-- The texts of the impossible lists of a universe file, if there is one, are these, word for word.
-- Without a file there are none.
abbrev pub HasListsIfAny : Option (List ℕ) → List (List ℕ) → Type 0
HasListsIfAny None lists = lists ≡ []
HasListsIfAny (Some bytes) lists = FileHasImpossibleTexts bytes lists

-- Each text is read as the question at its position, about a configuration.
abbrev pub ReadsQuestions : Configuration → List (List ℕ) → List Question → Type 0
ReadsQuestions c texts questions = AllZip (ReadsQuestion c) texts questions

-- The inputs are accepted: the universe file says the space, the other files say the world, and the
-- texts are read as the questions about its configuration.
pub record AcceptsUniverseInputs (inputs : UniverseInputs) (s : Space) (w : World)
    (questions : List Question) : Type 0 where
  pub says_universe : SaysUniverseIfAny inputs.universe s
  pub accepts_files : AcceptsFiles inputs.files w
  pub reads : ReadsQuestions w.config inputs.questions questions

-- ---- The order of faults.

-- The texts are questions about the configuration that the bytes of a file say.
abbrev pub ReadsSomeQuestions : List ℕ → List (List ℕ) → Type 0
ReadsSomeQuestions bytes texts =
    (c : Configuration) × FileSaysConfig bytes c
    × (questions : List Question) × ReadsQuestions c texts questions

-- Why texts are refused as questions about a configuration: the text at a position is refused, and
-- each text before it is a question. The pointer is the position.
-- Source: own choice.
-- Example: of `any`, `all` and `none` the second is the first to be refused, and the pointer is
-- `/1`.
pub record QuestionsRefusedFor (c : Configuration) (texts : List (List ℕ)) (r : Refusal)
    : Type 0 where
  pub position : ℕ
  pub text : List ℕ
  pub there : slice_get texts position ≡ Some text
  pub before : AllByRecursion (λ t. (question : Question) × ReadsQuestion c t question)
      (take position texts)
  pub refused : QuestionRefusedFor c text r.kind
  pub pointer : r.pointer ≡ codes "/" ++ decimal position

abbrev pub QuestionsOfFileRefusedFor : List ℕ → List (List ℕ) → Refusal → Type 0
QuestionsOfFileRefusedFor bytes texts r =
    (c : Configuration) × FileSaysConfig bytes c × QuestionsRefusedFor c texts r

abbrev pub questions_stage : List ℕ → List (List ℕ) → Stage
questions_stage bytes texts = record {
  place = places.Question;
  accepts = ReadsSomeQuestions bytes texts;
  refuses = QuestionsOfFileRefusedFor bytes texts;
}

-- The stages of reading the inputs, in order: the universe file, if there is one, the files of a
-- world without its instant, and the questions.
-- Source: own choice.
-- Example: if the universe file is `{}` and the configuration is not JSON, the first fault is the
-- `shape` of the universe.
abbrev pub universe_input_stages : UniverseInputs → List Stage
universe_input_stages inputs =
    universe_stage_if_any inputs.universe
    ∷ (timeless_stages inputs.files
    ++ questions_stage (config_of inputs.files.config) inputs.questions ∷ [])
