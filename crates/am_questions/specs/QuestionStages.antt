-- The stages of a call that asks a question, after those of its files. (This project's own.)
use Rattle.std.specs.Prelude.{◌≡◌, ℕ, List, [], Option}
use Rattle.am_universe.specs.declared.place.Place.TheVariants as places
use Rattle.am_labels.specs.Space.{Space}
use Rattle.am_json.specs.Pointer.{Refusal}
use Rattle.am_list_files.specs.UniverseFile.{FileSaysUniverse}
use Rattle.am_config.specs.ConfigFile.{Configuration, FileSaysConfig}
use Rattle.am_search.specs.declared.start.Start.{Start}
use Rattle.am_eval.specs.Question.{Question}
use Rattle.am_files.specs.Faults.{Stage}
use Rattle.am_questions.specs.QuestionText.{ReadsQuestion, QuestionRefusedFor}
use Rattle.am_questions.specs.AskedStart.{AsksStart, StartRefusedFor}

-- The text is a question about the configuration that the bytes of a file say.
abbrev pub ReadsSomeQuestion : List ℕ → List ℕ → Type 0
ReadsSomeQuestion bytes text =
    (configuration : Configuration) × FileSaysConfig bytes configuration
    × (question : Question) × ReadsQuestion configuration text question

-- Why the text is refused as a question about the configuration that the bytes of a file say. Such
-- a fault has the empty pointer.
abbrev pub QuestionStageRefusedFor : List ℕ → List ℕ → Refusal → Type 0
QuestionStageRefusedFor bytes text r =
    (configuration : Configuration) × FileSaysConfig bytes configuration
    × QuestionRefusedFor configuration text r.kind × (r.pointer ≡ [])

-- The token, if there is one, asks for a start over the labels that the bytes of a file say, for
-- inputs with this fingerprint.
abbrev pub HasSomeStart : List ℕ → List ℕ → Option (List ℕ) → Type 0
HasSomeStart bytes fingerprint after =
    (space : Space) × FileSaysUniverse bytes space
    × (start : Start) × AsksStart space.labels fingerprint after start

-- Why the token is refused over these labels, for inputs with this fingerprint. Such a fault has
-- the empty pointer.
abbrev pub TokenRefusedFor : List ℕ → List ℕ → Option (List ℕ) → Refusal → Type 0
TokenRefusedFor bytes fingerprint after r =
    (space : Space) × FileSaysUniverse bytes space
    × (r.pointer ≡ []) × StartRefusedFor space.labels fingerprint after r.kind

-- The stage of the text of the question about the configuration of a file.
abbrev pub question_stage : List ℕ → List ℕ → Stage
question_stage bytes text = record {
  place = places.Question;
  accepts = ReadsSomeQuestion bytes text;
  refuses = QuestionStageRefusedFor bytes text;
}

-- The stage of the token of a page, if there is one, beside the bytes of the universe file and the
-- fingerprint of all inputs.
abbrev pub token_stage : List ℕ → List ℕ → Option (List ℕ) → Stage
token_stage bytes fingerprint after = record {
  place = places.Token;
  accepts = HasSomeStart bytes fingerprint after;
  refuses = TokenRefusedFor bytes fingerprint after;
}
