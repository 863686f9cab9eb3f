-- Inputs of a question that are accepted have no first fault, except a pattern that the engine may
-- refuse.
use Rattle.std.proofs.Common.{◌≡◌, ℕ, List, [], ◌∷◌, ◌++◌, Option, None, Some, subst}
use Rattle.am_universe.specs.declared.kind.Kind.{Kind}
use Rattle.am_universe.specs.declared.kind.Kind.TheVariants as kinds
use Rattle.am_universe.specs.Universe.{Label, IsUniverse, sizes}
use Rattle.am_universe.specs.declared.place.Place.{Place}
use Rattle.am_labels.specs.Space.{Space}
use Rattle.am_json.specs.Pointer.{Refusal}
use Rattle.am_config.specs.ConfigFile.{Configuration}
use Rattle.am_eval.specs.World.{World}
use Rattle.am_eval.specs.Question.{Question}
use Rattle.am_files.specs.Files.{config_of}
use Rattle.am_files.specs.Faults.{IsFirstFaultOfCall, universe_stage}
use Rattle.am_files.specs.AcceptedWorld.{world_stages}
use Rattle.am_files.proofs.AcceptedInputs.{by_stage, world_accepted, universe_accepted, one_space}
use Rattle.am_files.proofs.AcceptedInputs.{one_configuration}
use Rattle.am_search.specs.declared.start.Start.{Start}
use Rattle.am_questions.specs.QuestionText.{QuestionRefusedFor}
use Rattle.am_search.proofs.TokenTexts.{sizes_of_universe}
use Rattle.am_search.proofs.TokenForms.{not_refused}
use Rattle.am_questions.specs.AskedStart.{AsksStart, StartRefusedFor}
use Rattle.am_questions.specs.QuestionStages.{QuestionStageRefusedFor, TokenRefusedFor}
use Rattle.am_questions.specs.QuestionStages.{question_stage, token_stage}
use Rattle.am_questions.specs.Inputs.{Inputs, inputs_fingerprint, AcceptsInputs, ask_stages}
use Rattle.am_questions.proofs.OneInputs.{has_fingerprint}
use Rattle.am_questions.proofs.QuestionRefusals.{question_accepted}

question_stage_accepted : (inputs : Inputs) (s : Space) (w : World) (q : Question)
    (start : Start) (r : Refusal) → AcceptsInputs inputs s w q start
    → QuestionStageRefusedFor (config_of inputs.files.config) inputs.question r
    → r.kind ≡ kinds.Pattern
question_stage_accepted inputs s w q start r accepts refused =
    question_accepted w.config inputs.question q r.kind accepts.reads
    (subst (λ (c : Configuration). QuestionRefusedFor c inputs.question r.kind)
    (one_configuration (config_of inputs.files.config) refused.0 w.config refused.1
    accepts.accepts_world.accepts_files.says_config)
    refused.2)

-- a token that asks for a start is not refused
asked_and_refused : (u : List Label) (inputs : Inputs) (after : Option (List ℕ)) (start : Start)
    (kind : Kind) → IsUniverse u → AsksStart u (inputs_fingerprint inputs) after start
    → StartRefusedFor u (inputs_fingerprint inputs) after kind → ⊥
asked_and_refused u inputs None start kind is asks refused = refused
asked_and_refused u inputs (Some token) start kind is asks refused =
    not_refused (sizes u) (inputs_fingerprint inputs) token start kind (sizes_of_universe u is)
    (has_fingerprint inputs) asks refused

token_stage_accepted : (inputs : Inputs) (s : Space) (w : World) (q : Question)
    (start : Start) (r : Refusal) → AcceptsInputs inputs s w q start
    → TokenRefusedFor inputs.universe (inputs_fingerprint inputs) inputs.after r → ⊥
token_stage_accepted inputs s w q start r accepts refused =
    asked_and_refused refused.0.labels inputs inputs.after start r.kind
    refused.1.3.is_universe
    (subst (λ (t : Space). AsksStart t.labels (inputs_fingerprint inputs) inputs.after start)
    (one_space inputs.universe s refused.0 accepts.says_universe refused.1) accepts.starts)
    refused.3

pub asked_accepted : (inputs : Inputs) (s : Space) (w : World) (q : Question) (start : Start)
    (place : Place) (r : Refusal) → AcceptsInputs inputs s w q start
    → IsFirstFaultOfCall (ask_stages inputs) place r → r.kind ≡ kinds.Pattern
asked_accepted inputs s w q start place r accepts =
    let last = token_stage inputs.universe (inputs_fingerprint inputs) inputs.after ∷ [] in
    let asked = question_stage (config_of inputs.files.config) inputs.question in
    by_stage (r.kind ≡ kinds.Pattern) (universe_stage inputs.universe)
    (world_stages inputs.files ++ asked ∷ last) place r
    (λ refused. universe_accepted inputs.universe s r accepts.says_universe refused)
    (world_accepted (r.kind ≡ kinds.Pattern) inputs.files w (asked ∷ last) place r
    accepts.accepts_world (λ pattern. pattern)
    (by_stage (r.kind ≡ kinds.Pattern) asked last place r
    (λ refused. question_stage_accepted inputs s w q start r accepts refused)
    (by_stage (r.kind ≡ kinds.Pattern) (token_stage inputs.universe (inputs_fingerprint inputs) inputs.after) [] place r
    (λ refused. absurd (token_stage_accepted inputs s w q start r accepts refused))
    (λ none. absurd none))))
