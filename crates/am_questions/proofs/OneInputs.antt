-- Inputs of a call that are accepted fix the space, the world, the question and the start.
use Rattle.std.proofs.Common.{◌≡◌, ℕ, List, Option, Some, None, refl, sym, subst, ◌∙◌, rules}
use Rattle.am_universe.specs.Universe.{Label, IsUniverse, sizes}
use Rattle.am_labels.specs.Space.{Space}
use Rattle.am_eval.specs.World.{World}
use Rattle.am_eval.specs.Question.{Question}
use Rattle.am_files.proofs.AcceptedInputs.{one_space, one_world}
use Rattle.am_search.specs.declared.start.Start.{Start}
use Rattle.am_search.specs.Start.{IsStart}
use Rattle.am_search.specs.Token.{IsFingerprint}
use Rattle.am_search.proofs.TokenTexts.{sizes_of_universe}
use Rattle.am_search.proofs.TokenForms.{same_start}
use Rattle.am_fingerprint.proofs.PartLemmas.{fingerprint_length, fingerprint_bytes}
use Rattle.am_questions.specs.QuestionText.{ReadsQuestion}
use Rattle.am_questions.specs.AskedStart.{AsksStart}
use Rattle.am_questions.specs.Inputs.{Inputs, inputs_fingerprint, AcceptsInputs}
use Rattle.am_questions.proofs.OneMeaning.{one_question}

-- the fingerprint of inputs has 16 bytes
pub has_fingerprint : (inputs : Inputs) → IsFingerprint (inputs_fingerprint inputs)
has_fingerprint inputs = search (rules, fingerprint_length, fingerprint_bytes)

-- the start that they ask for is one over the labels
pub asked_is_start : (u : List Label) (fingerprint : List ℕ) (after : Option (List ℕ))
    (start : Start) → AsksStart u fingerprint after start → IsStart (sizes u) start
asked_is_start u fingerprint None start h = subst (IsStart (sizes u)) (sym h) refl
asked_is_start u fingerprint (Some token) start h = h.0

pub one_start : (u : List Label) (inputs : Inputs) (after : Option (List ℕ)) (start other : Start)
    → IsUniverse u → AsksStart u (inputs_fingerprint inputs) after start
    → AsksStart u (inputs_fingerprint inputs) after other → start ≡ other
one_start u inputs None start other is asks also = asks ∙ sym also
one_start u inputs (Some token) start other is asks also =
    search (rules, has_fingerprint, sizes_of_universe, same_start)

pub one_meaning_of_inputs : (inputs : Inputs) (s t : Space) (w x : World) (q r : Question)
    (start other : Start) → AcceptsInputs inputs s w q start → AcceptsInputs inputs t x r other
    → (s ≡ t) × (w ≡ x) × (q ≡ r) × (start ≡ other)
one_meaning_of_inputs inputs s t w x q r start other said again =
    let space : s ≡ t = one_space inputs.universe s t said.says_universe again.says_universe in
    let world : w ≡ x = one_world inputs.files w x said.accepts_world again.accepts_world in
    let question : q ≡ r = one_question x.config inputs.question q r
    (subst (λ (y : World). ReadsQuestion y.config inputs.question q) world said.reads)
    again.reads in
    let starts : start ≡ other = one_start t.labels inputs inputs.after start other
    again.says_universe.3.is_universe
    (subst (λ (y : Space). AsksStart y.labels (inputs_fingerprint inputs) inputs.after start) space said.starts)
    again.starts in
    (space, world, question, starts)
