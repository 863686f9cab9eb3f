-- When the promise of a call is kept.
use Rattle.std.proofs.Common.{◌≡◌, ◌≢◌, ℕ, List, [], ◌∷◌, Bool, true, false, ◌&&◌, Result, Ok, Err}
use Rattle.std.proofs.Common.{IfOk, inl, inr, refl, sym, subst, ◌∙◌, arith}
use Rattle.std.specs.Prelude.{⊤}
use Rattle.std.specs.Result.{IsErrAnd}
use Rattle.std.proofs.lemmas.Bool.{and_parts}
use Rattle.std.proofs.lemmas.Grind.{common_steps}
use Rattle.am_universe.specs.declared.fault.Fault.{Fault}
use Rattle.am_universe.specs.declared.kind.Kind.{Kind}
use Rattle.am_universe.specs.declared.kind.Kind.TheVariants as kinds
use Rattle.am_universe.specs.declared.place.Place.{Place}
use Rattle.am_universe.specs.declared.place.Place.TheVariants as places
use Rattle.am_universe.specs.Sink.{Writes}
use Rattle.am_universe.specs.WriteAnswer.{IsAnswerOfWrite}
use Rattle.am_json.specs.Pointer.{Refusal}
use Rattle.am_files.specs.Faults.{Stage, IsFirstFaultOfCall, IsFirstFault}
use Rattle.am_files.specs.Promise.{Promise, IsKept}

-- ---- Faults of the input are none of writing, as these stand at the output.

abbrev is_input : Place → Bool
is_input places.Output = false
is_input _ = true

-- each stage reads an input
abbrev pub read_inputs : List Stage → Bool
read_inputs [] = true
read_inputs (stage ∷ later) = is_input stage.place && read_inputs later

stands_at_input : (stages : List Stage) (place : Place) (r : Refusal) → read_inputs stages ≡ true
    → IsFirstFaultOfCall stages place r → is_input place ≡ true
stands_at_input [] place r inputs none = absurd none
stands_at_input (stage ∷ later) place r inputs (inl here) =
    subst (λ (p : Place). is_input p ≡ true) (sym here.0)
    (and_parts (is_input stage.place) (read_inputs later) inputs).0
stands_at_input (stage ∷ later) place r inputs (inr behind) =
    stands_at_input later place r (and_parts (is_input stage.place) (read_inputs later) inputs).1
    behind.1

pub never_of_writing : (stages : List Stage) → read_inputs stages ≡ true → (fault : Fault)
    → IsFirstFault stages fault → fault.kind ≢ kinds.Write
never_of_writing stages inputs fault first writing = grind (arith, common_steps, stands_at_input)

-- ---- The ends of a call.

module _ {A S : Type 0} (promise : Promise A) {taken : S → List ℕ} {failures : S → ℕ} where
  -- the inputs were refused, or memory ran out, and nothing was written
  pub refused : {s : S} (fault : Fault) (result : Result A Fault) → read_inputs promise.stages ≡ true
      → IsErrAnd result (λ f. f ≡ fault) → IsFirstFault promise.stages fault
      → IsKept promise taken failures s s result
  refused fault (Ok x) inputs is first = absurd is
  refused {s} fault (Err f) inputs is first = grind (arith, common_steps, never_of_writing)

  -- memory ran out, and nothing was written
  pub starved : {s : S} (fault : Fault) → fault.kind ≡ kinds.Memory → IsKept promise taken failures s s (Err fault)
  starved fault memory = grind (arith, common_steps)

  -- a text that may be written was written, whole or in part
  pub written : {old new : S} (answer : A) (text : List ℕ) (wrote : Result A Kind)
      (result : Result A Fault) → promise.May answer text → IfOk wrote (λ a. a ≡ answer)
      → Writes taken failures old new text wrote → IsAnswerOfWrite wrote result
      → IsKept promise taken failures old new result
  written {old} {new} answer text (Ok a) (Ok b) may same writes is = grind (arith, common_steps)
  written answer text (Ok a) (Err fault) may same writes is =
      let both : Err fault ≡ Ok a = is in absurd (cc)
  written answer text (Err kind) (Ok b) may same writes is = absurd is
  written answer text (Err kind) (Err fault) may same writes is = grind (arith, common_steps)

-- a call whose answer says nothing answers `tt`
pub nothing_told : (wrote : Result ⊤ Kind) → IfOk wrote (λ a. a ≡ tt)
nothing_told (Ok a) = refl
nothing_told (Err kind) = tt

-- a call that keeps a promise without stages keeps another promise, if each text that the first
-- permits is permitted by the other
pub kept_as : {A S : Type 0} (p q : Promise A) {taken : S → List ℕ} {failures : S → ℕ}
    {old new : S} (result : Result A Fault) → p.stages ≡ []
    → ((answer : A) (text : List ℕ) → p.May answer text → q.May answer text)
    → IsKept p taken failures old new result → IsKept q taken failures old new result
kept_as p q (Ok answer) none may kept = grind (arith, common_steps)
kept_as p q (Err fault) none may kept = grind (arith, common_steps)

-- if two answers are the same, a call with one has the other
pub told_as : {A : Type 0} (wrote : Result A Kind) {told answer : A} → told ≡ answer
    → IfOk wrote (λ a. a ≡ told) → IfOk wrote (λ a. a ≡ answer)
told_as (Ok a) same is = is ∙ same
told_as (Err kind) same is = tt
