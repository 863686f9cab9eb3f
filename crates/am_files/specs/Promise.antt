-- What a command owes. (This project's own.)
use Rattle.std.specs.Prelude.{◌≡◌, ◌≢◌, ℕ, List, Result, IfOk, IfErr}
use Rattle.am_universe.specs.declared.fault.Fault.{Fault}
use Rattle.am_universe.specs.declared.kind.Kind.TheVariants as kinds
use Rattle.am_universe.specs.Sink.{Wrote, WroteInPart}
use Rattle.am_files.specs.Faults.{Stage, IsFirstFault}

-- What a command owes for its inputs: the stages in which it reads them, and the texts that it may
-- write if they are accepted, each with the answer of the call.
-- Source: own choice.
-- Example: the stages of `dead` are the universe file and the configuration file, and its one text
-- is the report on the routes of what they say.
pub record Promise (A : Type 0) : Type 1 where
  pub stages : List Stage
  pub May : A → List ℕ → Type 0

-- Some text that may be written with this answer was written as `IsWritten` says: whole, or in
-- part.
abbrev pub SomeText : {A : Type 0} → Promise A → A → (List ℕ → Type 0) → Type 0
SomeText promise answer IsWritten = (text : List ℕ) × promise.May answer text × IsWritten text

-- The call kept the promise with its result, and with what the sink took since it was `old`. If the
-- call succeeded, the sink took a text that may be written with its answer. If it failed, but not
-- with `Write`, the fault is the first of the inputs, unless memory ran out, and the sink is as it
-- was. If it failed with `Write`, the sink took a proper prefix of a text that may be written.
-- Source: own choice.
-- Example: if a writer takes five bytes of a report and then fails, the fault is `write`, and these
-- five bytes are the output.
pub record IsKept {A S : Type 0} (promise : Promise A) (taken : S → List ℕ) (failures : S → ℕ)
    (old new : S) (result : Result A Fault) : Type 0 where
  pub done : IfOk result (λ answer. SomeText promise answer (Wrote taken failures old new))
  pub first : IfErr result (λ fault. fault.kind ≢ kinds.Write
      → IsFirstFault promise.stages fault)
  pub untouched : IfErr result (λ fault. fault.kind ≢ kinds.Write → new ≡ old)
  pub write : IfErr result (λ fault. fault.kind ≡ kinds.Write
      → (answer : A) × SomeText promise answer (WroteInPart taken failures old new))
