-- A call that returns an answer and also writes a text.
use Rattle.std.proofs.Common.{ℕ, List, Result, Ok, Err, ◌≡◌, IfOk, refl}
use Rattle.std.specs.Prelude.{⊤}
use Rattle.std.specs.Result.{result_and}
use Rattle.am_universe.specs.declared.kind.Kind.{Kind}
use Rattle.am_universe.specs.Sink.{Writes}

pub told_beside : {A : Type 0} (wrote : Result ⊤ Kind) (answer : A)
    → IfOk (result_and wrote (Ok answer)) (λ a. a ≡ answer)
told_beside (Ok a) answer = refl
told_beside (Err kind) answer = tt

pub writes_beside : {A S : Type 0} {taken : S → List ℕ} {failures : S → ℕ} {old new : S}
    {text : List ℕ} (wrote : Result ⊤ Kind) (answer : A)
    → Writes taken failures old new text wrote
    → Writes taken failures old new text (result_and wrote (Ok answer))
writes_beside (Ok a) answer writes = record { ok = writes.ok; err = tt }
writes_beside (Err kind) answer writes = record { ok = tt; err = writes.err }
