-- What a call that ends with a write returns. (This project's own.)
use Rattle.std.specs.Prelude.{◌≡◌, Result, Ok, Err}
use Rattle.std.specs.Result.{IsErrAnd}
use Rattle.am_universe.specs.declared.fault.Fault.{Fault}
use Rattle.am_universe.specs.declared.kind.Kind.{Kind}
use Rattle.am_universe.specs.declared.kind.Kind.TheVariants as kinds

-- The call returns what the write returned, or a fault of writing if the write failed.
abbrev pub IsAnswerOfWrite : {T : Type 0} → Result T Kind → Result T Fault → Type 0
IsAnswerOfWrite (Ok answer) result = result ≡ Ok answer
IsAnswerOfWrite (Err kind) result = IsErrAnd result (λ fault. fault.kind ≡ kinds.Write)
