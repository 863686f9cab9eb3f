-- What it means that a reading of values, or of the bytes of files, is exact. (This project's own.)
use Rattle.std.specs.Prelude.{◌≡◌, ◌↔◌, None, Ok, Err}
use Rattle.std.specs.Result.{result_err}
use Rattle.am_json.specs.Pointer.{Refusal}
use Rattle.am_json.specs.Reading.{Reading}

-- A reading is exact: it gives exactly what a value, or the bytes of a file, says, and refuses it
-- for exactly the first fault. This assumes that the engine builds each pattern that its grammar
-- reads.
pub record IsReadExactly {D A : Type 0} (Says : D → A → Type 0) (reading : D → Reading A)
    (IsFirst : D → Refusal → Type 0) : Type 0 where
  -- a value says something exactly if reading the value gives that
  pub read : (d : D) (x : A) → Says d x ↔ ((reading d).result ≡ Ok x)
  -- so it says at most one thing
  pub one : (d : D) (x y : A) → Says d x → Says d y → x ≡ y
  -- a value is read without a refusal exactly if it says something
  pub faults : (d : D) → (result_err (reading d).result ≡ None) ↔ ((x : A) × Says d x)
  -- reading refuses a value for exactly its first fault
  pub first : (d : D) (r : Refusal) → ((reading d).result ≡ Err r) ↔ IsFirst d r
