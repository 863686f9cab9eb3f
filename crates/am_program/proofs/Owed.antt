-- How the result of a command keeps what is owed for a request.
use Rattle.std.proofs.Common.{◌≡◌, ℕ, List, Bool, false, Result, Ok, Err, MatchResult, refl}
use Rattle.std.specs.Prelude.{nat_lt}
use Rattle.am_universe.specs.declared.fault.Fault.{Fault}
use Rattle.am_files.specs.Promise.{Promise, IsKept}
use Rattle.am_program.specs.Requests.{finds_nothing, finds}

module _ {S : Type 0} {taken : S → List ℕ} {failures : S → ℕ} {old new : S} where
  -- A call still keeps what is owed if another answer replaces its own, and each text that may be
  -- written with its own answer may be written with the other.
  answered_as : {A B : Type 0} (promise : Promise A) (May : B → List ℕ → Type 0) (answer : A → B)
      → ((a : A) (text : List ℕ) → promise.May a text → May (answer a) text)
      → (result : Result A Fault) (other : Result B Fault)
      → MatchResult result (λ a. other ≡ Ok (answer a)) (λ fault. other ≡ Err fault)
      → IsKept promise taken failures old new result
      → IsKept (record { stages = promise.stages; May = May }) taken failures old new other
  answered_as promise May answer may (Ok a) other is kept =
      rw is (record {
        done = (kept.done.0, may a kept.done.0 kept.done.1, kept.done.2);
        first = tt;
        untouched = tt;
        write = tt;
      })
  answered_as promise May answer may (Err fault) other is kept =
      rw is (record {
        done = tt;
        first = kept.first;
        untouched = kept.untouched;
        write = λ writing.
            let told = kept.write writing in
            (answer told.0, (told.1.0, may told.0 told.1.0 told.1.1, told.1.2));
      })

  -- So it does if the other answer is that nothing was found.
  pub nothing_found : {A : Type 0} {promise : Promise A} {result : Result A Fault}
      {other : Result Bool Fault}
      → MatchResult result (λ _. other ≡ Ok false) (λ fault. other ≡ Err fault)
      → IsKept promise taken failures old new result
      → IsKept (finds_nothing promise) taken failures old new other
  nothing_found {promise = promise} {result} {other} is kept =
      answered_as promise (finds_nothing promise).May (λ a. false) (λ a text may. (refl, (a, may)))
      result other is kept

  -- And if the other answer is whether a count is above 0.
  pub so_many_found : {promise : Promise ℕ} {result : Result ℕ Fault} {other : Result Bool Fault}
      → MatchResult result (λ count. other ≡ Ok (nat_lt 0 count)) (λ fault. other ≡ Err fault)
      → IsKept promise taken failures old new result
      → IsKept (finds promise) taken failures old new other
  so_many_found {promise} {result} {other} is kept =
      answered_as promise (finds promise).May (nat_lt 0) (λ count text may. (count, refl, may))
      result other is kept
