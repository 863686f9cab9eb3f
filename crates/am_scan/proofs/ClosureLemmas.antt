-- A closed list says for each state whether it leads to a match.
use Rattle.std.proofs.Common.{◌≡◌, ℕ, suc, ◌+◌, ◌<◌, ◌≤◌, ◌⊎◌, All, ◌++◌, Bool, true, false, ◌&&◌, ◌||◌, cond, eqb, List, [], ◌∷◌, length, vec_len, slice_index, slice_index_or, slice_get, Option, Some, None, is_some, refl, sym, inl, inr, ap, ◌∙◌, arith, eqb-true}
use Rattle.std.proofs.lemmas.Bool.{or_cases, or_left, or_right, cases_Bool, cases_eq, both_ways}
use Rattle.std.proofs.lemmas.List.Folds.{list_any-append}
use Rattle.std.specs.Option.{option_or}
use Rattle.std.proofs.lemmas.Grind.{common_steps}
use Rattle.regex_hir.specs.Looks.{holds}
use Rattle.regex_hir.specs.Text.{byte_before}
use Rattle.regex_hir.proofs.OptionLemmas.{is_some-write}
use Rattle.regex_nfa.specs.Run.{state_of, measure, run}
use Rattle.regex_nfa.specs.States.{visit, IsBelow}
use Rattle.regex_nfa.specs.declared.state.State.{State}
use Rattle.regex_nfa.specs.declared.state.State.TheVariants.{ByteRange, Sparse, Split, Save, Look, Match, Fail}
use Rattle.regex_nfa.specs.declared.nfa.Nfa.{Nfa}
use Rattle.regex_nfa.proofs.RunLemmas.{sound_of, run_unfold, measure_falls_empty, measure_induction}
use Rattle.am_scan.specs.declared.byte_set.ByteSet.{ByteSet}
use Rattle.am_scan.specs.declared.sight.Sight.{Sight}
use Rattle.am_scan.specs.Sight.{kind_beside, IsScanned}
use Rattle.am_scan.specs.Closure.{leads, leads_on, accepts, contains, reads_byte, AcceptsReads, IsClosed}
use Rattle.am_scan.proofs.SightLemmas.{IsSeen, holds-kinds}

-- one of two results is there exactly if the first or the second is
pub is_some-option_or : {A : Type 0} (o p : Option A) → is_some (option_or o p) ≡ (is_some o || is_some p)
is_some-option_or None p = refl
is_some-option_or (Some x) p = refl

-- a result under a condition is there exactly if the condition holds and there is a result
pub is_some-cond : {A : Type 0} (b : Bool) (o : Option A) → is_some (cond b o None) ≡ (b && is_some o)
is_some-cond true o = refl
is_some-cond false o = refl

module _ (nfa : Nfa) (sight : Sight) (bytes : ByteSet) (seen : IsSeen nfa sight bytes) (hay : List ℕ) (scanned : IsScanned bytes hay) (i : ℕ) (after before : Option ℕ) (reads : ℕ → Bool) (accepted : List Bool)
    (after_is : after ≡ kind_beside sight (slice_get hay i)) (before_is : before ≡ kind_beside sight (byte_before hay i))
    (read_is : (q : ℕ) → q < vec_len nfa.states → reads q ≡ leads_on nfa hay q i) where
  -- `accepts` is right about a state, if the accepted states of lower rank are right
  by_state : (q : ℕ) → q < vec_len nfa.states → (state : State) → state_of nfa q ≡ state →
      ((r : ℕ) → IsBelow nfa.ranks.items r q → slice_index_or accepted r false ≡ leads nfa hay r i) →
      accepts after before accepted (reads q) state
      ≡ is_some (visit nfa.transitions.items hay (length hay) (run nfa hay (length hay)) state i)
  unfolding holds
  by_state q inside (Split first second) is h = grind (arith, common_steps, sound_of, is_some-option_or)
  by_state q inside (Save slot next) is h = h next (sound_of nfa q _ is).1 ∙ sym (is_some-write slot i _)
  by_state q inside (Look l next) is h = grind (arith, common_steps, holds-kinds, sound_of, is_some-cond)
  by_state q inside Match is h = refl
  by_state q inside Fail is h = refl
  by_state q inside state is h = grind (arith, common_steps)

  -- a state is accepted exactly if it leads to a match
  pub leads_where_accepted : IsClosed nfa after before reads accepted → (q : ℕ) → q < vec_len nfa.states →
      slice_index_or accepted q false ≡ leads nfa hay q i
  leads_where_accepted closed q inside =
      measure_induction nfa hay (length hay)
      (λ r j. j ≡ i → r < vec_len nfa.states → slice_index_or accepted r false ≡ leads nfa hay r j)
      (λ r j ih e within.
      closed.each r within
      ∙ by_state r within _ refl
      (λ s below. ih s i (let falls = measure_falls_empty nfa hay (length hay) s r i below in
      omega (arith, falls, ap (measure nfa hay (length hay) r) e)) refl (omega (arith, below.0, nfa.ranks_len)))
      ∙ sym (ap is_some (run_unfold nfa hay (length hay) r i)) ∙ ap (leads nfa hay r) (sym e))
      q i refl inside

-- a state that reads a byte is accepted exactly if reading it leads to a match
accepts_reading : (after before : Option ℕ) (accepted : List Bool) (reads : Bool) (state : State) → reads_byte state ≡ true →
    accepts after before accepted reads state ≡ reads
accepts_reading after before accepted reads (ByteRange t) h = refl
accepts_reading after before accepted reads (Sparse from to) h = refl
accepts_reading after before accepted reads state h = absurd cc

-- a number that a list contains is at some position
place_of : (numbers : List ℕ) (n : ℕ) → contains numbers n ≡ true → (k : ℕ) × (k < length numbers) × (slice_index numbers k ≡ n)
place_of [] n h = absurd cc
place_of (m ∷ numbers) n h = elim (or_cases (eqb m n) (contains numbers n) h) [
  | inl here ↦ (0, omega arith, eqb-true m n here)
  | inr later ↦ (let p = place_of numbers n later in (suc p.0, omega (arith, p.1), p.2))
]

-- A list of accepted states is closed if the states that read a byte are accepted as `reads` says,
-- and the others as the accepted states say.
pub IsClosed-rounds : (nfa : Nfa) (after before : Option ℕ) (reads : ℕ → Bool) (accepted : List Bool) (idle : List ℕ) →
    length accepted ≡ vec_len nfa.states → AcceptsReads nfa reads accepted →
    ((q : ℕ) → q < vec_len nfa.states → reads_byte (state_of nfa q) ≡ false → contains idle q ≡ true) →
    ((k : ℕ) → k < length idle →
    slice_index_or accepted (slice_index idle k) false ≡ accepts after before accepted (reads (slice_index idle k)) (state_of nfa (slice_index idle k))) →
    IsClosed nfa after before reads accepted
IsClosed-rounds nfa after before reads accepted idle len own all each =
    grind (arith, common_steps, cases_Bool, accepts_reading, place_of)

-- Numbers are of states that read no byte, and all such states among the last `k` are there.
pub record AreIdle (nfa : Nfa) (idle : List ℕ) (k : ℕ) : Type 0 where
  pub alone : All (λ q. (q < vec_len nfa.states) × (reads_byte (state_of nfa q) ≡ false)) idle
  pub all : (q : ℕ) → q < vec_len nfa.states → vec_len nfa.states ≤ q + k → reads_byte (state_of nfa q) ≡ false → contains idle q ≡ true

-- a list with one more number contains that number and the earlier ones
contains_pushed : (idle : List ℕ) (id q : ℕ) → (contains idle q ≡ true) ⊎ (id ≡ q) → contains (idle ++ id ∷ []) q ≡ true
contains_pushed idle id q h = grind (arith, common_steps, list_any-append, or_left, or_right)

-- one more state, which reads no byte
pub AreIdle-more : (nfa : Nfa) (idle all : List ℕ) (id k : ℕ) → AreIdle nfa idle k → all ≡ idle ++ id ∷ [] → (id + k) + 1 ≡ vec_len nfa.states →
    reads_byte (state_of nfa id) ≡ false → AreIdle nfa all (k + 1)
AreIdle-more nfa idle all id k h is e idling = grind (arith, common_steps, contains_pushed, cases_eq)

-- one more state, which reads a byte
pub AreIdle-same : (nfa : Nfa) (idle : List ℕ) (id k : ℕ) → AreIdle nfa idle k → (id + k) + 1 ≡ vec_len nfa.states →
    reads_byte (state_of nfa id) ≡ true → AreIdle nfa idle (k + 1)
AreIdle-same nfa idle id k h e reading = grind (arith, common_steps, both_ways, cases_eq)
