-- Which states of a compiled pattern lead to a match from a position of a text.
use Rattle.std.specs.Prelude.{◌≡◌, ℕ, ◌<◌, Bool, true, false, ◌&&◌, ◌||◌, List, length, Option}
use Rattle.std.specs.Prelude.{is_some, vec_len, slice_index_or, ◌==◌}
use Rattle.std.specs.List.{list_any}
use Rattle.regex_hir.specs.Looks.{holds_between}
use Rattle.regex_hir.specs.Text.{is_some_and}
use Rattle.regex_nfa.specs.Run.{run, state_of}
use Rattle.regex_nfa.specs.States.{next_on, read}
use Rattle.regex_nfa.specs.declared.nfa.Nfa.{Nfa}
use Rattle.regex_nfa.specs.declared.state.State.{State}
use Rattle.regex_nfa.specs.declared.state.State.TheVariants.{ByteRange, Sparse, Split, Save, Look}
use Rattle.regex_nfa.specs.declared.state.State.TheVariants.{Match, Fail}

-- A state leads to a match from a position.
-- Source: own choice.
-- Example: `Match` does so from every position.
abbrev pub leads : Nfa → List ℕ → ℕ → ℕ → Bool
leads nfa hay q i = is_some (run nfa hay (length hay) q i)

-- A state leads to a match by reading the byte at a position.
-- Source: own choice.
-- Example: at the end of a text there is no byte, so no state does.
abbrev pub leads_on : Nfa → List ℕ → ℕ → ℕ → Bool
leads_on nfa hay q i =
    let go = run nfa hay (length hay) in
    is_some (read nfa.transitions.items hay (length hay) go (state_of nfa q) i)

-- A state reads a byte.
-- Source: own choice.
-- Example: a split reads none.
abbrev pub reads_byte : State → Bool
reads_byte (ByteRange t) = true
reads_byte (Sparse from to) = true
reads_byte _ = false

-- Whether a state leads to a match, if `accepted` says which states do. `reads` says whether the
-- state does so by reading a byte, and `after` and `before` are the kinds of the bytes beside the
-- position.
-- Source: own choice.
-- Example: a split does if one of its two targets does.
abbrev pub accepts : Option ℕ → Option ℕ → List Bool → Bool → State → Bool
accepts after before accepted reads (ByteRange t) = reads
accepts after before accepted reads (Sparse from to) = reads
accepts after before accepted reads (Split first second) =
    slice_index_or accepted first false || slice_index_or accepted second false
accepts after before accepted reads (Save slot next) = slice_index_or accepted next false
accepts after before accepted reads (Look l next) =
    holds_between l
    (record { byte = before; char = before }) (record { byte = after; char = after })
    && slice_index_or accepted next false
accepts after before accepted reads Match = true
accepts after before accepted reads Fail = false

-- A number is one of some numbers.
-- Source: own choice.
-- Example: 2 is one of 1 and 2.
abbrev pub contains : List ℕ → ℕ → Bool
contains numbers n = list_any (λ m. m == n) numbers

-- A state that reads a byte is accepted exactly if `reads` says that this leads to a match.
abbrev pub AcceptsReads : Nfa → (ℕ → Bool) → List Bool → Type 0
AcceptsReads nfa reads accepted =
    (q : ℕ) → q < vec_len nfa.states → reads_byte (state_of nfa q) ≡ true
    → slice_index_or accepted q false ≡ reads q

-- A list of accepted states is closed: a state is accepted exactly if it leads to a match by the
-- accepted states.
-- Source: own choice.
-- Example: if the pattern has a state `Match`, a list that does not accept it is not closed.
pub record IsClosed (nfa : Nfa) (after before : Option ℕ) (reads : ℕ → Bool)
    (accepted : List Bool) : Type 0 where
  pub len : length accepted ≡ vec_len nfa.states
  pub each : (q : ℕ) → q < vec_len nfa.states
      → slice_index_or accepted q false ≡ accepts after before accepted (reads q) (state_of nfa q)

-- A state goes to an accepted state by reading the byte.
-- Source: own choice.
-- Example: a state that reads no byte goes nowhere.
abbrev pub goes_on : Nfa → List Bool → ℕ → ℕ → Bool
goes_on nfa accepted q byte =
    is_some_and (next_on nfa.transitions.items (state_of nfa q) byte)
    (λ r. slice_index_or accepted r false)
