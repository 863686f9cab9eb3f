-- A trimmed pattern finds the same scanned texts.
use Rattle.std.proofs.Common.{◌≡◌, ℕ, zero, suc, ◌+◌, ◌<◌, Bool, true, false, ◌&&◌, ◌||◌, List, length, vec_len, slice_index, Option, Some, None, is_some, option_map, option_and_then, refl, sym, ap, ap₂, ◌∙◌, arith}
use Rattle.std.proofs.Math.Bool.{or-false}
use Rattle.regex_hir.specs.Looks.{holds}
use Rattle.regex_hir.specs.Find.{first_from}
use Rattle.regex_hir.specs.Text.{is_boundary}
use Rattle.regex_hir.proofs.OptionLemmas.{is_some-write}
use Rattle.regex_nfa.specs.Run.{state_of, run}
use Rattle.regex_nfa.specs.States.{next_on, byte_below, read, visit, IsBelow}
use Rattle.regex_nfa.specs.declared.state.State.{State}
use Rattle.regex_nfa.specs.declared.state.State.TheVariants.{ByteRange, Sparse, Split, Save, Look, Match, Fail}
use Rattle.regex_nfa.specs.declared.nfa.Nfa.{Nfa}
use Rattle.regex_nfa.proofs.RunLemmas.{byte_below_some, measure_falls_byte, measure_falls_empty, measure_induction, next_on_within, run_unfold, sound_of}
use Rattle.am_labels.specs.PatternView.{start_at, IsSearchFor}
use Rattle.am_scan.specs.declared.byte_set.ByteSet.{ByteSet}
use Rattle.am_scan.specs.Closure.{leads, leads_on}
use Rattle.am_scan.specs.Sight.{IsScanned}
use Rattle.am_scan.specs.Trimming.{idle_form, IsScannedSearch, IsTrimmed}
use Rattle.am_scan.proofs.ClosureLemmas.{is_some-cond, is_some-option_or}
use Rattle.am_scan.proofs.SightLemmas.{scanned_at}
use Rattle.am_scan.proofs.StepLemmas.{bytes_of_scanned, is_some-first}

-- where no byte leads on, none is read
none_read : {A : Type 0} (go : ℕ → Option A) (o : Option ℕ) → is_some (option_and_then go (option_and_then (λ (b : ℕ). None) o)) ≡ false
none_read go None = refl
none_read go (Some b) = refl

module _ (hay : List ℕ) (i : ℕ) where
  -- whether a state leads to a match without reading a byte, if it is known of the others
  abbrev idles : (ℕ → Bool) → State → Bool
  idles go (Split first second) = go first || go second
  idles go (Save slot next) = go next
  idles go (Look l next) = holds l hay i && go next
  idles go Match = true
  idles go state = false

  -- the names of states do not matter
  idles_form : (go : ℕ → Bool) (state : State) → idles go (idle_form (λ q. q) state) ≡ idles go state
  idles_form go (ByteRange t) = refl
  idles_form go (Sparse from to) = refl
  idles_form go (Split first second) = refl
  idles_form go (Save slot next) = refl
  idles_form go (Look l next) = refl
  idles_form go Match = refl
  idles_form go Fail = refl

  module _ (nfa : Nfa) where
    -- a state leads to a match without reading a byte, or by reading one
    by_parts : (state : State) → is_some (visit nfa.transitions.items hay (length hay) (run nfa hay (length hay)) state i)
        ≡ (idles (λ r. leads nfa hay r i) state || is_some (read nfa.transitions.items hay (length hay) (run nfa hay (length hay)) state i))
    unfolding next_on
    by_parts (ByteRange t) = refl
    by_parts (Sparse from to) = refl
    by_parts (Split first second) = is_some-option_or _ _ ∙ sym (ap (λ b. (leads nfa hay first i || leads nfa hay second i) || b) (none_read _ (byte_below hay (length hay) i)) ∙ or-false _)
    by_parts (Save slot next) = is_some-write slot i _ ∙ sym (ap (λ b. leads nfa hay next i || b) (none_read _ (byte_below hay (length hay) i)) ∙ or-false _)
    by_parts (Look l next) = is_some-cond _ _ ∙ sym (ap (λ b. (holds l hay i && leads nfa hay next i) || b) (none_read _ (byte_below hay (length hay) i)) ∙ or-false _)
    by_parts Match = refl
    by_parts Fail = sym (none_read _ (byte_below hay (length hay) i))

    leads_by_parts : (q : ℕ) → leads nfa hay q i ≡ (idles (λ r. leads nfa hay r i) (state_of nfa q) || leads_on nfa hay q i)
    leads_by_parts q = ap is_some (run_unfold nfa hay (length hay) q i) ∙ by_parts (state_of nfa q)

module _ (bytes : ByteSet) (trimmed nfa : Nfa) (origins : List ℕ) (is : IsTrimmed bytes trimmed nfa origins) (hay : List ℕ) (scanned : IsScanned bytes hay) where
  abbrev origin : ℕ → ℕ
  origin q = slice_index origins q

  -- a state leads to the same as its origin without reading a byte, if the states of lower rank do
  idles_same : (i q : ℕ) (state : State) → state_of trimmed q ≡ state →
      ((r : ℕ) → IsBelow trimmed.ranks.items r q → leads trimmed hay r i ≡ leads nfa hay (origin r) i) →
      idles hay i (λ r. leads trimmed hay r i) state ≡ idles hay i (λ r. leads nfa hay r i) (idle_form origin state)
  idles_same i q (Split first second) at h = let s = sound_of trimmed q _ at in ap₂ ◌||◌ (h first s.0) (h second s.1)
  idles_same i q (Save slot next) at h = h next (sound_of trimmed q _ at).1
  idles_same i q (Look l next) at h = ap (λ b. holds l hay i && b) (h next (sound_of trimmed q _ at))
  idles_same i q Match at h = refl
  idles_same i q (ByteRange t) at h = refl
  idles_same i q (Sparse from to) at h = refl
  idles_same i q Fail at h = refl

  -- a byte leads to the same, if the states to which it may lead do
  goes_same : (i : ℕ) (o p : Option ℕ) → option_map origin o ≡ p → ((r : ℕ) → o ≡ Some r → leads trimmed hay r i ≡ leads nfa hay (origin r) i) →
      is_some (option_and_then (λ r. run trimmed hay (length hay) r i) o) ≡ is_some (option_and_then (λ r. run nfa hay (length hay) r i) p)
  goes_same i None p e h = ap (λ x. is_some (option_and_then (λ r. run nfa hay (length hay) r i) x)) e
  goes_same i (Some r) p e h = h r refl ∙ ap (λ x. is_some (option_and_then (λ r. run nfa hay (length hay) r i) x)) e

  -- so reading does
  reads_same : (i q : ℕ) → q < vec_len trimmed.states → (o : Option ℕ) → byte_below hay (length hay) i ≡ o →
      ((r : ℕ) (b : ℕ) → o ≡ Some b → next_on trimmed.transitions.items (state_of trimmed q) b ≡ Some r → leads trimmed hay r (i + 1) ≡ leads nfa hay (origin r) (i + 1)) →
      is_some (option_and_then (λ r. run trimmed hay (length hay) r (i + 1)) (option_and_then (next_on trimmed.transitions.items (state_of trimmed q)) o))
      ≡ is_some (option_and_then (λ r. run nfa hay (length hay) r (i + 1)) (option_and_then (next_on nfa.transitions.items (state_of nfa (origin q))) o))
  reads_same i q inside None at h = refl
  reads_same i q inside (Some b) at h =
      goes_same (i + 1) _ _ ((is.each q inside).reads b (scanned_at bytes hay i b scanned (byte_below_some hay (length hay) i b at).1)) (λ r to. h r b refl to)

  -- a state leads to a match exactly if its origin does
  leads_same : (q i : ℕ) → q < vec_len trimmed.states → leads trimmed hay q i ≡ leads nfa hay (origin q) i
  leads_same q i inside =
      measure_induction trimmed hay (length hay) (λ q i. q < vec_len trimmed.states → leads trimmed hay q i ≡ leads nfa hay (origin q) i)
      (λ q i ih inside.
      leads_by_parts hay i trimmed q
      ∙ ap₂ ◌||◌
      (idles_same i q (state_of trimmed q) refl (λ r below. ih r i (measure_falls_empty trimmed hay (length hay) r q i below) (omega (arith, below.0, trimmed.ranks_len)))
      ∙ ap (idles hay i (λ r. leads nfa hay r i)) (is.each q inside).idle ∙ idles_form hay i (λ r. leads nfa hay r i) (state_of nfa (origin q)))
      (reads_same i q inside (byte_below hay (length hay) i) refl (λ r b at to.
      let within = next_on_within trimmed q b r to in ih r (i + 1) (measure_falls_byte trimmed hay (length hay) r q i (byte_below_some hay (length hay) i b at).0 within) within))
      ∙ sym (leads_by_parts hay i nfa (origin q)))
      q i inside

  -- so a search finds the same
  starts_same : (i : ℕ) → is_some (start_at trimmed hay i) ≡ is_some (start_at nfa hay i)
  starts_same i =
      is_some-cond (is_boundary hay i) _
      ∙ ap (λ b. is_boundary hay i && b) (leads_same trimmed.start i trimmed.start_in ∙ ap (λ q. leads nfa hay q i) is.start)
      ∙ sym (is_some-cond (is_boundary hay i) _)

  search_same : (n i : ℕ) → is_some (first_from (start_at trimmed hay) n i) ≡ is_some (first_from (start_at nfa hay) n i)
  unfolding first_from
  search_same zero i = refl
  search_same (suc n) i =
      is_some-first i _ _ ∙ ap₂ ◌||◌ (starts_same i) (search_same n (i + 1)) ∙ sym (is_some-first i (start_at nfa hay i) _)

-- A trimmed pattern searches for the same.
pub trimmed_search : (bytes : ByteSet) (trimmed nfa : Nfa) (origins : List ℕ) (p : List ℕ) → IsTrimmed bytes trimmed nfa origins → IsSearchFor nfa p → IsScannedSearch bytes trimmed p
trimmed_search bytes trimmed nfa origins p is search = λ text scanned.
    search_same bytes trimmed nfa origins is text scanned _ 0 ∙ search text (bytes_of_scanned bytes text scanned)

-- What searches for a pattern in all texts does so in those that are scanned.
pub whole_search : (bytes : ByteSet) (nfa : Nfa) (p : List ℕ) → IsSearchFor nfa p → IsScannedSearch bytes nfa p
whole_search bytes nfa p search = λ text scanned. search text (bytes_of_scanned bytes text scanned)
