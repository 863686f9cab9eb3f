-- How the state of a text follows from the state of the text after its first byte.
use Rattle.std.proofs.Common.{◌≡◌, ℕ, zero, suc, ◌+◌, ◌-◌, ◌<◌, Bool, true, false, ◌&&◌, ◌||◌, List, rules}
use Rattle.std.proofs.Common.{[], ◌∷◌, length, drop, vec_len, slice_index_or, slice_get, Option}
use Rattle.std.proofs.Common.{Some, None, is_some, option_map, option_and_then, refl, sym, ap}
use Rattle.std.proofs.Common.{◌∙◌, arith, drop-drop, All, ltb-true, nat_lt}
use Rattle.std.specs.Option.{option_or}
use Rattle.std.proofs.lemmas.Bool.{and_parts}
use Rattle.std.proofs.lemmas.Grind.{common_steps}
use Rattle.regex_hir.specs.Re.{Trace}
use Rattle.regex_hir.specs.Find.{Match, first_from}
use Rattle.regex_hir.specs.Text.{byte_before, is_boundary, is_some_and}
use Rattle.regex_hir.proofs.TextLemmas.{byte_before-zero, byte_before-add-one}
use Rattle.regex_nfa.specs.Run.{state_of, run}
use Rattle.regex_nfa.specs.States.{next_on}
use Rattle.regex_nfa.specs.declared.nfa.Nfa.{Nfa}
use Rattle.regex_nfa.proofs.RunLemmas.{byte_below-length, next_on_within}
use Rattle.am_labels.specs.Pattern.{finds}
use Rattle.am_scan.specs.declared.byte_set.ByteSet.{ByteSet}
use Rattle.am_scan.specs.declared.sight.Sight.{Sight}
use Rattle.am_scan.specs.Sight.{kind_of, kind_beside, is_scanned, IsScanned}
use Rattle.am_labels.specs.PatternView.{start_at}
use Rattle.am_scan.specs.Closure.{leads, IsClosed, goes_on}
use Rattle.am_scan.specs.Scan.{FollowsText}
use Rattle.am_scan.specs.Trimming.{IsScannedSearch}
use Rattle.am_scan.proofs.SightLemmas.{IsSeen}
use Rattle.am_scan.proofs.ClosureLemmas.{is_some-cond, leads_where_accepted}

-- when all elements before a position are dropped, the element at the position comes first
pub slice_get-drop : (xs : List ℕ) (i : ℕ) → slice_get (drop i xs) 0 ≡ slice_get xs i
slice_get-drop xs zero = refl
slice_get-drop [] (suc i) = refl
slice_get-drop (x ∷ xs) (suc i) = slice_get-drop xs i

-- the element at a position is the first element from there on
pub here : (hay : List ℕ) (i : ℕ) (text : List ℕ) → drop i hay ≡ text → slice_get hay i ≡ slice_get text 0
here hay i text e = sym (slice_get-drop hay i) ∙ ap (λ xs. slice_get xs 0) e

-- after the first byte comes the rest
pub rest : (hay : List ℕ) (i byte : ℕ) (text : List ℕ) → drop i hay ≡ byte ∷ text → drop (i + 1) hay ≡ text
rest hay i byte text e = sym (drop-drop 1 i hay) ∙ ap (drop 1) e

-- a character begins at a position exactly if one begins at the front of what follows from there on
pub same_boundary : (hay : List ℕ) (i : ℕ) (text : List ℕ) → drop i hay ≡ text → is_boundary hay i ≡ is_boundary text 0
unfolding is_boundary
same_boundary hay i text e = rw (here hay i text e) refl

-- the order of two truths does not matter
or_comm : (x y : Bool) → (x || y) ≡ (y || x)
or_comm true true = refl
or_comm true false = refl
or_comm false true = refl
or_comm false false = refl

-- a search finds something if it does so at its first position or at a later one
pub is_some-first : (i : ℕ) (o : Option Trace) (later : Option Match) →
    is_some (option_or (option_map (λ t. record { start = i; trace = t }) o) later) ≡ (is_some o || is_some later)
is_some-first i None later = refl
is_some-first i (Some t) later = refl

-- the state of the empty text
pub FollowsText-end : (nfa : Nfa) (sight : Sight) (bytes : ByteSet) → FollowsText nfa sight bytes None true (λ q. false) false []
unfolding first_from is_boundary
FollowsText-end nfa sight bytes = grind (arith, common_steps, byte_below-length, here)

-- a scanned number is a byte
pub scanned_is_byte : (bytes : ByteSet) (b : ℕ) → is_scanned bytes b ≡ true → b < 256
scanned_is_byte bytes b h = ltb-true b 256 (and_parts (nat_lt b 256) _ h).0

-- so a scanned text has only bytes
pub bytes_of_scanned : (bytes : ByteSet) (text : List ℕ) → IsScanned bytes text → All (λ b. b < 256) text
bytes_of_scanned bytes text scanned = grind (arith, common_steps, scanned_is_byte)

module _ (nfa : Nfa) (sight : Sight) (bytes : ByteSet) (seen : IsSeen nfa sight bytes) (first : Option ℕ) (starts : Bool) (reads : ℕ → Bool) (later : Bool) (text : List ℕ)
    (follows : FollowsText nfa sight bytes first starts reads later text) (accepted : List Bool) where
  -- a state is accepted exactly if it leads to a match wherever the text comes after such a byte
  leads_there : (before : Option ℕ) → IsClosed nfa first before reads accepted → (hay : List ℕ) (i : ℕ) → IsScanned bytes hay → drop i hay ≡ text →
      before ≡ kind_beside sight (byte_before hay i) → (q : ℕ) → q < vec_len nfa.states → slice_index_or accepted q false ≡ leads nfa hay q i
  leads_there before closed hay i scanned e before_is =
      leads_where_accepted nfa sight bytes seen hay scanned i first before reads accepted (follows.kind ∙ ap (kind_beside sight) (sym (here hay i text e)))
      before_is (follows.each hay i scanned e) closed

  -- whether a match begins at the start of the text, or later
  from_here : (before : Option ℕ) → IsClosed nfa first before reads accepted →
      (hay : List ℕ) (i : ℕ) → IsScanned bytes hay → drop i hay ≡ text → before ≡ kind_beside sight (byte_before hay i) →
      (later || (starts && slice_index_or accepted nfa.start false)) ≡ is_some (first_from (start_at nfa hay) (suc (length text)) i)
  unfolding first_from
  from_here before closed hay i scanned e before_is =
      search (rules, or_comm, same_boundary, leads_there, is_some-cond, is_some-first)

  -- whether a byte leads to a match, if this is known of each state to which it may lead
  goes : (hay : List ℕ) (i : ℕ) (o : Option ℕ) → ((r : ℕ) → o ≡ Some r → slice_index_or accepted r false ≡ leads nfa hay r i) →
      is_some_and o (λ r. slice_index_or accepted r false) ≡ is_some (option_and_then (λ r. run nfa hay (length hay) r i) o)
  goes hay i None h = refl
  goes hay i (Some r) h = h r refl

  -- one more byte before the text
  pub FollowsText-step : (byte : ℕ) (next : ℕ → Bool) → IsClosed nfa first (Some (kind_of sight byte)) reads accepted →
      ((q : ℕ) → q < vec_len nfa.states → next q ≡ goes_on nfa accepted q byte) →
      FollowsText nfa sight bytes (Some (kind_of sight byte)) (is_boundary (byte ∷ []) 0) next
      (later || (starts && slice_index_or accepted nfa.start false)) (byte ∷ text)
  unfolding is_boundary
  FollowsText-step byte next closed each =
      let before : (hay : List ℕ) (i : ℕ) → drop i hay ≡ byte ∷ text → Some (kind_of sight byte) ≡ kind_beside sight (byte_before hay (i + 1)) =
      λ hay i e. ap (kind_beside sight) (sym (byte_before-add-one hay i ∙ here hay i _ e)) in
      record {
        kind = refl;
        boundary = refl;
        each = λ hay i scanned e q inside.
            each q inside
            ∙ goes hay (i + 1) _ (λ r to. leads_there _ closed hay (i + 1) scanned (rest hay i byte text e) (before hay i e) r (next_on_within nfa q byte r to))
            ∙ sym (ap (λ o. is_some (option_and_then (λ r. run nfa hay (length hay) r (i + 1)) (option_and_then (next_on nfa.transitions.items (state_of nfa q)) o)))
            (byte_below-length hay i ∙ here hay i _ e));
        others = λ hay i scanned e. from_here _ closed hay (i + 1) scanned (rest hay i byte text e) (before hay i e);
      }

  -- whether the pattern finds the whole text
  pub finds_where_accepted : (p : List ℕ) → IsScannedSearch bytes nfa p → IsClosed nfa first None reads accepted → IsScanned bytes text →
      (later || (starts && slice_index_or accepted nfa.start false)) ≡ finds p text
  finds_where_accepted p search closed scanned =
      let count : suc (length text) ≡ length text + 1 - 0 = omega arith in
      from_here None closed text 0 scanned refl (ap (kind_beside sight) (sym (byte_before-zero text)))
      ∙ ap (λ n. is_some (first_from (start_at nfa text) n 0)) count ∙ search text scanned
