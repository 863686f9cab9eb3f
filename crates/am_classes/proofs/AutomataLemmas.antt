-- Many patterns, with one more.
use Rattle.std.proofs.Common.{◌≡◌, ℕ, zero, suc, refl, ◌+◌, ◌∷◌, ◌<◌, Some, slice_get, List, [], ◌++◌, length, map, arith}
use Rattle.std.proofs.Common.{get_or, ap, ap₂, sym, option_map, ◌∙◌}
use Rattle.std.proofs.Common.{◌≢◌, inl, inr, set, subst}
use Rattle.std.proofs.Common.{get_or-set_other, get_or-set_same}
use Rattle.std.proofs.Common.{Bor}
use Rattle.std.proofs.lemmas.Bool.{cases_lt}
use Rattle.std.proofs.lemmas.List.{map-append}
use Rattle.std.proofs.lemmas.Option.{same_Some, slice_get-map, slice_get-get_or}
use Rattle.std.proofs.lemmas.Option.{get_or_from_slice_get}
use Rattle.am_scan.specs.declared.pattern_automaton.PatternAutomaton.{PatternAutomaton}
use Rattle.am_scan.specs.Automaton.{number_of, pattern_of}
use Rattle.am_labels.specs.Pattern.{finds}
use Rattle.am_classes.specs.Automata.{MakeSame, AreAutomataOf, found_by}
use Rattle.am_classes.specs.Places.{places_where}
use Rattle.am_classes.proofs.PlaceLemmas.{places_mapped}

-- The result of a function for the element at a position is at the same position.
pub get_under : {X Y : Type 0} (f : X → Y) (xs : List X) (k : ℕ) (x : X) → slice_get xs k ≡ Some x
    → slice_get (map f xs) k ≡ Some (f x)
get_under f xs k x e = slice_get-map f xs k ∙ ap (option_map f) e

-- What a function gives at a position, it gives for the element at that position.
pub get_mapped : {X Y : Type 0} (f : X → Y) (xs : List X) (k : ℕ) (y : Y) → slice_get (map f xs) k ≡ Some y
    → (x : X) × (slice_get xs k ≡ Some x) × (f x ≡ y)
get_mapped f [] k y e = absurd cc
get_mapped f (x ∷ xs) zero y e = (x, refl, same_Some (f x) y e)
get_mapped f (x ∷ xs) (suc k) y e = get_mapped f xs k y e

-- If some patterns treat two bytes like a third one, and a further pattern treats them alike, all
-- together do.
pub same_numbers : (automata : List PatternAutomaton) (a : PatternAutomaton) (class one other : ℕ)
    → MakeSame automata class one → MakeSame automata class other
    → ((text : List ℕ) → number_of a (one ∷ text) ≡ number_of a (other ∷ text))
    → MakeSame (automata ++ a ∷ []) one other
same_numbers automata a class one other first second alike = λ text.
    map-append (λ s. number_of s (one ∷ text)) automata (a ∷ [])
    ∙ ap₂ ◌++◌ (sym (first text) ∙ second text) (ap (λ n. n ∷ []) (alike text))
    ∙ sym (map-append (λ s. number_of s (other ∷ text)) automata (a ∷ []))

-- The class of one byte more is written.
pub classes_set : (automata : List PatternAutomaton) (classes : List ℕ) (i v : ℕ)
    → i < length classes → MakeSame automata v i
    → ((byte class : ℕ) → byte < i → slice_get classes byte ≡ Some class → MakeSame automata class byte)
    → (byte class : ℕ) → byte < i + 1 → slice_get (set classes i v) byte ≡ Some class
    → MakeSame automata class byte
classes_set automata classes i v within here each byte class below at =
    let is : class ≡ get_or (set classes i v) byte 0 =
    sym (get_or_from_slice_get (set classes i v) byte class 0 at) in
    elim (cases_lt byte i) [
      | inl less ↦
          let other : byte ≢ i = omega (arith, less) in
          each byte class less (slice_get-get_or classes byte 0 (omega (arith, less, within))
          ∙ ap Some (sym (is ∙ get_or-set_other classes i byte v 0 other)))
      | inr not ↦
          let same : byte ≡ i = omega (arith, not, below) in
          let last : class ≡ v =
          is ∙ ap (λ k. get_or (set classes i v) k 0) same ∙ get_or-set_same classes i v 0 within in
          subst (λ k. MakeSame automata class k) (sym same)
          (subst (λ k. MakeSame automata k i) (sym last) here)
    ]

-- Automata that were made for patterns are theirs.
pub automata_for : (patterns : List (Bor (List ℕ))) (automata : List PatternAutomaton)
    → map pattern_of automata ≡ map (λ p. p.now) patterns → AreAutomataOf patterns automata
automata_for patterns automata same = λ k automaton pattern at also.
    same_Some (pattern_of automaton) pattern.now (sym (get_under pattern_of automata k automaton at)
    ∙ ap (λ l. slice_get l k) same ∙ get_under (λ p. p.now) patterns k pattern also)

-- Automata of the same patterns find the same texts.
pub found_alike : (automata others : List PatternAutomaton) (text : List ℕ)
    → map pattern_of automata ≡ map pattern_of others → found_by automata text ≡ found_by others text
found_alike automata others text same =
    sym (places_mapped 0 pattern_of (λ p. finds p text) automata)
    ∙ ap (places_where (λ p. finds p text)) same
    ∙ places_mapped 0 pattern_of (λ p. finds p text) others
