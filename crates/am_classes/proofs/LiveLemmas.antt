-- The live patterns of a text with one more byte before it follow from those of the text.
use Rattle.std.proofs.Common.{◌≡◌, ◌+◌, ◌<◌, take, get_or, ℕ, zero, suc, Bool, true, false, if◌then◌else◌, List, [], ◌∷◌, ◌++◌, Option, Some, None, slice_get, length, refl, sym, ap, ap₂, ◌∙◌, subst, ◌⊎◌, inl, inr, arith}
use Rattle.std.specs.List.{flat_map}
use Rattle.std.specs.Str.{IsUtf8}
use Rattle.std.proofs.lemmas.Bool.{cases_Bool}
use Rattle.std.proofs.lemmas.List.{flat_map_more, take_more}
use Rattle.std.proofs.lemmas.Option.{same_Some}
use Rattle.am_labels.specs.Pattern.{finds}
use Rattle.am_scan.specs.Automaton.{is_lost, number_of, pattern_of}
use Rattle.am_scan.specs.declared.pattern_automaton.PatternAutomaton.{PatternAutomaton}
use Rattle.am_scan.proofs.LostLemmas.{lost_stays, lost_finds}
use Rattle.am_classes.specs.Automata.{AreScanned, found_by, numbers_of}
use Rattle.am_classes.specs.Live.{live_at, live_from, live_of}
use Rattle.am_classes.specs.Places.{places_from}
use Rattle.am_classes.specs.declared.live.LivePattern.{LivePattern}

-- ---- Live patterns depend on the numbers alone.

head_same : (m n : ℕ) (ms ns : List ℕ) → m ∷ ms ≡ n ∷ ns → m ≡ n
head_same m n ms ns same = cc

tail_same : (m n : ℕ) (ms ns : List ℕ) → m ∷ ms ≡ n ∷ ns → ms ≡ ns
tail_same m n ms ns same = cc

pub same_live : (place : ℕ) (automata : List PatternAutomaton) (x y : List ℕ)
    → numbers_of automata x ≡ numbers_of automata y
    → live_from place automata x ≡ live_from place automata y
same_live place [] x y same = refl
same_live place (a ∷ automata) x y same =
    let first : number_of a x ≡ number_of a y = head_same _ _ _ _ same in
    let rest : numbers_of automata x ≡ numbers_of automata y = tail_same _ _ _ _ same in
    ap₂ ◌++◌ (ap (live_at place a) first) (same_live (suc place) automata x y rest)

-- A pattern is live, unless the text is lost.
pub live_kept : (place : ℕ) (a : PatternAutomaton) (number : ℕ) → is_lost a number ≡ false
    → live_at place a number ≡ record { place = place; number = number } ∷ []
live_kept place a number free = rw free refl

pub live_lost : (place : ℕ) (a : PatternAutomaton) (number : ℕ) → is_lost a number ≡ true → live_at place a number ≡ []
live_lost place a number lost = rw lost refl

-- No pattern, for a position that no live pattern has.
abbrev pub none : LivePattern
none = record { place = 0; number = 0 }

-- What live patterns become, with the next one.
pub live_front : {X : Type 0} (f : LivePattern → List X) (live : List LivePattern) (i : ℕ) → i < length live
    → flat_map f (take (i + 1) live) ≡ flat_map f (take i live) ++ f (get_or live i none)
live_front f live i within =
    ap (flat_map f) (take_more live i none within) ∙ sym (flat_map_more f [] (take i live) (get_or live i none))

-- ---- One more pattern.

pub live_more : (place : ℕ) (automata : List PatternAutomaton) (a : PatternAutomaton) (text : List ℕ)
    → live_from place (automata ++ a ∷ []) text
    ≡ live_from place automata text ++ live_at (place + length automata) a (number_of a text)
live_more place [] a text =
    let here : place ≡ place + 0 = omega arith in
    rw (← here) (elim (cases_Bool (is_lost a (number_of a text))) [
      | inl lost ↦ rw lost refl
      | inr free ↦ rw free refl
    ])
live_more place (b ∷ automata) a text =
    let here : suc place + length automata ≡ place + suc (length automata) = omega arith in
    let rest = live_more (suc place) automata a text in
    elim (cases_Bool (is_lost b (number_of b text))) [
      | inl lost ↦ rw (lost, ← here) rest
      | inr free ↦ rw (free, ← here) (ap (λ ls. record { place = place; number = number_of b text } ∷ ls) rest)
    ]

-- ---- What a live pattern says of a text.

-- Each pattern stands at its place among all.
abbrev StandAt : ℕ → List PatternAutomaton → List PatternAutomaton → Type 0
StandAt place automata all = (k : ℕ) (a : PatternAutomaton) → slice_get automata k ≡ Some a → slice_get all (place + k) ≡ Some a

stand_next : (place : ℕ) (b : PatternAutomaton) (automata all : List PatternAutomaton) → StandAt place (b ∷ automata) all
    → StandAt (suc place) automata all
stand_next place b automata all at = λ k a is.
    let here : place + suc k ≡ suc place + k = omega arith in
    subst (λ j. slice_get all j ≡ Some a) here (at (suc k) a is)

stand_first : (place : ℕ) (b : PatternAutomaton) (automata all : List PatternAutomaton) → StandAt place (b ∷ automata) all
    → slice_get all place ≡ Some b
stand_first place b automata all at =
    let here : place + 0 ≡ place = omega arith in
    subst (λ j. slice_get all j ≡ Some b) here (at 0 b refl)

stand_all : (all : List PatternAutomaton) → StandAt 0 all all
stand_all all = λ k a is. let here : k ≡ 0 + k = omega arith in subst (λ j. slice_get all j ≡ Some a) here is

-- A live pattern has the number of its automaton.
abbrev pub IsLive : List PatternAutomaton → List ℕ → LivePattern → Type 0
IsLive all text l = (a : PatternAutomaton) × (slice_get all l.place ≡ Some a) × (l.number ≡ number_of a text)

-- An element of a list is the first one, or one of the others.
first_or : (x : LivePattern) (xs : List LivePattern) (k : ℕ) (l : LivePattern) → slice_get (x ∷ xs) k ≡ Some l
    → (x ≡ l) ⊎ ((j : ℕ) × (slice_get xs j ≡ Some l))
first_or x xs zero l is = inl (same_Some x l is)
first_or x xs (suc k) l is = inr (k, is)

-- The live patterns with one pattern more in front, for which the text is lost or not.
lost_first : (place : ℕ) (a : PatternAutomaton) (automata : List PatternAutomaton) (text : List ℕ)
    → is_lost a (number_of a text) ≡ true
    → live_from place (a ∷ automata) text ≡ live_from (suc place) automata text
lost_first place a automata text lost = rw lost refl

kept_first : (place : ℕ) (a : PatternAutomaton) (automata : List PatternAutomaton) (text : List ℕ)
    → is_lost a (number_of a text) ≡ false
    → live_from place (a ∷ automata) text
    ≡ record { place = place; number = number_of a text } ∷ live_from (suc place) automata text
kept_first place a automata text free = rw free refl

live_in : (place : ℕ) (automata all : List PatternAutomaton) (text : List ℕ) (k : ℕ) (l : LivePattern)
    → StandAt place automata all → slice_get (live_from place automata text) k ≡ Some l → IsLive all text l
live_in place [] all text k l at is = absurd cc
live_in place (a ∷ automata) all text k l at is =
    let rest = stand_next place a automata all at in
    elim (cases_Bool (is_lost a (number_of a text))) [
      | inl lost ↦ live_in (suc place) automata all text k l rest
          (subst (λ ls. slice_get ls k ≡ Some l) (lost_first place a automata text lost) is)
      | inr free ↦ elim (first_or _ _ k l (subst (λ ls. slice_get ls k ≡ Some l) (kept_first place a automata text free) is)) [
        | inl same ↦ subst (IsLive all text) same (a, stand_first place a automata all at, refl)
        | inr later ↦ live_in (suc place) automata all text later.0 l rest later.1
      ]
    ]

pub live_at_place : (automata : List PatternAutomaton) (text : List ℕ) (live : List LivePattern) (k : ℕ) (l : LivePattern)
    → live ≡ live_of automata text → slice_get live k ≡ Some l → IsLive automata text l
live_at_place automata text live k l are is =
    live_in 0 automata automata text k l (stand_all automata) (subst (λ ls. slice_get ls k ≡ Some l) are is)

-- ---- One more byte.

-- What becomes of a live pattern, if it gives a longer text a number.
abbrev pub led_at : Option PatternAutomaton → ℕ → List ℕ → List LivePattern
led_at None place text = []
led_at (Some a) place text = live_at place a (number_of a text)

abbrev pub led : List PatternAutomaton → List ℕ → LivePattern → List LivePattern
led automata text l = led_at (slice_get automata l.place) l.place text

led_from : (place : ℕ) (automata all : List PatternAutomaton) (text : List ℕ) (b : ℕ) → StandAt place automata all
    → flat_map (led all (b ∷ text)) (live_from place automata text) ≡ live_from place automata (b ∷ text)
led_from place [] all text b at = refl
led_from place (a ∷ automata) all text b at =
    let rest = led_from (suc place) automata all text b (stand_next place a automata all at) in
    elim (cases_Bool (is_lost a (number_of a text))) [
      | inl lost ↦ ap (flat_map (led all (b ∷ text))) (lost_first place a automata text lost) ∙ rest
          ∙ sym (lost_first place a automata (b ∷ text) (lost_stays a text b lost))
      | inr free ↦ ap (flat_map (led all (b ∷ text))) (kept_first place a automata text free)
          ∙ ap₂ ◌++◌ (ap (λ o. led_at o place (b ∷ text)) (stand_first place a automata all at)) rest
    ]

pub led_all : (automata : List PatternAutomaton) (live : List LivePattern) (text : List ℕ) (b : ℕ)
    → live ≡ live_of automata text
    → flat_map (led automata (b ∷ text)) live ≡ live_of automata (b ∷ text)
led_all automata live text b are =
    ap (flat_map (led automata (b ∷ text))) are ∙ led_from 0 automata automata text b (stand_all automata)

-- ---- Patterns that find a text are live.

abbrev pub found_at : Option PatternAutomaton → ℕ → List ℕ → List ℕ
found_at None place text = []
found_at (Some a) place text = if finds (pattern_of a) text then place ∷ [] else []

abbrev pub found_live : List PatternAutomaton → List ℕ → LivePattern → List ℕ
found_live automata text l = found_at (slice_get automata l.place) l.place text

abbrev finds_text : List ℕ → PatternAutomaton → Bool
finds_text text a = finds (pattern_of a) text

found_first : (place : ℕ) (a : PatternAutomaton) (automata : List PatternAutomaton) (text : List ℕ)
    → places_from place (finds_text text) (a ∷ automata)
    ≡ (if finds (pattern_of a) text then place ∷ [] else []) ++ places_from (place + 1) (finds_text text) automata
found_first place a automata text = elim (cases_Bool (finds (pattern_of a) text)) [
  | inl lost ↦ rw lost refl
  | inr free ↦ rw free refl
]

found_from : (place : ℕ) (automata all : List PatternAutomaton) (text : List ℕ) → StandAt place automata all
    → AreScanned automata text → IsUtf8 text
    → flat_map (found_live all text) (live_from place automata text) ≡ places_from place (finds_text text) automata
found_from place [] all text at scanned utf8 = refl
found_from place (a ∷ automata) all text at scanned utf8 =
    let next : suc place ≡ place + 1 = omega arith in
    let rest = found_from (suc place) automata all text (stand_next place a automata all at) scanned.1 utf8
    ∙ ap (λ p. places_from p (finds_text text) automata) next in
    elim (cases_Bool (is_lost a (number_of a text))) [
      | inl lost ↦ ap (flat_map (found_live all text)) (lost_first place a automata text lost) ∙ rest
          ∙ sym (found_first place a automata text
          ∙ ap (λ f. (if f then place ∷ [] else []) ++ places_from (place + 1) (finds_text text) automata)
          (lost_finds a text lost scanned.0 utf8))
      | inr free ↦ ap (flat_map (found_live all text)) (kept_first place a automata text free)
          ∙ ap₂ ◌++◌ (ap (λ o. found_at o place text) (stand_first place a automata all at)) rest
          ∙ sym (found_first place a automata text)
    ]

pub found_all : (automata : List PatternAutomaton) (live : List LivePattern) (text : List ℕ)
    → live ≡ live_of automata text → AreScanned automata text → IsUtf8 text
    → flat_map (found_live automata text) live ≡ found_by automata text
found_all automata live text are scanned utf8 =
    ap (flat_map (found_live automata text)) are ∙ found_from 0 automata automata text (stand_all automata) scanned utf8
