-- The matchers whose patterns are marked are those that find a text.
use Rattle.std.proofs.Common.{◌≡◌, ◌<◌, ◌+◌, ◌==◌, ◌&&◌, ℕ, suc, Bool, false, not, List, [], ◌∷◌, Option, Some, None, Bor, slice_get, slice_index_or, get_or, length, length-append, map, take, ◌++◌, refl, sym, ap, ◌∙◌, subst, inl, inr, arith}
use Rattle.std.proofs.lemmas.Bool.{cases_Bool, eqb-true, eq-eqb, true≢false}
use Rattle.std.proofs.lemmas.Option.{same_Some, slice_get_within}
use Rattle.am_universe.proofs.ListLemmas.{IsIn}
use Rattle.am_labels.specs.Matcher.{Matcher, comparison}
use Rattle.am_labels.specs.Pattern.{finds}
use Rattle.am_labels.proofs.OperatorLemmas.{asks_pattern}
use Rattle.am_labels.proofs.Passing.{any_in, in_any}
use Rattle.am_scan.specs.Automaton.{pattern_of}
use Rattle.am_scan.specs.Closure.{contains}
use Rattle.am_scan.specs.declared.pattern_automaton.PatternAutomaton.{PatternAutomaton}
use Rattle.am_scan.proofs.Places.{each_pushed, get_within, take_front}
use Rattle.am_classes.specs.Automata.{AreAutomataOf, found_by}
use Rattle.am_classes.specs.PatternPlaces.{ArePlaced, IsPlaced, is_found, is_marked}
use Rattle.am_classes.specs.Named.{names_texts}
use Rattle.am_classes.specs.Places.{places_from, places_where}
use Rattle.am_classes.specs.Truths.{compares, finding}
use Rattle.am_classes.proofs.AskedLemmas.{is_pattern, known}
use Rattle.am_classes.proofs.AutomataLemmas.{get_mapped}
use Rattle.am_classes.proofs.PlaceLemmas.{in_places, place_in}

-- Tests of the things in two lists have the same places, if they are the same at each place.
same_places_of : {X Y : Type 0} (from : ℕ) (test : X → Bool) (other : Y → Bool) (xs : List X) (ys : List Y)
    → length xs ≡ length ys
    → ((k : ℕ) (x : X) (y : Y) → slice_get xs k ≡ Some x → slice_get ys k ≡ Some y → test x ≡ other y)
    → places_from from test xs ≡ places_from from other ys
same_places_of from test other [] [] count each = refl
same_places_of from test other [] (y ∷ ys) count each = absurd (omega (arith, count))
same_places_of from test other (x ∷ xs) [] count each = absurd (omega (arith, count))
same_places_of from test other (x ∷ xs) (y ∷ ys) count each =
    let rest = same_places_of (from + 1) test other xs ys (omega (arith, count)) (λ k a b at also. each (suc k) a b at also) in
    rw (each 0 x y refl refl) (elim (cases_Bool (other y)) [
      | inl passes ↦ rw passes (ap (λ ks. from ∷ ks) rest)
      | inr fails ↦ rw fails rest
    ])

-- A place is among those of a test exactly if what stands there passes.
contains_places : {X : Type 0} (test : X → Bool) (xs : List X) (k : ℕ) (x : X) → slice_get xs k ≡ Some x
    → contains (places_where test xs) k ≡ test x
contains_places test xs k x at = elim (cases_Bool (test x)) [
  | inl passes ↦ in_any (λ m. m == k) (places_where test xs) k (place_in test xs k x at passes) (eq-eqb k k refl) ∙ sym passes
  | inr fails ↦ elim (cases_Bool (contains (places_where test xs) k)) [
    | inl there ↦
        let one = any_in (λ m. m == k) (places_where test xs) there in
        let found = in_places test xs k (subst (IsIn (places_where test xs)) (eqb-true one.0 k one.2) one.1) in
        let same : found.0 ≡ x = same_Some found.0 x (sym found.1 ∙ at) in
        absurd (true≢false (sym found.2 ∙ ap test same ∙ fails))
    | inr missed ↦ missed ∙ sym fails
  ]
]

module _ (keys : List (Bor (List ℕ))) (found : List ℕ) where
  module _ (automata : List PatternAutomaton) (text : List ℕ)
      (fit : AreAutomataOf keys automata) (count : length automata ≡ length keys)
      (are : found ≡ found_by automata text) where
    found_asks : (o : Option ℕ) (m : Matcher) → IsPlaced keys m o
        → is_found found o ≡ (not (names_texts m) && compares text m)
    found_asks None m names = rw names refl
    found_asks (Some place) m (other, pattern, at, is) =
        let within : place < length keys = slice_get_within keys place pattern at in
        let a = get_within automata place (omega (arith, within, count)) in
        let asks = asks_pattern m.op m.value text (is_pattern m other (known (comparison m.op))) in
        let right : (not (names_texts m) && compares text m) ≡ finds m.value text = rw other asks in
        ap (λ f. contains f place) are
        ∙ contains_places (λ (s : PatternAutomaton). finds (pattern_of s) text) automata place a.0 a.1
        ∙ ap (λ p. finds p text) (fit place a.0 pattern a.1 at ∙ is) ∙ sym right

    pub found_finding : (matchers : List (Bor Matcher)) (places : List (Option ℕ)) → ArePlaced matchers keys places
        → length (map (λ (m : Bor Matcher). m.now) matchers) ≡ length matchers
        → places_where (is_found found) places ≡ finding (map (λ m. m.now) matchers) text
    found_finding matchers places placed same =
        same_places_of 0 (is_found found) (λ m. not (names_texts m) && compares text m) places (map (λ m. m.now) matchers)
        (placed.count ∙ sym same) (λ k o m at also.
        let there = get_mapped (λ (b : Bor Matcher). b.now) matchers k m also in
        found_asks o m (subst (λ n. IsPlaced keys n o) there.2 (placed.each k there.0 o there.1 at)))

  -- Marks are of the patterns that are found.
  module _ (marks : List Bool)
      (marked : (k : ℕ) → k < length keys → slice_index_or marks k false ≡ contains found k) where
    is_same : (o p : Option ℕ) (m : Matcher) → o ≡ p → IsPlaced keys m o → is_marked marks o ≡ is_found found p
    is_same o p m same placed = at o placed ∙ ap (is_found found) same
      where
        at : (o : Option ℕ) → IsPlaced keys m o → is_marked marks o ≡ is_found found o
        at None names = refl
        at (Some place) (other, pattern, here, is) = marked place (slice_get_within keys place pattern here)

    pub marked_found : (matchers : List (Bor Matcher)) (places : List (Option ℕ)) → ArePlaced matchers keys places
        → places_where (is_marked marks) places ≡ places_where (is_found found) places
    marked_found matchers places placed =
        same_places_of 0 (is_marked marks) (is_found found) places places refl (λ k o p at also.
        let m = get_within matchers k (omega (arith, slice_get_within places k o at, placed.count)) in
        is_same o p m.0.now (same_Some o p (sym at ∙ also)) (placed.each k m.0 o m.1 at))

-- None of the places is one of none.
pub none_found : (from : ℕ) (places : List (Option ℕ)) → places_from from (is_found []) places ≡ []
none_found from [] = refl
none_found from (None ∷ places) = none_found (from + 1) places
none_found from (Some place ∷ places) = none_found (from + 1) places

-- One matcher more has its place.
pub placed_more : (keys : List (Bor (List ℕ))) (xs matchers : List (Bor Matcher)) (i : ℕ) (m : Bor Matcher)
    (places all : List (Option ℕ)) (o : Option ℕ) → xs ≡ matchers → i < length xs → m ≡ get_or xs i m
    → ArePlaced (take i matchers) keys places → all ≡ places ++ o ∷ [] → IsPlaced keys m.now o
    → ArePlaced (take (i + 1) matchers) keys all
placed_more keys xs matchers i m places all o same within is placed more here =
    let front = take i matchers in
    let longer : take (i + 1) matchers ≡ front ++ m ∷ [] =
    ap (take (i + 1)) (sym same) ∙ take_front xs i m within is ∙ ap (λ ys. take i ys ++ m ∷ []) same in
    subst (λ ms. ArePlaced ms keys all) (sym longer)
    (subst (ArePlaced (front ++ m ∷ []) keys) (sym more) (record {
      count = length-append places (o ∷ []) ∙ ap (λ n. n + 1) placed.count ∙ sym (length-append front (m ∷ []));
      each = each_pushed (λ n p. IsPlaced keys n.now p) front places m o (sym placed.count) placed.each here;
    }))
