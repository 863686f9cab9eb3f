-- What the marks of a text say about a pattern with wildcards.
use Rattle.std.proofs.Common.{◌≡◌, ℕ, zero, suc, ◌<◌, ◌≤◌, ◌==◌, ◌||◌, ◌&&◌, not, if◌then◌else◌, zero-add, add-zero, ◌+◌, Bool, true, false, List, [], ◌∷◌, ◌++◌, Some, map, length, slice_get, slice_index, refl, sym, ap, ◌∙◌, subst, arith}
use Rattle.std.specs.Char.{is_ascii}
use Rattle.std.specs.Global.{Vec}
use Rattle.std.specs.List.{list_any, list_all, flat_map, IsDistinct}
use Rattle.std.proofs.lemmas.Bool.{and_parts, or_from, ne_eqb, ltb-true}
use Rattle.std.proofs.lemmas.List.Folds.{list_any-append}
use Rattle.std.proofs.lemmas.Grind.{common_steps}
use Rattle.std.proofs.lemmas.Option.{slice_get_within, same_Some}
use Rattle.am_labels.specs.Wildcards.{alternatives, pieces_of, is_fine_piece, is_plain, is_wildcards, matches, after_any, after_byte, rest_matches, wildcards_find, wildcards_state}
use Rattle.am_labels.specs.declared.wildcards.WildcardPiece.{WildcardPiece}
use Rattle.am_labels.specs.declared.wildcards.WildcardPiece.TheVariants.{Byte, AnyText}
use Rattle.am_scan.specs.declared.limits.TheConstants.{MAX_TEXT_STATES}
use Rattle.am_scan.proofs.Places.{get_within}
use Rattle.am_scan.proofs.WildcardStateLemmas.{states_apart}
use Rattle.am_scan.proofs.WildcardLemmas.{or_false}
use Rattle.am_scan.specs.declared.row.Row.{Row}
use Rattle.am_scan.specs.declared.wildcard_place.WildcardPlace.{WildcardPlace}
use Rattle.am_scan.specs.Numbers.{number_in, found_in, found_at, next_in}
use Rattle.am_scan.specs.WildcardPlaces.{places_from, all_places, marks, positions, marked_places, matches_from, with_any, place_at, is_first_at, is_byte, is_symbol, HasClass, same_state, IsNumberOf, IsRowOf, AreReached, AreStates}
use Rattle.am_scan.specs.WildcardStates.{HasManyStates}

-- `.*` behind `.*` changes nothing.
twice : (x y : Bool) → ((x || y) || y) ≡ (x || y)
twice x y = grind (arith, common_steps)

any_twice : (f : List ℕ → Bool) (text : List ℕ) → after_any (after_any f) text ≡ after_any f text
any_twice f [] = refl
any_twice f (b ∷ text) = ap (λ m. after_any f (b ∷ text) || (not (b == 10) && m)) (any_twice f text) ∙ twice (f (b ∷ text)) (not (b == 10) && after_any f text)

any_kept : (any : Bool) (f : List ℕ → Bool) → after_any f ≡ with_any any (after_any f)
any_kept true f = λ i text. sym (any_twice f text) i
any_kept false f = refl

-- The places of pieces match what the pieces match, whatever comes behind them.
piece_matches : (any first : Bool) (ps : List WildcardPiece) (more : List WildcardPlace) → matches_from (places_from any first ps ++ more) ≡ with_any any (matches ps)
piece_matches any first [] more = refl
piece_matches any first (Byte c ∷ ps) more = ap (λ f. with_any any (after_byte c f)) (piece_matches false false ps more)
piece_matches any first (AnyText ∷ ps) more = piece_matches true first ps more ∙ any_kept any (matches ps)

first_rest : (ps : List WildcardPiece) (x y : List ℕ) → rest_matches ps x ≡ rest_matches ps y → matches ps x ≡ matches ps y
first_rest [] x y same = cc
first_rest (p ∷ ps) x y same = cc

-- Texts with one state have the same marks.
piece_marks : (any first : Bool) (ps : List WildcardPiece) (more : List WildcardPlace) (x y : List ℕ) → with_any any (matches ps) x ≡ with_any any (matches ps) y →
    rest_matches ps x ≡ rest_matches ps y → marks more x ≡ marks more y → marks (places_from any first ps ++ more) x ≡ marks (places_from any first ps ++ more) y
piece_marks any first [] more x y here same rest = λ i. here i ∷ rest i
piece_marks any first (Byte c ∷ ps) more x y here same rest =
    let behind : rest_matches ps x ≡ rest_matches ps y = cc in
    let is = piece_matches any first (Byte c ∷ ps) more in
    let head = (λ i. is i x) ∙ here ∙ (λ i. sym is i y) in
    λ i. head i ∷ piece_marks false false ps more x y (first_rest ps x y behind) behind rest i
piece_marks any first (AnyText ∷ ps) more x y here same rest =
    let behind : rest_matches ps x ≡ rest_matches ps y = cc in
    piece_marks true first ps more x y (first_rest (AnyText ∷ ps) x y same) behind rest

same_marks : (texts : List (List ℕ)) (x y : List ℕ) → map (λ a. rest_matches (pieces_of a) x) texts ≡ map (λ a. rest_matches (pieces_of a) y) texts →
    marks (flat_map (places_from false true) (map pieces_of texts)) x ≡ marks (flat_map (places_from false true) (map pieces_of texts)) y
same_marks [] x y same = refl
same_marks (a ∷ texts) x y same =
    let here : rest_matches (pieces_of a) x ≡ rest_matches (pieces_of a) y = cc in
    let rest : map (λ a. rest_matches (pieces_of a) x) texts ≡ map (λ a. rest_matches (pieces_of a) y) texts = cc in
    piece_marks false true (pieces_of a) (flat_map (places_from false true) (map pieces_of texts)) x y (first_rest (pieces_of a) x y here) here (same_marks texts x y rest)

pub state_marks : (p x y : List ℕ) → wildcards_state p x ≡ wildcards_state p y → marked_places (all_places p) x ≡ marked_places (all_places p) y
state_marks p x y same = ap (positions 0) (same_marks (alternatives p) x y same)

-- The marked places say whether an alternative matches: its first one is marked.
abbrev first_matches : List WildcardPlace → List ℕ → Bool
first_matches [] text = false
first_matches (p ∷ ps) text = first_matches ps text || (matches_from (p ∷ ps) text && p.first)

one_tested : (test : ℕ → Bool) (m : Bool) (at : ℕ) → list_any test (if m then at ∷ [] else []) ≡ (m && test at)
one_tested test true at = or_false (test at)
one_tested test false at = refl

firsts : (all : List WildcardPlace) (text : List ℕ) (ps : List WildcardPlace) (at : ℕ) → ((k : ℕ) → place_at all (at + k) ≡ place_at ps k) →
    list_any (is_first_at all) (positions at (marks ps text)) ≡ first_matches ps text
firsts all text [] at rest = refl
firsts all text (p ∷ ps) at rest =
    let here : place_at all at ≡ p = ap (place_at all) (sym (add-zero at)) ∙ rest 0 in
    let later = firsts all text ps (suc at) (λ k. let e : suc at + k ≡ at + suc k = omega arith in ap (place_at all) e ∙ rest (suc k)) in
    list_any-append (is_first_at all) (positions (suc at) (marks ps text)) (if matches_from (p ∷ ps) text then at ∷ [] else [])
    ∙ (λ i. later i || (one_tested (is_first_at all) (matches_from (p ∷ ps) text) at ∙ ap (λ (q : WildcardPlace). matches_from (p ∷ ps) text && q.first) here) i)

gone : (a x : Bool) → (a || (x && false)) ≡ a
gone a x = grind (arith, common_steps)

piece_firsts : (any first : Bool) (ps : List WildcardPiece) (more : List WildcardPlace) (text : List ℕ) →
    first_matches (places_from any first ps ++ more) text ≡ (first_matches more text || (with_any any (matches ps) text && first))
piece_firsts any first [] more text = refl
piece_firsts any first (Byte c ∷ ps) more text =
    (λ i. piece_firsts false false ps more text i || (piece_matches any first (Byte c ∷ ps) more i text && first))
    ∙ ap (λ m. m || (with_any any (matches (Byte c ∷ ps)) text && first)) (gone (first_matches more text) (matches ps text))
piece_firsts any first (AnyText ∷ ps) more text = piece_firsts true first ps more text ∙ (λ i. first_matches more text || (any_kept any (matches ps) i text && first))

swapped : (a m : Bool) → (a || (m && true)) ≡ (m || a)
swapped a m = grind (arith, common_steps)

all_firsts : (texts : List (List ℕ)) (text : List ℕ) → first_matches (flat_map (places_from false true) (map pieces_of texts)) text ≡ list_any (λ a. matches (pieces_of a) text) texts
all_firsts [] text = refl
all_firsts (a ∷ texts) text =
    piece_firsts false true (pieces_of a) (flat_map (places_from false true) (map pieces_of texts)) text ∙ ap (λ m. m || (matches (pieces_of a) text && true)) (all_firsts texts text)
    ∙ swapped (list_any (λ a. matches (pieces_of a) text) texts) (matches (pieces_of a) text)

pub firsts_find : (p text : List ℕ) → list_any (is_first_at (all_places p)) (marked_places (all_places p) text) ≡ wildcards_find p text
firsts_find p text = firsts (all_places p) text (all_places p) 0 (λ k. ap (place_at (all_places p)) (zero-add k)) ∙ all_firsts (alternatives p) text

-- Only bytes of ASCII are symbols of such a pattern.
plain_pieces : (b : ℕ) → 128 ≤ b → (any first : Bool) (ps : List WildcardPiece) (more : List WildcardPlace) → list_all is_fine_piece ps ≡ true → list_any (is_byte b) more ≡ false → list_any (is_byte b) (places_from any first ps ++ more) ≡ false
plain_pieces b large any first [] more fine rest = rest
plain_pieces b large any first (Byte c ∷ ps) more fine rest =
    let parts = and_parts (is_plain c) _ fine in
    let small = ltb-true c 128 (and_parts (is_ascii c) _ parts.0).0 in
    or_from (c == b) _ (ne_eqb c b (λ same. omega arith)) (plain_pieces b large false false ps more parts.1 rest)
plain_pieces b large any first (AnyText ∷ ps) more fine rest = plain_pieces b large true first ps more fine rest

plain_places : (b : ℕ) → 128 ≤ b → (texts : List (List ℕ)) → list_all (λ a. list_all is_fine_piece (pieces_of a)) texts ≡ true → list_any (is_byte b) (flat_map (places_from false true) (map pieces_of texts)) ≡ false
plain_places b large [] fine = refl
plain_places b large (a ∷ texts) fine =
    let parts = and_parts (list_all is_fine_piece (pieces_of a)) _ fine in
    plain_pieces b large false true (pieces_of a) (flat_map (places_from false true) (map pieces_of texts)) parts.0 (plain_places b large texts parts.1)

pub symbols_are_ascii : (p : List ℕ) → is_wildcards p ≡ true → (b : ℕ) → 128 ≤ b → is_symbol (all_places p) b ≡ false
symbols_are_ascii p fine b large = or_from (b == 10) _ (ne_eqb b 10 (λ same. omega arith)) (plain_places b large (alternatives p) fine)

-- The number of a text is the position of its state.
module _ (ps : List WildcardPlace) (symbols classes : List ℕ) (rows : List Row) (states : List (Vec ℕ)) (are : AreStates ps symbols rows states) (own : (b : ℕ) → HasClass ps symbols classes b) where
  row_at : (number : ℕ) (state : Vec ℕ) → slice_get states number ≡ Some state → (row : Row) × (slice_get rows number ≡ Some row) × IsRowOf ps symbols states state.items row
  row_at number state at =
      let row = get_within rows number (omega (arith, slice_get_within states number state at, are.count)) in
      (row.0, row.1, are.each number state row.0 at row.1)

  numbered : (text : List ℕ) → IsNumberOf ps states (number_in rows classes text) text
  numbered [] = let first = get_within states 0 are.some in (first.0, first.1, are.first first.0 first.1)
  numbered (b ∷ text) =
      let class = slice_index classes b in
      let here = numbered text in
      let row = row_at (number_in rows classes text) here.0 here.1 in
      let symbol = own b in
      let next = row.2.leads class (slice_get_within symbols class symbol.0 symbol.1) symbol.0 text symbol.1 here.2 in
      subst (λ r. IsNumberOf ps states (next_in r class) (b ∷ text)) (sym row.1) (next.0, next.1, next.2 ∙ sym (symbol.2 text))

  pub found_by_number : (text : List ℕ) → found_in rows (number_in rows classes text) ≡ list_any (is_first_at ps) (marked_places ps text)
  found_by_number text =
      let here = numbered text in
      let row = row_at (number_in rows classes text) here.0 here.1 in
      ap found_at row.1 ∙ row.2.found ∙ ap (list_any (is_first_at ps)) here.2

  pub same_number : (x y : List ℕ) → marked_places ps x ≡ marked_places ps y → number_in rows classes x ≡ number_in rows classes y
  same_number x y same =
      let one = numbered x in
      let other = numbered y in
      states_apart states _ _ one.0 other.0 are.unique one.1 other.1 (one.2 ∙ same ∙ sym other.2)

-- A text for each state.
record AreTextsOf (ps : List WildcardPlace) (states : List (Vec ℕ)) (texts : List (List ℕ)) : Type 0 where
  count : length texts ≡ length states
  each : (k : ℕ) (text : List ℕ) → slice_get texts k ≡ Some text → IsNumberOf ps states k text

more_texts : (ps : List WildcardPlace) (s : Vec ℕ) (states : List (Vec ℕ)) (text : List ℕ) (texts : List (List ℕ)) → s.items ≡ marked_places ps text → AreTextsOf ps states texts →
    (k : ℕ) (x : List ℕ) → slice_get (text ∷ texts) k ≡ Some x → IsNumberOf ps (s ∷ states) k x
more_texts ps s states text texts here rest zero x at = (s, refl, here ∙ ap (marked_places ps) (same_Some text x at))
more_texts ps s states text texts here rest (suc k) x at = rest.each k x at

texts_of : (ps : List WildcardPlace) (states : List (Vec ℕ)) → AreReached ps states → (texts : List (List ℕ)) × AreTextsOf ps states texts
texts_of ps [] reached = ([], record { count = refl; each = λ k x at. absurd cc })
texts_of ps (s ∷ states) reached =
    let text = reached 0 s refl in
    let rest = texts_of ps states (λ k state at. reached (suc k) state at) in
    (text.0 ∷ rest.0, record { count = ap suc rest.1.count; each = more_texts ps s states text.0 rest.0 text.1 rest.1 })

pub many_states : (p : List ℕ) (states : List (Vec ℕ)) → MAX_TEXT_STATES < length states → AreReached (all_places p) states → IsDistinct same_state states → HasManyStates p
many_states p states many reached unique =
    let texts = texts_of (all_places p) states reached in
    record {
      texts = texts.0;
      many = omega (arith, many, texts.1.count);
      apart = λ i j x y one other same.
          let here = texts.1.each i x one in
          let there = texts.1.each j y other in
          states_apart states i j here.0 there.0 unique here.1 there.1 (here.2 ∙ state_marks p x y same ∙ sym there.2);
    }
