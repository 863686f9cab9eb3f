-- A pattern that has wildcards alone finds what its pieces match.
use Rattle.std.proofs.Common.{◌≡◌, ℕ, zero, suc, ◌+◌, ◌<◌, ◌≤◌, Bool, true, not, ◌&&◌, ◌||◌, ◌==◌}
use Rattle.std.proofs.Common.{List, [], ◌∷◌, ◌++◌, length, drop, get_or, map, Some, None, is_some}
use Rattle.std.proofs.Common.{inl, inr, refl, sym, ap, ap₂, ◌∙◌, subst, arith, codes}
use Rattle.std.proofs.Common.{append-nil, length-drop}
use Rattle.std.specs.Prelude.{encode_utf8, encode_utf8_all}
use Rattle.std.specs.Str.{IsUtf8, IsAscii, all_scalars}
use Rattle.std.specs.Char.{is_ascii, IsScalar, len_utf8}
use Rattle.std.specs.List.{list_all, list_any, join_with_byte, onto_first}
use Rattle.std.proofs.lemmas.Bool.{true≢false, cond-true, and_parts, both_ways, ltb-true, cases_Bool, cases_lt, eqb-true, eq-eqb, ne_eqb, and_from, or_left, or_right, or_cases, lt-ltb, le-leb}
use Rattle.std.proofs.lemmas.Bool.Decides.{nat_tests, same_from_decides}
use Rattle.std.proofs.lemmas.Str.{encode_ascii, inside_one, drop_past_char, IsUtf8-past_char, IsUtf8-nil, IsUtf8-from_ascii, chars-IsAscii, IsCharBoundary-start}
use Rattle.std.proofs.lemmas.List.{drop-drop, nil_from_length}
use Rattle.std.proofs.lemmas.List.Folds.{list_all-append, list_all-map}
use Rattle.std.proofs.lemmas.List.Splits.{join_with_byte-slice_split, length-slice_split}
use Rattle.std.proofs.lemmas.Option.{slice_get_past, slice_get-get_or}
use Rattle.std.proofs.lemmas.Slice.Eq.{bytes_eq-Decides}
use Rattle.regex_class.specs.Ranges.{in_ranges}
use Rattle.regex_class.proofs.RangesLemmas.{in_ranges-nil}
use Rattle.regex_hir.specs.Text.{is_some_and, is_boundary, byte_before}
use Rattle.regex_hir.specs.Looks.{holds, holds_between}
use Rattle.regex_hir.specs.declared.look.Look.TheVariants.{Start, End}
use Rattle.regex_hir.specs.Re.{Re, byte_in, accept}
use Rattle.regex_hir.specs.Find.{find_str}
use Rattle.regex_hir.specs.Matches.{Matches, Rounds, one_round, next_round}
use Rattle.regex_hir.proofs.TextLemmas.{has_bytes_at_parts, has_bytes_at_from, byte_before-add-one, char_at_parts, char_at_from}
use Rattle.regex_hir.proofs.OptionLemmas.{value_of_IsSome}
use Rattle.regex_hir.proofs.AttemptLemmas.{attempt_sound, attempt_complete, cond_some}
use Rattle.regex_hir.proofs.FindLemmas.{IsFirst-of_first_between, first_between_here}
use Rattle.regex_syntax.specs.Sets.{members}
use Rattle.regex_syntax.proofs.SetLemmas.{in_ranges-members}
use Rattle.am_labels.specs.declared.wildcards.WildcardPiece.{WildcardPiece}
use Rattle.am_labels.specs.declared.wildcards.WildcardPiece.TheVariants.{Byte, AnyText}
use Rattle.am_labels.specs.Wildcards.{is_plain, is_fine_piece, is_nothing, after_any, matches, pieces_of, alternatives, is_alternation, is_wildcards, wildcards_find}
use Rattle.am_universe.specs.Text.{same_text}
use Rattle.am_universe.proofs.UniverseLemmas.{list_any-map}
use Rattle.am_labels.specs.Pattern.{pattern_reading, anchored_pattern, is_pattern, finds}
use Rattle.am_labels.proofs.WildcardReading.{no_line_feed, any_char, part, all_of, one_of_all, anchored, anchored_read, spelled, differs}

-- ---- What `.*` matches, character by character.

pub any_here : (rest : List ℕ → Bool) (t : List ℕ) → rest t ≡ true → after_any rest t ≡ true
any_here rest [] h = h
any_here rest (b ∷ t) h = or_left (rest (b ∷ t)) _ h

small_byte : (c : ℕ) → is_plain c ≡ true → c < 128
small_byte c plain = ltb-true c 128 (and_parts (is_ascii c) _ plain).0

-- No piece but `.*` begins inside a character.
inside_past : (ps : List WildcardPiece) (b : ℕ) (t : List ℕ) → list_all is_fine_piece ps ≡ true
    → 128 ≤ b → matches ps (b ∷ t) ≡ true → matches ps t ≡ true
inside_past [] b t fine high h = absurd (cc)
inside_past (Byte c ∷ ps) b t fine high h =
    let small = small_byte c (and_parts (is_plain c) _ fine).0 in
    absurd (omega (arith, eqb-true c b (and_parts _ _ h).0))
inside_past (AnyText ∷ ps) b t fine high h = elim (or_cases (matches ps (b ∷ t)) _ h) [
  | inl e ↦ any_here (matches ps) t (inside_past ps b t fine high e)
  | inr e ↦ (and_parts _ _ e).1
]

-- Bytes inside a character are passed over, so the whole character is one step.
any_past : (ps : List WildcardPiece) (bs t : List ℕ) → list_all is_fine_piece ps ≡ true
    → ((k : ℕ) → k < length bs → 128 ≤ get_or bs k 0)
    → after_any (matches ps) (bs ++ t) ≡ after_any (matches ps) t
any_past ps [] t fine high = refl
any_past ps (b ∷ bs) t fine high =
    let own = high 0 (omega arith) in
    let later = any_past ps bs t fine (λ k l. high (suc k) (omega arith)) in
    elim (cases_Bool (matches ps (b ∷ (bs ++ t)))) [
      | inl is ↦ rw is (sym (any_here (matches ps) _ (inside_past ps b _ fine own is)) ∙ later)
      | inr other ↦ rw (other, ne_eqb b 10 (λ e. omega (arith, e))) later
    ]

any_step : (ps : List WildcardPiece) (c : ℕ) (t : List ℕ) → list_all is_fine_piece ps ≡ true
    → after_any (matches ps) (encode_utf8 c ++ t)
    ≡ (matches ps (encode_utf8 c ++ t) || (not (c == 10) && after_any (matches ps) t))
any_step ps c t fine = elim (cases_lt c 128) [
  | inl small ↦ rw (encode_ascii c small)
  | inr large ↦
      let bs = encode_utf8 c in
      let past = any_past ps bs t fine (λ k l. elim (cases_lt (get_or bs k 0) 128) [
        | inl small ↦ absurd (omega (arith, inside_one c [] bs k (sym (append-nil bs)) l small))
        | inr is ↦ is
      ]) in
      elim (cases_Bool (matches ps (bs ++ t))) [
        | inl is ↦ rw is (any_here (matches ps) _ is)
        | inr other ↦ rw (other, ne_eqb c 10 (λ e. omega (arith, e))) past
      ]
]

-- The dot matches a character that is no line feed.
dot_matches : (c : ℕ) → IsScalar c → in_ranges (members no_line_feed) c ≡ not (c == 10)
dot_matches c scalar =
    let within : c ≤ 0x10_FFFF = grind (arith, nat_tests) in
    in_ranges-members _ c ∙ rw (lt-ltb c 0x11_0000 (omega arith), le-leb c 0x10_FFFF within)

no_byte : {X : Type 0} (hay : List ℕ) (i j : ℕ) → Matches hay (byte_in []) i j → X
no_byte hay i j m = absurd (both_ways (in_ranges [] m.0) (in_ranges-nil m.0) m.2)

starts_char : (hay : List ℕ) → IsUtf8 hay → is_boundary hay 0 ≡ true
unfolding is_boundary
starts_char [] utf8 = refl
starts_char (b ∷ hay) utf8 =
    let lead = (IsCharBoundary-start (b ∷ hay) utf8).1 (omega arith) in grind (arith, nat_tests)

-- A tree leads from a place to the end of a text.
abbrev LeadsToEnd : List ℕ → Re → ℕ → Type 0
LeadsToEnd hay re i = (j : ℕ) × Matches hay re i j × (drop j hay ≡ [])

module _ (hay : List ℕ) (ps : List WildcardPiece) (fine : list_all is_fine_piece ps ≡ true) where
  char_past : (i j : ℕ) → Matches hay any_char i j → after_any (matches ps) (drop j hay) ≡ true
      → after_any (matches ps) (drop i hay) ≡ true
  char_past i j m h =
      let parts = char_at_parts hay i m.0 m.1 in
      let later = subst (λ n. after_any (matches ps) (drop n hay) ≡ true) m.3 h in
      rw parts.1 (any_step ps m.0 _ fine
      ∙ or_right _ _ (and_from _ _ (sym (dot_matches m.0 parts.0) ∙ m.2) later))

  rounds_past : (i j : ℕ) → Rounds (Matches hay any_char) i j
      → after_any (matches ps) (drop j hay) ≡ true → after_any (matches ps) (drop i hay) ≡ true
  rounds_past i j (one_round _ m) h = char_past i j m h
  rounds_past i j (next_round l _ ms m) h = rounds_past i l ms (char_past l j m h)

  any_lead : ((i : ℕ) (t : List ℕ) → drop i hay ≡ t → IsUtf8 t → matches ps t ≡ true
      → LeadsToEnd hay (all_of ps).value i) → (start i : ℕ) (cs : List ℕ)
      → Matches hay (part AnyText).value start i
      → drop i hay ≡ encode_utf8_all cs → all_scalars cs ≡ true
      → after_any (matches ps) (encode_utf8_all cs) ≡ true
      → LeadsToEnd hay (all_of (AnyText ∷ ps)).value start
  any_lead rest start i [] front e scalars h =
      let now = rest i [] e IsUtf8-nil h in (now.0, (i, front, now.1), now.2)
  any_lead rest start i (c ∷ cs) front e scalars h =
      let t = encode_utf8_all cs in
      let own = and_parts _ _ scalars in
      elim (or_cases (matches ps (encode_utf8 c ++ t)) _ (sym (any_step ps c t fine) ∙ h)) [
        | inl is ↦
            let now = rest i _ e (c ∷ cs, (scalars, refl)) is in
            (now.0, (i, front, now.1), now.2)
        | inr later ↦
            let more = and_parts (not (c == 10)) _ later in
            let k = i + len_utf8 c in
            let one : Matches hay any_char i k =
            (c, char_at_from hay i c t own.0 e, dot_matches c own.0 ∙ more.0, refl) in
            let rounds : Rounds (Matches hay any_char) start k = elim front [
              | inl rs ↦ next_round i k rs one
              | inr none ↦ one_round k (subst (λ n. Matches hay any_char n k) none one)
            ] in
            any_lead rest start k cs (inl rounds) (drop_past_char hay t i c e) own.1 more.1
      ]

module _ (hay : List ℕ) where
  -- ---- A tree that matches up to the end of a text.

  all_sound : (ps : List WildcardPiece) (i j : ℕ) → list_all is_fine_piece ps ≡ true
      → Matches hay (all_of ps).value i j → drop j hay ≡ [] → matches ps (drop i hay) ≡ true
  all_sound [] i j fine m none = ap (λ n. is_nothing (drop n hay)) (sym m) ∙ ap is_nothing none
  all_sound (Byte c ∷ ps) i j fine m none =
      let rest = all_sound ps m.0 j (and_parts (is_plain c) _ fine).1 m.2 none in
      rw (has_bytes_at_parts hay i (c ∷ []) m.1.0)
      (and_from _ _ (eq-eqb c c refl) (subst (λ n. matches ps (drop n hay) ≡ true) m.1.1 rest))
  all_sound (AnyText ∷ ps) i j fine m none =
      let rest = any_here (matches ps) _ (all_sound ps m.0 j fine m.2 none) in
      elim m.1 [
        | inl rounds ↦ rounds_past hay ps fine i m.0 rounds rest
        | inr e ↦ subst (λ n. after_any (matches ps) (drop n hay) ≡ true) e rest
      ]

  one_sound : (pss : List (List WildcardPiece)) (i j : ℕ)
      → list_all (list_all is_fine_piece) pss ≡ true → Matches hay (one_of_all pss) i j
      → drop j hay ≡ [] → list_any (λ ps. matches ps (drop i hay)) pss ≡ true
  one_sound [] i j fine m none = no_byte hay i j m
  one_sound (ps ∷ pss) i j fine (inl m) none =
      or_left _ _ (all_sound ps i j (and_parts _ _ fine).0 m none)
  one_sound (ps ∷ pss) i j fine (inr m) none =
      or_right (matches ps (drop i hay)) _ (one_sound pss i j (and_parts _ _ fine).1 m none)

  -- ---- A text that pieces match.

  all_lead : (ps : List WildcardPiece) (i : ℕ) (t : List ℕ) → list_all is_fine_piece ps ≡ true
      → drop i hay ≡ t → IsUtf8 t → matches ps t ≡ true → LeadsToEnd hay (all_of ps).value i
  all_lead [] i [] fine e utf8 h = (i, refl, e)
  all_lead [] i (b ∷ t) fine e utf8 h = absurd (cc)
  all_lead (Byte c ∷ ps) i [] fine e utf8 h = absurd (cc)
  all_lead (Byte c ∷ ps) i (b ∷ t) fine e utf8 h =
      let own = and_parts (is_plain c) _ fine in
      let same = and_parts (c == b) _ h in
      let is : b ∷ t ≡ c ∷ t = ap (λ x. x ∷ t) (sym (eqb-true c b same.0)) in
      let char = is ∙ ap (λ bs. bs ++ t) (sym (encode_ascii c (small_byte c own.0))) in
      let later = all_lead ps (i + 1) t own.1 (sym (drop-drop 1 i hay) ∙ ap (drop 1) e)
      (IsUtf8-past_char (b ∷ t) t c utf8 char) same.1 in
      (later.0, (i + 1, (has_bytes_at_from hay i (c ∷ []) t (e ∙ is), refl), later.1), later.2)
  all_lead (AnyText ∷ ps) i t fine e utf8 h =
      any_lead hay ps fine (λ k u. all_lead ps k u fine) i i utf8.0 (inr refl) (e ∙ sym utf8.1.1)
      utf8.1.0 (ap (after_any (matches ps)) utf8.1.1 ∙ h)

  one_leads : (pss : List (List WildcardPiece)) → list_all (list_all is_fine_piece) pss ≡ true
      → IsUtf8 hay → list_any (λ ps. matches ps hay) pss ≡ true → LeadsToEnd hay (one_of_all pss) 0
  one_leads [] fine utf8 h = absurd (cc)
  one_leads (ps ∷ pss) fine utf8 h =
      let own = and_parts _ _ fine in
      elim (or_cases (matches ps hay) _ h) [
        | inl is ↦ let now = all_lead ps 0 hay own.0 refl utf8 is in (now.0, inl now.1, now.2)
        | inr more ↦ let later = one_leads pss own.1 utf8 more in (later.0, inr later.1, later.2)
      ]

  -- ---- The anchors, and the search.

  at_start : (i : ℕ) → i ≤ length hay → holds Start hay i ≡ true → i ≡ 0
  unfolding holds holds_between
  at_start zero within h = refl
  at_start (suc i) within h =
      let next : suc i ≡ i + 1 = omega arith in
      let there = slice_get-get_or hay i 0 (omega arith) in
      absurd (true≢false (sym h ∙ rw (next, byte_before-add-one hay i, there)))

  at_end : (i : ℕ) → holds End hay i ≡ true → drop i hay ≡ []
  unfolding holds holds_between
  at_end i h = elim (cases_lt i (length hay)) [
    | inl l ↦ absurd (true≢false (sym h ∙ rw (slice_get-get_or hay i 0 l)))
    | inr past ↦ nil_from_length (drop i hay) (omega (arith, length-drop i hay))
  ]

  module _ (pss : List (List WildcardPiece)) (fine : list_all (list_all is_fine_piece) pss ≡ true) where
    found_sound : is_some (find_str (anchored pss) hay 0) ≡ true
        → list_any (λ ps. matches ps hay) pss ≡ true
    unfolding find_str
    found_sound e =
        let m = value_of_IsSome _ e in
        let first = IsFirst-of_first_between _ 0 (length hay) m.0 m.1 in
        let here = cond_some (is_boundary hay m.0.start) _ m.0.trace first.here in
        let match = attempt_sound hay (anchored pss) accept m.0.start m.0.trace here.1 in
        elim match.leads [
          | inl m ↦
              let from : m.0 ≡ 0 = m.1.1 ∙ at_start _ first.to m.1.0 in
              subst (λ i. list_any (λ ps. matches ps (drop i hay)) pss ≡ true) from
              (one_sound pss m.0 m.2.0 fine m.2.1 (at_end m.2.0 m.2.2.1.0))
          | inr none ↦ no_byte hay _ _ none
        ]

    found_complete : IsUtf8 hay → list_any (λ ps. matches ps hay) pss ≡ true
        → is_some (find_str (anchored pss) hay 0) ≡ true
    unfolding find_str holds holds_between byte_before
    found_complete utf8 h =
        let one = one_leads pss fine utf8 h in
        let past : length hay ≤ one.0 = omega (arith, length-drop one.0 hay, ap length one.2) in
        let whole : Matches hay (anchored pss) 0 one.0 = inl (
          0,
          (refl, refl),
          (one.0, one.1, (one.0, (rw (slice_get_past hay one.0 past), refl), refl)),
        ) in
        let m = value_of_IsSome _ (attempt_complete hay (anchored pss) accept 0 one.0 whole refl) in
        ap is_some (first_between_here _ 0 (length hay) m.0 (omega arith)
        (cond-true _ _ None (starts_char hay utf8) ∙ m.1))

-- ---- The pattern.

pieces_ascii : (ps : List WildcardPiece) → list_all is_fine_piece ps ≡ true
    → list_all is_ascii (spelled ps) ≡ true
pieces_ascii [] fine = refl
pieces_ascii (Byte c ∷ ps) fine =
    let own = and_parts (is_plain c) _ fine in
    and_from (is_ascii c) _ (and_parts (is_ascii c) _ own.0).0 (pieces_ascii ps own.1)
pieces_ascii (AnyText ∷ ps) fine = pieces_ascii ps fine

joined_ascii : (pss : List (List WildcardPiece)) → list_all (list_all is_fine_piece) pss ≡ true
    → list_all is_ascii (join_with_byte 124 (map spelled pss)) ≡ true
joined_ascii [] fine = refl
joined_ascii (ps ∷ []) fine = pieces_ascii ps (and_parts _ _ fine).0
joined_ascii (ps ∷ qs ∷ pss) fine =
    let own = and_parts _ _ fine in
    list_all-append is_ascii (spelled ps) _
    ∙ and_from _ _ (pieces_ascii ps own.0) (joined_ascii (qs ∷ pss) own.1)

ascii : (t : List ℕ) → list_all is_ascii t ≡ true → IsAscii t
ascii [] small i = omega arith
ascii (c ∷ t) small zero = ltb-true c 128 (and_parts (is_ascii c) _ small).0
ascii (c ∷ t) small (suc i) = ascii t (and_parts (is_ascii c) _ small).1 i

-- The pieces of a text spell it.
spelled_back : (a : List ℕ) → spelled (pieces_of a) ≡ a
spelled_back [] = refl
spelled_back (c ∷ []) = refl
spelled_back (c ∷ d ∷ a) = elim (cases_Bool (c == 46 && d == 42)) [
  | inl any ↦
      let parts = and_parts (c == 46) _ any in
      rw (any, eqb-true c 46 parts.0, eqb-true d 42 parts.1, spelled_back a)
  | inr other ↦ rw (other, spelled_back (d ∷ a))
]

all_spelled_back : (ws : List (List ℕ)) → map spelled (map pieces_of ws) ≡ ws
all_spelled_back [] = refl
all_spelled_back (a ∷ ws) = rw (spelled_back a, all_spelled_back ws)

-- The pattern is read as the pieces of its alternatives.
read_wildcards : (p : List ℕ) (ws : List (List ℕ)) → alternatives p ≡ ws
    → list_all (list_all is_fine_piece) (map pieces_of ws) ≡ true
    → pattern_reading p ≡ Some (anchored (map pieces_of ws))
unfolding pattern_reading
read_wildcards p [] e fine = absurd (omega (arith, ap length e, length-slice_split (λ c. c == 124) p))
read_wildcards p (a ∷ ws) e fine =
    let pss = map pieces_of (a ∷ ws) in
    let inside = join_with_byte 124 (map spelled pss) in
    let joined : inside ≡ p = ap (join_with_byte 124) (all_spelled_back (a ∷ ws) ∙ sym e)
    ∙ join_with_byte-slice_split 124 p in
    let whole = anchored_pattern inside in
    let small : list_all is_ascii whole ≡ true =
    list_all-append is_ascii inside (codes ")$") ∙ and_from _ _ (joined_ascii pss fine) refl in
    rw (← joined, chars-IsAscii whole (ascii whole small))
    (anchored_read (pieces_of a) (map pieces_of ws) fine)

pub wildcards_are_read : (p : List ℕ) → is_wildcards p ≡ true → is_pattern p ≡ true
wildcards_are_read p is =
    let fine = list_all-map (list_all is_fine_piece) pieces_of (alternatives p) ∙ is in
    ap is_some (read_wildcards p _ refl fine)

found_by_pieces : (p text : List ℕ) → is_wildcards p ≡ true
    → (wildcards_find p text ≡ true → IsUtf8 text) → finds p text ≡ wildcards_find p text
found_by_pieces p text is utf8 =
    let pss = map pieces_of (alternatives p) in
    let fine = list_all-map (list_all is_fine_piece) pieces_of (alternatives p) ∙ is in
    let same = list_any-map (λ ps. matches ps text) pieces_of (alternatives p) in
    let tree : finds p text ≡ is_some (find_str (anchored pss) text 0) =
    ap (λ o. is_some_and o (λ re. is_some (find_str re text 0))) (read_wildcards p _ refl fine) in
    tree ∙ same_from_decides _ _ (
      λ e. sym same ∙ found_sound text pss fine e,
      λ e. found_complete text pss fine (utf8 e) (same ∙ e),
    ) (λ e. e, λ e. e)

pub finds_wildcards : (p text : List ℕ) → is_wildcards p ≡ true → IsUtf8 text
    → finds p text ≡ wildcards_find p text
finds_wildcards p text is utf8 = found_by_pieces p text is (λ _. utf8)

-- ---- An alternation of plain texts.

first_plain : (c : ℕ) (ws : List (List ℕ)) → is_plain c ≡ true
    → list_all (list_all is_plain) ws ≡ true → list_all (list_all is_plain) (onto_first c ws) ≡ true
first_plain c [] plain rest = rw plain
first_plain c (w ∷ ws) plain rest = rw plain rest

parts_plain : (p : List ℕ) → is_alternation p ≡ true
    → list_all (list_all is_plain) (alternatives p) ≡ true
parts_plain [] is = refl
parts_plain (c ∷ p) is =
    let own = and_parts (c == 124 || is_plain c) _ is in
    let rest = parts_plain p own.1 in
    elim (cases_Bool (c == 124)) [
      | inl bar ↦ rw bar rest
      | inr other ↦
          let plain : is_plain c ≡ true = rw other at own.0 in
          rw other (first_plain c (alternatives p) plain rest)
    ]

plain_pieces : (a : List ℕ) → list_all is_plain a ≡ true → pieces_of a ≡ map Byte a
plain_pieces [] plain = refl
plain_pieces (c ∷ []) plain = refl
plain_pieces (c ∷ d ∷ a) plain =
    let own = and_parts (is_plain c) _ plain in
    rw (differs c 46 own.0 refl, plain_pieces (d ∷ a) own.1)

bytes_match : (a text : List ℕ) → matches (map Byte a) text ≡ same_text text a
bytes_match [] [] = refl
bytes_match [] (b ∷ text) = refl
bytes_match (c ∷ a) [] = refl
bytes_match (c ∷ a) (b ∷ text) =
    let same : (c == b) ≡ (b == c) = grind (arith, nat_tests) in
    ap₂ ◌&&◌ same (bytes_match a text)

-- Plain texts have wildcards alone. What they find is one of them, and so it is ASCII.
plain_found : (ws : List (List ℕ)) (text : List ℕ) → list_all (list_all is_plain) ws ≡ true
    → (list_all (λ a. list_all is_fine_piece (pieces_of a)) ws ≡ true)
    × (list_any (λ a. matches (pieces_of a) text) ws ≡ list_any (same_text text) ws)
    × (list_any (same_text text) ws ≡ true → IsUtf8 text)
plain_found [] text plain = (refl, refl, λ e. absurd (cc))
plain_found (a ∷ ws) text plain =
    let own = and_parts (list_all is_plain a) _ plain in
    let pieces = plain_pieces a own.0 in
    let fine = ap (list_all is_fine_piece) pieces ∙ list_all-map is_fine_piece Byte a ∙ own.0 in
    let small = ascii a (ap (list_all is_ascii) (sym (spelled_back a)) ∙ pieces_ascii (pieces_of a) fine) in
    let rest = plain_found ws text own.1 in (
      and_from _ _ fine rest.0,
      ap₂ ◌||◌ (ap (λ ps. matches ps text) pieces ∙ bytes_match a text) rest.1,
      λ e. elim (or_cases (same_text text a) _ e) [
        | inl is ↦ subst IsUtf8 (sym ((bytes_eq-Decides text a).0 is)) (IsUtf8-from_ascii a small)
        | inr more ↦ rest.2 more
      ],
    )

pub finds_alternatives : (p text : List ℕ) → is_alternation p ≡ true
    → finds p text ≡ list_any (same_text text) (alternatives p)
finds_alternatives p text is =
    let plain = plain_found (alternatives p) text (parts_plain p is) in
    found_by_pieces p text plain.0 (λ e. plain.2 (sym plain.1 ∙ e)) ∙ plain.1
