-- Reads a matcher text from left to right. Two states, whether the next byte is escaped and whether
-- it is quoted, stand for the positions and counts in the definition of what the text spells.
use Rattle.std.proofs.Common.{◌≡◌, refl, ◌∙◌, ap, inl, inr, ℕ, ◌+◌, ◌-◌, ◌<◌, ◌≤◌, List, [], ◌∷◌}
use Rattle.std.proofs.Common.{◌++◌, length, drop, get_or, Bool, true, false, not, ◌&&◌, cond, arith}
use Rattle.std.specs.Prelude.{◌==◌, slice_range}
use Rattle.std.proofs.lemmas.List.{length-drop, drop_more, take_all, take_more, get_or-drop}
use Rattle.std.proofs.lemmas.Bool.{and_parts, cases_Bool, cases_eq, not-true}
use Rattle.am_labels.specs.MatcherText.{is_blank, is_escaped, is_quote, is_quoted, is_separator}
use Rattle.am_labels.proofs.MatcherTextIndices.{escaped_next, quoted_next}
use Rattle.am_labels.proofs.MatcherTextPieces.{pieces_left, left_at_cut, left_past, left_at_end}

first_of_rest : (text : List ℕ) (i c : ℕ) (cs : List ℕ) → drop i text ≡ c ∷ cs → (i < length text)
    × (get_or text i 0 ≡ c) × (drop (i + 1) text ≡ cs)
first_of_rest text i c cs e =
    let l : i < length text = omega (arith, length-drop i text, ap length e) in
    let f = drop_more text i 0 l in
    (l, (cc), (cc))

-- ---- pieces

-- the pieces from here to the end of a text; the current piece already has some bytes
abbrev pub cut : Bool → Bool → List ℕ → List ℕ → List (List ℕ)
cut escaped quoted piece [] = cond (is_blank piece) [] (piece ∷ [])
cut escaped quoted piece (c ∷ cs) =
    cond (c == 44 && not quoted)
    (piece ∷ cut (c == 92 && not escaped) (cond (c == 34 && not escaped) (not quoted) quoted) [] cs)
    (cut (c == 92 && not escaped) (cond (c == 34 && not escaped) (not quoted) quoted)
    (piece ++ c ∷ []) cs)

pub left_is_cut : (text : List ℕ) (start i : ℕ) (xs : List ℕ) → start ≤ i → drop i text ≡ xs →
    pieces_left text start i ≡ cut (is_escaped text i) (is_quoted text i)
    (slice_range text start i) xs
left_is_cut text start i [] l e =
    let n = length-drop start text in
    let end : length text ≤ i = omega (arith, length-drop i text, ap length e) in
    left_at_end text start i end ∙ rw (take_all (i - start) (drop start text) (omega arith)) refl
left_is_cut text start i (c ∷ cs) l e =
    let here = first_of_rest text i c cs e in
    let escaped : is_escaped text (i + 1) ≡ (c == 92 && not (is_escaped text i)) =
    rw (escaped_next text i here.0, here.1) refl in
    let quoted : is_quoted text (i + 1) ≡ cond (c == 34 && not (is_escaped text i))
    (not (is_quoted text i)) (is_quoted text i) = rw (quoted_next text i, here.1) refl in
    elim (cases_Bool (is_separator text i)) [
      | inl comma ↦
          let none : (i + 1) - (i + 1) ≡ 0 = omega arith in
          let comma' = rw here.1 at comma in
          left_at_cut text start i here.0 comma ∙ rw comma'
          (ap (λ r. slice_range text start i ∷ r)
          (left_is_cut text (i + 1) (i + 1) cs (omega arith) here.2 ∙ rw (escaped, quoted, none)
          refl))
      | inr other ↦
          let other' = rw here.1 at other in
          let behind : i + 1 - start ≡ (i - start) + 1 = omega arith in
          let back : start + (i - start) ≡ i = omega arith in
          let more : slice_range text start (i + 1) ≡ slice_range text start i ++ c ∷ [] =
          rw behind (take_more (drop start text) (i - start) 0
          (omega (arith, length-drop start text)) ∙ rw
          (get_or-drop start text (i - start) 0, back, here.1) refl) in
          left_past text start i here.0 other ∙ rw other'
          (left_is_cut text start (i + 1) cs (omega arith) here.2 ∙ rw (escaped, quoted, more) refl)
    ]

-- ---- quotes

-- no byte is a quote that is not escaped, and what follows is not escaped
abbrev pub has_no_quote : Bool → List ℕ → Bool
has_no_quote escaped [] = not escaped
has_no_quote escaped (c ∷ cs) =
    not (c == 34 && not escaped) && has_no_quote (c == 92 && not escaped) cs

pub no_quote_is_left : (text : List ℕ) (i : ℕ) (xs : List ℕ) → i ≤ length text → drop i text ≡ xs
    → has_no_quote (is_escaped text i) xs ≡ true →
    ((k : ℕ) → i ≤ k → k < length text → is_quote text k ≡ false) ×
    (is_escaped text (length text) ≡ false)
no_quote_is_left text i [] l e h =
    let end : length text ≡ i = omega (arith, length-drop i text, ap length e) in
    (λ k m n. absurd (omega arith), rw end (not-true (is_escaped text i) h))
no_quote_is_left text i (c ∷ cs) l e h =
    let here = first_of_rest text i c cs e in
    let parts = and_parts (not (c == 34 && not (is_escaped text i)))
    (has_no_quote (c == 92 && not (is_escaped text i)) cs) h in
    let first : is_quote text i ≡ false =
    rw here.1 (not-true (c == 34 && not (is_escaped text i)) parts.0) in
    let more = no_quote_is_left text (i + 1) cs (omega (arith, here.0)) here.2
    (rw (escaped_next text i here.0, here.1) parts.1) in (
      λ k m n. elim (cases_eq i k)
          [ inl same ↦ rw (← same) first | inr other ↦ more.0 k (omega arith) n ],
      more.1,
    )
