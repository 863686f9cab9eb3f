-- The pieces that are left at an index, and the list that is read so far.
use Rattle.std.proofs.Common.{◌≡◌, ◌≢◌, refl, sym, ◌∙◌, ap, inl, inr, ℕ, suc, ◌+◌, ◌-◌, ◌<◌, ◌≤◌, List, [], ◌∷◌, ◌++◌, length, get_or, map, drop, true, false, cond, arith, Option, Some, None}
use Rattle.std.specs.Prelude.{slice_range}
use Rattle.std.specs.List.{filter, range_with_len}
use Rattle.std.proofs.lemmas.List.{append-nil, append_assoc, at_drop_more}
use Rattle.std.proofs.Math.ListN.{drop_of_length-le}
use Rattle.am_universe.specs.declared.kind.Kind.{Kind}
use Rattle.am_labels.specs.Matcher.{Matcher}
use Rattle.am_labels.specs.MatcherText.{is_blank, is_separator, separators, pieces_from, without_blank_last, matcher_pieces, pieces_of_words, without_opening, without_closing}
use Rattle.am_labels.specs.MatcherReading.{IsReadFailure, ◌>>=◌, read_piece, read_each_piece}

-- What is read, after the matchers that were read before.
abbrev pub after : List Matcher → Option (List Matcher) → Option (List Matcher)
after front None = None
after front (Some ms) = Some (front ++ ms)

-- The indices from an index on at which the text is cut.
abbrev pub cuts_from : List ℕ → ℕ → List ℕ
cuts_from text i = filter (is_separator text) (range_with_len i (length text - i))

-- The pieces from `start` on, if there is no cut from `start` up to i.
abbrev pub pieces_left : List ℕ → ℕ → ℕ → List (List ℕ)
pieces_left text start i = without_blank_last (pieces_from text start (cuts_from text i))

cuts_next : (text : List ℕ) (i : ℕ) → i < length text → cuts_from text i ≡ cond (is_separator text i) (i ∷ cuts_from text (i + 1)) (cuts_from text (i + 1))
cuts_next text i l =
    let n : length text - i ≡ suc (length text - (i + 1)) = omega arith in
    rw n refl

pub cuts_none : (text : List ℕ) (i : ℕ) → length text ≤ i → cuts_from text i ≡ []
cuts_none text i l =
    let n : length text - i ≡ 0 = omega arith in
    rw n refl

pub cuts_all : (text : List ℕ) → cuts_from text 0 ≡ separators text
cuts_all text =
    let n : length text - 0 ≡ length text = omega arith in
    rw n refl

without_blank_more : (text piece : List ℕ) (start : ℕ) (cs : List ℕ) → without_blank_last (piece ∷ pieces_from text start cs) ≡ piece ∷ without_blank_last (pieces_from text start cs)
without_blank_more text piece start [] = refl
without_blank_more text piece start (c ∷ cs) = refl

pub left_at_cut : (text : List ℕ) (start i : ℕ) → i < length text → is_separator text i ≡ true → pieces_left text start i ≡ slice_range text start i ∷ pieces_left text (i + 1) (i + 1)
left_at_cut text start i l e = rw (cuts_next text i l, e) (without_blank_more text (slice_range text start i) (i + 1) (cuts_from text (i + 1)))

pub left_past : (text : List ℕ) (start i : ℕ) → i < length text → is_separator text i ≡ false → pieces_left text start i ≡ pieces_left text start (i + 1)
left_past text start i l e = rw (cuts_next text i l, e) refl

pub left_at_end : (text : List ℕ) (start i : ℕ) → length text ≤ i → pieces_left text start i ≡ cond (is_blank (drop start text)) [] (drop start text ∷ [])
left_at_end text start i l = rw (cuts_none text i l) refl

-- ---- the pieces that were cut so far, and those that are left

pub told_at_cut : (text : List ℕ) (start i : ℕ) (done all : List (List ℕ)) → i < length text
    → is_separator text i ≡ true → done ++ pieces_left text start i ≡ all
    → (done ++ slice_range text start i ∷ []) ++ pieces_left text (i + 1) (i + 1) ≡ all
told_at_cut text start i done all l e told =
    append_assoc done (slice_range text start i ∷ []) _
    ∙ rw (← left_at_cut text start i l e) told

pub told_at_end : (text : List ℕ) (start i : ℕ) (last : List ℕ) (done all : List (List ℕ))
    → length text ≤ i → last ≡ drop start text → done ++ pieces_left text start i ≡ all
    → done ++ cond (is_blank last) [] (last ∷ []) ≡ all
told_at_end text start i last done all l e told = rw (e, ← left_at_end text start i l) told

-- ---- the matchers that were read so far, and the pieces that are left

pub after_one : (front : List Matcher) (m : Matcher) (o : Option (List Matcher)) → after front (o >>= λ ms. Some (m ∷ ms)) ≡ after (front ++ m ∷ []) o
after_one front m None = refl
after_one front m (Some ms) = ap Some (sym (append_assoc front (m ∷ []) ms))

pub read_next : (front : List Matcher) (piece : List ℕ) (more : List (List ℕ)) (m : Matcher) → read_piece piece ≡ Some m → after front (read_each_piece (piece ∷ more)) ≡ after (front ++ m ∷ []) (read_each_piece more)
unfolding read_each_piece
read_next front piece more m e = rw e (after_one front m (read_each_piece more))

pub read_none : (kind : Kind) (front : List Matcher) (piece : List ℕ) (more : List (List ℕ)) → IsReadFailure kind (read_piece piece) → IsReadFailure kind (after front (read_each_piece (piece ∷ more)))
unfolding read_each_piece
read_none kind front piece more (inl memory) = inl memory
read_none kind front piece more (inr none) = inr (none.0, rw none.1 refl)

after_all : (front : List Matcher) → after front (read_each_piece []) ≡ Some front
unfolding read_each_piece
after_all front = ap Some (append-nil front)

-- in the loop: what was read, and the pieces from an index on, give what all pieces give
module _ {X : Type 0} (text : X → List ℕ) (ws : List X) (i : ℕ) (ss : List Matcher)
    (all : Option (List Matcher)) (told : after ss (read_each_piece (map text (drop i ws))) ≡ all) where
  told_next : (d : X) → i < length ws
      → after ss (read_each_piece (text (get_or ws i d) ∷ map text (drop (i + 1) ws))) ≡ all
  told_next d l =
      sym (at_drop_more (λ rest. after ss (read_each_piece (map text rest))) ws i d l) ∙ told

  pub told_at_piece : (d : X) (m : Matcher) → i < length ws
      → read_piece (text (get_or ws i d)) ≡ Some m
      → after (ss ++ m ∷ []) (read_each_piece (map text (drop (i + 1) ws))) ≡ all
  told_at_piece d m l r =
      sym (read_next ss (text (get_or ws i d)) (map text (drop (i + 1) ws)) m r) ∙ told_next d l

  pub refused_at_piece : (d : X) (kind : Kind) → i < length ws
      → IsReadFailure kind (read_piece (text (get_or ws i d))) → IsReadFailure kind all
  refused_at_piece d kind l r =
      rw (← told_next d l)
      (read_none kind ss (text (get_or ws i d)) (map text (drop (i + 1) ws)) r)

  pub told_past_pieces : length ws ≤ i → all ≡ Some ss
  told_past_pieces l =
      sym told ∙ ap (λ rest. after ss (read_each_piece (map text rest))) (drop_of_length-le ws l)
      ∙ after_all ss

-- One word is cut as a text. Of any other number of words, each is a piece.

pub pieces_of_one : {X : Type 0} (text : X → List ℕ) (ws : List X) (d : X) → length ws ≡ 1
    → pieces_of_words (map text ws)
    ≡ matcher_pieces (without_closing (without_opening (text (get_or ws 0 d))))
pieces_of_one text (w ∷ []) d one = refl
pieces_of_one text ws d one = absurd (omega (arith, one))

pub pieces_of_others : {X : Type 0} (text : X → List ℕ) (ws : List X) → length ws ≢ 1
    → pieces_of_words (map text ws) ≡ map text ws
pieces_of_others text (w ∷ []) other = absurd (other refl)
pieces_of_others text ws other = refl
