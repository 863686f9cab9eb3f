-- A list of positions read piece by piece, under the sizes of a universe.
use Rattle.std.proofs.Common.{◌≡◌, ℕ, ◌<◌, ◌≤◌, true, List, [], ◌∷◌, ◌++◌, length, map, slice_index, Option, Some, None, Bor, sym, ap, ◌∙◌, arith, append-nil, append_assoc, length-append, rules}
use Rattle.std.specs.Str.Pattern.{StripsPrefix, FindsTextPrefix}
use Rattle.std.specs.Iterator.{AlwaysYields}
use Rattle.std.specs.List.{AllByRecursion, join_with_byte}
use Rattle.std.specs.Fmt.{decimal}
use Rattle.std.proofs.lemmas.Bool.{and_parts}
use Rattle.std.proofs.lemmas.Bool.Decides.{nat_tests}
use Rattle.std.proofs.lemmas.List.{map-append, length-map}
use Rattle.std.proofs.lemmas.List.Splits.{join_with_byte-slice_split}
use Rattle.std.proofs.lemmas.Grind.{common_steps}
use Rattle.am_universe.specs.Choice.{admits}
use Rattle.am_universe.specs.Universe.{Label, IsLabel, IsUniverse, sizes}
use Rattle.am_universe.specs.declared.limits.TheConstants.{MAX_VALUES}
use Rattle.am_universe.proofs.CompletionLemmas.{admits_next}
use Rattle.am_search.specs.Judge.{AreSizes}
use Rattle.am_search.specs.Token.{positions_text}
use Rattle.am_search.proofs.Positions.{AreSmall, pieces_of, pieces_of_joined}

-- ---- The sizes of a universe.

abbrev pub AreLimited : List ℕ → Type 0
AreLimited = AllByRecursion (λ size. (0 < size) × (size ≤ MAX_VALUES))

limited : (u : List Label) → AllByRecursion IsLabel u → AreLimited (sizes u)
limited [] h = tt
limited (l ∷ u) h = ((h.0.some_value, h.0.at_most), limited u h.1)

pub sizes_of_universe : (u : List Label) → IsUniverse u → AreSizes (sizes u)
sizes_of_universe u h = grind (arith, common_steps, length-map, limited)

pub small_positions : (ns c : List ℕ) → AreLimited ns → admits ns c ≡ true → AreSmall c
small_positions ns [] h a = tt
small_positions [] (p ∷ c) h a = cc
small_positions (n ∷ ns) (p ∷ c) h a = grind (arith, common_steps, and_parts, nat_tests, small_positions ns c)

-- ---- A choice of which the front is read.

-- the position after the front, which the next piece spells
pub record IsAtSeam (ns c front piece : List ℕ) : Type 0 where
  pub position : ℕ
  pub is : decimal position ≡ piece
  pub label : length front < length ns
  pub below : position < slice_index ns (length front)
  pub limit : slice_index ns (length front) ≤ MAX_VALUES

at_seam : (ns c front piece : List ℕ) (rest : List (List ℕ)) → AreLimited ns → admits ns c ≡ true
    → map decimal c ≡ map decimal front ++ piece ∷ rest → IsAtSeam ns c front piece
at_seam ns [] front piece rest h a e = absurd (omega (arith, ap length e, length-append (map decimal front) (piece ∷ rest)))
at_seam [] (p ∷ c) front piece rest h a e = cc
at_seam (n ∷ ns) (p ∷ c) [] piece rest h a e = search (rules, and_parts, nat_tests)
at_seam (n ∷ ns) (p ∷ c) (q ∷ front) piece rest h a e = search (rules, at_seam ns c front piece rest, and_parts)

-- if a text is that of a choice, its pieces are the positions of the choice
pieces_are : (text c : List ℕ) → 0 < length text → AreSmall c → positions_text c ≡ text → pieces_of text ≡ map decimal c
pieces_are text [] some small e = absurd (omega (arith, ap length e))
pieces_are text (p ∷ ps) some small e = ap pieces_of (sym e) ∙ pieces_of_joined p ps small

module _ {S : Type 0} (steps : S → Option (Bor (List ℕ)) → S → Type 0) where
  -- `front` is read, and `s` yields the pieces that are left
  pub record IsReadSoFar (ns text front : List ℕ) (s : S) : Type 0 where
    pub left : List (List ℕ)
    pub all : pieces_of text ≡ map decimal front ++ left
    pub yields : AlwaysYields steps (λ x. x.now) s left
    pub admitted : admits ns front ≡ true

  -- `piece` comes after the front, and `t` yields the pieces after it
  pub record IsNext (text front piece : List ℕ) (t : S) : Type 0 where
    pub rest : List (List ℕ)
    pub all : pieces_of text ≡ map decimal front ++ (piece ∷ rest)
    pub yields : AlwaysYields steps (λ x. x.now) t rest

  pub next_piece : (ns text front : List ℕ) (s t : S) (part : Bor (List ℕ)) → IsReadSoFar ns text front s → steps s (Some part) t → IsNext text front part.now t
  next_piece ns text front s t part h goes = by h.left h.all h.yields
    where
      by : (left : List (List ℕ)) → pieces_of text ≡ map decimal front ++ left → AlwaysYields steps (λ x. x.now) s left → IsNext text front part.now t
      by [] all yields = absurd (yields part t goes)
      by (piece ∷ rest) all yields =
          let now = yields.1 part t goes in
          record { rest = rest; all = all ∙ ap (λ x. map decimal front ++ (x ∷ rest)) (sym now.0); yields = now.1 }

  -- if no piece is left, the text is that of the front
  pub all_read : (ns text front : List ℕ) (s t : S) → IsReadSoFar ns text front s → steps s None t → positions_text front ≡ text
  all_read ns text front s t h goes = by h.left h.all h.yields
    where
      by : (left : List (List ℕ)) → pieces_of text ≡ map decimal front ++ left → AlwaysYields steps (λ x. x.now) s left → positions_text front ≡ text
      by [] all yields = ap (join_with_byte 46) (sym (append-nil (map decimal front)) ∙ sym all) ∙ join_with_byte-slice_split 46 text
      by (piece ∷ rest) all yields = absurd (yields.0 t goes)

  pub piece_read : (ns text front piece : List ℕ) (s t : S) (p : ℕ) → (next : IsNext text front piece t) → IsReadSoFar ns text front s
      → decimal p ≡ piece → length front < length ns → p < slice_index ns (length front) → IsReadSoFar ns text (front ++ (p ∷ [])) t
  piece_read ns text front piece s t p next h is room below = search (rules, append_assoc, map-append, admits_next)

  -- each choice with this text has, after the front, the position that the next piece spells
  pub seam : (ns text front c : List ℕ) (s t : S) (part : Bor (List ℕ)) → AreLimited ns → 0 < length text → IsReadSoFar ns text front s → steps s (Some part) t
      → admits ns c ≡ true → positions_text c ≡ text → IsAtSeam ns c front part.now
  seam ns text front c s t part h some so_far goes a e =
      let next = next_piece ns text front s t part so_far goes in
      at_seam ns c front part.now next.rest h a (sym (pieces_are text c some (small_positions ns c h a) e) ∙ next.all)

-- a text that `strip_prefix` has cut is the prefix and then the rest
pub cut : (prefix text rest : List ℕ) → StripsPrefix (FindsTextPrefix prefix) text rest → text ≡ prefix ++ rest
cut prefix text rest (n, found, is, fits) = found.1 ∙ ap (λ t. prefix ++ t) (sym is)
