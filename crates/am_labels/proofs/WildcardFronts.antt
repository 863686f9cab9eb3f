-- An alternative and a text that are the same up to the first `.*` match if what is behind it does.
-- So behind an earlier `.*` the first such place in the text serves.
use Rattle.std.proofs.Common.{◌≡◌, ℕ, List, [], ◌∷◌, ◌++◌, map, Bool, true, false, not, ◌&&◌}
use Rattle.std.proofs.Common.{◌==◌, ◌≢◌, ◌≤◌, inl, inr, refl, sym, ap, ap₂, ◌∙◌, arith, length, get_or, take, drop, ◌-◌}
use Rattle.std.proofs.Common.{append_assoc, ne_eqb}
use Rattle.std.proofs.lemmas.List.{map-append, take_rest}
use Rattle.std.proofs.lemmas.Bool.{and_parts, and_from, eq-eqb, eqb-true, or_cases, or_right}
use Rattle.std.proofs.lemmas.Bool.Decides.{same_from_decides}
use Rattle.am_labels.specs.declared.wildcards.WildcardPiece.{WildcardPiece}
use Rattle.am_labels.specs.declared.wildcards.WildcardPiece.TheVariants.{Byte, AnyText}
use Rattle.am_labels.specs.Wildcards.{after_any, matches, pieces_of}
use Rattle.am_labels.proofs.WildcardMatches.{any_here}

pub same_front : (plain : List ℕ) (ps : List WildcardPiece) (t : List ℕ)
    → matches (map Byte plain ++ ps) (plain ++ t) ≡ matches ps t
same_front [] ps t = refl
same_front (c ∷ plain) ps t = rw (eq-eqb c c refl) (same_front plain ps t)

-- ---- How the front is passed.

-- The same plain bytes lead from an alternative and a text to these.
pub record ArePassed (a text b u : List ℕ) : Type 0 where
  pub plain : List ℕ
  pub bytes : text ≡ plain ++ u
  pub pieces : pieces_of a ≡ map Byte plain ++ pieces_of b

pub passed_byte : (a text b u rest : List ℕ) (c : ℕ) → ArePassed a text b u
    → pieces_of b ≡ Byte c ∷ pieces_of rest → 1 ≤ length u → get_or u 0 0 ≡ c
    → ArePassed a text rest (take (length u - 1) (drop 1 u))
passed_byte a text b [] rest c passed pieces some same = absurd (omega arith)
passed_byte a text b (d ∷ u) rest c passed pieces some same = record {
  plain = passed.plain ++ c ∷ [];
  bytes = passed.bytes ∙ ap (λ x. passed.plain ++ x ∷ u) same
      ∙ sym (append_assoc passed.plain (c ∷ []) u)
      ∙ ap (λ t. (passed.plain ++ c ∷ []) ++ t) (sym (take_rest (d ∷ u) 1));
  pieces = passed.pieces ∙ ap (λ ps. map Byte passed.plain ++ ps) pieces
      ∙ sym (append_assoc (map Byte passed.plain) (Byte c ∷ []) _)
      ∙ ap (λ ps. ps ++ pieces_of rest) (sym (map-append Byte passed.plain (c ∷ [])));
}

pub left_decides : (a text b u : List ℕ) → ArePassed a text b u
    → matches (pieces_of a) text ≡ matches (pieces_of b) u
left_decides a text b u passed =
    ap₂ matches passed.pieces passed.bytes ∙ same_front passed.plain (pieces_of b) u

pub first_differs : (ps qs : List WildcardPiece) (c : ℕ) (u : List ℕ) → ps ≡ Byte c ∷ qs
    → (1 ≤ length u → get_or u 0 0 ≢ c) → matches ps u ≡ false
first_differs ps qs c [] e other = rw e refl
first_differs ps qs c (b ∷ u) e other =
    rw (e, ne_eqb c b (λ same. other (omega arith) (sym same))) refl

pub nothing_left : (b u : List ℕ) → b ≡ [] → matches (pieces_of b) u ≡ (length u == 0)
nothing_left b [] e = rw e refl
nothing_left b (c ∷ u) e = rw e (sym (ne_eqb (length (c ∷ u)) 0 (λ none. absurd (omega (arith, none)))))

-- ---- The first place serves.

-- Any text behind any text is any text.
any_twice : (rest : List ℕ → Bool) (t : List ℕ) → after_any (after_any rest) t ≡ true
    → after_any rest t ≡ true
any_twice rest [] h = h
any_twice rest (b ∷ t) h = elim (or_cases (after_any rest (b ∷ t)) _ h) [
  | inl now ↦ now
  | inr later ↦
      let parts = and_parts (not (b == 10)) _ later in
      or_right (rest (b ∷ t)) _ (and_from _ _ parts.0 (any_twice rest t parts.1))
]

-- A byte behind any text, if it is no line feed, is a part of that text.
byte_skipped : (c : ℕ) (ps : List WildcardPiece) (t : List ℕ) → not (c == 10) ≡ true
    → after_any (matches (Byte c ∷ ps)) t ≡ true → after_any (matches ps) t ≡ true
byte_skipped c ps [] other h = absurd (cc)
byte_skipped c ps (b ∷ t) other h = elim (or_cases (c == b && matches ps t) _ h) [
  | inl now ↦
      let parts = and_parts (c == b) _ now in
      let same : not (b == 10) ≡ true = ap (λ n. not (n == 10)) (sym (eqb-true c b parts.0)) ∙ other in
      or_right (matches ps (b ∷ t)) _ (and_from _ _ same (any_here (matches ps) t parts.1))
  | inr later ↦
      let parts = and_parts (not (b == 10)) _ later in
      or_right (matches ps (b ∷ t)) _ (and_from _ _ parts.0 (byte_skipped c ps t other parts.1))
]

first_serves : (plain : List ℕ) (ps : List WildcardPiece) (t : List ℕ)
    → after_any (matches (map Byte plain ++ AnyText ∷ ps)) (plain ++ t) ≡ true
    → after_any (matches ps) t ≡ true
first_serves [] ps t h = any_twice (matches ps) t h
first_serves (c ∷ plain) ps t h =
    let qs = map Byte plain ++ AnyText ∷ ps in
    elim (or_cases (matches (Byte c ∷ qs) (c ∷ (plain ++ t))) _ h) [
      | inl now ↦ sym (same_front (c ∷ plain) (AnyText ∷ ps) t) ∙ now
      | inr later ↦
          let parts = and_parts (not (c == 10)) _ later in
          first_serves plain ps t (byte_skipped c qs (plain ++ t) parts.0 parts.1)
    ]

pub any_front : (ps qs : List WildcardPiece) (text rest plain : List ℕ) → text ≡ plain ++ rest
    → ps ≡ map Byte plain ++ AnyText ∷ qs → after_any (matches ps) text ≡ after_any (matches qs) rest
any_front ps qs text rest plain bytes pieces =
    let all = map Byte plain ++ AnyText ∷ qs in
    ap₂ (λ rs t. after_any (matches rs) t) pieces bytes
    ∙ same_from_decides _ _ (
      first_serves plain qs rest,
      λ e. any_here (matches all) (plain ++ rest) (same_front plain (AnyText ∷ qs) rest ∙ e),
    ) (λ e. e, λ e. e)
