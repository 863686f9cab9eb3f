-- The text of a path, step by step.
use Rattle.std.proofs.Common.{◌≡◌, ℕ, ◌<◌, List, [], ◌∷◌, ◌++◌, length}
use Rattle.std.proofs.Common.{drop, zero, suc, length-append}
use Rattle.std.proofs.Common.{map, true, false, refl, sym, ap, ap₂, ◌∙◌, arith, append-nil}
use Rattle.std.specs.Prelude.{◌==◌}
use Rattle.std.specs.List.{flat_map, slice_split, join_with_byte, list_all, All}
use Rattle.std.specs.Str.Parse.{AllDigits, digits_value}
use Rattle.std.proofs.lemmas.Bool.{and_parts, and_from}
use Rattle.std.proofs.lemmas.List.Splits.{slice_split_none, slice_split_at, length-slice_split}
use Rattle.std.proofs.lemmas.List.Splits.{join_with_byte-slice_split}
use Rattle.std.proofs.lemmas.Str.Parse.{digit_from_value}
use Rattle.std.specs.Cmp.Lexicographic.{bytes_decides}
use borrow.Author.Tests.{ne_eqb}
use Rattle.am_config.specs.Path.{path_text, step_text, numeral}
use Rattle.am_config.proofs.Numerals.{IsNumeral-numeral, digits_value-numeral, reads_back}
use Rattle.am_config.proofs.Numerals.{is_numeral}

-- the text of a path that has a position
pub path_text-steps : (path : List ℕ) → 0 < length path → path_text path ≡ flat_map step_text path
path_text-steps [] some = absurd (omega arith)
path_text-steps (p ∷ ps) some = refl

-- ---- The steps of a path are the texts between its slashes.

abbrev pub pieces_of : List ℕ → List (List ℕ)
pieces_of text = slice_split (λ b. b == 47) text

no_slash_among : (text : List ℕ) → AllDigits 10 text → All (λ c. (c == 47) ≡ false) text
no_slash_among [] h k d within = absurd (omega arith)
no_slash_among (c ∷ cs) h zero d within =
    ne_eqb c 47 (λ e. omega (arith, digit_from_value c h.0))
no_slash_among (c ∷ cs) h (suc k) d within = no_slash_among cs h.1 k d (omega arith)

no_slash : (n : ℕ) → All (λ c. (c == 47) ≡ false) (numeral n)
no_slash n = no_slash_among (numeral n) (IsNumeral-numeral n).digits

pieces_behind : (p : ℕ) (ps : List ℕ)
    → pieces_of (numeral p ++ flat_map step_text ps) ≡ numeral p ∷ map numeral ps
pieces_behind p [] =
    ap pieces_of (append-nil (numeral p)) ∙ slice_split_none (λ b. b == 47) (numeral p) (no_slash p)
pieces_behind p (q ∷ qs) =
    slice_split_at (λ b. b == 47) (numeral p) 47 (numeral q ++ flat_map step_text qs) (no_slash p)
    refl ∙ ap (λ ts. numeral p ∷ ts) (pieces_behind q qs)

pub pieces_of_path : (path text : List ℕ) → 0 < length path → path_text path ≡ 47 ∷ text
    → pieces_of text ≡ map numeral path
pieces_of_path [] text some e = absurd (omega arith)
pieces_of_path (p ∷ ps) text some e =
    ap (λ t. pieces_of (drop 1 t)) (sym e) ∙ pieces_behind p ps

joined_behind : (p : ℕ) (ps : List ℕ)
    → numeral p ++ flat_map step_text ps ≡ join_with_byte 47 (numeral p ∷ map numeral ps)
joined_behind p [] = append-nil (numeral p)
joined_behind p (q ∷ qs) = ap (λ t. numeral p ++ (47 ∷ t)) (joined_behind q qs)

-- a path whose positions are the pieces of a text has this text, with a slash in front
pub path_of_pieces : (path text : List ℕ) → pieces_of text ≡ map numeral path
    → path_text path ≡ 47 ∷ text
path_of_pieces [] text e =
    absurd (omega (arith, ap length e, length-slice_split (λ b. b == 47) text))
path_of_pieces (p ∷ ps) text e =
    ap (λ t. 47 ∷ t) (joined_behind p ps ∙ ap (join_with_byte 47) (sym e)
    ∙ join_with_byte-slice_split 47 text)

-- ---- The positions that pieces say.

abbrev pub positions_of : List (List ℕ) → List ℕ
positions_of = map (digits_value 10)

pub positions_back : (path : List ℕ) → positions_of (map numeral path) ≡ path
positions_back [] = refl
positions_back (p ∷ ps) = ap₂ (λ q qs. q ∷ qs) (digits_value-numeral p) (positions_back ps)

pub all_read_back : (path : List ℕ) → list_all reads_back (map numeral path) ≡ true
all_read_back [] = refl
all_read_back (p ∷ ps) =
    and_from (reads_back (numeral p)) (list_all reads_back (map numeral ps))
    (sym (is_numeral (numeral p) (IsNumeral-numeral p))) (all_read_back ps)

pub read_back : (pieces : List (List ℕ)) → list_all reads_back pieces ≡ true
    → pieces ≡ map numeral (positions_of pieces)
read_back [] h = refl
read_back (t ∷ ts) h =
    let p = and_parts (reads_back t) (list_all reads_back ts) h in
    ap₂ (λ a b. a ∷ b) (sym ((bytes_decides (numeral (digits_value 10 t)) t).0 p.0))
    (read_back ts p.1)

-- ---- One path a text.

longer : (q : ℕ) (qs : List ℕ) → path_text [] ≡ path_text (q ∷ qs) → ⊥
longer q qs e =
    omega (
      arith,
      ap length e,
      length-append (numeral q) (flat_map step_text qs),
      (IsNumeral-numeral q).some,
    )

pub path_text-injective : (p q : List ℕ) → path_text p ≡ path_text q → p ≡ q
path_text-injective [] [] e = refl
path_text-injective [] (q ∷ qs) e = absurd (longer q qs e)
path_text-injective (p ∷ ps) [] e = absurd (longer p ps (sym e))
path_text-injective (p ∷ ps) (q ∷ qs) e =
    let text : List ℕ = numeral q ++ flat_map step_text qs in
    let same : map numeral (p ∷ ps) ≡ map numeral (q ∷ qs) =
    sym (pieces_of_path (p ∷ ps) text (omega arith) e) ∙ pieces_behind q qs in
    sym (positions_back (p ∷ ps)) ∙ ap positions_of same ∙ positions_back (q ∷ qs)
