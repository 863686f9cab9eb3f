-- Positions in decimal, and positions joined by full stops.
use Rattle.std.proofs.Common.{◌≡◌, ℕ, zero, suc, ◌+◌, ◌<◌, ◌^◌, false, List, [], ◌∷◌, ◌++◌, length, map, take, drop, get_or, Result, Ok, Err, refl, sym, ap, ◌∙◌, arith, append_assoc, append-nil, add-one}
use Rattle.std.specs.Prelude.{◌==◌}
use Rattle.std.specs.List.{AllByRecursion, slice_split, join_with_byte, flat_map, All}
use Rattle.std.specs.Fmt.{decimal}
use Rattle.std.specs.Result.{OkIff}
use Rattle.std.specs.Str.Parse.{AllDigits, digits_value, ParsesUnsigned}
use Rattle.std.proofs.lemmas.Fmt.{decimal_is_IsNumeral}
use Rattle.std.proofs.lemmas.Str.Parse.{digit_from_value, parse_digits, numerals_by_value}
use Rattle.std.proofs.lemmas.List.{take_more, drop_more, take-append-drop}
use Rattle.std.proofs.lemmas.List.Splits.{slice_split_none, slice_split_at}
use Rattle.std.proofs.lemmas.Grind.{flat_map-append, common_steps}
use borrow.Author.Tests.{ne_eqb}

-- ---- One number.

pub decimal-injective : (m n : ℕ) → m < 2 ^ 64 → n < 2 ^ 64 → decimal m ≡ decimal n → m ≡ n
decimal-injective m n h k same =
    sym (decimal_is_IsNumeral m h).1 ∙ ap (digits_value 10) same ∙ (decimal_is_IsNumeral n k).1

parse_gives : {E : Type 0} (k n : ℕ) (r : Result ℕ E) → n < 2 ^ 64 → ParsesUnsigned k 10 (decimal n) r
    → OkIff r ((0 < length (decimal n)) × (n < 2 ^ k)) n
parse_gives k n r small h = grind (arith, common_steps, decimal_is_IsNumeral, parse_digits, numerals_by_value)

pub parsed : {E : Type 0} (k n p : ℕ) (r : Result ℕ E) → n < 2 ^ 64 → ParsesUnsigned k 10 (decimal n) r
    → r ≡ Ok p → p ≡ n
parsed k n p r small h is = (rw is at (parse_gives k n r small h)).1

pub not_parsed : {E : Type 0} (k n : ℕ) (e : E) (r : Result ℕ E) → n < 2 ^ 64 → n < 2 ^ k
    → ParsesUnsigned k 10 (decimal n) r → r ≡ Err e → ⊥
not_parsed k n e r small fits h is = grind (arith, common_steps, parse_gives, decimal_is_IsNumeral)

-- ---- Numbers joined by full stops.

abbrev pub AreSmall : List ℕ → Type 0
AreSmall = AllByRecursion (λ p. p < 2 ^ 64)

abbrev pub pieces_of : List ℕ → List (List ℕ)
pieces_of text = slice_split (λ b. b == 46) text

no_stop_among : (text : List ℕ) → AllDigits 10 text → All (λ c. (c == 46) ≡ false) text
no_stop_among [] h k d within = absurd (omega arith)
no_stop_among (c ∷ cs) h zero d within = ne_eqb c 46 (λ e. omega (arith, digit_from_value c h.0))
no_stop_among (c ∷ cs) h (suc k) d within = no_stop_among cs h.1 k d (omega arith)

no_stop : (n : ℕ) → n < 2 ^ 64 → All (λ c. (c == 46) ≡ false) (decimal n)
no_stop n small = no_stop_among (decimal n) (decimal_is_IsNumeral n small).0.1

-- the pieces between the full stops are the numbers
pub pieces_of_joined : (p : ℕ) (ps : List ℕ) → AreSmall (p ∷ ps) → pieces_of (join_with_byte 46 (map decimal (p ∷ ps))) ≡ map decimal (p ∷ ps)
pieces_of_joined p [] small = slice_split_none (λ b. b == 46) (decimal p) (no_stop p small.0)
pieces_of_joined p (q ∷ qs) small = grind (arith, common_steps, slice_split_at, no_stop, pieces_of_joined q qs)

pub decimals-injective : (c d : List ℕ) → AreSmall c → AreSmall d → map decimal c ≡ map decimal d → c ≡ d
decimals-injective [] [] h k same = refl
decimals-injective (p ∷ c) (q ∷ d) h k same = grind (arith, common_steps, decimal-injective, decimals-injective c d)
decimals-injective c d h k same = absurd (omega (arith, ap length same))

some_digits : (p : ℕ) (ps : List ℕ) → AreSmall (p ∷ ps) → 0 < length (join_with_byte 46 (map decimal (p ∷ ps)))
some_digits p [] small = (decimal_is_IsNumeral p small.0).0.0
some_digits p (q ∷ qs) small = grind (arith, Rattle.std.proofs.lemmas.Grind.common_steps)

pub joined-injective : (c d : List ℕ) → AreSmall c → AreSmall d → join_with_byte 46 (map decimal c) ≡ join_with_byte 46 (map decimal d) → c ≡ d
joined-injective [] [] h k same = refl
joined-injective [] (q ∷ d) h k same = absurd (omega (arith, ap length same, some_digits q d k))
joined-injective (p ∷ c) [] h k same = absurd (omega (arith, ap length same, some_digits p c h))
joined-injective (p ∷ c) (q ∷ d) h k same =
    decimals-injective (p ∷ c) (q ∷ d) h k (sym (pieces_of_joined p c h) ∙ ap pieces_of same ∙ pieces_of_joined q d k)

-- ---- Written number by number.

abbrev pub joined : List ℕ → List ℕ
joined c = join_with_byte 46 (map decimal c)

-- the separator between a number and those before it
abbrev pub separator : List ℕ → List ℕ
separator [] = []
separator (p ∷ ps) = 46 ∷ []

-- the numbers that follow another, each after a full stop
abbrev following : List ℕ → List ℕ
following = flat_map (λ p. 46 ∷ decimal p)

joined-cons : (p : ℕ) (ps : List ℕ) → joined (p ∷ ps) ≡ decimal p ++ following ps
joined-cons p [] = sym (append-nil (decimal p))
joined-cons p (q ∷ qs) = ap (λ t. decimal p ++ (46 ∷ t)) (joined-cons q qs)

joined_among : (ps : List ℕ) (p : ℕ) (qs : List ℕ) → joined (ps ++ p ∷ qs) ≡ joined ps ++ ((separator ps ++ decimal p) ++ following qs)
joined_among [] p qs = joined-cons p qs
joined_among (o ∷ ps) p qs = grind (arith, common_steps, joined-cons, flat_map-append, append_assoc)

split_at : (c : List ℕ) (i p : ℕ) → i < length c → p ≡ get_or c i 0 → c ≡ take i c ++ p ∷ drop (i + 1) c
split_at c i p h is = grind (arith, common_steps, take-append-drop, drop_more)

-- the number at `i` stands between those before it and those after it
pub joined_through : (c : List ℕ) (i p : ℕ) (s : List ℕ) → i < length c → p ≡ get_or c i 0 → s ≡ separator (take i c)
    → joined (take i c) ++ ((s ++ decimal p) ++ following (drop (i + 1) c)) ≡ joined c
joined_through c i p s h is same =
    ap (λ t. joined (take i c) ++ ((t ++ decimal p) ++ following (drop (i + 1) c))) same
    ∙ sym (joined_among (take i c) p (drop (i + 1) c)) ∙ ap joined (sym (split_at c i p h is))

pub joined_more : (c : List ℕ) (i p : ℕ) (s : List ℕ) → i < length c → p ≡ get_or c i 0 → s ≡ separator (take i c)
    → joined (take i c) ++ (s ++ decimal p) ≡ joined (take (i + 1) c)
joined_more c i p s h is same = grind (arith, common_steps, append-nil, joined_among, take_more)

pub separator_more : (c : List ℕ) (i : ℕ) → i < length c → 46 ∷ [] ≡ separator (take (i + 1) c)
separator_more [] i h = absurd (omega arith)
separator_more (p ∷ c) i h = rw add-one refl
