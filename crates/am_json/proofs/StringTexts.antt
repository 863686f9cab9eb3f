-- The text of a JSON string is UTF-8, if the bytes that are read are.
use Rattle.std.proofs.Common.{◌≡◌, ℕ, ◌<◌, true, false, ◌&&◌, ◌==◌, nat_lt, length, List}
use Rattle.std.proofs.Common.{[], ◌∷◌, ◌++◌, Option, Some, None, option_and_then, IsUtf8, refl, sym}
use Rattle.std.proofs.Common.{ap, subst, arith, append_assoc, ltb-true}
use Rattle.std.specs.Prelude.{IfSome}
use Rattle.std.specs.Char.{digit_value, is_digit, encode_utf8}
use Rattle.std.proofs.lemmas.Bool.{and_parts, cond_both, eqb-true}
use Rattle.std.proofs.lemmas.Bool.Decides.{nat_tests}
use Rattle.std.proofs.lemmas.List.{append-nil, length-append}
use Rattle.std.proofs.lemmas.Str.{IsUtf8-append, IsUtf8-nil, IsUtf8-encode, IsUtf8-take, IsUtf8-drop}
use Rattle.std.proofs.lemmas.Str.{IsUtf8-past_char, encode_ascii, IsCharBoundary-before_ascii}
use lib.Seq.{get_or_at, take_at, drop_at}
use lib.Utf8.{scalar, low_scalar}
use Rattle.json.specs.Text.{code_unit, short_escape, is_high_surrogate, is_low_surrogate}
use Rattle.json.specs.Text.{surrogate_pair, Within, plain, after_backslash, after_u, after_high}
use Rattle.json.specs.Text.{prepend, content}

-- ---- An ASCII byte in a text.

-- what is in front of it is a text, and so is what follows it
pub beside_ascii : (front : List ℕ) (x : ℕ) (xs : List ℕ) → x < 128 → IsUtf8 (front ++ x ∷ xs)
    → IsUtf8 front × IsUtf8 xs
beside_ascii front x xs small u =
    let bs = front ++ x ∷ xs in
    let i = length front in
    let within : i < length bs = omega (arith, length-append front (x ∷ xs)) in
    let at = IsCharBoundary-before_ascii bs i within (omega (arith, get_or_at front x xs 0 i refl)) in (
      subst IsUtf8 (take_at front (x ∷ xs) i refl) (IsUtf8-take bs i u at),
      IsUtf8-past_char (x ∷ xs) xs x
          (subst IsUtf8 (drop_at front (x ∷ xs) i refl) (IsUtf8-drop bs i u at))
          (ap (λ c. c ++ xs) (sym (encode_ascii x small))),
    )

-- and an ASCII byte in front of a text makes a text
pub ascii_then : (x : ℕ) (xs : List ℕ) → x < 128 → IsUtf8 xs → IsUtf8 (x ∷ xs)
ascii_then x xs small u =
    IsUtf8-append (x ∷ []) xs
    (subst IsUtf8 (encode_ascii x small) (IsUtf8-encode x (low_scalar x (omega arith)))) u

-- ---- Escapes.

short_is_ascii : (x : ℕ) → IfSome (short_escape x) (λ c. (x < 128) × (c < 128))
unfolding short_escape
short_is_ascii x = grind (arith, nat_tests)

digit_is_ascii : (a : ℕ) → is_digit a 16 ≡ true → a < 128
digit_is_ascii a e = grind (arith, nat_tests)

unit_is_small : (a b c d : ℕ) → IfSome (code_unit a b c d) (λ u. (d < 128) × (u < 65536))
unfolding code_unit
unit_is_small a b c d =
    cond_both (is_digit a 16 && is_digit b 16 && is_digit c 16 && is_digit d 16) _ None
    (λ o. IfSome o (λ u. (d < 128) × (u < 65536)))
    (λ digits.
    let three = and_parts (is_digit a 16 && is_digit b 16 && is_digit c 16) _ digits in
    let two = and_parts (is_digit a 16 && is_digit b 16) _ three.0 in
    let one = and_parts (is_digit a 16) _ two.0 in (
      digit_is_ascii d three.1,
      omega (
        arith,
        ltb-true (digit_value a) 16 one.0,
        ltb-true (digit_value b) 16 one.1,
        ltb-true (digit_value c) 16 two.1,
        ltb-true (digit_value d) 16 three.1,
      ),
    ))
    (λ _. tt)

unit_is_scalar : (u : ℕ) → u < 65536 → is_high_surrogate u ≡ false → is_low_surrogate u ≡ false
    → scalar u ≡ true
unit_is_scalar u h high low = grind (arith, nat_tests)

pair_is_scalar : (h l : ℕ) → is_high_surrogate h ≡ true → is_low_surrogate l ≡ true
    → scalar (surrogate_pair h l) ≡ true
pair_is_scalar h l high low = grind (arith, nat_tests)

-- ---- The content of a string.

-- what is given, if anything is, makes a text behind these bytes
abbrev pub GivesText : List ℕ → Option (List ℕ) → Type 0
GivesText front o = IfSome o (λ s. IsUtf8 (front ++ s))

pub then_given : {A B : Type 0} (P : A → Type 0) (Q : B → Type 0) (f : A → Option B) (o : Option A)
    → IfSome o P → ((a : A) → P a → IfSome (f a) Q) → IfSome (option_and_then f o) Q
then_given P Q f None h k = tt
then_given P Q f (Some a) h k = k a h

prepended : (front text : List ℕ) (o : Option (List ℕ)) → GivesText (front ++ text) o
    → GivesText front (prepend text o)
prepended front text None h = tt
prepended front text (Some s) h = subst IsUtf8 (append_assoc front text s) h

behind : (front : List ℕ) (o : Option (List ℕ)) → IsUtf8 front → GivesText [] o → GivesText front o
behind front None u h = tt
behind front (Some s) u h = IsUtf8-append front s u h

-- by the mode in which bytes are read; plain bytes may stand in the middle of a character
abbrev IsRead : Within → List ℕ → Type 0
IsRead plain xs = (front : List ℕ) → IsUtf8 (front ++ xs) → GivesText front (content plain xs)
IsRead after_backslash xs = IsUtf8 xs → GivesText [] (content after_backslash xs)
IsRead after_u xs = IsUtf8 xs → GivesText [] (content after_u xs)
IsRead (after_high h) xs =
    is_high_surrogate h ≡ true → IsUtf8 xs → GivesText [] (content (after_high h) xs)

-- a text of its own in front of plain bytes
text_then : (text xs : List ℕ) → IsUtf8 text → IsUtf8 xs → IsRead plain xs
    → GivesText [] (prepend text (content plain xs))
text_then text xs first u plainly =
    prepended [] text (content plain xs) (behind text (content plain xs) first (plainly [] u))

content_read : (w : Within) (xs : List ℕ) → IsRead w xs
unfolding content
content_read plain [] = λ front u. tt
content_read plain (x ∷ xs) = λ front u.
    cond_both (x == 34) _ _ (GivesText front)
    (λ ends. subst IsUtf8 (sym (append-nil front))
    (beside_ascii front x xs (omega (arith, eqb-true x 34 ends)) u).0)
    (λ _. cond_both (x == 92) _ _ (GivesText front)
    (λ escape.
    let beside = beside_ascii front x xs (omega (arith, eqb-true x 92 escape)) u in
    behind front (content after_backslash xs) beside.0 (content_read after_backslash xs beside.1))
    (λ _. cond_both (nat_lt x 32) None _ (GivesText front) (λ _. tt)
    (λ _. prepended front (x ∷ []) (content plain xs) (content_read plain xs (front ++ x ∷ [])
    (subst IsUtf8 (sym (append_assoc front (x ∷ []) xs)) u)))))
content_read after_backslash [] = λ u. tt
content_read after_backslash (x ∷ xs) = λ u.
    cond_both (x == 117) _ _ (GivesText [])
    (λ unit.
    content_read after_u xs (beside_ascii [] x xs (omega (arith, eqb-true x 117 unit)) u).1)
    (λ _. then_given (λ c. (x < 128) × (c < 128)) _ _ (short_escape x) (short_is_ascii x) (λ c small.
    text_then (c ∷ []) xs (ascii_then c [] small.1 IsUtf8-nil) (beside_ascii [] x xs small.0 u).1
    (content_read plain xs)))
content_read after_u (a ∷ b ∷ c ∷ d ∷ xs) = λ u.
    then_given (λ n. (d < 128) × (n < 65536)) _ _ (code_unit a b c d) (unit_is_small a b c d)
    (λ n small.
    let rest = (beside_ascii (a ∷ b ∷ c ∷ []) d xs small.0 u).1 in
    cond_both (is_high_surrogate n) _ _ (GivesText [])
    (λ high. content_read (after_high n) xs high rest)
    (λ not_high. cond_both (is_low_surrogate n) None _ (GivesText []) (λ _. tt)
    (λ not_low. text_then (encode_utf8 n) xs
    (IsUtf8-encode n (unit_is_scalar n small.1 not_high not_low)) rest (content_read plain xs))))
content_read after_u xs = λ u. tt
content_read (after_high h) (x ∷ y ∷ a ∷ b ∷ c ∷ d ∷ xs) = λ high u.
    cond_both ((x == 92) && (y == 117)) _ None (GivesText [])
    (λ _. then_given (λ n. (d < 128) × (n < 65536)) _ _ (code_unit a b c d) (unit_is_small a b c d)
    (λ n small. cond_both (is_low_surrogate n) _ None (GivesText [])
    (λ low. text_then (encode_utf8 (surrogate_pair h n)) xs
    (IsUtf8-encode (surrogate_pair h n) (pair_is_scalar h n high low))
    (beside_ascii (x ∷ y ∷ a ∷ b ∷ c ∷ []) d xs small.0 u).1 (content_read plain xs))
    (λ _. tt)))
    (λ _. tt)
content_read (after_high h) xs = λ high u. tt

pub content_is_text : (xs : List ℕ) → IsUtf8 xs → GivesText [] (content plain xs)
content_is_text xs u = content_read plain xs [] u
