-- Numbers in decimal: which texts are numbers, and which number a text is.
use Rattle.std.proofs.Common.{◌≡◌, ℕ, zero, suc, ◌+◌, ◌*◌, ◌/◌, ◌%◌, ◌^◌, ◌<◌, ◌≤◌, List, []}
use Rattle.std.proofs.Common.{◌∷◌, ◌++◌, ◌&&◌, map, length, get_or, Bool, true, false, cond}
use Rattle.std.proofs.Common.{refl, sym, ap}
use Rattle.std.proofs.Common.{◌∙◌, subst, arith, inl, inr, Result, Ok, Err}
use Rattle.std.proofs.Common.{length-append, append_assoc, append-nil}
use Rattle.std.specs.Prelude.{codes}
use Rattle.std.specs.List.{list_all}
use Rattle.std.specs.Char.{digit_value, is_ascii_digit}
use Rattle.std.specs.Str.{all_ascii_digits}
use Rattle.std.specs.Fmt.{decimal}
use Rattle.std.specs.Int.Digits.{digits_of}
use Rattle.std.specs.Str.Parse.{AllDigits, digits_value, digits_value_after, ParsesUnsigned}
use Rattle.std.specs.Result.{OkIff}
use Rattle.std.specs.Cmp.Lexicographic.{bytes_decides}
use Rattle.std.proofs.lemmas.Fmt.{decimal-digits_of, decimal_digit, decimal_is_IsNumeral}
use Rattle.std.proofs.lemmas.Fmt.{first_decimal}
use Rattle.std.proofs.lemmas.Int.Digits.{digits_of_step, digits_push, digits_value_push}
use Rattle.std.proofs.lemmas.List.{map_push}
use Rattle.std.proofs.Math.ListN.{get_or-append}
use Rattle.std.proofs.lemmas.Str.{digit_value_digit}
use Rattle.std.proofs.lemmas.Str.Parse.{IsNumeralModel, digit_from_value, parse_digits}
use Rattle.std.proofs.lemmas.Str.Parse.{numerals_by_value, tells_all_ascii_digits, tells_digits}
use Rattle.std.proofs.lemmas.Bool.{false≢true, false_from_ne_true, cases_lt, cases_Bool}
use borrow.Author.Tests.{ne_eqb}
use Rattle.am_universe.specs.Text.{same_text}
use Rattle.am_config.specs.Path.{numeral}

-- ---- What is written of a number.

numeral-zero : numeral 0 ≡ 48 ∷ []
unfolding numeral
numeral-zero = refl

numeral-positive : (n : ℕ) → 0 < n → numeral n ≡ map (λ d. 48 + d) (digits_of 10 n)
unfolding numeral
numeral-positive n some =
    ap (λ b. cond b (codes "0") (map (λ d. 48 + d) (digits_of 10 n))) (ne_eqb n 0 (omega arith))

-- std's `decimal` writes the same for a number below 2^64, of which it writes all digits
pub numeral-decimal : (n : ℕ) → n < 2 ^ 64 → numeral n ≡ decimal n
numeral-decimal zero small = numeral-zero ∙ sym (decimal_digit 0 (omega arith))
numeral-decimal (suc n) small =
    numeral-positive (suc n) (omega arith) ∙ sym (decimal-digits_of (suc n) (omega arith) small)

pub ruleset decimal_steps = (numeral-decimal)

-- the last digit, after the others
numeral_step : (n : ℕ) → 10 ≤ n → numeral n ≡ numeral (n / 10) ++ ((48 + n % 10) ∷ [])
numeral_step n large =
    let whole = numeral-positive n (omega arith) in
    let front = numeral-positive (n / 10) (omega arith) in
    whole ∙ ap (map (λ d. 48 + d)) (digits_of_step 10 n (omega arith) (omega arith))
    ∙ map_push (λ d. 48 + d) (digits_of 10 (n / 10)) (n % 10)
    ∙ ap (λ t. t ++ ((48 + n % 10) ∷ [])) (sym front)

-- ---- Which texts are written.

-- one or more digits, without leading zeros
pub record IsNumeral (text : List ℕ) : Type 0 where
  pub some : 0 < length text
  pub digits : AllDigits 10 text
  pub lead : get_or text 0 0 ≡ 48 → length text ≡ 1

-- what the proofs need of the text of a number
record Says (n : ℕ) (text : List ℕ) : Type 0 where
  is : IsNumeral text
  positive : 0 < n → 48 < get_or text 0 0
  value : digits_value 10 text ≡ n

says_digit : (n : ℕ) → n < 10 → Says n (numeral n)
says_digit n small =
    let e : numeral n ≡ decimal n = numeral-decimal n (omega arith) in
    let one : decimal n ≡ (48 + n) ∷ [] = decimal_digit n small in
    let d = decimal_is_IsNumeral n (omega arith) in
    subst (Says n) (sym e) (record {
      is = record { some = d.0.0; digits = d.0.1; lead = λ _. ap length one };
      positive = λ some. first_decimal n some (omega arith);
      value = d.1;
    })

says_more : (n : ℕ) → 10 ≤ n → Says (n / 10) (numeral (n / 10)) → Says n (numeral n)
says_more n large h =
    let front : List ℕ = numeral (n / 10) in
    let c : ℕ = 48 + n % 10 in
    let range : n % 10 < 10 = omega arith in
    let digit = digit_value_digit c (omega arith) in
    let first : get_or (front ++ (c ∷ [])) 0 0 ≡ get_or front 0 0 =
    get_or-append front (c ∷ []) 0 0 h.is.some in
    let positive : 48 < get_or front 0 0 = h.positive (omega arith) in
    subst (Says n) (sym (numeral_step n large)) (record {
      is = record {
        some = omega (arith, length-append front (c ∷ []));
        digits = digits_push 10 front c h.is.digits (omega (arith, digit));
        lead = λ zero_first. omega (arith, first);
      };
      positive = λ _. omega (arith, first);
      value = digits_value_push 10 front c ∙ omega (arith, h.value, digit);
    })

says_up_to : (k n : ℕ) → n ≤ k → Says n (numeral n)
says_up_to zero n small = says_digit n (omega arith)
says_up_to (suc k) n small = elim (cases_lt n 10) [
  | inl less ↦ says_digit n less
  | inr large ↦ says_more n large (says_up_to k (n / 10) (omega arith))
]

pub IsNumeral-numeral : (n : ℕ) → IsNumeral (numeral n)
IsNumeral-numeral n = (says_up_to n n (omega arith)).is

pub digits_value-numeral : (n : ℕ) → digits_value 10 (numeral n) ≡ n
digits_value-numeral n = (says_up_to n n (omega arith)).value

-- ---- Each such text is what is written of its number.

more_digits : (n : ℕ) (text : List ℕ) → 0 < n → AllDigits 10 text
    → numeral (digits_value_after 10 n text) ≡ numeral n ++ text
more_digits n [] some digits = sym (append-nil (numeral n))
more_digits n (c ∷ cs) some digits =
    let m : ℕ = n * 10 + digit_value c in
    let digit = digit_value_digit c (digit_from_value c digits.0) in
    let front : m / 10 ≡ n = omega (arith, digits.0) in
    let last : 48 + m % 10 ≡ c = omega (arith, digits.0, digit) in
    more_digits m cs (omega arith) digits.1
    ∙ ap (λ t. t ++ cs) (numeral_step m (omega arith) ∙ (λ i. numeral (front i) ++ (last i ∷ [])))
    ∙ append_assoc (numeral n) (c ∷ []) cs

one_digit : (c : ℕ) → digit_value c < 10 → numeral (0 * 10 + digit_value c) ≡ c ∷ []
one_digit c small =
    let digit = digit_value_digit c (digit_from_value c small) in
    let m : ℕ = 0 * 10 + digit_value c in
    let last : 48 + m ≡ c = omega (arith, digit) in
    numeral-decimal m (omega arith) ∙ decimal_digit m (omega arith) ∙ ap (λ d. d ∷ []) last

pub numeral_read : (text : List ℕ) → IsNumeral text → numeral (digits_value 10 text) ≡ text
numeral_read [] h = absurd (omega (arith, h.some))
numeral_read (c ∷ []) h = one_digit c h.digits.0
numeral_read (c ∷ d ∷ ds) h =
    let digit = digit_value_digit c (digit_from_value c h.digits.0) in
    let not_zero : c ≡ 48 → ⊥ = λ e. omega (arith, h.lead e) in
    more_digits (0 * 10 + digit_value c) (d ∷ ds) (omega (arith, digit)) h.digits.1
    ∙ ap (λ t. t ++ (d ∷ ds)) (one_digit c h.digits.0)

-- ---- The test whether a text is a number in decimal.

abbrev pub reads_back : List ℕ → Bool
reads_back text = same_text (numeral (digits_value 10 text)) text

pub is_numeral : (text : List ℕ) → IsNumeral text → true ≡ reads_back text
is_numeral text h =
    sym ((bytes_decides (numeral (digits_value 10 text)) text).1 (numeral_read text h))

pub is_no_numeral : (text : List ℕ) → (IsNumeral text → ⊥) → false ≡ reads_back text
is_no_numeral text h =
    sym (false_from_ne_true (reads_back text) (λ yes. h (subst IsNumeral
    ((bytes_decides (numeral (digits_value 10 text)) text).0 yes)
    (IsNumeral-numeral (digits_value 10 text)))))

all_digits : (text : List ℕ) → list_all is_ascii_digit text ≡ all_ascii_digits text
all_digits [] = refl
all_digits (c ∷ cs) = ap (λ b. is_ascii_digit c && b) (all_digits cs)

-- what the test says about the digits
told : IsNumeralModel (λ text. all_ascii_digits text ≡ true) (digits_value 10)
told = numerals_by_value (λ text. all_ascii_digits text ≡ true) tells_all_ascii_digits

-- for a text that is not empty and has no leading zero, the digits alone decide
pub digits_decide : (text : List ℕ) → 0 < length text → (get_or text 0 0 ≡ 48 → length text ≡ 1)
    → list_all is_ascii_digit text ≡ reads_back text
digits_decide text some lead = elim (cases_Bool (list_all is_ascii_digit text)) [
  | inl all ↦
      let digits = told.to text (sym (all_digits text) ∙ all) in
      all ∙ is_numeral text (record { some = some; digits = digits; lead = lead })
  | inr other ↦ other
      ∙ is_no_numeral text (λ h.
      false≢true (sym other ∙ (all_digits text ∙ told.from text h.digits)))
]

-- ---- What `parse` gives of the text of a number.

parse_gives : {E : Type 0} (k n : ℕ) (r : Result ℕ E) → ParsesUnsigned k 10 (numeral n) r
    → OkIff r ((0 < length (numeral n)) × (n < 2 ^ k)) n
parse_gives k n r h =
    rw (digits_value-numeral n) at
    (parse_digits (numerals_by_value _ tells_digits) k (numeral n) r h
    (IsNumeral-numeral n).digits)

pub parsed : {E : Type 0} (k n p : ℕ) (r : Result ℕ E) → ParsesUnsigned k 10 (numeral n) r
    → r ≡ Ok p → p ≡ n
parsed k n p r h is = (rw is at (parse_gives k n r h)).1

pub not_parsed : {E : Type 0} (k n : ℕ) (e : E) (r : Result ℕ E)
    → ParsesUnsigned k 10 (numeral n) r → r ≡ Err e → 2 ^ k ≤ n
not_parsed k n e r h is = elim (cases_lt n (2 ^ k)) [
  | inl small ↦ absurd ((rw is at (parse_gives k n r h)) ((IsNumeral-numeral n).some, small))
  | inr large ↦ large
]
