-- Escaped indices and quotes of a matcher text, from one index to the next.
use Rattle.std.proofs.Common.{◌≡◌, refl, inl, inr, ℕ, ◌+◌, ◌-◌, ◌<◌, ◌≤◌, ◌%◌, List, length, get_or, Bool, true, false, not, ◌&&◌, cond, arith, add-one, add-zero, zero-add, add_comm}
use Rattle.std.specs.Prelude.{◌==◌}
use Rattle.std.specs.List.{range_with_len}
use Rattle.std.proofs.lemmas.List.Sums.{suffix_len-take_yes, suffix_len-take_no, position_or_len_is, prefix_len-le-length, fails_before_first, passes_at_first}
use Rattle.std.proofs.lemmas.List.FromFn.{length-range_with_len, get_or-range_with_len}
use Rattle.std.proofs.lemmas.Bool.{cases_Bool}
use Rattle.std.proofs.lemmas.Bool.Decides.{nat_tests}
use Rattle.am_labels.specs.MatcherText.{is_escaped, is_quote, quotes_before, is_quoted}
use Rattle.am_labels.specs.MatcherReading.{first_quote}

-- The next number is odd exactly if this one is not.
pub odd_next : (n : ℕ) → ((1 + n) % 2 == 1) ≡ not (n % 2 == 1)
odd_next n = grind (arith, nat_tests)

pub escaped_next : (text : List ℕ) (i : ℕ) → i < length text → is_escaped text (i + 1) ≡ (get_or text i 0 == 92 && not (is_escaped text i))
escaped_next text i l =
    let back : (i + 1) - 1 ≡ i = omega arith in
    elim (cases_Bool (get_or text i 0 == 92)) [
      | inl e ↦
          let s = suffix_len-take_yes (λ c. c == 92) text (i + 1) 0 (omega arith) (omega arith) (rw back e) in
          let t = rw back at s in
          rw (t, e) (odd_next _)
      | inr e ↦
          let s = suffix_len-take_no (λ c. c == 92) text (i + 1) 0 (omega arith) (omega arith) (rw back e) in
          rw (s, e) refl
    ]

odd_more : (n : ℕ) (b : Bool) → ((n + cond b 1 0) % 2 == 1) ≡ cond b (not (n % 2 == 1)) (n % 2 == 1)
odd_more n true = rw (add_comm n 1) (odd_next n)
odd_more n false = rw (add-zero n) refl

pub quoted_next : (text : List ℕ) (i : ℕ) → is_quoted text (i + 1) ≡ cond (is_quote text i) (not (is_quoted text i)) (is_quoted text i)
quoted_next text i = rw (add-one i) (odd_more (quotes_before text i) (is_quote text i))

pub first_quote_is : (text : List ℕ) (i : ℕ) → i ≤ length text → ((k : ℕ) → k < i → is_quote text k ≡ false) → (i < length text → is_quote text i ≡ true) → first_quote text ≡ i
first_quote_is text i l before here =
    let n = length-range_with_len 0 (length text) in
    position_or_len_is (is_quote text) (range_with_len 0 (length text)) i 0 (omega arith)
    (λ k h. rw (get_or-range_with_len 0 (length text) k 0 (omega arith), zero-add k) (before k h))
    (λ h. rw (get_or-range_with_len 0 (length text) i 0 (omega arith), zero-add i) (here (omega arith)))

pub first_quote-le : (text : List ℕ) → first_quote text ≤ length text
first_quote-le text = omega (arith, prefix_len-le-length (λ i. not (is_quote text i)) (range_with_len 0 (length text)), length-range_with_len 0 (length text))

pub first_quote_before : (text : List ℕ) (k : ℕ) → k < first_quote text → is_quote text k ≡ false
first_quote_before text k l =
    let at = get_or-range_with_len 0 (length text) k 0 (omega (arith, first_quote-le text)) in
    let fails = fails_before_first (is_quote text) (range_with_len 0 (length text)) k 0 l in
    rw (at, zero-add k) at fails

pub first_quote_found : (text : List ℕ) → first_quote text < length text → is_quote text (first_quote text) ≡ true
first_quote_found text l =
    let at = get_or-range_with_len 0 (length text) (first_quote text) 0 l in
    let passes = passes_at_first (is_quote text) (range_with_len 0 (length text)) 0
    (omega (arith, l, length-range_with_len 0 (length text))) in
    rw (at, zero-add (first_quote text)) at passes
