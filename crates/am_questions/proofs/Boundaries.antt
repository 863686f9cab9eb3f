-- Where a text may be cut.
use Rattle.std.proofs.Common.{◌≡◌, subst, ℕ, zero, suc, ◌+◌, ◌<◌, List, length, get_or, Bool}
use Rattle.std.proofs.Common.{true, false, not, Some, arith}
use Rattle.std.specs.Prelude.{◌==◌}
use Rattle.std.specs.List.{find, prefix_len, range_with_len}
use Rattle.std.specs.Str.{IsUtf8, IsCharBoundary}
use Rattle.std.proofs.lemmas.Str.{IsCharBoundary-after_ascii}
use Rattle.std.proofs.lemmas.List.Sums.{prefix_len_stops, prefix_len-le-length}
use Rattle.std.proofs.lemmas.Bool.{and_parts, cases_Bool, eqb-true}
use Rattle.std.proofs.lemmas.Bool.Decides.{nat_tests}
use Rattle.std.proofs.lemmas.Grind.{common_steps}
use Rattle.am_labels.specs.MatcherText.{is_quoted}
use Rattle.am_labels.specs.BraceList.{brace_len, first_closing, is_closing_brace}
use Rattle.am_labels.proofs.BraceListLemmas.{opened}
use Rattle.am_questions.specs.Lexemes.{is_word_character, is_plain}

plain_stops : (c : ℕ) → is_plain c ≡ false → c < 128
plain_stops c h = grind (arith, nat_tests)

word_stops : (c : ℕ) → is_word_character c ≡ false → c < 128
word_stops c h = grind (arith, nat_tests)

-- after a run of bytes that only an ASCII byte can end
at_stop : (p : ℕ → Bool) (bs : List ℕ) (n : ℕ) → ((c : ℕ) → p c ≡ false → c < 128)
    → n ≡ prefix_len p bs → IsCharBoundary bs n
at_stop p bs n ascii e = grind (arith, common_steps, prefix_len-le-length, prefix_len_stops)

pub behind_plain : (bs : List ℕ) (n : ℕ) → n ≡ prefix_len is_plain bs → IsCharBoundary bs n
behind_plain bs n e = at_stop is_plain bs n plain_stops e

pub behind_word : (bs : List ℕ) (n : ℕ) → n ≡ prefix_len is_word_character bs → IsCharBoundary bs n
behind_word bs n e = at_stop is_word_character bs n word_stops e

found_within : (test : ℕ → Bool) (start count i : ℕ)
    → find test (range_with_len start count) ≡ Some i → (i < start + count) × (test i ≡ true)
found_within test start zero i e = absurd cc
found_within test start (suc count) i e =
    grind (arith, common_steps, cases_Bool, found_within test (start + 1) count i)

pub behind_brace : (bs : List ℕ) (n : ℕ) → IsUtf8 bs → brace_len bs ≡ Some n → IsCharBoundary bs n
behind_brace bs n u e =
    let last = (opened (get_or bs 0 0 == 123) (first_closing bs) n e).1 in
    let found = found_within (is_closing_brace bs) 0 (length bs) last.0 last.1 in
    let brace = (and_parts (get_or bs last.0 0 == 125) (not (is_quoted bs last.0)) found.1).0 in
    let at : get_or bs last.0 0 ≡ 125 = eqb-true (get_or bs last.0 0) 125 brace in
    subst (IsCharBoundary bs) last.2 (IsCharBoundary-after_ascii bs last.0 u (omega (arith, found.0)) (omega arith))
