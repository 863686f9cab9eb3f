-- A text in quotes is read run by run: bytes that stand for themselves, and then an escape or the
-- closing quote.
use Rattle.std.proofs.Common.{◌≡◌, refl, ◌∙◌, ap, inl, inr, ℕ, ◌+◌, ◌<◌, ◌≤◌}
use Rattle.std.proofs.Common.{List, [], ◌∷◌, ◌++◌}
use Rattle.std.proofs.Common.{length, take, drop, get_or, true, false, Option, Some, None}
use Rattle.std.proofs.Common.{option_map, arith, append_assoc, add-one, drop-cons}
use Rattle.std.proofs.lemmas.List.{append-nil, take-append-drop, drop_all}
use Rattle.std.proofs.lemmas.List.Sums.{prefix_len_stops}
use Rattle.std.specs.Prelude.{◌==◌, ◌≢◌}
use Rattle.std.specs.List.{list_all, prefix_len}
use Rattle.std.proofs.lemmas.Bool.{and_parts, cases_lt}
use Rattle.std.proofs.lemmas.Bool.Decides.{nat_tests}
use Rattle.std.proofs.lemmas.Grind.{common_steps}
use Rattle.std.proofs.lemmas.Str.{IsCharBoundary-after_ascii}
use Rattle.am_labels.specs.MatcherText.{has_escape, byte_of_escape}
use Rattle.am_labels.proofs.MatcherTextLists.{all_of_prefix}
use Rattle.am_questions.specs.Lexemes.{is_plain, begun_with, read_quoted}

-- ---- one step

pub plain_step : (c : ℕ) (text : List ℕ) → (c == 34) ≡ false → (c == 92) ≡ false
    → read_quoted (c ∷ text) ≡ begun_with c (read_quoted text)
unfolding read_quoted
plain_step c [] q b = rw q refl
plain_step c (d ∷ more) q b = rw (q, b) refl

pub quote_step : (text : List ℕ) → read_quoted (34 ∷ text) ≡ Some ([], text)
unfolding read_quoted
quote_step [] = refl
quote_step (d ∷ more) = refl

pub escape_step : (d : ℕ) (text : List ℕ) → has_escape d ≡ true
    → read_quoted (92 ∷ d ∷ text) ≡ begun_with (byte_of_escape d) (read_quoted text)
unfolding read_quoted
escape_step d text h = rw h refl

pub no_escape : (d : ℕ) (text : List ℕ) → has_escape d ≡ false → read_quoted (92 ∷ d ∷ text) ≡ None
unfolding read_quoted
no_escape d text h = rw h refl

pub read_empty : read_quoted [] ≡ None
unfolding read_quoted
read_empty = refl

pub read_backslash : read_quoted (92 ∷ []) ≡ None
unfolding read_quoted
read_backslash = refl

pub escape_ascii : (d : ℕ) → has_escape d ≡ true → byte_of_escape d < 128
escape_ascii d h = grind (arith, nat_tests)

pub escaped_ascii : (d : ℕ) → has_escape d ≡ true → d < 128
escaped_ascii d h = grind (arith, nat_tests)

-- ---- a run of bytes that stand for themselves, and what follows it

abbrev pub begun_with_run : List ℕ → Option (List ℕ × List ℕ) → Option (List ℕ × List ℕ)
begun_with_run xs read = option_map (λ p. (xs ++ p.0, p.1)) read

run_of_none : (read : Option (List ℕ × List ℕ)) → read ≡ begun_with_run [] read
run_of_none None = refl
run_of_none (Some p) = refl

run_of_two : (xs ys : List ℕ) (read : Option (List ℕ × List ℕ))
    → begun_with_run xs (begun_with_run ys read) ≡ begun_with_run (xs ++ ys) read
run_of_two xs ys None = refl
run_of_two xs ys (Some p) = rw append_assoc refl

run_and_byte : (xs : List ℕ) (c : ℕ) (read : Option (List ℕ × List ℕ))
    → begun_with_run xs (begun_with c read) ≡ begun_with_run (xs ++ c ∷ []) read
run_and_byte xs c None = refl
run_and_byte xs c (Some p) = rw append_assoc refl

run_is_read : (xs ys : List ℕ) → list_all is_plain xs ≡ true
    → read_quoted (xs ++ ys) ≡ begun_with_run xs (read_quoted ys)
run_is_read [] ys h = run_of_none (read_quoted ys)
run_is_read (x ∷ xs) ys h =
    grind (arith, common_steps, and_parts, plain_step, run_is_read xs ys)

two_of : (rest : List ℕ) (n : ℕ) → n + 1 < length rest → get_or rest n 0 ≡ 92
    → drop n rest ≡ 92 ∷ get_or rest (n + 1) 0 ∷ drop (n + 2) rest
two_of rest n l at = grind (arith, common_steps, drop-cons)

last_backslash : (rest : List ℕ) (n : ℕ) → n < length rest → length rest ≤ n + 1
    → get_or rest n 0 ≡ 92 → drop n rest ≡ 92 ∷ []
last_backslash rest n l m at = grind (arith, common_steps, drop-cons, drop_all)

-- in the loop: what was read stands for `value`, and `n` bytes of the rest for themselves
module _ (text value rest : List ℕ) (n : ℕ) (e : n ≡ prefix_len is_plain rest)
    (read : read_quoted text ≡ begun_with_run value (read_quoted rest)) where
  after_run : read_quoted text ≡ begun_with_run (value ++ take n rest) (read_quoted (drop n rest))
  after_run =
      let whole = run_is_read (take n rest) (drop n rest) (rw e (all_of_prefix is_plain rest)) in
      let whole' = rw take-append-drop at whole in
      read ∙ ap (begun_with_run value) whole'
      ∙ run_of_two value (take n rest) (read_quoted (drop n rest))

  pub quote_closes : n < length rest → get_or rest n 0 ≡ 34
      → read_quoted text ≡ Some (value ++ take n rest, drop (n + 1) rest)
  quote_closes l at =
      let here : drop n rest ≡ 34 ∷ drop (n + 1) rest =
      rw (add-one, drop-cons rest n 0, at) refl in
      after_run ∙ rw (here, quote_step (drop (n + 1) rest)) (rw append-nil refl)

  pub escape_goes_on : n + 1 < length rest → get_or rest n 0 ≡ 92
      → has_escape (get_or rest (n + 1) 0) ≡ true → read_quoted text
      ≡ begun_with_run ((value ++ take n rest) ++ byte_of_escape (get_or rest (n + 1) 0) ∷ [])
      (read_quoted (drop (n + 2) rest))
  escape_goes_on l at known =
      let d = get_or rest (n + 1) 0 in
      after_run ∙ rw (two_of rest n l at, escape_step d (drop (n + 2) rest) known)
      (run_and_byte (value ++ take n rest) (byte_of_escape d) (read_quoted (drop (n + 2) rest)))

  pub no_escape_here : n + 1 < length rest → get_or rest n 0 ≡ 92
      → has_escape (get_or rest (n + 1) 0) ≡ false → read_quoted text ≡ None
  no_escape_here l at unknown =
      after_run
      ∙ rw (two_of rest n l at, no_escape (get_or rest (n + 1) 0) (drop (n + 2) rest) unknown) refl

  pub quote_is_missing : (n < length rest → (get_or rest n 0 ≢ 34)
      × (get_or rest n 0 ≡ 92 → length rest ≤ n + 1)) → read_quoted text ≡ None
  quote_is_missing other = elim (cases_lt n (length rest)) [
    | inl l ↦
        let stops : is_plain (get_or rest n 0) ≡ false =
        rw e (prefix_len_stops is_plain rest 0 (rw (← e) l)) in
        let not_quote = (other l).0 in
        let at : get_or rest n 0 ≡ 92 = grind (arith, nat_tests) in
        after_run ∙ rw (last_backslash rest n l ((other l).1 at) at, read_backslash) refl
    | inr l ↦ after_run ∙ rw (drop_all n rest l, read_empty) refl
  ]

pub ruleset cuts = (IsCharBoundary-after_ascii, quote_closes)
