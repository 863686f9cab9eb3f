-- Where a matcher text may be cut, and how the escapes of a body are replaced.
use Rattle.std.proofs.Common.{◌≡◌, ◌≢◌, ◌∙◌, refl, sym, ap, subst, ℕ, zero, suc, ◌<◌, ◌≤◌, List, []}
use Rattle.std.proofs.Common.{◌∷◌, ◌++◌, length, get_or, true, false, arith, add-one}
use Rattle.std.specs.Prelude.{◌==◌}
use Rattle.std.specs.List.{prefix_len}
use Rattle.std.specs.Str.{IsUtf8, IsCharBoundary}
use Rattle.std.proofs.lemmas.Str.{IsCharBoundary-start, IsCharBoundary-after_ascii}
use Rattle.std.proofs.lemmas.Str.{IsCharBoundary-before_ascii, lead_after_ascii}
use Rattle.std.proofs.lemmas.List.{append-nil, append_assoc}
use Rattle.std.proofs.lemmas.List.Sums.{prefix_len_passes, prefix_len-le-length}
use Rattle.std.proofs.lemmas.Bool.{and_parts, eqb-true, ne_eqb}
use Rattle.std.proofs.lemmas.Bool.Decides.{nat_tests}
use Rattle.am_labels.specs.MatcherReading.{first_quote}
use Rattle.am_labels.specs.MatcherText.{continues_name, has_escape, unescaped_text}
use Rattle.am_labels.proofs.MatcherTextIndices.{first_quote_found}

continues_ascii : (c : ℕ) → continues_name c ≡ true → c < 128
continues_ascii c h = grind (arith, nat_tests)

pub behind_name : (text : List ℕ) (n : ℕ) → n ≡ prefix_len continues_name text → IsUtf8 text
    → IsCharBoundary text n
behind_name text zero e u = IsCharBoundary-start text u
behind_name text (suc k) e u =
    let inside = prefix_len-le-length continues_name text in
    let small = continues_ascii _ (prefix_len_passes continues_name text k 0 (omega arith)) in
    subst (IsCharBoundary text) (add-one k)
    (IsCharBoundary-after_ascii text k u (omega arith) small)

pub at_quote : (text : List ℕ) (n : ℕ) → n ≡ first_quote text → n < length text
    → IsCharBoundary text n
at_quote text n e l =
    let found = first_quote_found text (rw (← e) l) in
    let at = eqb-true (get_or text (first_quote text) 0) 34 (and_parts _ _ found).0 in
    IsCharBoundary-before_ascii text n l (rw e (omega arith))

pub behind_first : (text : List ℕ) → IsUtf8 text → get_or text 0 0 < 128 → 1 < length text
    → 128 ≤ get_or text 1 0 → 192 ≤ get_or text 1 0
behind_first text u h = lead_after_ascii text 0 u h

pub ruleset cuts = (behind_first, behind_name, at_quote)

-- ---- Escapes.

-- Bytes that are no backslash stand for themselves.
plain : (c : ℕ) (bs : List ℕ) → (c == 92) ≡ false
    → unescaped_text (c ∷ bs) ≡ c ∷ unescaped_text bs
plain c [] h = refl
plain c (d ∷ bs) h = rw h refl

run_stands : (xs ys : List ℕ) → ((i : ℕ) → i < length xs → get_or xs i 0 ≢ 92)
    → unescaped_text (xs ++ ys) ≡ xs ++ unescaped_text ys
run_stands [] ys none = refl
run_stands (x ∷ xs) ys none =
    plain x (xs ++ ys) (ne_eqb x 92 (none 0 (omega arith)))
    ∙ ap (λ bs. x ∷ bs) (run_stands xs ys (λ i l. none (suc i) (omega arith)))

pub escaped_ascii : (d : ℕ) → has_escape d ≡ true → d < 128
escaped_ascii d h = grind (arith, nat_tests)

-- in the loop: what was read so far stands for `value`, and the rest is left
module _ (value rest all : List ℕ) (told : value ++ unescaped_text rest ≡ all) where
  pub told_on : (run behind more : List ℕ) (c : ℕ) → rest ≡ run ++ 92 ∷ behind
      → ((i : ℕ) → i < length run → get_or run i 0 ≢ 92)
      → unescaped_text (92 ∷ behind) ≡ c ∷ unescaped_text more
      → ((value ++ run) ++ c ∷ []) ++ unescaped_text more ≡ all
  told_on run behind more c is none stands =
      append_assoc (value ++ run) (c ∷ []) (unescaped_text more)
      ∙ append_assoc value run (c ∷ unescaped_text more)
      ∙ ap (λ bs. value ++ (run ++ bs)) (sym stands)
      ∙ ap (λ bs. value ++ bs) (sym (run_stands run (92 ∷ behind) none) ∙ ap unescaped_text (sym is))
      ∙ told

  pub told_all : ((i : ℕ) → i < length rest → get_or rest i 0 ≢ 92) → value ++ rest ≡ all
  told_all none =
      let whole = run_stands rest [] none in
      ap (λ bs. value ++ bs) (sym (rw append-nil at whole)) ∙ told
