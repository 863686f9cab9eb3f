-- The body that is read from a raw value is the body that it has, and it has no other.
use Rattle.std.proofs.Common.{◌≡◌, refl, sym, ◌∙◌, ap, subst, inl, inr, ℕ, ◌+◌, ◌-◌, ◌<◌, ◌≤◌, List, [], ◌∷◌, ◌++◌, length, take, drop, get_or, Bool, true, false, not, arith, add-one, reverse, Some, None}
use Rattle.std.specs.Prelude.{◌==◌}
use Rattle.std.specs.List.{prefix_len}
use Rattle.std.proofs.lemmas.List.{length-append, reverse-append, take-append-le, take_at, take_all, take_more, get_or_append_left, get_or_at}
use Rattle.std.proofs.lemmas.Bool.{and_parts, cases_Bool, eqb-true, eq-eqb, ne_eqb, not-true, false_from_ne_true}
use Rattle.std.proofs.lemmas.Option.{cond_some}
use Rattle.am_labels.specs.MatcherText.{is_escaped, is_quote, HasBody}
use Rattle.am_labels.specs.MatcherReading.{first_quote, read_body}
use Rattle.am_labels.proofs.MatcherTextLists.{one_byte}
use Rattle.am_labels.proofs.MatcherTextIndices.{first_quote_is, first_quote_before, first_quote_found}

-- ---- Indices of a part

pub escaped_front : (xs ys : List ℕ) (i : ℕ) → i ≤ length xs → is_escaped (xs ++ ys) i ≡ is_escaped xs i
escaped_front xs ys i l = rw (take-append-le i xs ys l) refl

pub quote_front : (xs ys : List ℕ) (i : ℕ) → i < length xs → is_quote (xs ++ ys) i ≡ is_quote xs i
quote_front xs ys i l = rw (get_or_append_left xs ys 0 i l, escaped_front xs ys i (omega arith)) refl

prefix_before : (p : ℕ → Bool) (xs : List ℕ) (y : ℕ) → p y ≡ false → prefix_len p (xs ++ y ∷ []) ≡ prefix_len p xs
prefix_before p [] y e = rw e refl
prefix_before p (x ∷ xs) y e = rw (prefix_before p xs y e) refl

-- A quote in front of a text does not change which of its indices are escaped.
pub escaped_behind : (xs : List ℕ) (i : ℕ) → is_escaped (34 ∷ xs) (i + 1) ≡ is_escaped xs i
escaped_behind xs i =
    rw (add-one i, reverse-append (34 ∷ []) (take i xs), prefix_before (λ c. c == 92) (reverse (take i xs)) 34 refl) refl

-- ---- reading

-- The body of a raw value, without a quote that is not escaped.
abbrev pub IsBody : List ℕ → List ℕ → Type 0
IsBody raw body = HasBody raw body × ((i : ℕ) → i < length body → is_quote body i ≡ false)

quoted_end : (body : List ℕ) → ((i : ℕ) → i < length body → is_quote body i ≡ false) → is_escaped body (length body) ≡ false → first_quote (body ++ 34 ∷ []) ≡ length body
quoted_end body none free =
    first_quote_is (body ++ 34 ∷ []) (length body) (omega (arith, length-append body (34 ∷ [])))
    (λ k l. quote_front body (34 ∷ []) k l ∙ none k l)
    (λ l. rw (get_or_at body 34 [] 0 (length body) refl, escaped_front body (34 ∷ []) (length body) (omega arith), free) refl)

read_quoted : (body : List ℕ) → ((i : ℕ) → i < length body → is_quote body i ≡ false) → is_escaped body (length body) ≡ false → read_body (34 ∷ (body ++ 34 ∷ [])) ≡ Some body
unfolding read_body
read_quoted body none free =
    let n = length-append body (34 ∷ []) in
    let back : length (body ++ 34 ∷ []) - 1 ≡ length body = omega arith in
    rw (quoted_end body none free, eq-eqb (length body + 1) (length (body ++ 34 ∷ [])) (omega arith), back) (ap Some (take_at body (34 ∷ []) (length body) refl))

read_plain : (raw : List ℕ) → (get_or raw 0 0 == 34) ≡ false → ((i : ℕ) → i < length raw → is_quote raw i ≡ false) → read_body raw ≡ Some raw
unfolding read_body
read_plain raw first none =
    let all : (first_quote raw == length raw) ≡ true =
    eq-eqb (first_quote raw) (length raw) (first_quote_is raw (length raw) (omega arith) none (λ l. absurd (omega arith))) in
    rw (first, all) refl

pub body_is_read : (raw body : List ℕ) → IsBody raw body → read_body raw ≡ Some body
body_is_read raw body (inl quoted, none) =
    let free : is_escaped body (length body) ≡ false =
    sym (escaped_front body (34 ∷ []) (length body) (omega arith)) ∙ (sym (escaped_behind (body ++ 34 ∷ []) (length body)) ∙ rw (← quoted.0) quoted.1) in
    rw quoted.0 (read_quoted body none free)
body_is_read raw body (inr bare, none) =
    rw bare.1 (read_plain body (rw (← bare.1) bare.0) none)

-- ---- and back

quoted_body : (more body : List ℕ) → first_quote more + 1 ≡ length more → take (length more - 1) more ≡ body → IsBody (34 ∷ more) body
quoted_body more body e b =
    let found = first_quote_found more (omega arith) in
    let parts = and_parts (get_or more (first_quote more) 0 == 34) (not (is_escaped more (first_quote more))) found in
    let back : length more - 1 ≡ first_quote more = omega arith in
    let whole : more ≡ body ++ 34 ∷ [] =
    sym (take_all (first_quote more + 1) more (omega arith)) ∙ (take_more more (first_quote more) 0 (omega arith) ∙ rw (eqb-true (get_or more (first_quote more) 0) 34 parts.0, ← back, b) refl) in
    let n : length body ≡ first_quote more = omega (arith, ap length whole, length-append body (34 ∷ [])) in (
      inl (ap (λ r. 34 ∷ r) whole, escaped_behind more (length body) ∙ rw n (not-true (is_escaped more (first_quote more)) parts.1)),
      λ i l. sym (quote_front body (34 ∷ []) i l) ∙ rw (← whole) (first_quote_before more i (omega arith)),
    )

bare_body : (raw body : List ℕ) → (get_or raw 0 0 == 34) ≡ false → first_quote raw ≡ length raw → raw ≡ body → IsBody raw body
bare_body raw body first e b =
    rw (← b) (inr (first, refl), λ i l. first_quote_before raw i (rw e l))

pub read_is_body : (raw body : List ℕ) → read_body raw ≡ Some body → IsBody raw body
unfolding read_body
read_is_body raw body e = elim (cases_Bool (get_or raw 0 0 == 34)) [
  | inl quote ↦
      let f = rw quote at e in
      let g = cond_some (first_quote (drop 1 raw) + 1 == length (drop 1 raw)) (take (length (drop 1 raw) - 1) (drop 1 raw)) body f in
      subst (λ (r : List ℕ). IsBody r body) (sym (one_byte 34 raw (omega arith) quote)) (quoted_body (drop 1 raw) body (eqb-true (first_quote (drop 1 raw) + 1) (length (drop 1 raw)) g.0) g.1)
  | inr bare ↦
      let f = rw bare at e in
      let g = cond_some (first_quote raw == length raw) raw body f in
      bare_body raw body bare (eqb-true (first_quote raw) (length raw) g.0) g.1
]

pub unread_quoted : (raw rest : List ℕ) (n : ℕ) → (get_or raw 0 0 == 34) ≡ true → rest ≡ drop 1 raw → n ≡ first_quote rest → (n + 1 ≡ length rest → ⊥) → read_body raw ≡ None
unfolding read_body
unread_quoted raw rest n quote e f h = rw (quote, ← e, ← f, ne_eqb (n + 1) (length rest) h) refl

pub unread_bare : (raw : List ℕ) → ((rest : List ℕ) → raw ≡ 34 ∷ rest → ⊥)
    → (first_quote raw ≡ length raw → ⊥) → read_body raw ≡ None
unfolding read_body
unread_bare raw bare h =
    let first = false_from_ne_true (get_or raw 0 0 == 34)
    (λ quote. bare (drop 1 raw) (one_byte 34 raw (omega arith) quote)) in
    rw (first, ne_eqb (first_quote raw) (length raw) h) refl
