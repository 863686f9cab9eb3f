-- A value between quotes: each quote in it is escaped, and the value is read back.
use Rattle.std.proofs.Common.{◌≡◌, refl, sym, ◌∙◌, ap, subst, inl, inr, ℕ, ◌-◌, List, [], ◌∷◌, ◌++◌}
use Rattle.std.proofs.Common.{length, true, false, arith}
use Rattle.std.specs.Prelude.{◌==◌}
use Rattle.std.specs.List.{flat_map}
use Rattle.std.proofs.lemmas.List.{length-append, get_or_at}
use Rattle.std.proofs.lemmas.Bool.{cases_Bool, eqb-true}
use Rattle.am_universe.specs.Text.{label_value_escape, quoted_text}
use Rattle.am_labels.specs.MatcherText.{unescaped_text, is_trimmed, HasValue}
use Rattle.am_labels.proofs.MatcherTextBodies.{escaped_front, escaped_behind}
use Rattle.am_lint.proofs.TextSteps.{has_no_quote, no_quote_is_left}

-- each byte and its escape have a property if they have it for each way in which a byte is written
pub by_escape : (P : ℕ → List ℕ → Type 0) → P 92 (92 ∷ 92 ∷ []) → P 34 (92 ∷ 34 ∷ []) → P 10
    (92 ∷ 110 ∷ []) → ((c : ℕ) → (c == 92) ≡ false → (c == 34) ≡ false → P c (c ∷ [])) → (c : ℕ) →
    P c (label_value_escape c)
by_escape P backslash quote feed other c = elim (cases_Bool (c == 92)) [
  | inl e ↦ subst (λ (x : ℕ). P x (label_value_escape x)) (sym (eqb-true c 92 e)) backslash
  | inr e ↦ elim (cases_Bool (c == 34)) [
    | inl f ↦ subst (λ (x : ℕ). P x (label_value_escape x)) (sym (eqb-true c 34 f)) quote
    | inr f ↦ elim (cases_Bool (c == 10)) [
      | inl g ↦ subst (λ (x : ℕ). P x (label_value_escape x)) (sym (eqb-true c 10 g)) feed
      | inr g ↦ rw (e, f, g) (other c e f)
    ]
  ]
]

plain_unescaped : (c : ℕ) (more : List ℕ) → (c == 92) ≡ false → unescaped_text (c ∷ more) ≡ c ∷
    unescaped_text more
plain_unescaped c [] e = refl
plain_unescaped c (d ∷ more) e = rw e refl

unescaped : (t : List ℕ) → unescaped_text (flat_map label_value_escape t) ≡ t
unescaped [] = refl
unescaped (c ∷ t) =
    by_escape (λ c xs. (more : List ℕ) → unescaped_text (xs ++ more) ≡ c ∷ unescaped_text more)
    (λ more. refl) (λ more. refl) (λ more. refl) (λ c e f more. plain_unescaped c more e) c
    (flat_map label_value_escape t)
    ∙ ap (λ r. c ∷ r) (unescaped t)

no_quote : (t : List ℕ) → has_no_quote false (flat_map label_value_escape t) ≡ true
no_quote [] = refl
no_quote (c ∷ t) =
    by_escape (λ c xs. (more : List ℕ) → has_no_quote false (xs ++ more) ≡ has_no_quote false
    more) (λ more. refl) (λ more. refl) (λ more. refl) (λ c e f more. rw (e, f) refl) c
    (flat_map label_value_escape t)
    ∙ no_quote t

pub quoted_trimmed : (t : List ℕ) → is_trimmed (quoted_text t) ≡ true
quoted_trimmed t =
    let body : List ℕ = flat_map label_value_escape t in
    let last : length (34 ∷ (body ++ 34 ∷ [])) - 1 ≡ length (34 ∷ body) =
    omega (arith, length-append (34 ∷ body) (34 ∷ [])) in
    rw (last, get_or_at (34 ∷ body) 34 [] 0 (length (34 ∷ body)) refl) refl

pub quoted_has_value : (t : List ℕ) → HasValue (quoted_text t) t
quoted_has_value t =
    let body : List ℕ = flat_map label_value_escape t in
    let none = no_quote_is_left body 0 body (omega arith) refl (no_quote t) in
    record {
      body = body;
      has_body = inl (
        refl,
        escaped_behind (body ++ 34 ∷ []) (length body) ∙ escaped_front body
            (34 ∷ []) (length body) (omega arith) ∙ none.1,
      );
      no_quote = λ k l. none.0 k (omega arith) l;
      value_is = sym (unescaped t);
    }
