-- Facts about any operator.
use Rattle.std.proofs.Common.{◌≡◌, ℕ, ◌+◌, ◌<◌, ◌≤◌, List, ◌∷◌, ◌++◌, Bool, true, false, not, cond}
use Rattle.std.proofs.Common.{refl, ap, sym, ◌∙◌, arith, length, get_or, [], take, drop, Some}
use Rattle.std.proofs.Common.{inl, inr, add-one, take_at, drop_at, ◌≢◌}
use Rattle.std.proofs.Math.Seq.{drop-cons}
use Rattle.std.proofs.lemmas.Bool.{cases_Bool}
use Rattle.std.proofs.lemmas.List.{take-append-drop}
use Rattle.std.proofs.lemmas.Slice.Eq.{bytes_eq-Decides}
use Rattle.std.proofs.lemmas.Option.{some_pair_parts, none-some}
use Rattle.am_labels.specs.declared.op.Op.{Op}
use Rattle.am_labels.specs.declared.op.Op.TheVariants.{Equal, NotEqual, Matches, NotMatches}
use Rattle.am_labels.specs.declared.op.Comparison.TheVariants.{Text, Pattern}
use Rattle.am_universe.specs.Text.{same_text}
use Rattle.am_universe.proofs.LabelSetLemmas.{same_text-itself}
use Rattle.am_labels.specs.Pattern.{finds}
use Rattle.am_labels.specs.Matcher.{operator_text, comparison, is_equality, negates, holds}
use Rattle.am_labels.specs.MatcherText.{IsLongest}
use Rattle.am_labels.specs.MatcherReading.{first_operator}

pub equality_is : (op : Op) → is_equality op ≡ true → op ≡ Equal
equality_is Equal e = refl
equality_is _ e = absurd (cc)

-- ---- How it is written.

pub is_short : (op : Op) → (1 ≤ length (operator_text op)) × (length (operator_text op) ≤ 2)
is_short Equal = (omega arith, omega arith)
is_short _ = (omega arith, omega arith)

sign_alone : (op : Op) (c : ℕ) (more rest : List ℕ) → (c ≡ 126 → ⊥)
    → 61 ∷ c ∷ more ≡ operator_text op ++ rest → length (operator_text op) ≤ 1
sign_alone Equal c more rest other e = omega arith
sign_alone Matches c more rest other e = absurd (other (ap (λ t. get_or t 1 0) e))
sign_alone _ c more rest other e = absurd (omega (arith, ap (λ t. get_or t 0 0) e))

pub is_longest : (op : Op) (c : ℕ) (more : List ℕ) → (c ≡ 126 → ⊥)
    → IsLongest op (operator_text op ++ c ∷ more)
is_longest Equal c more other = λ longer rest e. sign_alone longer c more rest other e
is_longest _ c more other = λ longer rest e. (is_short longer).1

-- ---- How it is read.

-- A text with this front begins with it.
begins_with : (front text : List ℕ) → same_text (take (length front) text) front ≡ true
    → text ≡ front ++ drop (length front) text
begins_with front text there =
    sym (take-append-drop (length front) text)
    ∙ ap (λ f. f ++ drop (length front) text) ((bytes_eq-Decides _ _).0 there)

-- A text from which an operator is read begins with it.
pub stands_first : (ops : List Op) (text : List ℕ) (op : Op) (rest : List ℕ)
    → first_operator ops text ≡ Some (op, rest) → text ≡ operator_text op ++ rest
stands_first [] text op rest e = absurd (none-some (op, rest) e)
stands_first (o ∷ ops) text op rest e =
    let n = length (operator_text o) in
    elim (cases_Bool (same_text (take n text) (operator_text o))) [
      | inl there ↦
          let same = some_pair_parts o op (drop n text) rest (rw there at e) in
          rw (← same.0, ← same.1) (begins_with (operator_text o) text there)
      | inr missing ↦ stands_first ops text op rest (rw missing at e)
    ]

-- Reading with the operators from an index on: the text begins with the first of them, or the later
-- ones decide.
module _ (ops : List Op) (k : ℕ) (text written : List ℕ) (within : k < length ops)
    (is : written ≡ operator_text (get_or ops k Equal)) where
  pub first_here : (rest : List ℕ) → text ≡ written ++ rest
      → first_operator (drop k ops) text ≡ Some (get_or ops k Equal, rest)
  first_here rest there =
      let front = take_at written rest (length written) refl in
      let behind = drop_at written rest (length written) refl in
      rw (drop-cons ops k Equal, ← is, there, front, same_text-itself written, behind) refl

  pub first_behind : ((rest : List ℕ) → text ≢ written ++ rest)
      → first_operator (drop (k + 1) ops) text ≡ first_operator (drop k ops) text
  first_behind missing = elim (cases_Bool (same_text (take (length written) text) written)) [
    | inl there ↦ absurd (missing _ (begins_with written text there))
    | inr other ↦ rw (drop-cons ops k Equal, ← is, other, add-one) refl
  ]

-- ---- What it asks of a text.

-- The comparison itself, before the operator may negate it.
abbrev pub asks : Op → List ℕ → List ℕ → Bool
asks op value text = cond (negates op) (not (holds op value text)) (holds op value text)

not_twice : (b : Bool) → not (not b) ≡ b
not_twice true = refl
not_twice false = refl

pub asks_text : (op : Op) (value text : List ℕ) → comparison op ≡ Text
    → asks op value text ≡ same_text text value
asks_text Equal value text e = refl
asks_text NotEqual value text e = not_twice (same_text text value)
asks_text _ value text e = absurd (cc)

pub asks_pattern : (op : Op) (value text : List ℕ) → comparison op ≡ Pattern
    → asks op value text ≡ finds value text
asks_pattern Matches value text e = refl
asks_pattern NotMatches value text e = not_twice (finds value text)
asks_pattern _ value text e = absurd (cc)

negated : (negates a b : Bool)
    → cond negates (not a) a ≡ cond negates (not b) b → a ≡ b
negated false a b e = e
negated true true true e = refl
negated true false false e = refl
negated true true false e = absurd (cc)
negated true false true e = absurd (cc)

-- The truths on two texts are the same exactly if the comparisons are.
pub holds_same : (op : Op) (value x y : List ℕ) → asks op value x ≡ asks op value y
    → holds op value x ≡ holds op value y
holds_same op value x y e = negated (negates op) (holds op value x) (holds op value y) e

pub asks_same : (op : Op) (value x y : List ℕ) → holds op value x ≡ holds op value y
    → asks op value x ≡ asks op value y
asks_same op value x y e = ap (λ truth. cond (negates op) (not truth) truth) e
