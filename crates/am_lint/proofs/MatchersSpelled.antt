-- The text of matchers spells them.
use Rattle.std.proofs.Common.{◌≡◌, refl, sym, ◌∙◌, ap, subst, inl, inr, ℕ, ◌-◌, List, [], ◌∷◌, ◌++◌}
use Rattle.std.proofs.Common.{length, map, Bool, true, false, not, ◌&&◌, arith}
use Rattle.std.specs.Prelude.{◌==◌, IsTrue, codes}
use Rattle.std.specs.List.{flat_map, list_all, AllByRecursion, AllZip}
use Rattle.std.proofs.lemmas.List.{append-nil, append_assoc, length-append, get_or_at, take_at}
use Rattle.std.proofs.lemmas.Bool.{and_parts, cases_Bool, false≢true}
use Rattle.std.proofs.lemmas.Bool.Decides.{nat_tests}
use Rattle.am_universe.specs.Text.{label_value_escape, quoted_text}
use Rattle.am_labels.specs.declared.op.Op.{Op}
use Rattle.am_labels.specs.declared.op.Op.TheVariants.{Equal}
use Rattle.am_labels.specs.Matcher.{Matcher, operator_text}
use Rattle.am_labels.specs.MatcherText.{is_space, is_blank, begins_name, continues_name, is_name}
use Rattle.am_labels.specs.MatcherText.{without_opening, without_closing, matcher_pieces}
use Rattle.am_labels.specs.MatcherText.{SpellsOne, Spells}
use Rattle.am_labels.proofs.MatcherTextPieces.{cuts_all, pieces_left}
use Rattle.am_labels.proofs.MatcherTextWhole.{name_continues}
use Rattle.am_labels.proofs.OperatorLemmas.{is_longest}
use Rattle.am_report_texts.specs.Separated.{texts_behind}
use Rattle.am_report_texts.specs.MatchersText.{matcher_text, matchers_text}
use Rattle.am_lint.proofs.TextSteps.{cut, left_is_cut}
use Rattle.am_lint.proofs.ValueText.{by_escape, quoted_trimmed, quoted_has_value}

-- ---- bytes that are passed without a cut

-- from one position that is not escaped to another; each of the two is quoted or not
abbrev Passes : Bool → List ℕ → Bool → Type 0
Passes q xs r = (piece rest : List ℕ) → cut false q piece (xs ++ rest) ≡ cut false r (piece ++ xs)
    rest

passes_both : (q r s : Bool) (xs ys : List ℕ) → Passes q xs r → Passes r ys s → Passes q
    (xs ++ ys) s
passes_both q r s xs ys a b = λ piece rest.
    ap (λ t. cut false q piece t) (append_assoc xs ys rest) ∙ a piece (ys ++ rest) ∙ b
    (piece ++ xs) rest ∙ ap (λ t. cut false s t rest) (append_assoc piece xs ys)

abbrev is_plain : ℕ → Bool
is_plain c = not (c == 44) && (not (c == 92) && not (c == 34))

passes_byte : (c : ℕ) → is_plain c ≡ true → Passes false (c ∷ []) false
passes_byte c h = λ piece rest.
    let comma : (c == 44) ≡ false = grind (arith, nat_tests) in
    let backslash : (c == 92) ≡ false = grind (arith, nat_tests) in
    let quote : (c == 34) ≡ false = grind (arith, nat_tests) in
    rw (comma, backslash, quote) refl

continues_plain : (c : ℕ) → continues_name c ≡ true → is_plain c ≡ true
continues_plain c h = grind (arith, nat_tests)

passes_plain : (test : ℕ → Bool) → ((c : ℕ) → test c ≡ true → is_plain c ≡ true) → (cs : List ℕ)
    → list_all test cs ≡ true → Passes false cs false
passes_plain test plain [] h = λ piece rest.
    ap (λ t. cut false false t rest) (sym (append-nil piece))
passes_plain test plain (c ∷ cs) h =
    let parts = and_parts (test c) (list_all test cs) h in
    passes_both false false false (c ∷ []) cs (passes_byte c (plain c parts.0))
    (passes_plain test plain cs parts.1)

passes_name : (name : List ℕ) → is_name name ≡ true → Passes false name false
passes_name name h = passes_plain continues_name continues_plain name (name_continues name h)

operator_plain : (op : Op) → list_all is_plain (operator_text op) ≡ true
operator_plain Equal = refl
operator_plain _ = refl

passes_escape : (c : ℕ) → Passes true (label_value_escape c) true
passes_escape = by_escape (λ c xs. Passes true xs true)
    (λ piece rest. ap (λ t. cut false true t rest) (append_assoc piece (92 ∷ []) (92 ∷ [])))
    (λ piece rest. ap (λ t. cut false true t rest) (append_assoc piece (92 ∷ []) (34 ∷ [])))
    (λ piece rest. ap (λ t. cut false true t rest) (append_assoc piece (92 ∷ []) (110 ∷ [])))
    (λ c e f piece rest. elim (cases_Bool (c == 44))
    [ inl g ↦ rw (g, e, f) refl | inr g ↦ rw (g, e, f) refl ])

passes_value : (t : List ℕ) → Passes true (flat_map label_value_escape t) true
passes_value [] = λ piece rest. ap (λ t. cut false true t rest) (sym (append-nil piece))
passes_value (c ∷ t) =
    passes_both true true true (label_value_escape c) (flat_map label_value_escape t)
    (passes_escape c) (passes_value t)

passes_quoted : (t : List ℕ) → Passes false (quoted_text t) false
passes_quoted t =
    passes_both false true false (34 ∷ []) (flat_map label_value_escape t ++ 34 ∷ [])
    (λ piece rest. refl)
    (passes_both true true false (flat_map label_value_escape t) (34 ∷ []) (passes_value t)
    (λ piece rest. refl))

-- a name that a list may have stands without quotes
text_of_named : (m : Matcher) → is_name m.name ≡ true
    → matcher_text m ≡ m.name ++ (operator_text m.op ++ quoted_text m.value)
text_of_named m h = rw h refl

passes_matcher : (m : Matcher) → is_name m.name ≡ true → Passes false (matcher_text m) false
passes_matcher m h =
    subst (λ (t : List ℕ). Passes false t false) (sym (text_of_named m h))
    (passes_both false false false m.name (operator_text m.op ++ quoted_text m.value)
    (passes_name m.name h)
    (passes_both false false false (operator_text m.op) (quoted_text m.value)
    (passes_plain is_plain (λ c h. h) (operator_text m.op) (operator_plain m.op))
    (passes_quoted m.value)))

-- ---- pieces

begins_no_space : (c : ℕ) → begins_name c ≡ true → is_space c ≡ false
begins_no_space c h = grind (arith, nat_tests)

name_not_blank : (name more : List ℕ) → is_name name ≡ true → is_blank (name ++ more) ≡ false
name_not_blank [] more h = absurd (false≢true h)
name_not_blank (c ∷ cs) more h =
    rw (begins_no_space c (and_parts (begins_name c) (list_all continues_name cs) h).0) refl

abbrev Named : List Matcher → Type 0
Named = AllByRecursion (λ m. IsTrue (is_name m.name))

cut_list : (m : Matcher) (ms : List Matcher) → is_name m.name ≡ true → Named ms → cut false
    false [] (matcher_text m ++ texts_behind (codes ",") (codes ",") matcher_text ms) ≡
    matcher_text m ∷ map matcher_text ms
cut_list m [] name named =
    let blank : is_blank (matcher_text m) ≡ false =
    ap is_blank (text_of_named m name)
    ∙ name_not_blank m.name (operator_text m.op ++ quoted_text m.value) name in
    passes_matcher m name [] [] ∙ rw blank refl
cut_list m (next ∷ ms) name named =
    passes_matcher m name [] (texts_behind (codes ",") (codes ",") matcher_text (next ∷ ms)) ∙ ap
    (λ r. matcher_text m ∷ r) (cut_list next ms named.0 named.1)

cut_all : (ms : List Matcher) → Named ms → cut false false []
    (texts_behind (codes "") (codes ",") matcher_text ms) ≡ map matcher_text ms
cut_all [] named = refl
cut_all (m ∷ ms) named = cut_list m ms named.0 named.1

pieces_are_cut : (text : List ℕ) → matcher_pieces text ≡ cut false false [] text
pieces_are_cut text =
    let left : matcher_pieces text ≡ pieces_left text 0 0 = rw (← cuts_all text) refl in
    left ∙ left_is_cut text 0 0 text (omega arith) refl

braces_off : (text : List ℕ) → without_closing
    (without_opening (codes "{" ++ (text ++ codes "}"))) ≡ text
braces_off text =
    let last : length (text ++ 125 ∷ []) - 1 ≡ length text =
    omega (arith, length-append text (125 ∷ [])) in
    rw (last, get_or_at text 125 [] 0 (length text) refl)
    (take_at text (125 ∷ []) (length text) refl)

-- ---- the law

spells_one : (m : Matcher) → is_name m.name ≡ true → SpellsOne (matcher_text m) m
spells_one m h = record {
  before = [];
  between = [];
  after = [];
  raw = quoted_text m.value;
  behind = [];
  parts = text_of_named m h
      ∙ ap (λ t. m.name ++ (operator_text m.op ++ t)) (sym (append-nil (quoted_text m.value)));
  blanks = refl;
  name = h;
  operator = is_longest m.op 34 _ (λ quote. absurd (omega (arith, quote)));
  trimmed = quoted_trimmed m.value;
  value = quoted_has_value m.value;
}

each_spelled : (ms : List Matcher) → Named ms → AllZip SpellsOne (map matcher_text ms) ms
each_spelled [] named = tt
each_spelled (m ∷ ms) named = (spells_one m named.0, each_spelled ms named.1)

pub matchers_spelled : (ms : List Matcher) → AllByRecursion (λ m. IsTrue (is_name m.name)) ms →
    Spells (matchers_text ms) ms
matchers_spelled ms named =
    let body : List ℕ = texts_behind (codes "") (codes ",") matcher_text ms in
    rw (braces_off body, pieces_are_cut body, cut_all ms named) (each_spelled ms named)
