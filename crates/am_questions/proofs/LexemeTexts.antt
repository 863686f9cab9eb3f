-- The lexemes of a text are read one by one.
use Rattle.std.proofs.Common.{◌≡◌, refl, sym, ◌∙◌, ap, subst, ℕ, ◌<◌, List, [], ◌∷◌, ◌++◌, length}
use Rattle.std.proofs.Common.{get_or}
use Rattle.std.proofs.Common.{Some, None, true, false, arith, append_assoc, length-drop}
use Rattle.std.specs.List.{list_all, prefix_len}
use Rattle.std.proofs.lemmas.Bool.{false_from_ne_true}
use Rattle.std.proofs.lemmas.List.{append-nil, take_all}
use Rattle.std.proofs.lemmas.Option.{some_pair_parts, none-some}
use Rattle.am_labels.specs.MatcherText.{is_space, is_blank}
use Rattle.am_labels.specs.MatcherReading.{without_leading_blanks}
use Rattle.am_labels.proofs.MatcherTextLists.{prefix_all, all_of_prefix}
use Rattle.am_labels.proofs.MatcherTextLists.{first_after_prefix}
use Rattle.am_questions.specs.Lexemes.{Lexeme, SpellsLexemes, read_lexeme}

-- ---- one list of lexemes a text

pub one_list : (text : List ℕ) (ts us : List Lexeme) → SpellsLexemes text ts → SpellsLexemes text us
    → ts ≡ us
one_list text [] [] s z = refl
one_list text [] (u ∷ us) s z = absurd (let apart : true ≡ false = sym s ∙ z.2 in cc)
one_list text (t ∷ ts) [] s z = absurd (let apart : true ≡ false = sym z ∙ s.2 in cc)
one_list text (t ∷ ts) (u ∷ us) s z =
    let same = some_pair_parts t u s.0 z.0 (sym s.1 ∙ z.1) in
    let more = subst (λ (rest : List ℕ). SpellsLexemes rest us) (sym same.1) z.3 in
    rw (same.0, one_list s.0 ts us s.3 more) refl

-- ---- whitespace

all_blank : (text : List ℕ) → length (without_leading_blanks text) ≡ 0 → is_blank text ≡ true
all_blank text none =
    let all = take_all (prefix_len is_space text) text
    (omega (arith, none, length-drop (prefix_len is_space text) text)) in
    subst (λ t. list_all is_space t ≡ true) all (all_of_prefix is_space text)

not_blank : (text : List ℕ) → 0 < length (without_leading_blanks text) → is_blank text ≡ false
not_blank text some = false_from_ne_true (is_blank text) (λ blank.
    omega (arith, some, length-drop (prefix_len is_space text) text, prefix_all is_space text blank))

pub trimmed_first : (text : List ℕ) → is_space (get_or (without_leading_blanks text) 0 0) ≡ false
trimmed_first text = first_after_prefix is_space text refl

-- ---- reading the lexemes one by one

-- These lexemes come before what is left, of which `rest` is the part after its whitespace. With
-- the lexemes of what is left they are those of the text, and if the text has lexemes, so has what
-- is left.
pub record ReadsOn (text : List ℕ) (lexemes : List Lexeme) (rest : List ℕ) : Type 0 where
  pub left : List ℕ
  pub trimmed : rest ≡ without_leading_blanks left
  pub onward : (us : List Lexeme) → SpellsLexemes left us → SpellsLexemes text (lexemes ++ us)
  pub back : (us : List Lexeme) → SpellsLexemes text us → (vs : List Lexeme) × SpellsLexemes left vs

pub at_first : (text : List ℕ) → ReadsOn text [] (without_leading_blanks text)
at_first text = record { left = text; trimmed = refl; onward = λ us s. s; back = λ us s. (us, s) }

module _ (text : List ℕ) (lexemes : List Lexeme) (rest : List ℕ) (on : ReadsOn text lexemes rest) where
  some_left : 0 < length rest → is_blank on.left ≡ false
  some_left some = not_blank on.left (subst (λ t. 0 < length t) on.trimmed some)

  -- a rest that is not empty begins with a lexeme, if what is left has lexemes
  rest_is_read : 0 < length rest → (vs : List Lexeme) → SpellsLexemes on.left vs
      → (v : Lexeme) × (behind : List ℕ) × (more : List Lexeme)
      × (read_lexeme rest ≡ Some (v, behind)) × SpellsLexemes behind more
  rest_is_read some [] s = absurd (let apart : true ≡ false = sym s ∙ some_left some in cc)
  rest_is_read some (v ∷ vs) s = (v, s.0, vs, ap read_lexeme on.trimmed ∙ s.1, s.3)

  pub one_more : (lexeme : Lexeme) (behind : List ℕ) → 0 < length rest
      → read_lexeme rest ≡ Some (lexeme, behind)
      → ReadsOn text (lexemes ++ lexeme ∷ []) (without_leading_blanks behind)
  one_more lexeme behind some e = record {
    left = behind;
    trimmed = refl;
    onward = λ us s.
        let is = ap read_lexeme (sym on.trimmed) ∙ e in
        rw append_assoc (on.onward (lexeme ∷ us) (behind, is, some_left some, s));
    back = λ us s.
        let v = on.back us s in
        let r = rest_is_read some v.0 v.1 in
        let same = some_pair_parts r.0 lexeme r.1 behind (sym r.3 ∙ e) in
        (r.2, subst (λ (t : List ℕ). SpellsLexemes t r.2) same.1 r.4);
  }

  pub at_end : length rest ≡ 0 → SpellsLexemes text lexemes
  at_end none =
      rw (← append-nil lexemes) (on.onward []
      (all_blank on.left (subst (λ t. length t ≡ 0) on.trimmed none)))

  pub none_here : 0 < length rest → read_lexeme rest ≡ None → (us : List Lexeme)
      → SpellsLexemes text us → ⊥
  none_here some e us s =
      let v = on.back us s in
      let r = rest_is_read some v.0 v.1 in
      none-some (r.0, r.1) (sym e ∙ r.3)
