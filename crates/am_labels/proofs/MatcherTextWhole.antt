-- What is read from a piece is what it spells, and the same holds for a whole text.
use Rattle.std.proofs.Common.{◌≡◌, refl, sym, ◌∙◌, ap, subst, inl, inr, ℕ, suc, ◌+◌, ◌-◌, ◌≤◌, List, [], ◌∷◌, ◌++◌, length, take, drop, get_or, true, false, not, ◌&&◌, arith, Option, Some, ◌≢◌}
use Rattle.std.specs.Prelude.{◌==◌}
use Rattle.std.specs.List.{prefix_len, suffix_len, list_all, AllZip, All, AllByRecursion}
use Rattle.std.proofs.lemmas.List.Elements.{All-from_recursion}
use Rattle.std.proofs.lemmas.List.Folds.{list_all-append}
use Rattle.std.proofs.lemmas.List.{append-nil, take-append-drop, get_or-take, length-take-le}
use Rattle.std.proofs.lemmas.Bool.{and_parts, and_from, cases_lt, cases_Bool, eqb-true, not-true, false≢true}
use Rattle.std.proofs.lemmas.Bool.Decides.{nat_tests}
use Rattle.std.proofs.lemmas.Option.{same_Some, cond_some, option_and_then_some, some_pair_parts, none-some}
use Rattle.am_universe.specs.declared.kind.Kind.{Kind}
use Rattle.am_universe.specs.declared.kind.Kind.TheVariants.{Memory}
use Rattle.am_labels.specs.declared.op.Op.{Op}
use Rattle.am_labels.specs.declared.op.Op.TheVariants.{Equal, Matches}
use Rattle.am_labels.specs.declared.op.TheConstants.Op.{ALL}
use Rattle.am_labels.specs.Matcher.{Matcher, operator_text}
use Rattle.am_labels.specs.MatcherText.{is_space, is_blank, begins_name, continues_name, is_name, unescaped_text, is_trimmed, IsLongest, SpellsOne, Spells, matcher_pieces, without_opening, without_closing, pieces_of_words, WordsSpell}
use Rattle.am_labels.specs.MatcherRefusals.{WordsRefusedFor}
use Rattle.am_labels.specs.MatcherReading.{IsReadFailure, read_body, read_operator, read_name, read_piece, read_each_piece, read_list, read_words, without_leading_blanks, without_trailing_blanks, ◌>>=◌}
use Rattle.am_labels.proofs.OperatorLemmas.{is_short, stands_first}
use Rattle.am_labels.proofs.MatcherTextSteps.{whole_piece}
use Rattle.am_labels.proofs.MatcherTextLists.{drop_prefix, take_prefix, all_of_prefix, first_after_prefix, all_of_suffix, last_before_suffix, take_before_suffix}
use Rattle.am_labels.proofs.MatcherTextBodies.{body_is_read, read_is_body}

-- ---- bytes

begins_no_space : (c : ℕ) → begins_name c ≡ true → is_space c ≡ false
begins_no_space c h = grind (arith, nat_tests)

begins_continues : (c : ℕ) → begins_name c ≡ true → continues_name c ≡ true
begins_continues c h = grind (arith, nat_tests)

space_ends_name : (c : ℕ) → is_space c ≡ true → continues_name c ≡ false
space_ends_name c h = grind (arith, nat_tests)

operator_no_space : (op : Op) (rest : List ℕ) → is_space (get_or (operator_text op ++ rest) 0 0) ≡ false
operator_no_space Equal rest = refl
operator_no_space _ rest = refl

operator_ends_name : (between : List ℕ) (op : Op) (rest : List ℕ) → is_blank between ≡ true → continues_name (get_or (between ++ (operator_text op ++ rest)) 0 0) ≡ false
operator_ends_name [] Equal rest b = refl
operator_ends_name [] _ rest b = refl
operator_ends_name (c ∷ cs) op rest b = space_ends_name c (and_parts (is_space c) (is_blank cs) b).0

pub name_continues : (name : List ℕ) → is_name name ≡ true → list_all continues_name name ≡ true
name_continues [] h = absurd (false≢true h)
name_continues (c ∷ cs) h =
    let parts = and_parts (begins_name c) (list_all continues_name cs) h in
    and_from (continues_name c) (list_all continues_name cs) (begins_continues c parts.0) parts.1

name_begins : (name rest : List ℕ) → is_name name ≡ true → begins_name (get_or (name ++ rest) 0 0) ≡ true
name_begins [] rest h = absurd (false≢true h)
name_begins (c ∷ cs) rest h = (and_parts (begins_name c) (list_all continues_name cs) h).0

-- ---- what is spelled is read

name_is_read : (name rest : List ℕ) → is_name name ≡ true → continues_name (get_or rest 0 0) ≡ false → read_name (name ++ rest) ≡ Some (name, rest)
unfolding read_name
name_is_read name rest h e =
    rw (name_begins name rest h, take_prefix continues_name name rest (name_continues name h) e, drop_prefix continues_name name rest (name_continues name h) e) refl

operator_is_read : (op : Op) (rest : List ℕ) → IsLongest op (operator_text op ++ rest) → read_operator (operator_text op ++ rest) ≡ Some (op, rest)
unfolding read_operator
operator_is_read Equal [] h = refl
operator_is_read Equal (c ∷ rest) h = elim (cases_Bool (c == 126)) [
  | inl tilde ↦
      let at : c ≡ 126 = eqb-true c 126 tilde in
      absurd (omega (arith, h Matches rest (ap (λ d. 61 ∷ d ∷ rest) at)))
  | inr other ↦ rw other refl
]
operator_is_read _ rest h = refl

raw_is_cut : (after raw behind : List ℕ) → is_blank after ≡ true → is_blank behind ≡ true → is_trimmed raw ≡ true → without_trailing_blanks (without_leading_blanks (after ++ (raw ++ behind))) ≡ raw
raw_is_cut after [] behind a b t =
    let none = drop_prefix is_space (after ++ behind) [] (list_all-append is_space after behind ∙ and_from _ _ a b) refl in
    let none' = rw (append-nil (after ++ behind)) at none in
    rw none' refl
raw_is_cut after (c ∷ cs) behind a b t =
    let ends = and_parts (not (is_space c)) (not (is_space (get_or (c ∷ cs) (length (c ∷ cs) - 1) 0))) t in
    rw (drop_prefix is_space after ((c ∷ cs) ++ behind) a (not-true (is_space c) ends.0))
    (take_before_suffix is_space (c ∷ cs) behind b (not-true (is_space (get_or (c ∷ cs) (length (c ∷ cs) - 1) 0)) ends.1))

pub spelled_is_read : (piece : List ℕ) (m : Matcher) → SpellsOne piece m → read_piece piece ≡ Some m
spelled_is_read piece m s =
    let four = and_parts ((is_blank s.before && is_blank s.between) && is_blank s.after) (is_blank s.behind) s.blanks in
    let three = and_parts (is_blank s.before && is_blank s.between) (is_blank s.after) four.0 in
    let two = and_parts (is_blank s.before) (is_blank s.between) three.0 in
    let tail : List ℕ = s.after ++ (s.raw ++ s.behind) in
    let op : List ℕ = operator_text m.op ++ tail in
    let rest : List ℕ = s.between ++ op in
    let start : m.name ++ rest ≡ without_leading_blanks piece =
    rw s.parts (sym (drop_prefix is_space s.before (m.name ++ rest) two.0 (begins_no_space (get_or (m.name ++ rest) 0 0) (name_begins m.name rest s.name)))) in
    let read = whole_piece piece (m.name ++ rest) start m.name rest op
    (name_is_read m.name rest s.name (operator_ends_name s.between m.op tail two.1))
    (sym (drop_prefix is_space s.between op two.1 (operator_no_space m.op tail)))
    m.op tail s.raw (operator_is_read m.op tail s.operator)
    (sym (raw_is_cut s.after s.raw s.behind three.1 four.1 s.trimmed))
    s.value.body (body_is_read s.raw s.value.body (s.value.has_body, s.value.no_quote)) in
    read ∙ ap (λ (value : List ℕ). Some (record m { value = value })) (sym s.value.value_is)

-- ---- what is read is spelled

named : (text : List ℕ) → begins_name (get_or text 0 0) ≡ true → is_name (take (prefix_len continues_name text) text) ≡ true
named [] h = absurd (false≢true h)
named (c ∷ cs) h =
    let n : 1 + prefix_len continues_name cs ≡ suc (prefix_len continues_name cs) = omega arith in
    rw (begins_continues c h, n) (and_from (begins_name c) (list_all continues_name (take (prefix_len continues_name cs) cs)) h (all_of_prefix continues_name cs))

name_parts : (text name rest : List ℕ) → read_name text ≡ Some (name, rest) → (text ≡ name ++ rest) × (is_name name ≡ true)
unfolding read_name
name_parts text name rest e =
    let f = cond_some (begins_name (get_or text 0 0)) (take (prefix_len continues_name text) text, drop (prefix_len continues_name text) text) (name, rest) e in
    let n : take (prefix_len continues_name text) text ≡ name = ap (λ (p : List ℕ × List ℕ). p.0) f.1 in
    let r : drop (prefix_len continues_name text) text ≡ rest = ap (λ (p : List ℕ × List ℕ). p.1) f.1 in
    (rw (← n, ← r) (sym (take-append-drop (prefix_len continues_name text) text)), rw (← n) (named text f.0))

-- What holds of a pair that is read holds of an equal pair.
pub said_again : {A B : Type 0} (P : A → B → Type 0) (a x : A) (b y : B)
    → ◌≡◌ {A = Option (A × B)} (Some (a, b)) (Some (x, y)) → P a b → P x y
said_again P a x b y e said = let same = some_pair_parts a x b y e in rw (← same.0, ← same.1) said

-- A text is an operator and what follows it, and no longer operator is there.
abbrev Stand : List ℕ → Op → List ℕ → Type 0
Stand text op rest = (text ≡ operator_text op ++ rest) × IsLongest op (operator_text op ++ rest)

operator_parts : (text : List ℕ) (op : Op) (rest : List ℕ) → read_operator text ≡ Some (op, rest) → Stand text op rest
unfolding read_operator
operator_parts text op rest e =
    let stands : text ≡ operator_text op ++ rest = stands_first ALL text op rest e in (
      stands,
      λ other more there. elim (cases_lt (length (operator_text op)) (length (operator_text other))) [
        | inl longer ↦
            let longest : IsLongest other (operator_text other ++ more) = λ third _ _. omega (arith, longer, (is_short op).0, (is_short third).1) in
            let also = operator_is_read other more longest in
            let same = some_pair_parts op other rest more (sym e ∙ ap read_operator (stands ∙ there) ∙ also) in
            absurd (omega (arith, longer, ap (λ o. length (operator_text o)) same.0))
        | inr most ↦ most
      ],
    )

raw_trimmed : (text : List ℕ) → is_space (get_or text 0 0) ≡ false → is_trimmed (without_trailing_blanks text) ≡ true
raw_trimmed text first =
    let n : ℕ = length text - suffix_len is_space text in
    let le : n ≤ length text = omega arith in
    let len = length-take-le n text le in
    elim (cases_lt 0 n) [
      | inl some ↦
          let a : get_or (take n text) 0 0 ≡ get_or text 0 0 = get_or-take n text 0 0 some in
          let b : get_or (take n text) (length (take n text) - 1) 0 ≡ get_or text (length text - suffix_len is_space text - 1) 0 = rw len (get_or-take n text (n - 1) 0 (omega arith)) in
          rw (a, b, first, last_before_suffix is_space text (omega arith)) refl
      | inr none ↦
          let z : n ≡ 0 = omega arith in
          rw z refl
    ]

spelled_by : (piece : List ℕ) (name : List ℕ × List ℕ) (op : Op × List ℕ) (body : List ℕ) → read_name (without_leading_blanks piece) ≡ Some name → read_operator (without_leading_blanks name.1) ≡ Some op → read_body (without_trailing_blanks (without_leading_blanks op.1)) ≡ Some body
    → SpellsOne piece (record { name = name.0; op = op.0; value = unescaped_text body })
spelled_by piece name op body n o b =
    let v : List ℕ = without_leading_blanks op.1 in
    let before : List ℕ = take (prefix_len is_space piece) piece in
    let between : List ℕ = take (prefix_len is_space name.1) name.1 in
    let after : List ℕ = take (prefix_len is_space op.1) op.1 in
    let raw : List ℕ = without_trailing_blanks v in
    let behind : List ℕ = drop (length v - suffix_len is_space v) v in
    let named = name_parts (without_leading_blanks piece) name.0 name.1 n in
    let stands = operator_parts (without_leading_blanks name.1) op.0 op.1 o in
    let body_is = read_is_body raw body b in
    let tail : after ++ (raw ++ behind) ≡ op.1 =
    ap (λ r. after ++ r) (take-append-drop (length v - suffix_len is_space v) v) ∙ take-append-drop (prefix_len is_space op.1) op.1 in
    let rest : between ++ (operator_text op.0 ++ (after ++ (raw ++ behind))) ≡ name.1 =
    ap (λ r. between ++ r) (ap (λ r. operator_text op.0 ++ r) tail ∙ sym stands.0) ∙ take-append-drop (prefix_len is_space name.1) name.1 in
    let whole : before ++ (name.0 ++ (between ++ (operator_text op.0 ++ (after ++ (raw ++ behind))))) ≡ piece =
    ap (λ r. before ++ r) (ap (λ r. name.0 ++ r) rest ∙ sym named.0) ∙ take-append-drop (prefix_len is_space piece) piece in
    record {
      before = before;
      between = between;
      after = after;
      raw = raw;
      behind = behind;
      parts = sym whole;
      blanks = and_from ((is_blank before && is_blank between) && is_blank after) (is_blank behind)
          (and_from (is_blank before && is_blank between) (is_blank after)
          (and_from (is_blank before) (is_blank between) (all_of_prefix is_space piece) (all_of_prefix is_space name.1))
          (all_of_prefix is_space op.1))
          (all_of_suffix is_space v);
      name = named.1;
      operator = rw tail stands.1;
      trimmed = raw_trimmed v (first_after_prefix is_space op.1 refl);
      value = record { body = body; has_body = body_is.0; no_quote = body_is.1; value_is = refl };
    }

pub read_is_spelled : (piece : List ℕ) (m : Matcher) → read_piece piece ≡ Some m → SpellsOne piece m
unfolding read_piece
read_is_spelled piece m e =
    let written : List ℕ × List ℕ → Op × List ℕ → List ℕ → Option Matcher = λ name op body. Some (record { name = name.0; op = op.0; value = unescaped_text body }) in
    let from_op : List ℕ × List ℕ → Op × List ℕ → Option Matcher = λ name op. read_body (without_trailing_blanks (without_leading_blanks op.1)) >>= written name op in
    let from_name : List ℕ × List ℕ → Option Matcher = λ name. read_operator (without_leading_blanks name.1) >>= from_op name in
    option_and_then_some from_name (read_name (without_leading_blanks piece)) m e (λ name n f.
    option_and_then_some (from_op name) (read_operator (without_leading_blanks name.1)) m f (λ op o g.
    option_and_then_some (written name op) (read_body (without_trailing_blanks (without_leading_blanks op.1))) m g (λ body b h.
    subst (λ (x : Matcher). SpellsOne piece x) (same_Some (record { name = name.0; op = op.0; value = unescaped_text body }) m h) (spelled_by piece name op body n o b))))

-- ---- lists

each_is_read : (ps : List (List ℕ)) (ms : List Matcher) → AllZip SpellsOne ps ms → read_each_piece ps ≡ Some ms
unfolding read_each_piece
each_is_read [] [] s = refl
each_is_read (p ∷ ps) (m ∷ ms) s = rw (spelled_is_read p m s.0, each_is_read ps ms s.1) refl
each_is_read ps ms s = absurd s

each_is_spelled : (ps : List (List ℕ)) (ms : List Matcher) → read_each_piece ps ≡ Some ms → AllZip SpellsOne ps ms
unfolding read_each_piece
each_is_spelled [] ms e = rw (← same_Some [] ms e) tt
each_is_spelled (p ∷ ps) ms e =
    let others : Matcher → Option (List Matcher) = λ m. read_each_piece ps >>= λ ns. Some (m ∷ ns) in
    option_and_then_some others (read_piece p) ms e (λ m r f.
    option_and_then_some (λ ns. Some (m ∷ ns)) (read_each_piece ps) ms f (λ ns q g.
    rw (← same_Some (m ∷ ns) ms g) (read_is_spelled p m r, each_is_spelled ps ns q)))

pub list_is_read : (text : List ℕ) (ms : List Matcher) → Spells text ms → read_list text ≡ Some ms
unfolding read_list
list_is_read text ms s = each_is_read (matcher_pieces (without_closing (without_opening text))) ms s

pub list_is_spelled : (text : List ℕ) (ms : List Matcher) → read_list text ≡ Some ms → Spells text ms
unfolding read_list
list_is_spelled text ms e = each_is_spelled (matcher_pieces (without_closing (without_opening text))) ms e

pub words_are_read : (words : List (List ℕ)) (ms : List Matcher) → WordsSpell words ms
    → read_words words ≡ Some ms
unfolding read_words
words_are_read words ms s = each_is_read (pieces_of_words words) ms s

pub words_are_spelled : (words : List (List ℕ)) (ms : List Matcher) → read_words words ≡ Some ms
    → WordsSpell words ms
unfolding read_words
words_are_spelled words ms e = each_is_spelled (pieces_of_words words) ms e

pub one_list_of_words : (words : List (List ℕ)) (ms ns : List Matcher) → WordsSpell words ms
    → WordsSpell words ns → ms ≡ ns
one_list_of_words words ms ns s t =
    same_Some ms ns (sym (words_are_read words ms s) ∙ words_are_read words ns t)

pub one_list : (text : List ℕ) (ms ns : List Matcher) → Spells text ms → Spells text ns → ms ≡ ns
one_list text ms ns s t = same_Some ms ns (sym (list_is_read text ms s) ∙ list_is_read text ns t)

-- ---- an answer of the reader

pub refused_is_none : (kind : Kind) (words : List (List ℕ)) → IsReadFailure kind (read_words words)
    → kind ≢ Memory → WordsRefusedFor words kind
refused_is_none kind words (inl memory) other = absurd (other memory)
refused_is_none kind words (inr none) other =
    inl (none.0, λ ms s. none-some ms (sym none.1 ∙ words_are_read words ms s))

name_is_some : (name : List ℕ) → is_name name ≡ true → name ≢ []
name_is_some name h e = false≢true (rw e at h)

each_named : (ps : List (List ℕ)) (ss : List Matcher) → AllZip SpellsOne ps ss → AllByRecursion (λ (s : Matcher). s.name ≢ []) ss
each_named ps [] h = tt
each_named [] (s ∷ ss) h = absurd h
each_named (p ∷ ps) (s ∷ ss) h = (name_is_some (s.name) h.0.name, each_named ps ss h.1)

pub all_named : (words : List (List ℕ)) (ms : List Matcher) → read_words words ≡ Some ms
    → All (λ m. m.name ≢ []) ms
all_named words ms e =
    All-from_recursion (λ (m : Matcher). m.name ≢ []) ms
    (each_named (pieces_of_words words) ms (words_are_spelled words ms e))
