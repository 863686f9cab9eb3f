-- Texts that a label may have, by the impossible lists that ask about this label alone.
use Rattle.std.proofs.Common.{◌≡◌, ◌+◌, ◌++◌, ◌&&◌, ℕ, if◌then◌else◌, Bool, true, false, not, List, [], ◌∷◌, arith}
use Rattle.std.proofs.Common.{take, get_or, Some, refl, sym, ap, ◌∙◌, inl, inr}
use Rattle.std.specs.Prelude.{IsTrue, slice_get}
use Rattle.std.specs.FinMap.{empty}
use Rattle.std.specs.List.{AllByRecursion, IsDistinct, filter, list_all, list_any}
use Rattle.std.proofs.lemmas.Bool.{both_ways, false_from_ne_true, cases_Bool, cond_both, and_parts}
use Rattle.std.proofs.lemmas.Bool.{and_from}
use Rattle.std.proofs.lemmas.List.Elements.{filter-append}
use Rattle.std.proofs.lemmas.List.Folds.{list_all_more}
use Rattle.std.proofs.lemmas.Option.{slice_get_within, get_or_from_slice_get}
use Rattle.std.proofs.lemmas.Grind.{common_steps}
use Rattle.am_universe.specs.LabelSet.{LabelMap, value_of, with_value}
use Rattle.am_universe.proofs.LabelMapLemmas.{removed_at, inserted_at}
use Rattle.am_universe.proofs.LabelSetLemmas.{same_text-itself}
use Rattle.am_universe.proofs.ListLemmas.{IsIn, IsIn-from_Contains, Contains-from_IsIn}
use Rattle.am_universe.proofs.ListLemmas.{AllByRecursion-each, AllByRecursion-at}
use Rattle.am_labels.specs.Matcher.{Matcher, all_hold}
use Rattle.am_labels.proofs.Passing.{passes_from_kept, kept_from_passes}
use Rattle.am_classes.specs.declared.alphabet.Alphabet.{Alphabet}
use Rattle.am_classes.specs.Alphabet.{IsOver, AreOver}
use Rattle.am_classes.specs.Alike.{AreAlike, AreApart, Covers}
use Rattle.am_complete.specs.Complete.{asks_only_of, matches_text, may_have, AreAmong}
use Rattle.am_complete.specs.AskedLabel.{AskedLabel}
use Rattle.am_complete.specs.Covering.{ArePossible, CoverPossible}
use Rattle.am_complete.specs.FoundState.{HasThoseOfLists}
use Rattle.am_classes.specs.Truths.{alike}
use Rattle.am_complete.proofs.ChosenTexts.{distinct_from_apart, apart_from_distinct_texts}
use Rattle.am_complete.proofs.CompleteUniverses.{alone_truth, takes_away}

-- ---- A list on the label set that has one text of a label, and no other label.

value_alone : (s : LabelMap) (name text : List ℕ) → value_of (with_value s name text) name ≡ text
value_alone s name [] = grind (arith, common_steps, removed_at, same_text-itself)
value_alone s name (c ∷ cs) = grind (arith, common_steps, inserted_at, same_text-itself)

-- a list about the label alone takes a text of it away exactly if the list matches that label set
pub taken_by : (set : LabelMap) (name text : List ℕ) (list : List Matcher)
    → set ≡ with_value empty name text → IsTrue (asks_only_of name list)
    → takes_away name text list ≡ all_hold set list
taken_by set name text list is alone =
    ap (λ b. b && matches_text text list) alone
    ∙ sym (alone_truth set name list alone
    ∙ ap (λ t. matches_text t list) (ap (λ x. value_of x name) is ∙ value_alone empty name text))

-- the lists about the label alone take it away exactly if one of them matches that label set
pub taken_among : (set : LabelMap) (name text : List ℕ) (lists : List (List Matcher))
    → set ≡ with_value empty name text
    → list_any (takes_away name text) lists ≡ list_any (all_hold set) (filter (asks_only_of name) lists)
taken_among set name text [] is = refl
taken_among set name text (list ∷ lists) is =
    grind (arith, common_steps, cases_Bool, taken_by, taken_among set name text lists)

-- the texts that the label may have, with one text more
pub kept_more : (impossible lists : List (List Matcher)) (set : LabelMap) (name x : List ℕ)
    (xs : List (List ℕ)) (matched : Bool) → lists ≡ filter (asks_only_of name) impossible
    → set ≡ with_value empty name x → matched ≡ list_any (all_hold set) lists
    → filter (may_have impossible name) (xs ++ x ∷ [])
    ≡ filter (may_have impossible name) xs ++ (if not matched then x ∷ [] else [])
kept_more impossible lists set name x xs matched are is answer =
    filter-append (may_have impossible name) xs (x ∷ [])
    ∙ ap (λ b. filter (may_have impossible name) xs ++ (if not b then x ∷ [] else []))
    (taken_among set name x impossible is ∙ ap (list_any (all_hold set)) (sym are) ∙ sym answer)

-- ---- What all of a list pass.

pub all_pass : {X : Type 0} (test : X → Bool) (xs : List X) (x : X) → list_all test xs ≡ true
    → IsIn xs x → test x ≡ true
all_pass test [] x h i = absurd i
all_pass test (y ∷ xs) x h (inl same) = grind (arith, common_steps, and_parts)
all_pass test (y ∷ xs) x h (inr later) = grind (arith, common_steps, all_pass test xs x, and_parts)

pub all_more : {X : Type 0} (test : X → Bool) (xs : List X) (i : ℕ) (x : X)
    → slice_get xs i ≡ Some x → list_all test (take i xs) ≡ true → test x ≡ true
    → list_all test (take (i + 1) xs) ≡ true
all_more test xs i x at before passes =
    list_all_more test xs i x (slice_get_within xs i x at)
    ∙ and_from (list_all test (take i xs)) (test (get_or xs i x)) before
    (ap test (get_or_from_slice_get xs i x x at) ∙ passes)

pub one_fails : {X : Type 0} (test : X → Bool) (xs : List X) (x : X) → IsIn xs x
    → test x ≡ false → list_all test xs ≡ false
one_fails test xs x i fails = grind (arith, common_steps, false_from_ne_true, both_ways, all_pass)

-- ---- Texts that are alike, and those of a filter.

pub distinct_kept : (e : List ℕ → List ℕ → Bool) (test : List ℕ → Bool) (xs : List (List ℕ))
    → IsDistinct e xs → IsDistinct e (filter test xs)
unfolding IsDistinct
distinct_kept e test [] distinct = tt
distinct_kept e test (x ∷ xs) distinct =
    let kept = filter test xs in
    let rest = distinct_kept e test xs distinct.1 in
    cond_both (test x) (x ∷ kept) kept (IsDistinct e) (λ passes. (
      AllByRecursion-each (λ y. e x y ≡ false) kept (λ y i.
          AllByRecursion-at (λ z. e x z ≡ false) xs y distinct.0 (passes_from_kept test xs y i).0),
      rest,
    )) (λ fails. rest)

same_match : (x y : List ℕ) (ms list : List Matcher) → AreAmong list ms → AreAlike ms x y
    → matches_text x list ≡ matches_text y list
same_match x y ms [] among alike = refl
same_match x y ms (m ∷ list) among alike = grind (arith, common_steps, same_match x y ms list)

same_taken : (name x y : List ℕ) (ms list : List Matcher)
    → (IsTrue (asks_only_of name list) → AreAmong list ms) → AreAlike ms x y
    → takes_away name x list ≡ takes_away name y list
same_taken name x y ms list among alike = grind (arith, common_steps, cases_Bool, same_match)

any_taken : (impossible : List (List Matcher)) (name x y : List ℕ) (ms : List Matcher)
    → AllByRecursion (λ list. IsTrue (asks_only_of name list) → AreAmong list ms) impossible
    → AreAlike ms x y
    → list_any (takes_away name x) impossible ≡ list_any (takes_away name y) impossible
any_taken [] name x y ms among alike = refl
any_taken (list ∷ impossible) name x y ms among alike =
    grind (arith, common_steps, same_taken, any_taken impossible name x y ms)

pub same_possible : (impossible : List (List Matcher)) (l : AskedLabel) (x y : List ℕ)
    → HasThoseOfLists impossible l → AreAlike l.matchers x y
    → may_have impossible l.name x ≡ may_have impossible l.name y
same_possible impossible l x y among alike =
    ap not (any_taken impossible l.name x y l.matchers among alike)

-- a part of the texts
pub all_kept : (P : List ℕ → Type 0) (test : List ℕ → Bool) (xs : List (List ℕ))
    → AllByRecursion P xs → AllByRecursion P (filter test xs)
all_kept P test xs all =
    AllByRecursion-each P (filter test xs)
    (λ x i. AllByRecursion-at P xs x all (passes_from_kept test xs x i).0)

-- the texts that the label may have, from texts of which no two are alike
pub are_possible : (alphabet : Alphabet) (impossible : List (List Matcher)) (name : List ℕ)
    (ms : List Matcher) (texts : List (List ℕ)) → AreOver alphabet texts → AreApart ms texts
    → ArePossible alphabet impossible name ms (filter (may_have impossible name) texts)
are_possible alphabet impossible name ms texts over apart =
    let test = may_have impossible name in
    record {
      over = all_kept (IsOver alphabet) test texts over;
      possible = AllByRecursion-each (λ text. IsTrue (test text)) (filter test texts)
          (λ x i. (passes_from_kept test texts x i).1);
      apart = apart_from_distinct_texts ms (filter test texts)
          (distinct_kept (alike ms) test texts (distinct_from_apart ms texts apart));
    }

-- from texts that cover all, they cover all that the label may have
pub cover_possible : (alphabet : Alphabet) (impossible : List (List Matcher)) (l : AskedLabel)
    (texts : List (List ℕ)) → HasThoseOfLists impossible l → Covers alphabet l.matchers texts
    → CoverPossible alphabet impossible l.name l.matchers
    (filter (may_have impossible l.name) texts)
cover_possible alphabet impossible l texts among covers text valid possible =
    let one = covers text valid in
    let test = may_have impossible l.name in
    let passes = same_possible impossible l one.0 text among one.2 ∙ possible in
    let there = kept_from_passes test texts one.0 (IsIn-from_Contains texts one.0 one.1) passes in
    (one.0, Contains-from_IsIn (filter test texts) one.0 there, one.2)
