-- Texts that are wanted, with one more; and those that matchers ask about.
use Rattle.std.proofs.Common.{◌≡◌, ◌+◌, ◌<◌, ◌≤◌, ℕ, List, [], ◌∷◌, ◌++◌, Some, slice_get, length, inl, inr, refl, ap, sym, subst, ◌∙◌, ◌⊎◌, arith, length-append, Bool, IsPermutation}
use Rattle.std.specs.List.{list_any, flat_map, filter, AllByRecursion}
use Rattle.std.proofs.lemmas.List.Sorted.{Contains-permutation, IsPermutation-sym}
use Rattle.std.specs.Str.{bytes_eq}
use Rattle.std.proofs.Common.{true, false, zero, suc, ◌||◌}
use Rattle.std.proofs.lemmas.Bool.{cases_Bool}
use Rattle.std.proofs.Common.{Bor, map}
use Rattle.std.proofs.lemmas.List.{length-map, map-append}
use Rattle.indexmap.specs.IndexSet.{insert_key}
use Rattle.std.proofs.lemmas.Slice.Eq.{bytes_eq-Decides}
use Rattle.std.proofs.lemmas.Option.{same_Some}
use Rattle.std.proofs.lemmas.Grind.{common_steps}
use Rattle.am_universe.proofs.ListLemmas.{IsIn, IsIn-left, IsIn-right, IsIn-split}
use Rattle.am_universe.proofs.ListLemmas.{IsIn-from_Contains, Contains-from_IsIn}
use Rattle.am_universe.proofs.Members.{at_in, in_at, in_joined, joined_in}
use Rattle.am_labels.specs.declared.op.Comparison.{Comparison}
use Rattle.am_labels.specs.declared.op.Comparison.TheVariants.{Text, Pattern}
use Rattle.am_universe.specs.Text.{same_text}
use Rattle.am_labels.specs.declared.op.Op.{Op}
use Rattle.am_labels.specs.Matcher.{Matcher, comparison}
use Rattle.am_labels.proofs.OperatorLemmas.{asks, asks_text, asks_pattern}
use Rattle.am_labels.proofs.WildcardMatches.{finds_alternatives}
use Rattle.am_labels.proofs.Passing.{any_in, in_any, passes_from_kept, kept_from_passes}
use Rattle.am_classes.specs.Alike.{HasOtherPattern}
use Rattle.am_classes.specs.declared.alphabet.Alphabet.{Alphabet}
use Rattle.am_classes.specs.Alphabet.{is_over}
use Rattle.am_labels.specs.Wildcards.{is_alternation}
use Rattle.am_classes.specs.Named.{AreEachOnce, names_with, text_with, alternatives_with}
use Rattle.am_classes.specs.Named.{names_texts, text_of, alternatives_of, named_by, named_over}
use Rattle.am_classes.specs.Named.{other_pattern, other_patterns}
use Rattle.am_scan.proofs.Places.{get_pushed, get_kept, get_last}
use Rattle.am_classes.proofs.AutomataLemmas.{get_mapped, get_under}

pub no_texts : AreEachOnce [] []
no_texts = record {
  each = λ k x e. absurd cc;
  from = λ j x e. absurd cc;
  once = λ i j x e f. absurd cc;
}

-- ---- One more wanted text.

module _ (wanted texts : List (List ℕ)) (text : List ℕ) (h : AreEachOnce wanted texts) where
  from_kept : (j : ℕ) (x : List ℕ) → slice_get texts j ≡ Some x
      → (k : ℕ) × (slice_get (wanted ++ text ∷ []) k ≡ Some x)
  from_kept j x e = let f = h.from j x e in (f.0, get_kept wanted (text ∷ []) x f.0 f.1)

  -- It is there already.
  pub once_same : (j : ℕ) → slice_get texts j ≡ Some text → AreEachOnce (wanted ++ text ∷ []) texts
  once_same j there = record {
    each = λ k x e. elim (get_pushed wanted text x k e) [
      | inl before ↦ h.each k x before
      | inr b ↦ (j, there ∙ ap Some b.1)
    ];
    from = from_kept;
    once = h.once;
  }

  -- It is new, and is added.
  pub once_push : ((j : ℕ) → slice_get texts j ≡ Some text → ⊥)
      → AreEachOnce (wanted ++ text ∷ []) (texts ++ text ∷ [])
  once_push new = record {
    each = λ k x e. elim (get_pushed wanted text x k e) [
      | inl before ↦ let f = h.each k x before in (f.0, get_kept texts (text ∷ []) x f.0 f.1)
      | inr b ↦ (length texts, get_last texts text ∙ ap Some b.1)
    ];
    from = λ j x e. elim (get_pushed texts text x j e) [
      | inl before ↦ from_kept j x before
      | inr b ↦ (length wanted, get_last wanted text ∙ ap Some b.1)
    ];
    once = λ i j x at also. elim (get_pushed texts text x i at) [
      | inl p ↦ elim (get_pushed texts text x j also) [
        | inl b ↦ h.once i j x p b
        | inr b ↦ absurd (new i (p ∙ ap Some (sym b.1)))
      ]
      | inr p ↦ elim (get_pushed texts text x j also) [
        | inl b ↦ absurd (new j (b ∙ ap Some (sym p.1)))
        | inr b ↦ p.0 ∙ sym b.0
      ]
    ];
  }

-- It is put into a set of texts.
module _ (eq : Bor (List ℕ) → Bor (List ℕ) → Bool)
    (same : (x y : Bor (List ℕ)) → eq x y ≡ bytes_eq x.now y.now) where
  pub once_inserted : (wanted : List (List ℕ)) (keys : List (Bor (List ℕ))) (k : Bor (List ℕ))
      → AreEachOnce wanted (map (λ t. t.now) keys)
      → AreEachOnce (wanted ++ k.now ∷ []) (map (λ t. t.now) (insert_key eq keys k))
  once_inserted wanted keys k h = elim (cases_Bool (list_any (eq k) keys)) [
    | inl there ↦
        let one = any_in (eq k) keys there in
        let at = at_in keys one.0 one.1 in
        let is : one.0.now ≡ k.now =
        sym ((bytes_eq-Decides k.now one.0.now).0 (sym (same k one.0) ∙ one.2)) in
        rw there (once_same wanted (map (λ t. t.now) keys) k.now h at.0
        (get_under (λ t. t.now) keys at.0 one.0 at.1 ∙ ap Some is))
    | inr new ↦
        rw (new, map-append) (once_push wanted (map (λ t. t.now) keys) k.now h (λ j at.
        let y = get_mapped (λ t. t.now) keys j k.now at in
        let found = in_any (eq k) keys y.0 (in_at keys j y.0 y.1)
        (same k y.0 ∙ (bytes_eq-Decides k.now y.0.now).1 (sym y.2)) in absurd cc))
  ]

-- A text that a test of each text finds is at a position.
pub among_place : (xs : List (List ℕ)) (text : List ℕ) → list_any (λ x. bytes_eq x text) xs ≡ true
    → (k : ℕ) × (slice_get xs k ≡ Some text)
among_place xs text e =
    let one = any_in (λ x. bytes_eq x text) xs e in
    at_in xs text (subst (IsIn xs) ((bytes_eq-Decides one.0 text).0 one.2) one.1)

-- A text that is at a position is found by the test.
pub among_found : (xs : List (List ℕ)) (text : List ℕ) (k : ℕ) → slice_get xs k ≡ Some text
    → list_any (λ x. bytes_eq x text) xs ≡ true
among_found xs text k e =
    in_any (λ x. bytes_eq x text) xs text (in_at xs k text e) ((bytes_eq-Decides text text).1 refl)

-- A text is at some position, or at none.
pub among_cases : (xs : List (List ℕ)) (text : List ℕ)
    → ((k : ℕ) × (slice_get xs k ≡ Some text)) ⊎ ((k : ℕ) → slice_get xs k ≡ Some text → ⊥)
among_cases xs text = elim (cases_Bool (list_any (λ x. bytes_eq x text) xs)) [
  | inl found ↦ inl (among_place xs text found)
  | inr missed ↦ inr (λ k e. let found = among_found xs text k e in absurd cc)
]

-- The length of all texts together. No text is longer.
abbrev pub length_of_all : List (List ℕ) → ℕ
length_of_all [] = 0
length_of_all (x ∷ xs) = length x + length_of_all xs

pub one_of_all : (xs : List (List ℕ)) (text : List ℕ) (k : ℕ) → slice_get xs k ≡ Some text
    → length text ≤ length_of_all xs
one_of_all [] text k e = absurd cc
one_of_all (x ∷ xs) text zero e = grind (arith, common_steps, same_Some)
one_of_all (x ∷ xs) text (suc k) e = grind (arith, common_steps, one_of_all xs text k e)

pub ruleset no_longer = (length_of_all, one_of_all, length-append)

-- ---- What matchers name, and what not.

-- The same texts are wanted if some of them are in another order.
pub once_moved : (test : List ℕ → Bool) (xs ys zs texts : List (List ℕ)) → IsPermutation ys zs
    → AreEachOnce (([] ++ filter test xs) ++ filter test zs) texts
    → AreEachOnce (filter test (xs ++ ys)) texts
once_moved test xs ys zs texts moved h =
    let before = filter test (xs ++ ys) in
    let after = filter test xs ++ filter test zs in
    record {
      each = λ k text at.
          let kept = passes_from_kept test (xs ++ ys) text (in_at before k text at) in
          let there : IsIn after text = elim (IsIn-split xs ys text kept.0) [
            | inl here ↦ IsIn-left (filter test xs) (filter test zs) text (kept_from_passes test xs text here kept.1)
            | inr here ↦
                IsIn-right (filter test xs) (filter test zs) text
                (kept_from_passes test zs text (within ys zs text moved here) kept.1)
          ] in
          let place = at_in after text there in h.each place.0 text place.1;
      from = λ j text at.
          let place = h.from j text at in
          let there : (IsIn xs text ⊎ IsIn ys text) × (test text ≡ true) =
          elim (IsIn-split (filter test xs) (filter test zs) text (in_at after place.0 text place.1)) [
            | inl here ↦ let kept = passes_from_kept test xs text here in (inl kept.0, kept.1)
            | inr here ↦
                let kept = passes_from_kept test zs text here in
                (inr (within zs ys text (IsPermutation-sym ys zs moved) kept.0), kept.1)
          ] in
          let both : IsIn (xs ++ ys) text = elim there.0 [
            | inl here ↦ IsIn-left xs ys text here
            | inr here ↦ IsIn-right xs ys text here
          ] in
          at_in before text (kept_from_passes test (xs ++ ys) text both there.1);
      once = h.once;
    }
  where
    within : (us vs : List (List ℕ)) (text : List ℕ) → IsPermutation us vs → IsIn us text → IsIn vs text
    within us vs text m i =
        IsIn-from_Contains vs text (Contains-permutation us vs text m (Contains-from_IsIn us text i))

named_once_with : (so : Comparison) (value text : List ℕ)
    → IsIn (text_with so value ++ alternatives_with so value) text → names_with so value ≡ true
named_once_with Text value text h = refl
named_once_with Pattern value text h = elim (cases_Bool (is_alternation value)) [
  | inl names ↦ names
  | inr other ↦ absurd (rw other at h)
]

pub named_in : (a : Alphabet) (ms : List Matcher) (m : Matcher) (text : List ℕ) → IsIn ms m
    → IsIn (named_by m) text → is_over a text ≡ true → IsIn (named_over a ms) text
named_in a ms m text i named over =
    let xs = flat_map text_of ms in
    let ys = flat_map alternatives_of ms in
    kept_from_passes (is_over a) (xs ++ ys) text
    (elim (IsIn-split (text_of m) (alternatives_of m) text named) [
      | inl here ↦ IsIn-left xs ys text (joined_in text_of ms m text i here)
      | inr part ↦ IsIn-right xs ys text (joined_in alternatives_of ms m text i part)
    ])
    over

pub named_from : (a : Alphabet) (ms : List Matcher) (text : List ℕ) → IsIn (named_over a ms) text
    → (m : Matcher) × IsIn ms m × IsIn (named_by m) text × (names_texts m ≡ true)
    × (is_over a text ≡ true)
named_from a ms text h =
    let xs = flat_map text_of ms in
    let ys = flat_map alternatives_of ms in
    let kept = passes_from_kept (is_over a) (xs ++ ys) text h in
    let m : (m : Matcher) × IsIn ms m × IsIn (named_by m) text =
    elim (IsIn-split xs ys text kept.0) [
      | inl here ↦
          let from = in_joined text_of ms text here in
          (from.0, from.1, IsIn-left (text_of from.0) (alternatives_of from.0) text from.2)
      | inr part ↦
          let from = in_joined alternatives_of ms text part in
          (from.0, from.1, IsIn-right (text_of from.0) (alternatives_of from.0) text from.2)
    ] in
    (m.0, m.1, m.2, named_once_with (comparison m.0.op) m.0.value text m.2, kept.1)

pub other_in : (ms : List Matcher) (m : Matcher) → IsIn ms m → names_texts m ≡ false
    → IsIn (other_patterns ms) m.value
other_in ms m i other =
    let here : IsIn (other_pattern m) m.value = rw other (inl refl) in
    joined_in other_pattern ms m m.value i here

other_once : (m : Matcher) (pattern : List ℕ) → IsIn (other_pattern m) pattern
    → (names_texts m ≡ false) × (m.value ≡ pattern)
other_once m pattern h = elim (cases_Bool (names_texts m)) [
  | inl names ↦ absurd (rw names at h)
  | inr other ↦ (other, elim (rw other at h) [ inl same ↦ same | inr none ↦ absurd none ])
]

pub other_from : (ms : List Matcher) (pattern : List ℕ) → IsIn (other_patterns ms) pattern
    → (m : Matcher) × IsIn ms m × (names_texts m ≡ false) × (m.value ≡ pattern)
other_from ms pattern h =
    let m = in_joined other_pattern ms pattern h in
    let own = other_once m.0 pattern m.2 in (m.0, m.1, own.0, own.1)

-- If there are other patterns, one of the matchers has the first of them.
pub has_other : (ms : List Matcher) (patterns : List (List ℕ))
    → AreEachOnce (other_patterns ms) patterns → 0 < length patterns → HasOtherPattern ms
has_other ms [] h some = absurd (omega (arith, some))
has_other ms (pattern ∷ patterns) h some =
    let from = h.from 0 pattern refl in
    let m = other_from ms pattern (in_at (other_patterns ms) from.0 pattern from.1) in
    (m.0, Contains-from_IsIn ms m.0 m.1, m.2)

-- Whether a text is one of those that a matcher names is what the matcher asks.
or_none : (b : Bool) → (b || false) ≡ b
or_none true = refl
or_none false = refl

asks_with : (op : Op) (value text : List ℕ) (so : Comparison) → comparison op ≡ so
    → names_with so value ≡ true → asks op value text
    ≡ list_any (same_text text) (text_with so value ++ alternatives_with so value)
asks_with op value text Text is names = asks_text op value text is ∙ sym (or_none (same_text text value))
asks_with op value text Pattern is names =
    asks_pattern op value text is ∙ rw names (finds_alternatives value text names)

pub asks_named : (m : Matcher) (text : List ℕ) → names_texts m ≡ true
    → asks m.op m.value text ≡ list_any (same_text text) (named_by m)
asks_named m text names = asks_with m.op m.value text (comparison m.op) refl names

-- A matcher that names no texts compares with a pattern.
pub is_pattern : (m : Matcher) → names_texts m ≡ false
    → (comparison m.op ≡ Text) ⊎ (comparison m.op ≡ Pattern) → comparison m.op ≡ Pattern
is_pattern m other (inl text) =
    let names : names_texts m ≡ true = ap (λ so. names_with so m.value) text in absurd cc
is_pattern m other (inr pattern) = pattern

-- Each matcher compares with a text or with a pattern.
pub known : (so : Comparison) → (so ≡ Text) ⊎ (so ≡ Pattern)
known Text = inl refl
known Pattern = inr refl

pub all_known : (ms : List Matcher)
    → AllByRecursion (λ m. (comparison m.op ≡ Text) ⊎ (comparison m.op ≡ Pattern)) ms
all_known [] = tt
all_known (m ∷ ms) = (known (comparison m.op), all_known ms)
