-- The places of the matchers that name a text, and of the others that find it.
use Rattle.std.proofs.Common.{◌≡◌, ◌<◌, ◌+◌, ◌-◌, ℕ, Bool, true, false, not, ◌&&◌, if◌then◌else◌, List}
use Rattle.std.proofs.Common.{[], ◌∷◌, ◌++◌, length, refl, sym, ap, ◌∙◌, inl, inr, arith}
use Rattle.std.proofs.Common.{append-nil, append_assoc, slice_index, string_bytes}
use Rattle.std.specs.List.{list_any}
use Rattle.std.proofs.lemmas.Bool.{cases_Bool, and_parts}
use Rattle.std.proofs.lemmas.Bool.Decides.{nat_tests}
use Rattle.std.proofs.lemmas.Grind.{common_steps}
use Rattle.std.proofs.lemmas.List.Elements.{Contains-get_or}
use Rattle.std.proofs.lemmas.List.Folds.{list_any-append}
use Rattle.std.proofs.lemmas.Option.{slice_get_within}
use Rattle.am_universe.specs.Text.{same_text}
use Rattle.am_universe.proofs.ListLemmas.{IsIn, IsIn-from_Contains}
use Rattle.am_labels.specs.declared.op.Comparison.{Comparison}
use Rattle.am_labels.specs.declared.op.Comparison.TheVariants.{Text, Pattern}
use Rattle.am_labels.specs.Matcher.{Matcher, comparison}
use Rattle.am_labels.specs.Pattern.{finds}
use Rattle.am_labels.proofs.OperatorLemmas.{asks_pattern}
use Rattle.am_classes.specs.Fronts.{ends_with}
use Rattle.am_classes.specs.LabelTests.{noted, with_place}
use Rattle.am_classes.specs.Named.{alternatives_with, named_by, names_texts, names_with, text_with}
use Rattle.am_classes.specs.Truths.{AreHits, compares, finding, naming}
use Rattle.am_classes.specs.declared.tested.Tested.{Tested}
use Rattle.am_classes.proofs.AskedLemmas.{asks_named, is_pattern, known}
use Rattle.am_classes.proofs.PlaceLemmas.{in_places, places_more}

-- ---- The places of those that name a text.

none_named : (so : Comparison) (value text : List ℕ) → names_with so value ≡ false
    → list_any (same_text text) (text_with so value ++ alternatives_with so value) ≡ false
none_named Text value text other = absurd cc
none_named Pattern value text other = rw other refl

names_it : (m : Matcher) (text : List ℕ)
    → (names_texts m && compares text m) ≡ list_any (same_text text) (named_by m)
names_it m text = elim (cases_Bool (names_texts m)) [
  | inl names ↦ rw names (asks_named m text names)
  | inr other ↦ rw other (sym (none_named (comparison m.op) m.value text other))
]

-- a place that is greater than all is not the last one
not_last : (n : ℕ) (places : List ℕ) → ((k : ℕ) → IsIn places k → k < n)
    → ends_with n places ≡ false
not_last n places each = elim (cases_Bool (ends_with n places)) [
  | inl last ↦
      let some : 0 < length places = grind (arith, nat_tests, and_parts) in
      let k = slice_index places (length places - 1) in
      let below : k < n = each k (IsIn-from_Contains places k (Contains-get_or places (length places - 1) 0 (omega (arith, some)))) in
      grind (arith, nat_tests, and_parts)
  | inr other ↦ other
]

pub naming_more : (ms : List Matcher) (m : Matcher) (text : List ℕ)
    → naming (ms ++ m ∷ []) text ≡ noted (named_by m) (length ms) text (naming ms text)
unfolding with_place
naming_more ms m text =
    let test : Matcher → Bool = λ m. names_texts m && compares text m in
    let new : ends_with (length ms) (naming ms text) ≡ false =
    not_last (length ms) (naming ms text) (λ k there.
    let at = in_places test ms k there in slice_get_within ms k at.0 at.1) in
    let n : 0 + length ms ≡ length ms = omega arith in
    places_more 0 test ms m
    ∙ elim (cases_Bool (list_any (same_text text) (named_by m))) [
      | inl names ↦ rw (names_it m text, names, new, n) refl
      | inr other ↦ rw (names_it m text, other) (append-nil (naming ms text))
    ]

-- a place is added once
placed : (n : ℕ) (places : List ℕ) → ends_with n (places ++ n ∷ []) ≡ true
placed n places = grind (arith, common_steps, nat_tests)

placed_twice : (n : ℕ) (places : List ℕ)
    → with_place n (with_place n places) ≡ with_place n places
unfolding with_place
placed_twice n places = elim (cases_Bool (ends_with n places)) [
  | inl last ↦ rw (last, last) refl
  | inr new ↦ rw (new, placed n places) refl
]

pub noted_more : (texts : List (List ℕ)) (text : List ℕ) (n : ℕ) (q : List ℕ) (places : List ℕ)
    → noted (texts ++ text ∷ []) n q places ≡ noted (text ∷ []) n q (noted texts n q places)
noted_more texts text n q places =
    ap (λ b. if b then with_place n places else places) (list_any-append (same_text q) texts (text ∷ []))
    ∙ elim (cases_Bool (list_any (same_text q) texts)) [
      | inl before ↦ elim (cases_Bool (same_text q text)) [
        | inl here ↦ rw (before, here) (sym (placed_twice n places))
        | inr other ↦ rw (before, other) refl
      ]
      | inr missed ↦ rw missed refl
    ]

-- ---- Hits, matcher by matcher.

pub hits_moved : (one other : List ℕ → List ℕ) → ((text : List ℕ) → one text ≡ other text)
    → (tested : List Tested) → AreHits one tested → AreHits other tested
hits_moved one other same [] h = tt
hits_moved one other same (t ∷ tested) h =
    (h.0 ∙ same (string_bytes t.text), hits_moved one other same tested h.1)

module _ (ms front : List Matcher) (m : Matcher) (text : List ℕ) where
  -- the matcher names texts
  pub hit_same : names_texts m ≡ true
      → naming ms text ++ finding (front ++ m ∷ []) text ≡ naming ms text ++ finding front text
  hit_same names =
      ap (λ ks. naming ms text ++ ks)
      (places_more 0 (λ n. not (names_texts n) && compares text n) front m
      ∙ rw names (append-nil (finding front text)))

  -- it names none
  pub hit_more : (n : ℕ) → n ≡ length front → names_texts m ≡ false
      → naming ms text ++ finding (front ++ m ∷ []) text
      ≡ (naming ms text ++ finding front text) ++ (if finds m.value text then n ∷ [] else [])
  hit_more n is other =
      let pattern = asks_pattern m.op m.value text (is_pattern m other (known (comparison m.op))) in
      let place : 0 + length front ≡ n = omega (arith, is) in
      ap (λ ks. naming ms text ++ ks)
      (places_more 0 (λ n. not (names_texts n) && compares text n) front m
      ∙ rw (other, pattern, place) refl)
      ∙ sym (append_assoc (naming ms text) (finding front text) _)
