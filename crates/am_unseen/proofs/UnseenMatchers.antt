-- What holds for a matcher that asks for what no alert has, and for the most similar value.
use Rattle.std.proofs.Common.{◌≡◌, ◌≤◌, ◌<◌, ℕ, List, [], ◌∷◌, refl, sym, ap, ◌∙◌, Bool, true}
use Rattle.std.proofs.Common.{false, not, ◌&&◌, inl, inr, Some, None, Contains, map}
use Rattle.std.specs.Prelude.{IsTrue, nat_le}
use Rattle.std.specs.List.{AllByRecursion, filter, list_any}
use Rattle.std.proofs.lemmas.Bool.{and_parts, and_from, not-true, leb-true, cases_Bool}
use Rattle.std.proofs.lemmas.Bool.{false_from_ne_true, both_ways}
use Rattle.am_universe.specs.LabelSet.{LabelMap, value_of}
use Rattle.am_universe.proofs.ListLemmas.{IsIn, IsIn-map, IsIn-unmap, Contains-from_IsIn}
use Rattle.am_universe.proofs.ListLemmas.{AllByRecursion-each}
use Rattle.am_labels.specs.Matcher.{Matcher, condition_holds, holds, negates}
use Rattle.am_labels.proofs.Passing.{any_in, in_any, passes_from_kept, kept_from_passes}
use Rattle.am_complete.specs.FoundState.{begins, has_label}
use Rattle.am_unseen.specs.declared.limits.TheConstants.{MOST_EDITS}
use Rattle.am_unseen.specs.Unseen.{seen_values, none_passes, is_true_of, asks_for_value}
use Rattle.am_unseen.specs.Unseen.{asks_for_unseen}
use Rattle.am_unseen.specs.Similar.{most_similar, edits_between, is_similar, is_nearest}
use Rattle.am_unseen.proofs.EachOnce.{once_in, in_once}
use Rattle.am_unseen.proofs.Found.{each_fails, some_text, none_from}
use Rattle.am_complete.proofs.LabelTexts.{found}
use Rattle.am_complete.proofs.PossibleTexts.{all_pass}
use Rattle.am_unseen.proofs.Nearest.{all_too_far}

-- ---- The values of a label.

-- each seen value is that of an alert, and each value of an alert is seen
seen_in : (alerts : List LabelMap) (name value : List ℕ) → IsIn (seen_values alerts name) value
    → (a : LabelMap) × IsIn alerts a × (value_of a name ≡ value) × (begins value ≡ true)
seen_in alerts name value i =
    let values = map (λ a. value_of a name) alerts in
    elim (once_in [] (filter begins values) value i) [
      | inl none ↦ absurd none
      | inr some ↦
          let kept = passes_from_kept begins values value some in
          let r = IsIn-unmap (λ a. value_of a name) alerts value kept.0 in
          (r.0, r.1, r.2, kept.1)
    ]

in_seen : (alerts : List LabelMap) (name : List ℕ) (a : LabelMap) → IsIn alerts a
    → begins (value_of a name) ≡ true → IsIn (seen_values alerts name) (value_of a name)
in_seen alerts name a i some =
    let values = map (λ b. value_of b name) alerts in
    in_once [] (filter begins values) (value_of a name)
    (inr (kept_from_passes begins values (value_of a name)
    (IsIn-map (λ b. value_of b name) alerts a i) some))

-- ---- A matcher.

no_text : (text : List ℕ) → begins text ≡ false → text ≡ []
no_text [] e = refl
no_text (c ∷ cs) e = absurd (cc)

-- the conditions on a matcher that asks for what no alert has
parts : (alerts : List LabelMap) (m : Matcher) → IsTrue (asks_for_unseen alerts m)
    → (is_true_of m [] ≡ false) × (none_passes (is_true_of m) (seen_values alerts m.name) ≡ true)
parts alerts m h =
    let p = and_parts (asks_for_value m) (none_passes (is_true_of m) (seen_values alerts m.name)) h in
    let q = and_parts (not (negates m.op)) (not (is_true_of m [])) p.0 in
    (not-true (is_true_of m []) q.1, p.1)

pub unseen_matches_none : (alerts : List LabelMap) (m : Matcher)
    → IsTrue (asks_for_unseen alerts m)
    → list_any (λ a. condition_holds a m) alerts ≡ false
unseen_matches_none alerts m h =
    let p = parts alerts m h in
    let values = seen_values alerts m.name in
    false_from_ne_true (list_any (λ a. condition_holds a m) alerts) (λ some.
    let r = any_in (λ a. condition_holds a m) alerts some in
    let value = value_of r.0 m.name in
    elim (cases_Bool (begins value)) [
      | inl there ↦
          both_ways (is_true_of m value) (each_fails (is_true_of m) values value p.1
          (in_seen alerts m.name r.0 r.1 there)) r.2
      | inr none ↦
          both_ways (is_true_of m []) p.0 (ap (is_true_of m) (sym (no_text value none)) ∙ r.2)
    ])

pub unseen_has_label : (alerts : List LabelMap) (m : Matcher)
    → IsTrue (asks_for_unseen alerts m) → IsTrue (list_any (has_label m.name) alerts)
unseen_has_label alerts m h =
    let values = seen_values alerts m.name in
    let some = some_text (is_true_of m) values (parts alerts m h).1 in
    let r = seen_in alerts m.name some.0 some.1 in
    in_any (has_label m.name) alerts r.0 r.1 (ap begins r.2 ∙ r.3)

pub each_unseen : (alerts : List LabelMap) (m : Matcher) → negates m.op ≡ false
    → holds m.op m.value [] ≡ false → IsTrue (list_any (has_label m.name) alerts)
    → list_any (λ a. condition_holds a m) alerts ≡ false
    → IsTrue (asks_for_unseen alerts m)
each_unseen alerts m asks empty labelled none =
    let values = seen_values alerts m.name in
    let r = any_in (has_label m.name) alerts labelled in
    let fails : none_passes (is_true_of m) values ≡ true =
    none_from (is_true_of m) values (value_of r.0 m.name) (in_seen alerts m.name r.0 r.1 r.2)
    (λ value i. false_from_ne_true (is_true_of m value) (λ found.
    let s = seen_in alerts m.name value i in
    both_ways (list_any (λ a. condition_holds a m) alerts) none
    (in_any (λ a. condition_holds a m) alerts s.0 s.1 (ap (is_true_of m) s.2 ∙ found)))) in
    and_from (asks_for_value m) (none_passes (is_true_of m) values)
    (and_from (not (negates m.op)) (not (is_true_of m [])) (ap not asks) (ap not empty)) fails

-- ---- The most similar value.

pub similar_is_nearest : (text : List ℕ) (values : List (List ℕ)) (similar : List ℕ)
    → most_similar text values ≡ Some similar
    → Contains values similar × (edits_between text similar ≤ MOST_EDITS)
    × AllByRecursion (λ v. edits_between text similar ≤ edits_between text v) values
similar_is_nearest text values similar e =
    let test : List ℕ → Bool = λ v. is_similar text v && is_nearest text values v in
    let r = found test values similar e in
    let p = and_parts (is_similar text similar) (is_nearest text values similar) r.1 in
    let d = edits_between text in (
      Contains-from_IsIn values similar r.0,
      leb-true (d similar) MOST_EDITS p.0,
      AllByRecursion-each (λ v. d similar ≤ d v) values (λ v i.
          leb-true (d similar) (d v) (all_pass (λ u. nat_le (d similar) (d u)) values v p.1 i)),
    )

pub none_is_similar : (text : List ℕ) (values : List (List ℕ)) → most_similar text values ≡ None
    → AllByRecursion (λ v. MOST_EDITS < edits_between text v) values
none_is_similar text values e =
    AllByRecursion-each (λ v. MOST_EDITS < edits_between text v) values
    (all_too_far (edits_between text) MOST_EDITS values e)
