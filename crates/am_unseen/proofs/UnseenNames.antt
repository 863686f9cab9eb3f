-- What holds for a name that no alert has, though some alert has a label.
use Rattle.std.proofs.Common.{◌≡◌, ℕ, List, [], ◌∷◌, refl, sym, ap, subst, ◌∙◌, true, false}
use Rattle.std.proofs.Common.{inl, inr, Option, Some, None, is_some, unwrap_or}
use Rattle.std.specs.Prelude.{IsTrue}
use Rattle.std.specs.Ordering.{nat_cmp, eq_by_cmp}
use Rattle.std.specs.Cmp.Lexicographic.{slice_cmp, bytes_decides}
use Rattle.std.specs.FinMap.{get, entries, keys, get-entries}
use Rattle.std.specs.FinMap.Entries.{is_some-find}
use Rattle.std.specs.List.{AllByRecursion, flat_map, list_any}
use Rattle.std.proofs.lemmas.Bool.{both_ways, false_from_ne_true}
use Rattle.am_universe.specs.LabelSet.{LabelMap, HasTextsAlone}
use Rattle.am_universe.specs.Text.{same_text}
use Rattle.am_universe.proofs.LabelMapLemmas.{flips}
use Rattle.am_universe.proofs.ListLemmas.{IsIn, AllByRecursion-at}
use Rattle.am_universe.proofs.Members.{in_joined, joined_in}
use Rattle.am_labels.proofs.Passing.{any_in, in_any}
use Rattle.am_complete.specs.FoundState.{begins, has_label}
use Rattle.am_unseen.specs.UnseenNames.{seen_names, is_unseen_name}
use Rattle.am_unseen.proofs.EachOnce.{once_in, in_once}
use Rattle.am_unseen.proofs.Found.{each_fails, some_text, none_from}

-- ---- The names of an alert.

-- a name is that of an entry exactly if the map has something there
there : (a : LabelMap) (name : List ℕ)
    → is_some (get a name) ≡ list_any (eq_by_cmp (slice_cmp nat_cmp) name) (keys a)
there a name =
    ap is_some (get-entries a name) ∙ is_some-find (slice_cmp nat_cmp) name (entries a)

has_value : (value : Option (List ℕ)) → begins (unwrap_or value []) ≡ true → is_some value ≡ true
has_value None h = absurd (cc)
has_value (Some v) h = refl

has_text : (value : Option (List ℕ)) → (value ≡ Some [] → ⊥) → is_some value ≡ true
    → begins (unwrap_or value []) ≡ true
has_text None some h = absurd (cc)
has_text (Some []) some h = absurd (some refl)
has_text (Some (c ∷ cs)) some h = refl

label_named : (a : LabelMap) (name : List ℕ) → has_label name a ≡ true → IsIn (keys a) name
label_named a name h =
    let r = any_in (eq_by_cmp (slice_cmp nat_cmp) name) (keys a)
    (sym (there a name) ∙ has_value (get a name) h) in
    subst (IsIn (keys a)) ((bytes_decides r.0 name).0 (sym (flips name r.0) ∙ r.2)) r.1

named_label : (a : LabelMap) (name : List ℕ) → HasTextsAlone a → IsIn (keys a) name
    → has_label name a ≡ true
named_label a name texts i =
    has_text (get a name) (texts name) (there a name
    ∙ in_any (eq_by_cmp (slice_cmp nat_cmp) name) (keys a) name i
    (flips name name ∙ (bytes_decides name name).1 refl))

-- ---- The names of all alerts.

seen_in : (alerts : List LabelMap) (name : List ℕ) → IsIn (seen_names alerts) name
    → (a : LabelMap) × IsIn alerts a × IsIn (keys a) name
seen_in alerts name i = elim (once_in [] (flat_map keys alerts) name i) [
  | inl none ↦ absurd none
  | inr some ↦ in_joined keys alerts name some
]

in_seen : (alerts : List LabelMap) (a : LabelMap) (name : List ℕ) → IsIn alerts a
    → IsIn (keys a) name → IsIn (seen_names alerts) name
in_seen alerts a name i named =
    in_once [] (flat_map keys alerts) name (inr (joined_in keys alerts a name i named))

pub none_has_unseen : (alerts : List LabelMap) (name : List ℕ)
    → IsTrue (is_unseen_name alerts name) → list_any (has_label name) alerts ≡ false
none_has_unseen alerts name h =
    false_from_ne_true (list_any (has_label name) alerts) (λ some.
    let r = any_in (has_label name) alerts some in
    both_ways (same_text name name)
    (each_fails (same_text name) (seen_names alerts) name h
    (in_seen alerts r.0 name r.1 (label_named r.0 name r.2)))
    ((bytes_decides name name).1 refl))

pub some_has_other : (alerts : List LabelMap) (name : List ℕ)
    → AllByRecursion HasTextsAlone alerts → IsTrue (is_unseen_name alerts name)
    → (other : List ℕ) × IsTrue (list_any (has_label other) alerts)
some_has_other alerts name texts h =
    let some = some_text (same_text name) (seen_names alerts) h in
    let r = seen_in alerts some.0 some.1 in (
      some.0,
      in_any (has_label some.0) alerts r.0 r.1
          (named_label r.0 some.0 (AllByRecursion-at HasTextsAlone alerts r.0 texts r.1) r.2),
    )

pub each_unseen_name : (alerts : List LabelMap) (name other : List ℕ)
    → AllByRecursion HasTextsAlone alerts → IsTrue (list_any (has_label other) alerts)
    → list_any (has_label name) alerts ≡ false → IsTrue (is_unseen_name alerts name)
each_unseen_name alerts name other texts some none =
    let r = any_in (has_label other) alerts some in
    none_from (same_text name) (seen_names alerts) other
    (in_seen alerts r.0 other r.1 (label_named r.0 other r.2))
    (λ seen i. false_from_ne_true (same_text name seen) (λ same.
    let s = seen_in alerts seen i in
    let named : IsIn (keys s.0) name = subst (IsIn (keys s.0)) (sym ((bytes_decides name seen).0 same)) s.2 in
    both_ways (list_any (has_label name) alerts) none
    (in_any (has_label name) alerts s.0 s.1
    (named_label s.0 name (AllByRecursion-at HasTextsAlone alerts s.0 texts s.1) named))))
