-- The labels that are gathered from matchers are those that the matchers ask about.
use Rattle.std.proofs.lemmas.Grind.{common_steps}
use Rattle.std.proofs.Common.{arith, ◌≡◌, ◌≢◌, ℕ, Bool, true, List, [], ◌∷◌, ◌++◌, map, fold, Contains, refl}
use Rattle.std.proofs.Common.{◌||◌, sym, ap, ◌∙◌, subst, inl, inr, append_assoc}
use Rattle.std.specs.List.{IsDistinct, list_any, filter}
use Rattle.std.specs.Cmp.Lexicographic.{bytes_decides}
use Rattle.std.proofs.lemmas.Bool.{both_ways, cases_Bool}
use Rattle.std.proofs.lemmas.List.{map-append, append-nil}
use Rattle.am_universe.specs.Text.{same_text}
use Rattle.am_universe.proofs.ListLemmas.{IsIn, IsIn-left, IsIn-right, IsIn-map, IsIn-unmap}
use Rattle.am_universe.proofs.ListLemmas.{Contains-from_IsIn, AllByRecursion-each}
use Rattle.am_universe.proofs.DistinctLists.{distinct_none, distinct_push}
use Rattle.am_labels.specs.Matcher.{Matcher}
use Rattle.am_labels.proofs.Passing.{any_in, in_any, passes_from_kept, kept_from_passes}
use Rattle.am_complete.specs.declared.origin.Origin.{Origin}
use Rattle.am_complete.specs.Complete.{about, HaveSameMatchers}
use Rattle.am_complete.specs.AskedLabel.{AskedLabel, asked_names, and_asked, label_of, with_asked}
use Rattle.am_complete.specs.AskedLabel.{asks_same, with_matcher, asked_labels, IsAskedOf}
use Rattle.am_complete.specs.FoundState.{begins}
use Rattle.am_complete.proofs.Alike.{about_is, is_about}
use Rattle.am_complete.proofs.GatheringLemmas.{with_matcher_name}
use Rattle.am_complete.proofs.Pushed.{in_pushed}
use Rattle.am_complete.proofs.SameMatchers.{equal_is, same_by}
use Rattle.am_asked.specs.Placed.{is_named}
use Rattle.am_asked.proofs.PlacedMatchers.{conditions_of, Places}

-- a label has exactly those of some matchers that are on it
record HasThoseOn (ms : List Matcher) (l : AskedLabel) : Type 0 where
  there : (x : Matcher) → IsIn l.matchers x → IsIn ms x × (x.name ≡ l.name)
  back : (x : Matcher) → IsIn ms x → x.name ≡ l.name → IsIn l.matchers x

-- no two labels have the same name, each label has the matchers on it, and no label is missing
record Gathers (labels : List AskedLabel) (ms : List Matcher) : Type 0 where
  distinct : IsDistinct same_text (asked_names labels)
  matchers : (l : AskedLabel) → IsIn labels l → HasThoseOn ms l
  every : (x : Matcher) → IsIn ms x → IsIn (asked_names labels) x.name

-- ---- One matcher more.

-- a label with another name keeps the same matchers
stays : (m : Matcher) (ms : List Matcher) (l : AskedLabel) → m.name ≢ l.name
    → HasThoseOn ms l → HasThoseOn (ms ++ m ∷ []) l
stays m ms l other h = record {
  there = λ x i. (IsIn-left ms (m ∷ []) x (h.there x i).0, (h.there x i).1);
  back = λ x i on. grind (arith, common_steps, in_pushed, h.back);
}

-- the label with its name has the matcher too, once
gains_it : (m : Matcher) (ms : List Matcher) (l : AskedLabel) → m.name ≡ l.name
    → HasThoseOn ms l → HasThoseOn (ms ++ m ∷ []) (with_matcher m l)
gains_it m ms l named h = elim (cases_Bool (list_any (asks_same m) l.matchers)) [
  | inl some ↦
      let found = any_in (asks_same m) l.matchers some in
      let is = equal_is m found.0 (named ∙ sym (h.there found.0 found.1).1) found.2 in
      rw some (record {
        there = λ x i. (IsIn-left ms (m ∷ []) x (h.there x i).0, (h.there x i).1);
        back = λ x i on. grind (arith, common_steps, in_pushed, h.back, found.1, is);
      })
  | inr none ↦
      rw none (record {
        there = λ x i. grind (arith, common_steps, in_pushed, h.there, IsIn-left, IsIn-right, named);
        back = λ x i on. grind (arith, common_steps, in_pushed, h.back, IsIn-left, IsIn-right);
      })
]

gains : (m : Matcher) (ms : List Matcher) (l : AskedLabel) → HasThoseOn ms l
    → HasThoseOn (ms ++ m ∷ []) (and_asked m l)
gains m ms l h =
    grind (arith, common_steps, cases_Bool, bytes_decides l.name m.name, gains_it, stays, h)

names_stay : (m : Matcher) (labels : List AskedLabel)
    → asked_names (map (and_asked m) labels) ≡ asked_names labels
names_stay m [] = refl
names_stay m (l ∷ labels) =
    grind (arith, common_steps, cases_Bool, with_matcher_name, names_stay m labels)

step : (labels : List AskedLabel) (ms : List Matcher) (origin : Origin) (m : Matcher)
    → Gathers labels ms → Gathers (with_asked labels (origin, m)) (ms ++ m ∷ [])
step labels ms origin m h =
    let test : AskedLabel → Bool = λ l. same_text l.name m.name in
    let ns = asked_names labels in
    elim (cases_Bool (list_any test labels)) [
      | inl some ↦
          let found = any_in test labels some in
          let here : IsIn ns m.name =
          subst (IsIn ns) ((bytes_decides found.0.name m.name).0 found.2)
          (IsIn-map (λ l. l.name) labels found.0 found.1) in
          rw some (record {
            distinct = subst (IsDistinct same_text) (sym (names_stay m labels)) h.distinct;
            matchers = λ l i.
                let k = IsIn-unmap (and_asked m) labels l i in
                subst (HasThoseOn (ms ++ m ∷ [])) k.2 (gains m ms k.0 (h.matchers k.0 k.1));
            every = λ x i. grind (arith, common_steps, in_pushed, h.every, names_stay, here);
          })
      | inr none ↦
          let new = label_of (origin, m) in
          let names = map-append (λ l. l.name) labels (new ∷ []) in
          let other : (l : AskedLabel) → IsIn labels l → m.name ≢ l.name = λ l i named.
          both_ways _ none (in_any test labels l i ((bytes_decides l.name m.name).1 (sym named))) in
          let first : HasThoseOn (ms ++ m ∷ []) new = record {
            there = λ x i. elim i [
              | inl is ↦ (IsIn-right ms (m ∷ []) x (inl is), ap (λ n. n.name) (sym is))
              | inr never ↦ absurd never
            ];
            back = λ x i on. grind (arith, common_steps, in_pushed, h.every, IsIn-unmap, other, on);
          } in
          rw none (record {
            distinct = subst (IsDistinct same_text) (sym names)
                (distinct_push same_text ns m.name h.distinct (any_named m.name labels ∙ none));
            matchers = λ l i. elim (in_pushed labels new l i) [
              | inl before ↦ stays m ms l (other l before) (h.matchers l before)
              | inr last ↦ subst (HasThoseOn (ms ++ m ∷ [])) last first
            ];
            every = λ x i.
                grind (arith, common_steps, in_pushed, h.every, IsIn-left, IsIn-right, names);
          })
    ]
  where
    any_named : (name : List ℕ) (labels : List AskedLabel)
        → list_any (λ n. same_text n name) (asked_names labels)
        ≡ list_any (λ l. same_text l.name name) labels
    any_named name [] = refl
    any_named name (l ∷ labels) = ap (λ b. same_text l.name name || b) (any_named name labels)

-- ---- All of them.

steps : (placed : List (Origin × Matcher)) (labels : List AskedLabel) (ms : List Matcher)
    → Gathers labels ms → Gathers (fold with_asked labels placed) (ms ++ conditions_of placed)
steps [] labels ms h = subst (Gathers labels) (sym (append-nil ms)) h
steps (p ∷ placed) labels ms h =
    subst (Gathers (fold with_asked (with_asked labels p) placed))
    (append_assoc ms (p.1 ∷ []) (conditions_of placed))
    (steps placed (with_asked labels p) (ms ++ p.1 ∷ []) (step labels ms p.0 p.1 h))

-- a text that is not empty has a first byte
some_text : (text : List ℕ) → text ≢ [] → begins text ≡ true
some_text [] h = absurd (h refl)
some_text (c ∷ cs) h = refl

-- a matcher with a name is in both of two lists that differ in matchers without a name alone
in_other : (xs ys : List Matcher) → filter is_named xs ≡ filter is_named ys → (x : Matcher)
    → IsIn xs x → x.name ≢ [] → IsIn ys x
in_other xs ys same x i some =
    let kept = kept_from_passes is_named xs x i (some_text x.name some) in
    (passes_from_kept is_named ys x (subst (λ (zs : List Matcher). IsIn zs x) same kept)).0

-- the labels that are gathered from placed matchers are those that these matchers ask about
pub asked_of : {placed : List (Origin × Matcher)} {ms : List Matcher} → Places placed ms
    → IsAskedOf (asked_labels placed) ms
asked_of {placed} {ms} places =
    let labels = asked_labels placed in
    let cs = conditions_of placed in
    let none : Gathers [] [] = record {
      distinct = distinct_none same_text;
      matchers = λ l never. absurd never;
      every = λ x never. absurd never;
    } in
    let all : Gathers labels cs = steps placed [] [] none in
    record {
      distinct = all.distinct;
      matchers = AllByRecursion-each
          (λ l. l.name ≢ [] → HaveSameMatchers l.matchers (about l.name ms)) labels (λ l i some.
          let has = all.matchers l i in
          same_by l.matchers (about l.name ms)
          (λ x j.
          let found = has.there x j in
          is_about l.name ms x
          (in_other cs ms places.same x found.0 (λ none. some (sym found.1 ∙ none))) found.1)
          (λ x j.
          let found = about_is l.name ms x j in
          has.back x
          (in_other ms cs (sym places.same) x found.0 (λ none. some (sym found.1 ∙ none))) found.1));
      every = AllByRecursion-each (λ m. m.name ≢ [] → Contains (asked_names labels) m.name) ms
          (λ m i some. Contains-from_IsIn (asked_names labels) m.name
          (all.every m (in_other ms cs (sym places.same) m i some)));
    }
