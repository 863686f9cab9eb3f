-- Texts of labels: which is alike to a text, and what is known of texts that were looked for.
use Rattle.std.proofs.Common.{◌≡◌, ◌<◌, ℕ, nat_eq, length, vec_len, Bool, true, cond, List, [], ◌∷◌}
use Rattle.std.proofs.Common.{map, get_or, Option, Some, None, String, string_bytes}
use Rattle.std.proofs.Common.{refl, ap, sym, ◌∙◌, inl, inr, arith, nat_lt}
use Rattle.std.specs.Prelude.{position}
use Rattle.std.specs.List.{AllByRecursion, position_or_len}
use Rattle.std.specs.Global.{Vec}
use Rattle.std.specs.Map.{lookup}
use Rattle.std.specs.declared.alloc.Global.{Global}
use Rattle.std.proofs.lemmas.Bool.{cases_Bool}
use Rattle.std.proofs.lemmas.List.{length-map}
use Rattle.std.proofs.lemmas.Grind.{common_steps}
use Rattle.std.specs.Cmp.Lexicographic.{pointwise}
use Rattle.indexmap.specs.IndexMap.{insert_entry}
use Rattle.am_universe.specs.Universe.{Label}
use Rattle.am_labels.specs.Matcher.{Matcher}
use Rattle.am_classes.specs.Truths.{AreTested, alike, are_same, hits, texts_of}
use Rattle.am_classes.specs.declared.tested.Tested.{Tested}
use Rattle.am_complete.specs.Complete.{texts_of_label}
use Rattle.am_rule_outcomes.specs.Narrowing.{alike_position}

-- ---- The first text that is alike.

same_position : {X Y : Type 0} (p : X → Bool) (q : Y → Bool) (f : X → Y) (xs : List X)
    → AllByRecursion (λ x. p x ≡ q (f x)) xs → position_or_len p xs ≡ position_or_len q (map f xs)
same_position p q f [] all = refl
same_position p q f (x ∷ xs) all = rw all.0 (grind (arith, common_steps, same_position p q f xs all.1))

same_hits : (ms : List Matcher) (tested : List Tested) (w : Tested) (text : List ℕ)
    → AreTested ms tested → w.hits.items ≡ hits ms text
    → AllByRecursion (λ t. are_same t.hits w.hits ≡ alike ms (string_bytes t.text) text) tested
same_hits ms [] w text are is = tt
same_hits ms (t ∷ tested) w text are is =
    (λ i. pointwise nat_eq (are.0 i) (is i), same_hits ms tested w text are.1 is)

pub first_position : (ms : List Matcher) (tested : List Tested) (w : Tested) (text : List ℕ)
    (label : Label) → AreTested ms tested → w.hits.items ≡ hits ms text
    → texts_of tested ≡ texts_of_label (Some label)
    → position (λ t. are_same t.hits w.hits) tested ≡ alike_position ms text label
first_position ms tested w text label are is texts =
    let e = same_position (λ (t : Tested). are_same t.hits w.hits) (λ t. alike ms t text)
    (λ (t : Tested). string_bytes t.text) tested (same_hits ms tested w text are is) in
    (λ i. cond (nat_lt (e i) (sym (length-map tested (λ (t : Tested). string_bytes t.text)) i)) (Some (e i)) None)
    ∙ ap (position (λ t. alike ms t text)) texts

-- the one text that was tested
pub record IsTheText (ms : List Matcher) (w : Tested) (text : List ℕ) : Type 0 where
  pub is : string_bytes w.text ≡ text
  pub hits_are : w.hits.items ≡ hits ms text

pub the_text : (ms : List Matcher) (all : List Tested) (w : Tested) (text : List ℕ)
    → texts_of all ≡ text ∷ [] → AreTested ms all → w ≡ get_or all 0 w → IsTheText ms w text
the_text ms [] w text are tested at = absurd cc
the_text ms (t ∷ all) w text are tested at =
    let is : string_bytes w.text ≡ text = ap (λ (t : Tested). string_bytes t.text) at ∙ cc in
    record {
      is = is;
      hits_are = ap (λ (t : Tested). t.hits.items) at ∙ tested.0
          ∙ ap (hits ms) (sym (ap (λ (t : Tested). string_bytes t.text) at) ∙ is);
    }

-- two texts that were tested are alike exactly if their hits are the same
pub two_long : (all : Vec Tested) (x y : List ℕ) → texts_of all.items ≡ x ∷ y ∷ [] → 1 < vec_len all
two_long all x y e =
    omega (arith, sym (length-map all.items (λ (t : Tested). string_bytes t.text)) ∙ ap length e, all.ok.0)

pub two_alike : (ms : List Matcher) (all : List Tested) (x y : List ℕ) → texts_of all ≡ x ∷ y ∷ []
    → AreTested ms all → (a b : Tested) → a ≡ get_or all 0 a → b ≡ get_or all 1 b
    → pointwise nat_eq a.hits.items b.hits.items ≡ alike ms x y
two_alike ms [] x y e tested a b at also = absurd cc
two_alike ms (t ∷ []) x y e tested a b at also = absurd cc
two_alike ms (t ∷ u ∷ all) x y e tested a b at also =
    let first : string_bytes t.text ≡ x = cc in
    let second : string_bytes u.text ≡ y = cc in
    let one : a.hits.items ≡ hits ms x = ap (λ (s : Tested). s.hits.items) at ∙ tested.0 ∙ ap (hits ms) first in
    let other : b.hits.items ≡ hits ms y = ap (λ (s : Tested). s.hits.items) also ∙ tested.1.0 ∙ ap (hits ms) second in
    λ i. pointwise nat_eq (one i) (other i)

-- ---- What is known.

module _ (ms : List Matcher) (label : Label) where
  abbrev pub IsKnown : String Global × Option ℕ → Type 0
  IsKnown e = e.1 ≡ alike_position ms (string_bytes e.0) label

  pub known_position : (test : String Global → Bool) (text : List ℕ)
      → ((k : String Global) → test k ≡ true → string_bytes k ≡ text)
      → (es : List (String Global × Option ℕ)) (v : Option ℕ) → AllByRecursion IsKnown es
      → lookup test es ≡ Some v → v ≡ alike_position ms text label
  known_position test text decides [] v known at = absurd cc
  known_position test text decides (e ∷ es) v known at = elim (cases_Bool (test e.0)) [
    | inl passes ↦
        let here : Some e.1 ≡ Some v = rw passes at at in
        let is : e.1 ≡ v = cc in
        sym is ∙ known.0 ∙ ap (λ t. alike_position ms t label) (decides e.0 passes)
    | inr fails ↦ known_position test text decides es v known.1 (rw fails at at)
  ]

  pub known_more : (eq : String Global → String Global → Bool)
      → ((k e : String Global) → eq k e ≡ true → string_bytes k ≡ string_bytes e)
      → (es : List (String Global × Option ℕ)) (k : String Global) (v : Option ℕ)
      → AllByRecursion IsKnown es → IsKnown (k, v) → AllByRecursion IsKnown (insert_entry eq es k v)
  known_more eq decides [] k v known here = (here, tt)
  known_more eq decides (e ∷ es) k v known here = elim (cases_Bool (eq k e.0)) [
    | inl same ↦
        rw same (here ∙ ap (λ t. alike_position ms t label) (decides k e.0 same), known.1)
    | inr other ↦ rw other (known.0, known_more eq decides es k v known.1 here)
  ]
