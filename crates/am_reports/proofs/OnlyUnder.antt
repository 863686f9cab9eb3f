-- Names of receivers that are among some names and not among others, and those that some changes
-- have on one side only.
use Rattle.std.proofs.Common.{◌≡◌, Bool, true, false, not, ℕ, List, [], ◌∷◌, Option, Some, None}
use Rattle.std.proofs.Common.{Contains, map, refl, sym, subst, ◌∙◌, inl, inr}
use Rattle.std.specs.Prelude.{◌&&◌, find, option_map}
use Rattle.std.specs.List.{AllByRecursion, IsDistinct, cons_option}
use Rattle.std.specs.Cmp.Lexicographic.{bytes_decides}
use Rattle.std.proofs.lemmas.Bool.{cases_Bool, false≢true}
use Rattle.std.proofs.lemmas.Map.Views.{Contains-from_any}
use Rattle.am_universe.specs.Text.{same_text}
use Rattle.am_universe.proofs.ListLemmas.{IsIn, IsIn-unmap, IsIn-from_Contains}
use Rattle.am_universe.proofs.ListLemmas.{AllByRecursion-each, AllByRecursion-at}
use Rattle.am_labels.proofs.Passing.{in_any}
use Rattle.am_outcomes.specs.Changes.{is_among, is_only_among, first_on_one_side}
use Rattle.am_outcomes.proofs.ChangesFound.{only_from}

-- ---- A name is among some names, and not among others.

there_if_among : (names : List (List ℕ)) (name : List ℕ) → is_among names name ≡ true
    → Contains names name
there_if_among names name =
    Contains-from_any {eq = same_text} (λ x y e. (bytes_decides x y).0 e) name names

among_if_there : (names : List (List ℕ)) (name : List ℕ) → Contains names name
    → is_among names name ≡ true
among_if_there names name there =
    in_any (same_text name) names name (IsIn-from_Contains names name there)
    ((bytes_decides name name).1 refl)

only_parts : (a b : Bool) → (a && not b) ≡ true → (a ≡ true) × (b ≡ false)
only_parts true true h = absurd (false≢true h)
only_parts true false h = (refl, refl)
only_parts false b h = absurd (false≢true h)

pub only_among : (names others : List (List ℕ)) (name : List ℕ)
    → is_only_among names others name ≡ true
    → Contains names name × (Contains others name → ⊥)
only_among names others name only =
    let parts = only_parts (is_among names name) (is_among others name) only in (
      there_if_among names name parts.0,
      λ there. false≢true (sym parts.1 ∙ among_if_there others name there),
    )

pub among_only : (names others : List (List ℕ)) (name : List ℕ) → Contains names name
    → (Contains others name → ⊥) → is_only_among names others name ≡ true
among_only names others name there none = elim (cases_Bool (is_among others name)) [
  | inl also ↦ absurd (none (there_if_among others name also))
  | inr not_also ↦ rw (among_if_there names name there, not_also) refl
]

-- ---- No receiver is found twice.

module _ {C : Type 0} (names others : List (List ℕ) → List (List ℕ))
    (changes : List (List (List ℕ) × C)) where
  abbrev first_with : List ℕ → Option (List (List ℕ) × C)
  first_with name =
      find (λ change. is_only_among (names change.0) (others change.0) name) changes

  one_more : (o : Option (List (List ℕ) × C)) (name : List ℕ) (found : List (List ℕ × C))
      → AllByRecursion (λ other. same_text name other ≡ false) (map (λ f. f.0) found)
      → IsDistinct same_text (map (λ f. f.0) found)
      → IsDistinct same_text
      (map (λ f. f.0) (cons_option (option_map (λ change. (name, change.1)) o) found))
  unfolding IsDistinct
  one_more None name found apart distinct = distinct
  one_more (Some change) name found apart distinct = (apart, distinct)

  pub names_once : (receivers : List (List ℕ)) → IsDistinct same_text receivers
      → IsDistinct same_text (map (λ f. f.0) (first_on_one_side names others changes receivers))
  unfolding IsDistinct
  names_once [] distinct = distinct
  names_once (name ∷ receivers) (apart, distinct) =
      let found = first_on_one_side names others changes receivers in
      one_more (first_with name) name found
      (AllByRecursion-each (λ other. same_text name other ≡ false) (map (λ f. f.0) found)
      (λ other there.
      let from = IsIn-unmap (λ (f : List ℕ × C). f.0) found other there in
      AllByRecursion-at (λ other. same_text name other ≡ false) receivers other apart
      (subst (IsIn receivers) from.2 (only_from names others changes receivers from.0 from.1).0)))
      (names_once receivers distinct)
