-- At a whole choice, a cube says whether the label set of the choice matches its list.
use Rattle.std.proofs.Common.{◌≡◌, ℕ, Bool, true, false, not, cond, ◌&&◌, ◌||◌, List, [], ◌∷◌, map, refl, ap, sym, ◌∙◌}
use Rattle.std.specs.Prelude.{IsTrue, if◌then◌else◌}
use Rattle.std.specs.List.{list_all, list_any}
use Rattle.am_universe.proofs.UniverseLemmas.{list_any-map}
use Rattle.am_universe.specs.Universe.{Label, sizes}
use Rattle.am_labels.specs.Space.{Space}
use Rattle.am_universe.specs.Choice.{admits, IsWhole}
use Rattle.am_universe.specs.LabelSet.{label_set_of}
use Rattle.am_labels.specs.Matcher.{Matcher, all_hold}
use Rattle.am_search.specs.declared.verdict.Verdict.TheVariants.{Yes, No, Open}
use Rattle.am_judged_lists.specs.Cube.{MaskedLabels, may_at, reaches_all, matches, verdict_at}
use Rattle.am_search.specs.Judge.{is_yes}
use Rattle.am_judged_lists.specs.Verdicts.{verdict_of_list}
use Rattle.am_judged_lists.proofs.VerdictLemmas.{list_says}
use Rattle.am_first_sets.specs.PossibleChoices.{KnowsPossible}

yes_of_truth : (b : Bool) → is_yes (cond b Yes No) ≡ b
yes_of_truth true = refl
yes_of_truth false = refl

-- the verdict of a list says whether the label set matches it
pub certain_where : (u : List Label) (c : List ℕ) → IsWhole (sizes u) c → (ms : List Matcher)
    → is_yes (verdict_of_list u ms c) ≡ all_hold (label_set_of u c) ms
certain_where u c whole ms =
    ap is_yes (list_says u ms c whole) ∙ yes_of_truth (all_hold (label_set_of u c) ms)

-- a cube matches a choice exactly if its verdict is that all completions match
pub matches_is : (cube : MaskedLabels) (c : List ℕ) → matches cube c ≡ is_yes (verdict_at cube c)
matches_is cube c = step (may_at cube c) (reaches_all cube c)
  where
    step : (may all : Bool) → (may && all) ≡ is_yes (if not may then No else if all then Yes else Open)
    step true true = refl
    step true false = refl
    step false all = refl

pub matches_where : (u : List Label) (c : List ℕ) → IsWhole (sizes u) c → (ms : List Matcher)
    (cube : MaskedLabels) → verdict_at cube c ≡ verdict_of_list u ms c
    → matches cube c ≡ all_hold (label_set_of u c) ms
matches_where u c whole ms cube same =
    matches_is cube c ∙ ap is_yes same ∙ certain_where u c whole ms

pub knows_possible : (s : Space) (cubes : List MaskedLabels)
    → ((prefix : List ℕ) → IsTrue (admits (sizes s.labels) prefix)
    → map (λ cube. verdict_at cube prefix) cubes
    ≡ map (λ ms. verdict_of_list s.labels ms prefix) s.impossible)
    → KnowsPossible s cubes
knows_possible s cubes same c whole =
    none_is (λ (cube : MaskedLabels). matches cube c) cubes
    ∙ ap not ((λ i. list_any (λ (cube : MaskedLabels). matches_is cube c i) cubes)
    ∙ sym (list_any-map is_yes (λ (cube : MaskedLabels). verdict_at cube c) cubes)
    ∙ ap (list_any is_yes) (same c whole.0)
    ∙ list_any-map is_yes (λ (ms : List Matcher). verdict_of_list s.labels ms c) s.impossible
    ∙ (λ i. list_any (λ (ms : List Matcher). certain_where s.labels c whole ms i) s.impossible))
  where
    none_is : {X : Type 0} (p : X → Bool) (xs : List X) → list_all (λ x. not (p x)) xs ≡ not (list_any p xs)
    none_is p [] = refl
    none_is p (x ∷ xs) = elim (p x) as (λ b. (not b && list_all (λ y. not (p y)) xs) ≡ not (b || list_any p xs)) [ true ↦ refl | false ↦ none_is p xs ]
