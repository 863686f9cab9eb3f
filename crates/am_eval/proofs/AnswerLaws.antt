-- The answers are the choices that satisfy the question, in order.
use Rattle.std.proofs.Common.{◌≡◌, ◌↔◌, ℕ, Bool, true, List, [], ◌∷◌, Contains, arith}
use Rattle.std.proofs.Common.{refl}
use Rattle.std.specs.Prelude.{◌&&◌}
use Rattle.std.specs.List.{filter}
use Rattle.std.specs.List.Sorted.{IsStrictlySortedBy}
use Rattle.std.specs.Ordering.{nat_cmp}
use Rattle.std.specs.Cmp.Lexicographic.{slice_cmp}
use Rattle.std.proofs.lemmas.List.Kept.{IsStrictlySortedBy-filter}
use Rattle.std.proofs.lemmas.Grind.{common_steps}
use Rattle.am_universe.specs.Universe.{sizes}
use Rattle.am_universe.specs.Choice.{choices}
use Rattle.am_universe.specs.LabelSet.{label_set_of}
use Rattle.am_universe.proofs.ListLemmas.{IsIn-from_Contains, Contains-from_IsIn}
use Rattle.am_labels.specs.Space.{Space, is_possible_choice, all_choices, IsChoiceOf}
use Rattle.am_labels.proofs.Passing.{passes_from_kept, kept_from_passes}
use Rattle.am_labels.proofs.SpaceLaws.{space_choices, space_choices_sorted}
use Rattle.am_eval.specs.World.{World}
use Rattle.am_eval.specs.Question.{Question, satisfies, satisfies_at, answers, is_answer}

pub answers_exact : (s : Space) (w : World) (question : Question) (c : List ℕ)
    → Contains (answers s w question) c
    ↔ (IsChoiceOf s c × (satisfies w question (label_set_of s.labels c) ≡ true))
answers_exact s w question c =
    let all : List (List ℕ) = all_choices s in
    let choice = space_choices s c in
    let test : List ℕ → Bool = satisfies_at s.labels w question in (
      λ h.
          let r = passes_from_kept test all c (IsIn-from_Contains (filter test all) c h) in
          (choice.0 (Contains-from_IsIn all c r.0), r.1),
      λ h.
          let there = IsIn-from_Contains all c (choice.1 h.0) in
          Contains-from_IsIn (filter test all) c (kept_from_passes test all c there h.1),
    )

pub answers_sorted : (s : Space) (w : World) (question : Question)
    → IsStrictlySortedBy (slice_cmp nat_cmp) (answers s w question)
answers_sorted s w question =
    IsStrictlySortedBy-filter (slice_cmp nat_cmp) (satisfies_at s.labels w question) (all_choices s)
    (space_choices_sorted s)

-- two filters, one after the other, keep what passes both tests
filter_twice : {X : Type 0} (first second : X → Bool) (xs : List X)
    → filter second (filter first xs) ≡ filter (λ x. second x && first x) xs
filter_twice first second [] = refl
filter_twice first second (x ∷ xs) = grind (arith, common_steps, filter_twice first second xs)

-- the answers are the whole choices of the labels that pass the test `is_answer`
pub answers_of_all : (s : Space) (w : World) (question : Question)
    → answers s w question ≡ filter (is_answer s w question) (choices (sizes s.labels))
answers_of_all s w question =
    filter_twice (is_possible_choice s) (satisfies_at s.labels w question) (choices (sizes s.labels))
