-- The choices of a space.
use Rattle.std.proofs.Common.{◌≡◌, ◌↔◌, ℕ, List, [], Contains, Bool, refl, ap, not}
use Rattle.std.specs.List.{filter}
use Rattle.std.specs.List.Sorted.{IsStrictlySortedBy}
use Rattle.std.specs.Ordering.{nat_cmp}
use Rattle.std.specs.Cmp.Lexicographic.{slice_cmp}
use Rattle.std.proofs.lemmas.List.Kept.{IsStrictlySortedBy-filter}
use Rattle.am_universe.specs.Universe.{Label, sizes}
use Rattle.am_universe.specs.Choice.{choices}
use Rattle.am_universe.specs.LabelSet.{label_set_of}
use Rattle.am_universe.proofs.ListLemmas.{IsIn-from_Contains, Contains-from_IsIn}
use Rattle.am_universe.proofs.ChoiceLemmas.{choices_whole, choices_sorted}
use Rattle.am_labels.specs.Matcher.{all_hold}
use Rattle.am_labels.specs.Space.{Space, is_possible_choice, all_choices, IsChoiceOf}
use Rattle.am_labels.proofs.Passing.{passes_from_kept, kept_from_passes, in_any, all_kept, none_kept}

pub space_choices : (s : Space) (c : List ℕ) → Contains (all_choices s) c ↔ IsChoiceOf s c
space_choices s c =
    let all : List (List ℕ) = choices (sizes s.labels) in
    let whole = choices_whole (sizes s.labels) c in
    let test : List ℕ → Bool = is_possible_choice s in (
      λ h.
          let r = passes_from_kept test all c (IsIn-from_Contains (filter test all) c h) in
          (whole.0 (Contains-from_IsIn all c r.0), r.1),
      λ h.
          let there = IsIn-from_Contains all c (whole.1 h.0) in
          Contains-from_IsIn (filter test all) c (kept_from_passes test all c there h.1),
    )

pub space_choices_sorted : (s : Space) → IsStrictlySortedBy (slice_cmp nat_cmp) (all_choices s)
space_choices_sorted s =
    IsStrictlySortedBy-filter (slice_cmp nat_cmp) (is_possible_choice s) (choices (sizes s.labels))
    (choices_sorted (sizes s.labels))

pub all_without_lists : (labels : List Label)
    → all_choices (record { labels = labels; impossible = [] }) ≡ choices (sizes labels)
all_without_lists labels =
    all_kept (is_possible_choice (record { labels = labels; impossible = [] })) (choices (sizes labels))
    (λ c. refl)

pub none_of_empty_list : (s : Space) → Contains s.impossible [] → all_choices s ≡ []
none_of_empty_list s empty =
    none_kept (is_possible_choice s) (choices (sizes s.labels))
    (λ c.
    ap not (in_any (all_hold (label_set_of s.labels c)) s.impossible []
    (IsIn-from_Contains s.impossible [] empty) refl))
