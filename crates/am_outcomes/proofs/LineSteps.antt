-- One line more of a report of outcomes.
use Rattle.std.proofs.Common.{◌≡◌, ℕ, ◌+◌, Bool, cond, List, [], ◌∷◌, ◌++◌, map, take}
use Rattle.std.proofs.Common.{slice_get, Some, drop, ap, sym, ◌∙◌, subst₂}
use Rattle.std.specs.List.{filter}
use Rattle.std.proofs.lemmas.List.Elements.{filter_more}
use Rattle.std.proofs.lemmas.Option.{slice_get_within, get_or_from_slice_get}
use Rattle.am_universe.specs.Universe.{Label, sizes}
use Rattle.am_universe.proofs.ListLemmas.{IsIn-unmap}
use Rattle.am_universe.proofs.Members.{in_at}
use Rattle.am_universe.proofs.ChoiceLemmas.{whole_from_in}
use Rattle.am_universe.specs.Choice.{IsWhole, choices}
use Rattle.am_labels.specs.Space.{Space, all_choices, is_possible_choice}
use Rattle.am_config.specs.ConfigFile.{Configuration}
use Rattle.am_search.proofs.ChoiceOrder.{in_filter}
use Rattle.am_outcomes.specs.Outcomes.{same_outcome, with_outcome, outcomes_of}
use Rattle.am_report_texts.specs.ReceiverNames.{receiver_names}
use Rattle.am_outcomes.specs.Configurations.{Configurations}
use Rattle.am_outcomes.specs.Handling.{same_names}
use Rattle.am_outcomes.proofs.FirstsLemmas.{first_is_one}

-- ---- The outcome at a position.

-- its choice is whole
pub whole_at : (s : Space) (k : Configurations) (outcomes : List (List (List ℕ) × List ℕ))
    (u : List Label) (i : ℕ) (outcome : List (List ℕ) × List ℕ) → s.labels ≡ u
    → outcomes ≡ outcomes_of s k → slice_get outcomes i ≡ Some outcome
    → IsWhole (sizes u) outcome.1
whole_at s k outcomes u i outcome labels are at =
    let all = map (with_outcome s k) (all_choices s) in
    let there = in_at (outcomes_of s k) i outcome (ap (λ os. slice_get os i) (sym are) ∙ at) in
    let from = IsIn-unmap (with_outcome s k) (all_choices s) outcome
    (first_is_one same_outcome all outcome there) in
    let kept = in_filter (is_possible_choice s) (choices (sizes s.labels)) from.0 from.1 in
    subst₂ (λ (l : List Label) (o : List (List ℕ) × List ℕ). IsWhole (sizes l) o.1) labels from.2
    (whole_from_in (sizes s.labels) from.0 kept.0)

-- ---- Names.

-- the names from a position on decide whether all are the same
abbrev pub SameFrom : Configuration → Configuration → List ℕ → List ℕ → ℕ → Type 0
SameFrom old new before after i =
    same_names (receiver_names old (drop i before)) (receiver_names new (drop i after))
    ≡ same_names (receiver_names old before) (receiver_names new after)

-- ---- Lines.

-- the items that pass a test, with one item more
pub kept_more : {X : Type 0} (test : X → Bool) (xs : List X) (i : ℕ) (x : X)
    → slice_get xs i ≡ Some x
    → filter test (take (i + 1) xs) ≡ filter test (take i xs) ++ cond (test x) (x ∷ []) []
kept_more test xs i x at =
    filter_more test xs i x (slice_get_within xs i x at)
    ∙ ap (λ y. filter test (take i xs) ++ cond (test y) (y ∷ []) [])
    (get_or_from_slice_get xs i x x at)
