-- The lists of the active silences say what the condition of being silenced says.
use Rattle.std.proofs.Common.{◌≡◌, ℕ, Bool, ◌&&◌, List, [], ◌∷◌, sym, ◌∙◌}
use Rattle.std.specs.List.{list_all, list_any, filter}
use Rattle.am_universe.proofs.UniverseLemmas.{list_any-map}
use Rattle.am_universe.specs.Universe.{Label}
use Rattle.am_list_files.specs.SilencesFile.{Silence}
use Rattle.am_judged_lists.specs.Verdicts.{verdict_of_list}
use Rattle.am_eval.specs.declared.property.Property.TheVariants.{Silenced}
use Rattle.am_eval.specs.Question.{Is}
use Rattle.am_eval.specs.World.{World}
use Rattle.am_eval.specs.Conditions.{Literal, matching}
use Rattle.am_eval.specs.Silencing.{is_active}
use Rattle.am_judged_lists.specs.declared.certainty.Certainty.{Certainty}
use Rattle.am_judged_lists.specs.Certainty.{passes}
use Rattle.am_plans.specs.Verdicts.{verdict_of_literal, verdict_of_simple}
use Rattle.am_plans.proofs.Kleene.{passes_simple}
use Rattle.am_judged_lists.proofs.ListLemmas.{and_true}
use Rattle.am_plans.proofs.ListTests.{any_kept}

-- a silence is active, and its list passes
abbrev pub hides : List Label → World → List ℕ → Certainty → Silence → Bool
hides u w prefix m silence =
    is_active w.instant silence && passes m (verdict_of_list u silence.matchers prefix)

pub silences_truth : (u : List Label) (w : World) (prefix : List ℕ) (m : Certainty)
    → list_any (hides u w prefix m) w.silences
    ≡ passes m (verdict_of_simple u w (Is Silenced) prefix)
silences_truth u w prefix m =
    let holds : Literal → Bool = λ l. passes m (verdict_of_literal u prefix l) in
    let test : Silence → Bool = λ silence. passes m (verdict_of_list u silence.matchers prefix) in
    let active = filter (is_active w.instant) w.silences in
    sym (any_kept test (is_active w.instant) w.silences)
    ∙ (λ i. list_any (λ silence. sym (and_true (test silence)) i) active)
    ∙ sym (list_any-map (list_all holds) (λ (silence : Silence). matching silence.matchers ∷ []) active)
    ∙ sym (passes_simple m u w (Is Silenced) prefix)
