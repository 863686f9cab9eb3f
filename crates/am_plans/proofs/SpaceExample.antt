-- The worked example of verdicts in a space. Its list is replaced by its rows, which compute.
use Rattle.std.proofs.Common.{◌≡◌, ℕ, List, [], ◌∷◌, refl, ap}
use Rattle.am_universe.specs.Universe.{Label, IsUniverse, sizes}
use Rattle.am_universe.specs.Completions.{completions}
use Rattle.am_universe.proofs.ListLemmas.{AllByRecursion-each}
use Rattle.am_universe.proofs.UniverseLemmas.{IsUniverse-empty}
use Rattle.am_universe.proofs.LabelFaultLemmas.{added_is_universe}
use Rattle.am_labels.specs.Matcher.{Matcher}
use Rattle.am_labels.specs.Row.{rows_hold}
use Rattle.am_labels.proofs.RowLawLemmas.{rows_decide}
use Rattle.am_search.specs.declared.verdict.Verdict.TheVariants.{Yes}
use Rattle.am_judged_lists.specs.Verdicts.{matches_at, verdict_over, verdict_of_list}
use Rattle.am_search.proofs.Walks.{completion_whole}
use Rattle.am_judged_lists.proofs.VerdictLemmas.{same_verdict}
use Rattle.am_eval.specs.Tree.{Part}
use Rattle.am_eval.specs.declared.property.Property.TheVariants.{Any}
use Rattle.am_eval.specs.Question.{Is}
use Rattle.am_eval.specs.World.{World}
use Rattle.am_plans.specs.SpaceExample.{team, severity, web_critical, without_web_critical}
use Rattle.am_plans.specs.Verdicts.{kleene_not, kleene_and, verdict_of}

by_rows : (u : List Label) (ms : List Matcher) (prefix : List ℕ) → IsUniverse u
    → verdict_of_list u ms prefix
    ≡ verdict_over (rows_hold u ms) (completions (sizes u) prefix)
by_rows u ms prefix is =
    let cs = completions (sizes u) prefix in
    same_verdict (matches_at u ms) (rows_hold u ms) cs
    (AllByRecursion-each (λ c. matches_at u ms c ≡ rows_hold u ms c) cs
    (λ c there. rows_decide u c ms is (completion_whole (sizes u) prefix c there).0))

is_universe : IsUniverse (team ∷ severity ∷ [])
is_universe =
    added_is_universe (team ∷ []) severity
    (added_is_universe [] team IsUniverse-empty refl) refl

pub any_by_rows : (w : World) (prefix : List ℕ)
    → verdict_of without_web_critical w (Part (Is Any)) prefix
    ≡ kleene_and (kleene_not (verdict_over (rows_hold (team ∷ severity ∷ []) web_critical)
    (completions (sizes (team ∷ severity ∷ [])) prefix))) Yes
any_by_rows w prefix =
    ap (λ v. kleene_and (kleene_not v) Yes)
    (by_rows (team ∷ severity ∷ []) web_critical prefix is_universe)
