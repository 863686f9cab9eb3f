-- The logic of three values, seen by its two truths: each of them has the logic of two values.
use Rattle.std.proofs.Common.{◌≡◌, ℕ, not, ◌&&◌, ◌||◌, List, [], ◌∷◌, map, cond, refl, ap}
use Rattle.std.proofs.Common.{◌∙◌}
use Rattle.std.specs.List.{list_all}
use Rattle.am_universe.specs.Universe.{Label}
use Rattle.am_search.specs.declared.verdict.Verdict.{Verdict}
use Rattle.am_search.specs.declared.verdict.Verdict.TheVariants.{Yes, No, Open}
use Rattle.am_eval.specs.Question.{Simple}
use Rattle.am_eval.specs.World.{World}
use Rattle.am_eval.specs.Conditions.{Literal, some_way_holds, conditions_of}
use Rattle.am_judged_lists.specs.declared.certainty.Certainty.{Certainty}
use Rattle.am_judged_lists.specs.declared.certainty.Certainty.TheVariants.{May, Must}
use Rattle.am_judged_lists.specs.Certainty.{passes, other}
use Rattle.am_plans.specs.Verdicts.{kleene_not, kleene_and, kleene_or, all_of, any_of}
use Rattle.am_plans.specs.Verdicts.{verdict_of_literal, verdict_of_simple}

-- ---- The joins of two values.

pub passes_not : (m : Certainty) (v : Verdict)
    → passes m (kleene_not v) ≡ not (passes (other m) v)
passes_not May Yes = refl
passes_not Must Yes = refl
passes_not m v = refl

pub passes_and : (m : Certainty) (v w : Verdict)
    → passes m (kleene_and v w) ≡ (passes m v && passes m w)
passes_and May Open No = refl
passes_and Must Open No = refl
passes_and m v w = refl

pub passes_or : (m : Certainty) (v w : Verdict)
    → passes m (kleene_or v w) ≡ (passes m v || passes m w)
passes_or May Open No = refl
passes_or Must Open No = refl
passes_or m v w = refl

-- ---- The joins of lists.

-- over the verdicts of some items
pub passes_each : {X : Type 0} (m : Certainty) (verdict : X → Verdict) (xs : List X)
    → passes m (all_of (map verdict xs)) ≡ list_all (λ x. passes m (verdict x)) xs
passes_each May verdict [] = refl
passes_each Must verdict [] = refl
passes_each m verdict (x ∷ xs) =
    passes_and m (verdict x) (all_of (map verdict xs))
    ∙ ap (λ b. passes m (verdict x) && b) (passes_each m verdict xs)

pub passes_some_way : (m : Certainty) (verdict : Literal → Verdict) (ands : List (List Literal))
    → passes m (any_of (map (λ way. all_of (map verdict way)) ands))
    ≡ some_way_holds (λ l. passes m (verdict l)) ands
passes_some_way May verdict [] = refl
passes_some_way Must verdict [] = refl
passes_some_way m verdict (way ∷ ways) =
    let rest = any_of (map (λ way. all_of (map verdict way)) ways) in
    passes_or m (all_of (map verdict way)) rest
    ∙ ap (λ b. b || passes m rest) (passes_each m verdict way)
    ∙ ap (λ b. list_all (λ l. passes m (verdict l)) way || b) (passes_some_way m verdict ways)

-- a simple part may be true, or must be, exactly if its condition says so of the literals
pub passes_simple : (m : Certainty) (u : List Label) (w : World) (simple : Simple) (prefix : List ℕ)
    → passes m (verdict_of_simple u w simple prefix)
    ≡ some_way_holds (λ l. passes m (verdict_of_literal u prefix l)) (conditions_of w simple)
passes_simple m u w simple prefix =
    passes_some_way m (verdict_of_literal u prefix) (conditions_of w simple)

-- ---- The two truths are all that a verdict is.

pub from_passes : (v : Verdict)
    → v ≡ cond (not (passes May v)) No (cond (passes Must v) Yes Open)
from_passes Yes = refl
from_passes v = refl
