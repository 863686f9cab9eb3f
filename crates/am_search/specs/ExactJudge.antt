-- Judges whose verdict is `Open` only if no more can be known.
use Rattle.std.specs.Prelude.{◌≡◌, ℕ, List, Bool, not, IsTrue}
use Rattle.std.specs.List.{list_any}
use Rattle.am_universe.specs.Choice.{admits}
use Rattle.am_universe.specs.Completions.{completions}
use Rattle.am_search.specs.declared.verdict.Verdict.{Verdict}
use Rattle.am_search.specs.declared.verdict.Verdict.TheVariants.{Open}
use Rattle.am_search.specs.Judge.{IsJudge}

-- A judge is exact: it meets the laws of a judge, and its verdict at a prefix is `Open` only if
-- some completion is true and some completion is not. So no other judge of the same truth can say
-- more.
-- Source: own choice.
-- Example: over the sizes 2 and 2, let only 0 0 and 0 1 be true. The verdict of an exact judge is
-- then `Open` at the empty prefix, `Yes` at 0 and `No` at 1. A judge whose verdict at 0 is `Open`
-- may meet the laws of a judge, but it is not exact.
pub record IsExactJudge (sizes : List ℕ) (truth : List ℕ → Bool) (verdict : List ℕ → Verdict)
    : Type 0 where
  pub judge : IsJudge sizes truth verdict
  pub some : (prefix : List ℕ) → IsTrue (admits sizes prefix) → verdict prefix ≡ Open
      → IsTrue (list_any truth (completions sizes prefix))
  pub not_all : (prefix : List ℕ) → IsTrue (admits sizes prefix) → verdict prefix ≡ Open
      → IsTrue (list_any (λ c. not (truth c)) (completions sizes prefix))
