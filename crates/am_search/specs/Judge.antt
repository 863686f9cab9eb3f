-- Judges: a search asks a judge whether the completions of a prefix are true.
use Rattle.std.specs.Prelude.{◌≡◌, ◌≢◌, ℕ, ◌<◌, ◌≤◌, List, length, Bool, true, false, IsTrue}
use Rattle.std.specs.List.{AllByRecursion}
use Rattle.am_universe.specs.declared.limits.TheConstants.{MAX_LABELS, MAX_VALUES}
use Rattle.am_universe.specs.Choice.{admits, IsWhole}
use Rattle.am_universe.specs.Completions.{completions}
use Rattle.am_search.specs.declared.verdict.Verdict.{Verdict}
use Rattle.am_search.specs.declared.verdict.Verdict.TheVariants.{Yes, No, Open}

-- Test whether a verdict is `Yes`, whether it is `No`, and whether it is `Open`.
abbrev pub is_yes : Verdict → Bool
is_yes Yes = true
is_yes No = false
is_yes Open = false

abbrev pub is_no : Verdict → Bool
is_no Yes = false
is_no No = true
is_no Open = false

abbrev pub is_open : Verdict → Bool
is_open Yes = false
is_open No = false
is_open Open = true

-- How many values each label has: there are at most `MAX_LABELS` labels, each with 1 to
-- `MAX_VALUES` values.
pub record AreSizes (sizes : List ℕ) : Type 0 where
  pub labels : length sizes ≤ MAX_LABELS
  pub values : AllByRecursion (λ size. (0 < size) × (size ≤ MAX_VALUES)) sizes

-- The laws of a judge: what the verdict at each prefix says about the truth of whole choices. `Yes`
-- means that every completion is true, `No` that none is, and the verdict at a whole choice is
-- never `Open`. `Open` says nothing, so a judge may return it even if more could be known.
-- Source: own choice.
-- Example: over the sizes 2 and 2, let only 0 0 and 0 1 be true. The verdict at 0 may be `Yes` or
-- `Open`, and the verdict at 1 may be `No` or `Open`. At the empty prefix it is `Open`, and at 0 1
-- it is `Yes`.
pub record IsJudge (sizes : List ℕ) (truth : List ℕ → Bool) (verdict : List ℕ → Verdict)
    : Type 0 where
  pub limits : AreSizes sizes
  pub yes : (prefix : List ℕ) → IsTrue (admits sizes prefix) → verdict prefix ≡ Yes
      → AllByRecursion (λ c. IsTrue (truth c)) (completions sizes prefix)
  pub no : (prefix : List ℕ) → IsTrue (admits sizes prefix) → verdict prefix ≡ No
      → AllByRecursion (λ c. truth c ≡ false) (completions sizes prefix)
  pub whole : (c : List ℕ) → IsWhole sizes c → verdict c ≢ Open
