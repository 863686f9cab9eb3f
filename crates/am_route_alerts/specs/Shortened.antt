-- Matchers without those that follow from the others. (This project's own.)
use Rattle.std.specs.Prelude.{◌≡◌, ◌+◌, ℕ, List, ◌++◌, Bool, Some, slice_get, take, drop}
use Rattle.std.specs.Prelude.{IsTrue, IsFalse}
use Rattle.am_universe.specs.LabelSet.{LabelMap}
use Rattle.am_labels.specs.Matcher.{Matcher, all_hold, condition_holds}
use Rattle.am_first_sets.specs.Solving.{marked}
use Rattle.am_eval.specs.Reaching.{SomeIs}

-- The members of a list, but for the one at a position.
abbrev pub all_but : {X : Type 0} → ℕ → List X → List X
all_but i xs = take i xs ++ drop (i + 1) xs

-- What is kept of some matchers says the same as all of them. It is a part of them, in their order,
-- and those that are left out follow: each label set that counts and matches what is kept matches
-- all. And each matcher that is kept is needed: some label set that counts matches the others that
-- are kept, and not this one.
-- Source: own choice.
-- Example: of `team=~"db|web",team="db"`, if all label sets count, only `team="db"` is kept. If
-- only those with `env="prod"` count, only `team="db"` is kept of `team="db",env="prod"`.
pub record IsShortened (Counts : LabelMap → Type 0) (all kept : List Matcher) : Type 0 where
  pub marks : List Bool
  pub part : kept ≡ marked marks all
  pub enough : (set : LabelMap) → Counts set → IsTrue (all_hold set kept)
      → IsTrue (all_hold set all)
  pub needed : (i : ℕ) (m : Matcher) → slice_get kept i ≡ Some m
      → SomeIs Counts
      (λ set. IsTrue (all_hold set (all_but i kept)) × IsFalse (condition_holds set m))
