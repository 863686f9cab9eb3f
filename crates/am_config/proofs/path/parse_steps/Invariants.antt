use Rattle.std.proofs.Common.{◌≡◌, ◌<◌, ℕ, List, ◌∷◌, length}
use Rattle.std.specs.Str.Iter.{split_steps}
use Rattle.std.specs.Str.Pattern.{FindsChar}
use Rattle.am_config.specs.Path.{path_text}
use Rattle.am_config.proofs.PathSteps.{IsReadSoFar}
use Rattle.am_config.proofs.path.parse_steps.Given as goal

-- what is read is a prefix of each path that has the text
abbrev pub invariant-loop-part : goal.invariant-loop-part
invariant-loop-part l = (path : List ℕ) → 0 < length path → path_text path ≡ 47 ∷ l.text
    → IsReadSoFar (split_steps FindsChar (λ a b. b ≡ a)) path l.path l.part-iterator
