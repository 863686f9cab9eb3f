use Rattle.std.specs.Str.Iter.{split_steps}
use Rattle.std.specs.Str.Pattern.{FindsChar}
use Rattle.std.proofs.Common.{◌≡◌}
use Rattle.am_universe.specs.Universe.{sizes}
use Rattle.am_search.proofs.TokenTexts.{IsReadSoFar}
use Rattle.am_search.proofs.token.parse_positions.Given as goal

-- what is read is the front of each choice with the text
abbrev pub invariant-loop-part : goal.invariant-loop-part
invariant-loop-part l =
    IsReadSoFar (split_steps FindsChar (λ a b. b ≡ a)) (sizes l.universe) l.text l.prefix l.part-iterator
