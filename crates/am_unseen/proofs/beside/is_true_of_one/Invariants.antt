use Rattle.std.proofs.Common.{◌≡◌, map, take, false}
use Rattle.am_unseen.specs.Unseen.{is_true_of_one}
use Rattle.am_unseen.proofs.beside.is_true_of_one.Given as goal

-- the matcher is true of none of the texts so far
abbrev pub invariant-loop-text : goal.invariant-loop-text
invariant-loop-text l =
    (l.prepared ≡ l.matcher)
    × (is_true_of_one l.matcher (map (λ t. t.now) (take l.text-index l.texts.keys)) ≡ false)
