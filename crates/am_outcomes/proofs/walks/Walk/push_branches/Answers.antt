use Rattle.std.proofs.Common.{true, false, refl, Result, Ok, Err, OnOk}
use Rattle.am_labels.specs.Space.{Space}
use Rattle.am_first_sets.specs.PossibleSets.{possible_space}
use Rattle.am_outcomes.specs.Walks.{AddsBranches}
use Rattle.am_outcomes.proofs.WalkLemmas.{whole_branch}
use Rattle.am_outcomes.proofs.walks.Walk.push_branches.Goals as goal
use Rattle.am_outcomes.proofs.walks.Walk.push_branches.Goals.{in-Misses, in-Covers}

-- what holds in each space holds in one
in_one : {A E : Type 0} (r : Result A E) (P : Space → Type 0) (s : Space)
    → OnOk r ((all : Space) → P all) → OnOk r (P s)
in_one (Ok done) P s each = each s
in_one (Err e) P s each = tt

pub returns-then-is_none : goal.returns-then-is_none
returns-then-is_none c =
    in_one c.push_halves.result
    (λ all. AddsBranches all c.args.walks.now.items c.args.self c.args.step.now
    c.push_halves.new.walks.items)
    (possible_space c.args.possible.now) c.push_halves.ensures

pub returns : goal.returns
returns c = λ s t steps k part is next at are.
    let all = possible_space c.args.possible.now in
    let step = c.args.step.now in (
      _,
      c.in_ok-push.ensures.items,
      (elim c.match-matching.branch [
        | in-Misses w ↦
            whole_branch all s t steps c.args.self k step is next at are false _
            (λ d choice on. w.in-Misses.ensures d (is.boxes.within d (part d choice) on)) w.next-is
            (λ d. refl) refl refl
        | in-Covers w ↦
            whole_branch all s t steps c.args.self k step is next at are true _
            (λ d choice on. w.in-Covers.ensures d (is.boxes.within d (part d choice) on)) w.next-is
            (λ d. refl) refl refl
      ]),
    )
