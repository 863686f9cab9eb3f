use Rattle.std.proofs.Common.{ap, ◌∙◌, subst₂, List, ℕ}
use Rattle.std.proofs.lemmas.Bool.{iff_false}
use Rattle.am_universe.specs.Universe.{Label}
use Rattle.am_labels.specs.Space.{Space}
use Rattle.am_judged_lists.specs.Cube.{IsCubeOf}
use Rattle.am_first_sets.specs.Pairs.{ArePairsOf}
use Rattle.am_idle.specs.RuleChoices.{labels_named}
use Rattle.am_idle.proofs.RuleLiterals.{names_found}
use Rattle.am_idle.proofs.rules.reason_in.Goals as goal
use Rattle.am_idle.proofs.rules.reason_in.Goals.{In_ok-pairs, In_ok-target}

-- the pairs are those of the space, for the labels of the names in `equal`
pairs_are : (c : In_ok-pairs)
    → ArePairsOf c.args.space.now (labels_named c.args.space.now.labels c.args.rule.now.equal)
    c.in_ok-pairs.pairs
pairs_are c =
    subst₂ (λ (s : Space) (shared : List ℕ). ArePairsOf s shared c.in_ok-pairs.pairs)
    c.in_ok-possible.ensures.space
    (c.as_slice.ensures.value ∙ c.in_ok-shared.ensures
    ∙ names_found c.universe-universe.result.now c.equal.result.now
    ∙ ap (labels_named c.universe-universe.result.now) c.equal.ensures.equal
    ∙ ap (λ (u : List Label). labels_named u c.args.rule.now.equal) c.universe-universe.ensures.labels)
    c.in_ok-pairs.ensures.pairs

source_cube : (c : In_ok-target)
    → IsCubeOf c.args.space.now.labels c.args.rule.now.source c.in_ok-source.source
source_cube c =
    rw (c.universe-universe.ensures.labels, c.source.ensures.source)
    at c.in_ok-source.ensures.exact

target_cube : (c : In_ok-target)
    → IsCubeOf c.args.space.now.labels c.args.rule.now.target c.in_ok-target.target
target_cube c =
    rw (c.universe-universe.ensures.labels, c.target.ensures.target)
    at c.in_ok-target.ensures.exact

pub returns-in-Some : goal.returns-in-Some
returns-in-Some c =
    (rw c.in-Some.is at c.in_ok-reason.ensures.some) c.args.space.now
    c.universe-universe.ensures.labels (pairs_are (goal.at.returns-in-Some c).In_ok-pairs)

pub returns-then-inhibits : goal.returns-then-inhibits
returns-then-inhibits c =
    let at = (goal.at.returns-then-inhibits c).In_ok-target in
    (c.in_ok-inhibits.ensures c.args.space.now c.args.rule.now (source_cube at) (target_cube at)
    (pairs_are (goal.at.returns-then-inhibits c).In_ok-pairs)).0 c.if-inhibits.true

pub returns : goal.returns
returns c =
    let s = c.args.space.now in
    let at = (goal.at.returns c).In_ok-target in
    let pairs = pairs_are (goal.at.returns c).In_ok-pairs in (
      (rw c.in_default.is at c.in_ok-reason.ensures.none) s
          c.universe-universe.ensures.labels pairs,
      iff_false (c.in_ok-inhibits.ensures s c.args.rule.now (source_cube at) (target_cube at)
          pairs) c.if-inhibits.false,
    )
