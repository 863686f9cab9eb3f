use Rattle.std.proofs.Common.{◌≡◌, ◌++◌, List, ap, ◌∙◌, sym, subst, arith, length, length-append}
use Rattle.std.specs.Prelude.{take, drop}
use Rattle.std.proofs.lemmas.List.{take_at, drop_at}
use Rattle.std.proofs.lemmas.Slice.Zip.{AllZip-long}
use Rattle.am_labels.specs.Space.{Space}
use Rattle.am_first_sets.specs.declared.candidate.Candidate.{Candidate}
use Rattle.am_first_sets.specs.declared.possible_choices.PossibleChoices.{PossibleChoices}
use Rattle.am_judged_lists.specs.declared.pairs.Side.TheVariants.{First, Second}
use Rattle.am_first_sets.specs.Literals.{IsMet}
use Rattle.am_first_sets.specs.Pairs.{ArePairsOf}
use Rattle.am_first_sets.specs.PossibleChoices.{IsPossible}
use Rattle.am_first_sets.specs.Reason.{IsReason}
use Rattle.am_first_sets.proofs.MeetingLemmas.{if_some_more, if_none_more}
use Rattle.am_idle.specs.RuleChoices.{labels_named, AreAllNamed}
use Rattle.am_idle.proofs.RuleLiterals.{AreOfSides, literals_are, sides_match}
use Rattle.am_idle.proofs.RuleLiterals.{sides_contradict}
use Rattle.am_idle.proofs.sides.why_contradicting.Goals as goal
use Rattle.am_idle.proofs.sides.why_contradicting.Goals.{After-deref_mut}

-- the literals of the source side, and then those of the target side
in_two_parts : (c : After-deref_mut) → c.deref_mut.result.now
    ≡ c.in_ok-push_literals.ensures.0 ++ c.in_ok-push_literals-2.ensures.0
in_two_parts c =
    c.deref_mut.ensures.value ∙ c.in_ok-push_literals-2.ensures.1
    ∙ ap (λ (xs : List Candidate). xs ++ c.in_ok-push_literals-2.ensures.0)
    (c.in_ok-push_literals.ensures.1
    ∙ ap (λ (xs : List Candidate). xs ++ c.in_ok-push_literals.ensures.0) c.new-literals.ensures.items)

sources_long : (c : After-deref_mut)
    → length c.in_ok-push_literals.ensures.0 ≡ c.len-sources.result
sources_long c =
    AllZip-long _ _ _ c.in_ok-push_literals.ensures.2 ∙ ap length c.as_slice.ensures.value
    ∙ AllZip-long _ _ _ c.in_ok-source.ensures
    ∙ ap length (c.source.ensures.source ∙ sym c.source-2.ensures.source)
    ∙ sym c.len-sources.ensures.len

pub contradiction_of-requires : goal.contradiction_of-requires
contradiction_of-requires c =
    let at = (goal.at.contradiction_of-requires c).After-deref_mut in
    let first : List Candidate = c.in_ok-push_literals.ensures.0 in
    let second : List Candidate = c.in_ok-push_literals-2.ensures.0 in
    omega (arith, sources_long at, ap length (in_two_parts at), length-append first second)

-- they are literals over the pairs of a space, and all of them are named
made : (c : After-deref_mut) (s : Space) → c.args.universe.now ≡ s.labels
    → (are : ArePairsOf s (labels_named s.labels c.args.rule.now.equal) c.args.pairs.now)
    → AreOfSides s c.args.rule.now.equal c.args.pairs.now are c.args.rule.now c.len-sources.result
    c.deref_mut.result.now
    × AreAllNamed (take c.len-sources.result c.deref_mut.result.now)
    × AreAllNamed (drop c.len-sources.result c.deref_mut.result.now)
made c s same are =
    let pairs = c.args.pairs.now in
    let rule = c.args.rule.now in
    let first = c.in_ok-push_literals.ensures in
    let second = c.in_ok-push_literals-2.ensures in
    let source = literals_are s rule.equal pairs are First rule.source
    c.in_ok-source.source.items first.0
    (rw (c.source.ensures.source, same) at c.in_ok-source.ensures)
    (rw c.as_slice.ensures.value at first.2) in
    let target = literals_are s rule.equal pairs are Second rule.target
    c.in_ok-target.target.items second.0
    (rw (c.target.ensures.target, same) at c.in_ok-target.ensures)
    (rw c.as_slice-2.ensures.value at second.2) in
    rw (
      in_two_parts c,
      take_at first.0 second.0 c.len-sources.result (sources_long c),
      drop_at first.0 second.0 c.len-sources.result (sources_long c),
    ) ((source, target), first.3, second.3)

pub returns-clause-some : goal.returns-clause-some
returns-clause-some c =
    let at = (goal.at.returns-clause-some c).After-deref_mut in
    if_some_more c.contradiction_of.result _ _
    (λ reason told s same are.
    sides_contradict s c.args.rule.now.equal c.args.pairs.now are c.args.rule.now
    c.len-sources.result c.deref_mut.result.now told.0 reason (made at s same are).0 told.1
    (subst (λ (p : PossibleChoices). IsReason (IsPossible p) 0 told.0) c.choices.ensures told.2)
    told.3)
    c.contradiction_of.ensures.some

pub returns-clause-none : goal.returns-clause-none
returns-clause-none c =
    let at = (goal.at.returns-clause-none c).After-deref_mut in
    if_none_more c.contradiction_of.result _ _
    (λ met s same are.
    let sides = made at s same are in
    sides_match s c.args.rule.now.equal c.args.pairs.now are c.args.rule.now c.len-sources.result
    c.deref_mut.result.now sides.0 sides.1 sides.2
    (subst (λ (p : PossibleChoices). IsMet (IsPossible p) c.deref_mut.result.now) c.choices.ensures
    met))
    c.contradiction_of.ensures.none
