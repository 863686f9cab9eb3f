-- The first of three searches that finds a label set says how the route stands.
use Rattle.am_universe.specs.LabelSet.{label_set_of}
use Rattle.am_lint.specs.Table.{table_space, table_config}
use Rattle.am_lint.proofs.LiteralTruth.{seen, none_seen, none_met, all_named}
use Rattle.am_lint.proofs.ArrivalSteps.{AreKnown, known_of}
use Rattle.am_lint.proofs.arrival.search_arrival.Goals as goal
use Rattle.am_lint.proofs.arrival.search_arrival.Goals.{After-as_mut_slice-all}

-- what the literals say, and what the first of them say
known : (c : After-as_mut_slice-all) → AreKnown (table_space c.args.table.now)
    (table_config c.args.table.now) c.args.table.now.routes.items c.args.path.now
    c.in_ok-literals.literals.on_way c.in_ok-literals.literals.to_enter
    c.as_mut_slice-all.result.now
known c =
    rw c.as_mut_slice-all.ensures.value
    (known_of _ (table_config c.args.table.now) _ c.requires.knows _ c.requires.there _
    c.in_ok-literals.ensures)

pub returns-in-Some : goal.returns-in-Some
returns-in-Some c = record {
  arrival = seen _ _ _ (known (goal.at.returns-in-Some c).After-as_mut_slice-all).ending _
      c.in_ok-choice.ensures.first c.in-Some.choice c.in-Some.is;
}

pub named_takers-requires-clause-none : goal.named_takers-requires-clause-none
named_takers-requires-clause-none c =
    none_met _ _ _ (known (goal.at.named_takers-requires-clause-none c).After-as_mut_slice-all).ending _
    c.in_ok-choice.ensures.first c.in_default.is

pub named_takers-requires-clause-named : goal.named_takers-requires-clause-named
named_takers-requires-clause-named c =
    all_named _ _ _ _ (known (goal.at.named_takers-requires-clause-named c).After-as_mut_slice-all).ending

pub returns-in-Some-2 : goal.returns-in-Some-2
returns-in-Some-2 c =
    let are = known (goal.at.returns-in-Some-2 c).After-as_mut_slice-all in
    record {
      arrival = (
        seen _ _ _ are.entering _ c.in_ok-entry.ensures.first c.in-Some-2.entry c.in-Some-2.is,
        none_seen _ _ _ are.ending _ c.in_ok-choice.ensures.first c.in_default.is,
        are.handed _ c.in_ok-children.ensures.takers,
      );
    }

pub named_takers-requires-in-Some-3-clause-none : goal.named_takers-requires-in-Some-3-clause-none
named_takers-requires-in-Some-3-clause-none c =
    none_met _ _ _ (known (goal.at.named_takers-requires-in-Some-3-clause-none c).After-as_mut_slice-all).entering _
    c.in_ok-entry.ensures.first c.in_default-2.is

pub named_takers-requires-in-Some-3-clause-named : goal.named_takers-requires-in-Some-3-clause-named
named_takers-requires-in-Some-3-clause-named c =
    all_named _ _ _ _ (known (goal.at.named_takers-requires-in-Some-3-clause-named c).After-as_mut_slice-all).entering

pub returns-in-Some-3 : goal.returns-in-Some-3
returns-in-Some-3 c =
    let are = known (goal.at.returns-in-Some-3 c).After-as_mut_slice-all in
    let way = seen _ _ _ are.matching _ c.in_ok-first_meeting.ensures.first c.in-Some-3.field-0
    c.in-Some-3.is in
    record {
      arrival = (
        none_seen _ _ _ are.entering _ c.in_ok-entry.ensures.first c.in_default-2.is,
        are.taken _ c.in_ok-named_takers-in-Some-3.ensures.takers
            (label_set_of (table_space c.args.table.now).labels c.in-Some-3.field-0, way.1, way.2),
      );
    }

pub named_by_reason-requires-clause-none : goal.named_by_reason-requires-clause-none
named_by_reason-requires-clause-none c =
    none_met _ _ _ (known (goal.at.named_by_reason-requires-clause-none c).After-as_mut_slice-all).matching _
    c.in_ok-first_meeting.ensures.first c.in-None.is

pub named_by_reason-requires-clause-named : goal.named_by_reason-requires-clause-named
named_by_reason-requires-clause-named c =
    all_named _ _ _ _ (known (goal.at.named_by_reason-requires-clause-named c).After-as_mut_slice-all).matching

pub returns : goal.returns
returns c =
    let are = known (goal.at.returns c).After-as_mut_slice-all in
    record {
      arrival = (
        none_seen _ _ _ are.entering _ c.in_ok-entry.ensures.first c.in_default-2.is,
        are.excluded _ c.in_ok-named_by_reason-in-None.ensures.blamed,
      );
    }
