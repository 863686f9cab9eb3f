-- A byte leads to the state whose number was found.
use Rattle.std.proofs.Common.{◌∷◌, sym, subst, ◌∙◌, arith}
use Rattle.std.proofs.lemmas.Option.{slice_get_within, same_Some}
use Rattle.am_scan.specs.Automaton.{IsRow}
use Rattle.am_scan.proofs.Places.{get_within}
use Rattle.am_scan.proofs.exploration.row.Goals as goal

pub returns-clause-row : goal.returns-clause-row
returns-clause-row c = λ state at.
    let scan = c.args.scan.now in
    let columns = c.args.columns.now.columns.items in
    let states = c.args.states.now.keys in
    let this = c.index-state.result.now in
    let nexts = c.in-Some-2.nexts in
    let numbers = c.in-Some-3.next in
    let count = rw c.in-Some-2.is at c.in_ok-nexts.ensures.count in
    let leads = rw c.in-Some-2.is at c.in_ok-nexts.ensures.each in
    let as_many = rw c.in-Some-3.is at c.in_ok-next.ensures.count in
    let serve = rw c.in-Some-3.is at c.in_ok-next.ensures.each in
    subst (λ s. IsRow scan columns c.numbers_of.new.states.keys s (record { next = numbers; found = c.in-Some.found }))
    (same_Some this state (sym c.index-state.ensures ∙ at))
    (record {
      count = as_many ∙ count ∙ c.args.columns.now.columns.ok.0;
      leads = λ k column number here there.
          let next = get_within nexts.items k (omega (arith, slice_get_within numbers.items k number there, numbers.ok.0, nexts.ok.0, as_many)) in
          let other = serve k next.0 number next.1 there in
          (other.0, other.1, λ byte text own follows. other.2 scan (byte ∷ text) (leads k column next.0 here next.1 byte text own follows));
      found = rw c.in-Some.is at c.in_ok-found.ensures;
    })
