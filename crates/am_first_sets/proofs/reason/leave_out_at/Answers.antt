use Rattle.std.proofs.Common.{◌≡◌, List, sym, ap, ◌∙◌, subst, get_or, true}
use Rattle.std.proofs.lemmas.Option.{slice_get-get_or, get_or_from_slice_get}
use Rattle.std.proofs.lemmas.Bool.{both_ways}
use Rattle.am_first_sets.specs.declared.candidate.Candidate.{Candidate}
use Rattle.am_first_sets.specs.PossibleChoices.{IsPossible}
use Rattle.am_first_sets.specs.Literals.{IsMet}
use Rattle.am_first_sets.specs.Reason.{AreFewer, AreNamedBefore, renamed, without}
use Rattle.am_first_sets.proofs.ReasonLemmas.{fewer_itself, fewer_through, fewer_without}
use Rattle.am_first_sets.proofs.ReasonLemmas.{named_less, restored, unnamed_at}
use Rattle.am_first_sets.proofs.reason.leave_out_at.Goals as goal
use Rattle.am_first_sets.proofs.reason.leave_out_at.Goals.{After-refute}

-- what the search leaves of the others
fewer_after : (c : After-refute) → AreFewer c.args.candidates.now c.refute.new.candidates
fewer_after c =
    let ks = c.args.candidates.now in
    fewer_through ks (without c.args.i ks) c.refute.new.candidates (fewer_without c.args.i ks)
    (subst (λ (ls : List Candidate). AreFewer ls c.refute.new.candidates) c.set_named.ensures
    c.refute.ensures.fewer)

first_after : (c : After-refute) → AreNamedBefore c.args.from c.refute.new.candidates
first_after c =
    c.refute.ensures.first (subst (AreNamedBefore c.args.from) (sym c.set_named.ensures)
    (named_less c.args.from c.args.i c.args.candidates.now c.requires.behind c.requires.first))

pub returns-then-not-candidates-i-clause-fewer : goal.returns-then-not-candidates-i-clause-fewer
returns-then-not-candidates-i-clause-fewer c = fewer_itself c.args.candidates.now

pub returns-then-not-candidates-i-clause-needed : goal.returns-then-not-candidates-i-clause-needed
returns-then-not-candidates-i-clause-needed c = λ all k at named.
    let is = get_or_from_slice_get c.args.candidates.now c.args.i k c.index-candidates-i.result at in
    absurd (both_ways k.named (ap (λ (x : Candidate). x.named) (sym is) ∙ c.if-not-candidates-i.true)
    named)

pub returns-then-not-asks_about-clause-fewer : goal.returns-then-not-asks_about-clause-fewer
returns-then-not-asks_about-clause-fewer c = fewer_itself c.args.candidates.now

pub returns-in_err-refute-clause-fewer : goal.returns-in_err-refute-clause-fewer
returns-in_err-refute-clause-fewer c =
    fewer_after (goal.at.returns-in_err-refute-clause-fewer c).After-refute

pub returns-in_err-refute-clause-first : goal.returns-in_err-refute-clause-first
returns-in_err-refute-clause-first c =
    first_after (goal.at.returns-in_err-refute-clause-first c).After-refute

pub returns-then-branch-clause-fewer : goal.returns-then-branch-clause-fewer
returns-then-branch-clause-fewer c =
    fewer_after (goal.at.returns-then-branch-clause-fewer c).After-refute

pub returns-then-branch-clause-first : goal.returns-then-branch-clause-first
returns-then-branch-clause-first c =
    first_after (goal.at.returns-then-branch-clause-first c).After-refute

pub returns-then-branch-clause-needed : goal.returns-then-branch-clause-needed
returns-then-branch-clause-needed c = λ all k at named.
    unnamed_at c.args.i c.args.candidates.now c.refute.new.candidates k
    (subst (λ (ls : List Candidate). AreFewer ls c.refute.new.candidates) c.set_named.ensures
    c.refute.ensures.fewer) at named

-- some choice is found, so the name is put back
pub returns : goal.returns
returns c =
    let Is = IsPossible c.args.possible.now in
    let ks = c.args.candidates.now in
    let i = c.args.i in
    let k = get_or ks i c.index-candidates-i.result in
    let met = c.in_ok-refute.ensures.met c.if-branch.false in
    let less : c.refute.new.candidates ≡ without i ks = met.0 ∙ c.set_named.ensures in
    let back : c.set_named-2.new.candidates ≡ ks =
    c.set_named-2.ensures ∙ ap (renamed i true) less
    ∙ restored i ks k (slice_get-get_or ks i c.index-candidates-i.result c.requires.there)
    c.if-not-candidates-i.false in
    rw back (record {
      fewer = fewer_itself ks;
      first = c.requires.first;
      enough = c.requires.enough;
      needed = λ all l at named. subst (IsMet Is) c.set_named.ensures met.1;
    })
