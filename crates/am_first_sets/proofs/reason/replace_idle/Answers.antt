-- The literal is not named; or without it there is another reason; or some choice fails it first.
use Rattle.std.proofs.Common.{◌≡◌, List, sym, ap, ◌∙◌, subst}
use Rattle.std.proofs.lemmas.Option.{get_or_from_slice_get}
use Rattle.std.proofs.lemmas.Bool.{both_ways}
use Rattle.am_first_sets.specs.declared.candidate.Candidate.{Candidate}
use Rattle.am_first_sets.specs.PossibleChoices.{IsPossible}
use Rattle.am_first_sets.specs.Literals.{IsMet}
use Rattle.am_first_sets.specs.Reason.{AreSameLiterals, AreFewer, AreNamedBefore}
use Rattle.am_first_sets.specs.Reason.{without, named_first}
use Rattle.am_first_sets.proofs.ReasonLemmas.{fewer_itself, fewer_through, fewer_same, same_through}
use Rattle.am_first_sets.proofs.ReasonLemmas.{retried, retried_same, retried_named, fails_first}
use Rattle.am_first_sets.proofs.ReasonLemmas.{one_more_fails, others_fail}
use Rattle.am_first_sets.proofs.reason.replace_idle.Goals.{After-refute}
use Rattle.am_first_sets.proofs.reason.replace_idle.Goals.{then-branch+in_ok-leave_out_those, else-branch}
use Rattle.am_first_sets.proofs.reason.replace_idle.Goals as goal

same_itself : (ks : List Candidate) → AreSameLiterals ks ks
same_itself ks = fewer_same ks ks (fewer_itself ks)

-- what the search is for
searched : (c : After-refute) → c.set_named.new.candidates ≡ retried c.args.i c.args.candidates.now
searched c =
    let copied = c.as_mut_slice-others.ensures.value
    ∙ c.in_ok-copy.ensures.items_if_clones_equal (λ x y h. h) in
    c.set_named.ensures
    ∙ ap (without c.args.i) (c.name_first.ensures ∙ ap (named_first c.args.i) copied)

-- those that stay named if the search finds no choice
left : (c : After-refute) → AreFewer (retried c.args.i c.args.candidates.now) c.refute.new.candidates
left c =
    subst (λ (ks : List Candidate). AreFewer ks c.refute.new.candidates) (searched c)
    c.refute.ensures.fewer

pub returns-then-not-candidates-i-clause-same : goal.returns-then-not-candidates-i-clause-same
returns-then-not-candidates-i-clause-same c = same_itself c.args.candidates.now

pub returns-then-not-candidates-i-clause-each : goal.returns-then-not-candidates-i-clause-each
returns-then-not-candidates-i-clause-each c =
    let ks = c.args.candidates.now in
    let i = c.args.i in
    one_more_fails (IsPossible c.args.possible.now) i ks (λ k at named.
    let is = get_or_from_slice_get ks i k c.index-candidates-i.result at in
    absurd (both_ways k.named (ap (λ (x : Candidate). x.named) (sym is) ∙ c.if-not-candidates-i.true)
    named)) c.requires.later

pub leave_out_those-requires-clause-first : goal.leave_out_those-requires-clause-first
leave_out_those-requires-clause-first c =
    c.refute.ensures.first
    (subst (AreNamedBefore c.args.from) (sym (searched (goal.at.leave_out_those-requires-clause-first c).After-refute))
    (retried_named c.args.from c.args.i c.args.candidates.now c.requires.behind))

pub returns-clause-same : goal.returns-clause-same
returns-clause-same c =
    let ks = c.args.candidates.now in
    let again = retried c.args.i ks in
    elim c.if-branch.branch [
      | then-branch+in_ok-leave_out_those w ↦
          let new = w.leave_out_those.new.candidates in
          rw (w.candidates-is, w.copy_from_slice.ensures.after)
          (same_through ks again new (retried_same c.args.i ks) (fewer_same again new
          (fewer_through again c.refute.new.candidates new
          (left (goal.at.returns-clause-same c).After-refute) w.in_ok-leave_out_those.ensures.fewer)))
      | else-branch w ↦ rw w.candidates-is (same_itself ks)
    ]

pub returns-clause-each : goal.returns-clause-each
returns-clause-each c =
    let Is = IsPossible c.args.possible.now in
    let ks = c.args.candidates.now in
    let i = c.args.i in
    let after = (goal.at.returns-clause-each c).After-refute in
    elim c.if-branch.branch [
      | then-branch+in_ok-leave_out_those w ↦
          let new = w.leave_out_those.new.candidates in
          rw (w.candidates-is, w.copy_from_slice.ensures.after)
          (others_fail Is i ks new
          (fewer_through (retried i ks) c.refute.new.candidates new (left after)
          w.in_ok-leave_out_those.ensures.fewer) c.requires.later)
      | else-branch w ↦
          rw w.candidates-is (one_more_fails Is i ks (λ k at named.
          fails_first Is i ks c.requires.reason.enough
          (subst (IsMet Is) (searched after) (c.in_ok-refute.ensures.met w.if-branch.false).1))
          c.requires.later)
    ]
