-- One more byte before the text.
use Rattle.std.proofs.Common.{◌≡◌, ◌||◌, ◌&&◌, ◌∙◌, ap, sym, subst, Some, slice_index_or, false, arith}
use Rattle.std.proofs.lemmas.Option.{slice_get_within}
use Rattle.am_scan.specs.Scan.{Follows}
use Rattle.am_scan.specs.Closure.{contains, IsClosed}
use Rattle.am_scan.specs.Sight.{kind_of}
use Rattle.am_scan.proofs.ArrivalLemmas.{column_sources}
use Rattle.am_scan.proofs.StepLemmas.{FollowsText-step}
use Rattle.am_scan.proofs.pattern_scan.PatternScan.steps.Goals as goal

pub returns-clause-steps : goal.returns-clause-steps
unfolding Follows
returns-clause-steps c = λ class column next at kind is byte text own follows.
    let scan = c.args.self.now in
    let state = c.args.state.now in
    let columns = c.args.columns.now in
    let accepted = c.in-Some.accepted.items in
    let slice : c.as_slice-accepted.result.now ≡ accepted = c.as_slice-accepted.ensures.value in
    let before : Some c.args.kind ≡ Some (kind_of scan.sight byte) = ap Some (sym kind ∙ own.kind) in
    let later = is.later ∙ c.matches_from.ensures ∙ ap (λ xs. state.later || (state.starts && slice_index_or xs scan.nfa.start false)) slice in
    let closed : IsClosed scan.nfa state.first (Some c.args.kind) (contains state.reads.items) accepted = rw c.in-Some.is at c.in_ok-accepted.ensures in
    rw (is.first ∙ before, is.starts_is ∙ own.starts, later)
    (FollowsText-step scan.nfa scan.sight scan.bytes (record { all = scan.seen; words_in_ascii = scan.words_in_ascii })
    state.first state.starts (contains state.reads.items) state.later text follows accepted byte (contains next.reads.items)
    (subst (λ o. IsClosed scan.nfa state.first o (contains state.reads.items) accepted) before closed)
    (λ q inside.
    is.reads q ∙ c.in_ok-sources.ensures class q (omega (arith, slice_get_within columns.columns.items class column at, columns.columns.ok.0, c.len.ensures))
    ∙ rw (c.as_slice-arrivals.ensures.value, slice)
    (column_sources scan.nfa columns.columns.items columns.arrivals.items accepted class column byte (omega (arith, columns.arrivals.ok.0, c.requires.count)) (omega (arith, columns.arrivals.ok.0, c.requires.count, closed.len)) c.requires.each at own.edges q inside)))
