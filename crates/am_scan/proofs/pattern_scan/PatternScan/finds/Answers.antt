-- A match begins at the first character, or later.
use Rattle.std.proofs.Common.{◌||◌, ◌&&◌, ◌∙◌, ap, false, slice_index_or, string_bytes}
use Rattle.am_scan.specs.Closure.{contains}
use Rattle.am_scan.specs.Scan.{Follows}
use Rattle.am_scan.proofs.StepLemmas.{finds_where_accepted}
use Rattle.am_scan.proofs.pattern_scan.PatternScan.finds.Goals as goal

pub returns : goal.returns
unfolding Follows
returns c = λ text follows scanned.
    let scan = c.args.self.now in
    let state = c.args.state.now in
    let accepted = c.in-Some.accepted.items in
    c.matches_from.ensures
    ∙ ap (λ xs. state.later || (state.starts && slice_index_or xs scan.nfa.start false)) c.as_slice.ensures.value
    ∙ finds_where_accepted scan.nfa scan.sight scan.bytes (record { all = scan.seen; words_in_ascii = scan.words_in_ascii })
    state.first state.starts (contains state.reads.items) state.later text follows accepted (string_bytes scan.pattern) scan.faithful
    (rw c.in-Some.is at c.in_ok-accepted.ensures) scanned
