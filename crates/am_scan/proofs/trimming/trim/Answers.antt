-- What is returned searches for the same in scanned texts.
use Rattle.am_scan.proofs.TrimmingLemmas.{trimmed_search, whole_search}
use Rattle.am_scan.proofs.trimming.trim.Goals as goal

pub returns-then-is_trimmed : goal.returns-then-is_trimmed
returns-then-is_trimmed c = λ p search.
    trimmed_search c.args.bytes _ c.args.nfa _ p (c.is_trimmed.ensures c.if-is_trimmed.true) search

pub returns-else-is_trimmed : goal.returns-else-is_trimmed
returns-else-is_trimmed c = λ p search. whole_search c.args.bytes c.args.nfa p search
