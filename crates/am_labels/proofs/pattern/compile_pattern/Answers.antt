-- What was read in the anchored text was compiled.
use Rattle.am_labels.proofs.PatternLemmas.{is_pattern-compiled, IsSearchFor-compiled}
use Rattle.am_labels.proofs.pattern.compile_pattern.Goals as goal

pub returns-in-Ok-compile-clause-search : goal.returns-in-Ok-compile-clause-search
returns-in-Ok-compile-clause-search c =
    let read = rw c.in-Some.is at c.in_ok-parsed.ensures in
    IsSearchFor-compiled c.in-Ok-compile.nfa c.in-Some.parsed.hir c.in-Ok-compile.ensures.matches c.args.pattern.now _
    (rw (c.as_str.ensures.value, c.in_ok-source.ensures) at read)

pub returns-in-Ok-compile-clause-read : goal.returns-in-Ok-compile-clause-read
returns-in-Ok-compile-clause-read c =
    let read = rw c.in-Some.is at c.in_ok-parsed.ensures in
    is_pattern-compiled c.in-Ok-compile.nfa c.in-Some.parsed.hir c.in-Ok-compile.ensures.matches c.args.pattern.now _
    (rw (c.as_str.ensures.value, c.in_ok-source.ensures) at read)
