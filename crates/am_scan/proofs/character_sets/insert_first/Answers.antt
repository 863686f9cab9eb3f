-- An empty class has no character.
use Rattle.regex_class.proofs.RangesLemmas.{in_ranges-nil}
use Rattle.am_scan.proofs.character_sets.insert_first.Goals as goal

pub returns-in_default-clause-own : goal.returns-in_default-clause-own
returns-in_default-clause-own c = λ e yes.
    let empty = rw c.in_default.ensures at yes in
    let no = in_ranges-nil e in absurd cc
