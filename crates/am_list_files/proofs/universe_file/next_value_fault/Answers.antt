use Rattle.am_list_files.proofs.SeenValueLemmas.{seen_more}
use Rattle.am_list_files.proofs.universe_file.next_value_fault.Goals as goal

pub returns-clause-seen : goal.returns-clause-seen
returns-clause-seen c = λ before are _.
    seen_more c.args.seen.now before c.args.value are c.insert.new.self c.in_ok-insert.field-0
    c.if-not-branch.false c.in_ok-insert.ensures.keys
