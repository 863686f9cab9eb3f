-- What was read in the pattern asks nothing of alike characters.
use Rattle.am_scan.proofs.AlikeTexts.{cannot_tell}
use Rattle.am_scan.proofs.CharacterLemmas.{if_known}
use Rattle.am_scan.proofs.character_sets.CharacterSets.add_pattern.Goals as goal

pub returns-in-Some-clause-blind : goal.returns-in-Some-clause-blind
returns-in-Some-clause-blind c =
    let read = rw c.in-Some.is at c.in_ok-parsed.ensures in
    if_known c.add_tree.result _ _ c.add_tree.ensures.blind (λ blind.
    cannot_tell c.add_tree.new.self c.in-Some.parsed.hir _ c.args.pattern.now (rw (c.as_str.ensures.value, c.in_ok-source.ensures) at read) blind)
