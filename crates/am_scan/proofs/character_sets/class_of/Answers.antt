-- The ranges have these characters alone.
use Rattle.std.proofs.Common.{arith}
use Rattle.std.proofs.lemmas.List.{take_all}
use Rattle.am_scan.proofs.PartLemmas.{exact_class}
use Rattle.am_scan.proofs.character_sets.class_of.Goals as goal

pub returns : goal.returns
returns c =
    let characters = c.args.characters.now in
    exact_class c.new.result c.loop-character.ranges.items characters
    (rw (take_all c.loop-character.character-index characters (omega (arith, c.loop-character-test.false))) at c.loop-character.invariant) c.new.ensures
