-- One more byte.
use Rattle.std.proofs.Common.{◌∙◌, get_or, refl, eq-eqb, take}
use Rattle.std.proofs.lemmas.Bool.{and_from, or_left, or_right}
use Rattle.std.proofs.lemmas.List.Folds.{list_all_more}
use Rattle.am_scan.specs.Characters.{Widens}
use Rattle.am_scan.specs.Sight.{is_scanned}
use Rattle.am_scan.proofs.PartLemmas.{wider}
use Rattle.am_scan.proofs.character_sets.insert_character.Goals as goal

pub loop-byte-preserved : goal.loop-byte-preserved
loop-byte-preserved c =
    let h = c.loop-byte.invariant in
    let old = c.loop-byte.bytes in
    let new = c.insert.new.self in
    let text = c.as_bytes-byte-items.result.now in
    let i = c.loop-byte.byte-index in
    let byte = get_or text i 0 in
    let widens : Widens old new = λ b there. c.insert.ensures b ∙ or_left _ _ there in
    record {
      widens = λ b there. widens b (h.widens b there);
      own = list_all_more (is_scanned new) text i 0 c.loop-byte-test.true
          ∙ and_from _ _ (wider old new widens (take i text) h.own) (c.insert.ensures byte ∙ or_right _ _ (eq-eqb byte byte refl));
    }
