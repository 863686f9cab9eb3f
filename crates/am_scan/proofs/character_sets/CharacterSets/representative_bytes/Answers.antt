-- One more character's bytes are there, and in the end they are enough.
use Rattle.std.proofs.Common.{encode_utf8, subst, sym, take, arith}
use Rattle.std.specs.List.{AllByRecursion}
use Rattle.std.proofs.lemmas.List.{take_all}
use Rattle.regex_class.specs.declared.Class.{Class}
use Rattle.am_universe.proofs.DistinctLists.{all_push}
use Rattle.am_scan.specs.Characters.{HasFirst}
use Rattle.am_scan.specs.Sight.{IsScanned}
use Rattle.am_scan.proofs.CharacterLemmas.{all_map}
use Rattle.am_scan.proofs.PartLemmas.{all_bytes, first_wider, representatives, wider}
use Rattle.am_scan.proofs.Places.{take_front}
use Rattle.am_scan.proofs.character_sets.CharacterSets.representative_bytes.Goals as goal

pub returns-in_default : goal.returns-in_default
returns-in_default c = all_bytes c.args.self.now c.full.result c.full.ensures

pub loop-single-preserved : goal.loop-single-preserved
loop-single-preserved c =
    let h = c.loop-single.invariant in
    let singles = c.args.self.now.singles.items in
    let i = c.loop-single.single-index in
    let single = c.single-item.result in
    let old = c.loop-single.bytes in
    let new = c.insert_character.new.bytes in
    let widens = c.in_ok-insert_character.ensures.widens in
    let within = rw c.deref-single-items.ensures.value at c.loop-single-test.true in
    let is = rw c.deref-single-items.ensures.value at c.single-item.is in
    record {
      ascii = λ b small. widens b (h.ascii b small);
      singles = subst (AllByRecursion (λ x. IsScanned new (encode_utf8 x))) (sym (take_front singles i single within is))
          (all_push (λ x. IsScanned new (encode_utf8 x)) (take i singles) single
          (all_map (λ x. IsScanned old (encode_utf8 x)) (λ x. IsScanned new (encode_utf8 x)) (take i singles) (λ x. wider old new widens (encode_utf8 x)) h.singles)
          c.in_ok-insert_character.ensures.own);
    }

pub loop-part-init : goal.loop-part-init
loop-part-init c =
    let h = c.loop-single.invariant in
    let singles = c.args.self.now.singles.items in
    let out = rw c.deref-single-items.ensures.value at c.loop-single-test.false in
    record {
      ascii = h.ascii;
      singles = rw (take_all c.loop-single.single-index singles (omega (arith, out))) at h.singles;
      parts = tt;
    }

pub loop-part-preserved : goal.loop-part-preserved
loop-part-preserved c =
    let h = c.loop-part.invariant in
    let parts = c.deref-part-items.result.now in
    let i = c.loop-part.part-index in
    let part = c.part-item.result in
    let old = c.loop-part.bytes in
    let new = c.insert_first.new.bytes in
    let widens = c.in_ok-insert_first.ensures.widens in
    record {
      ascii = λ b small. widens b (h.ascii b small);
      singles = all_map (λ x. IsScanned old (encode_utf8 x)) (λ x. IsScanned new (encode_utf8 x)) _ (λ x. wider old new widens (encode_utf8 x)) h.singles;
      parts = subst (AllByRecursion (λ (x : Class). HasFirst x.ranges.items new)) (sym (take_front parts i part c.loop-part-test.true c.part-item.is))
          (all_push (λ (x : Class). HasFirst x.ranges.items new) (take i parts) part
          (all_map (λ (x : Class). HasFirst x.ranges.items old) (λ (x : Class). HasFirst x.ranges.items new) (take i parts) (first_wider old new widens) h.parts)
          c.in_ok-insert_first.ensures.own);
    }

pub returns : goal.returns
returns c =
    let h = c.loop-part.invariant in
    let parts = c.in-Some.parts.items in
    let out = c.loop-part-test.false in
    let all = rw (take_all c.loop-part.part-index c.deref-part-items.result.now (omega (arith, out))) at h.parts in
    representatives c.args.self.now c.loop-part.bytes parts h.ascii h.singles (rw c.in-Some.is at c.in_ok-parts.ensures)
    (rw c.deref-part-items.ensures.value at all)
