use Rattle.std.proofs.Common.{ℕ, List, chars, map, string_bytes, take, sym, subst}
use Rattle.std.specs.List.{AllByRecursion}
use Rattle.am_universe.proofs.DistinctLists.{all_push}
use Rattle.am_scan.specs.Characters.{IsAlone}
use Rattle.am_scan.proofs.CharacterLemmas.{all_map, alone_narrowed}
use Rattle.am_scan.proofs.Places.{map_front}
use Rattle.am_classes.proofs.enough_bytes.add_texts.Goals as goal

pub loop-text-preserved : goal.loop-text-preserved
loop-text-preserved c =
    let h = c.loop-text.invariant in
    let texts = c.args.texts.now in
    let i = c.loop-text.text-index in
    let text = c.text-item.result in
    let old = c.loop-text.sets in
    let new = c.add_text.new.self in
    let narrows = c.add_text.ensures.narrows in
    let front = map string_bytes (take i texts) in
    record {
      narrows = λ x y alike. h.narrows x y (narrows x y alike);
      alone = subst (AllByRecursion (λ (t : List ℕ). AllByRecursion (IsAlone new) (chars t)))
          (sym (map_front string_bytes texts i text c.loop-text-test.true c.text-item.is))
          (all_push (λ t. AllByRecursion (IsAlone new) (chars t)) front (string_bytes text)
          (all_map (λ t. AllByRecursion (IsAlone old) (chars t)) (λ t. AllByRecursion (IsAlone new) (chars t)) front
          (λ t. all_map (IsAlone old) (IsAlone new) (chars t) (alone_narrowed old new narrows)) h.alone)
          (subst (λ t. AllByRecursion (IsAlone new) (chars t)) c.as_str.ensures.value
          c.in_ok-add_text.ensures.alone));
    }
