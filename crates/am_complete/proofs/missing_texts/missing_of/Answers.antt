use Rattle.std.proofs.Common.{◌≡◌, length, map, string_bytes, sym, ap, ◌∙◌, subst, arith, List, ℕ}
use Rattle.std.specs.List.{filter, AllByRecursion}
use Rattle.std.proofs.lemmas.List.{length-map}
use Rattle.am_complete.specs.AllowedNames.{may_declare}
use Rattle.am_complete.specs.Complete.{may_have}
use Rattle.am_complete.specs.Covering.{standing_texts}
use Rattle.am_classes.specs.Truths.{AreNewIn}
use Rattle.am_complete.proofs.NeededTexts.{is_missing, all_from}
use Rattle.am_complete.proofs.PossibleTexts.{all_kept}
use Rattle.am_complete.proofs.missing_texts.missing_of.Goals as goal

pub returns : goal.returns
returns c = λ alerts so limits.
    let s = c.args.space.now in
    let l = c.args.label.now in
    let found = map string_bytes c.args.found.texts.items in
    let wanted = c.in_ok-wanted.wanted in
    let missing = map string_bytes c.in_ok-texts.texts.items in
    let named = c.name-name.ensures.name in
    let name = c.name-name.result.now in
    let ns = so.tests.0 in
    let kept : map string_bytes wanted.items ≡ filter (may_have s.impossible l.name) found =
    c.in_ok-wanted.ensures
    ∙ (λ i. filter (may_have (c.impossible.ensures.lists i) (named i)) found) in
    let new = c.in_ok-texts.ensures ns so.tests.1 in (
      is_missing c.args.alphabet c.args.allowed s l _ found ns so.tests.2 so.tests.3
          (c.requires c.name-name.ensures.named) so.classes
          (subst (λ n. AreNewIn ns (standing_texts s n) (filter (may_have s.impossible l.name) found) missing) named
          (subst (λ (ws : List (List ℕ)). AreNewIn ns (standing_texts s name) ws missing) kept new))
          named c.name-name.ensures.named (c.may_declare.ensures ∙ ap (may_declare c.args.allowed) named)
          (omega (arith, length-map wanted.items string_bytes, ap length kept, wanted.ok.0, c.len-count.ensures))
          limits,
      all_from _ (map string_bytes wanted.items) missing
          (subst (AllByRecursion _) (sym c.in_ok-wanted.ensures)
          (all_kept _ (may_have c.impossible.result.now name) found so.represent))
          new.from,
    )
