-- What a part asks is what its own parts ask.
use Rattle.std.proofs.Common.{◌∙◌, ap, sym, subst}
use Rattle.std.specs.List.{AllByRecursion}
use Rattle.std.proofs.lemmas.List.{map_more}
use Rattle.regex_hir.specs.Meaning.{meaning}
use Rattle.regex_hir.proofs.MeaningLemmas.{meaning-Alternation, meaning-Concat, meaning-Repetition}
use Rattle.am_universe.proofs.DistinctLists.{all_push}
use Rattle.am_scan.specs.Characters.{IsBlind}
use Rattle.am_scan.proofs.CharacterLemmas.{all_map, blind_alt_all, blind_cat_all, blind_narrowed, blind_repeat, if_known}
use Rattle.am_scan.proofs.character_sets.CharacterSets.+add_tree.Goals as goal

pub add_tree-returns-in-Repetition-clause-blind : goal.add_tree-returns-in-Repetition-clause-blind
add_tree-returns-in-Repetition-clause-blind t c =
    if_known c.add_tree.result _ _ c.add_tree.ensures.blind (λ blind.
    subst (IsBlind c.add_tree.new.self) (sym (ap meaning c.in-Repetition.is ∙ meaning-Repetition _ _ _ _))
    (blind_repeat c.add_tree.new.self _ _ _ _ (rw c.deref.ensures at blind)))

pub add_tree-returns-in-Concat-clause-blind : goal.add_tree-returns-in-Concat-clause-blind
add_tree-returns-in-Concat-clause-blind t c =
    if_known c.add_trees.result _ _ c.add_trees.ensures.blind (λ blind.
    subst (IsBlind c.add_trees.new.self) (sym (ap meaning c.in-Concat.is ∙ meaning-Concat _))
    (blind_cat_all c.add_trees.new.self _ (rw c.deref-in-Concat.ensures.value at blind)))

pub add_tree-returns-in-Alternation-clause-blind :
    goal.add_tree-returns-in-Alternation-clause-blind
add_tree-returns-in-Alternation-clause-blind t c =
    if_known c.add_trees-in-Alternation.result _ _ c.add_trees-in-Alternation.ensures.blind (λ blind.
    subst (IsBlind c.add_trees-in-Alternation.new.self) (sym (ap meaning c.in-Alternation.is ∙ meaning-Alternation _))
    (blind_alt_all c.add_trees-in-Alternation.new.self _ (rw c.deref-in-Alternation.ensures.value at blind)))

pub add_trees-loop-i-preserved : goal.add_trees-loop-i-preserved
add_trees-loop-i-preserved t c =
    let h = c.loop-i.invariant in
    let old = c.loop-i.self in
    let new = c.add_tree.new.self in
    let trees = c.args.trees.now in
    record {
      narrows = λ x y alike. h.narrows x y (c.add_tree.ensures.narrows x y alike);
      blind = subst (AllByRecursion (IsBlind new)) (sym (map_more meaning trees c.loop-i.i c.index-trees-i.result c.loop-i-test.true))
          (all_push (IsBlind new) _ _ (all_map (IsBlind old) (IsBlind new) _ (blind_narrowed old new c.add_tree.ensures.narrows) h.blind)
          (rw (sym c.index-trees-i.is) (c.in_ok-add_tree.ensures.blind c.if-not-branch.false)));
    }
