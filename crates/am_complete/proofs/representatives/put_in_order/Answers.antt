use Rattle.std.proofs.Common.{Contains, map, string_bytes}
use Rattle.std.proofs.lemmas.List.Sorted.{IsPermutation-map}
use Rattle.am_universe.proofs.ListLemmas.{Contains-from_IsIn, AllByRecursion-each}
use Rattle.am_complete.proofs.ChosenTexts.{classes_moved}
use Rattle.am_complete.proofs.RepresentativeTexts.{all_moved}
use Rattle.am_complete.proofs.representatives.put_in_order.Goals as goal

pub returns-clause-classes : goal.returns-clause-classes
returns-clause-classes c = λ a ms all.
    let old = c.args.texts.now.items in
    let new = c.sort_by_key.new.self.items in
    classes_moved a ms (map string_bytes old) (map string_bytes new) all
    (IsPermutation-map string_bytes old new c.sort_by_key.ensures.permutation)

pub returns-clause-from : goal.returns-clause-from
returns-clause-from c =
    let old = c.args.texts.now.items in
    let new = c.sort_by_key.new.self.items in
    all_moved (Contains (map string_bytes old)) (map string_bytes old) (map string_bytes new)
    (IsPermutation-map string_bytes old new c.sort_by_key.ensures.permutation)
    (AllByRecursion-each _ (map string_bytes old) (λ x i. Contains-from_IsIn (map string_bytes old) x i))
