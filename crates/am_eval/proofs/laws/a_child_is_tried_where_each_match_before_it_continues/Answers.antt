use Rattle.std.proofs.Common.{◌≡◌, ◌↔◌, List, [], ◌∷◌, Bool, true, false, take, arith}
use Rattle.std.specs.Prelude.{IsTrue, IsFalse, not, ◌&&◌}
use Rattle.std.specs.List.{AllByRecursion}
use Rattle.std.proofs.lemmas.Grind.{common_steps}
use Rattle.am_universe.specs.LabelSet.{LabelMap}
use Rattle.am_labels.specs.Matcher.{all_hold}
use Rattle.am_config.specs.ConfigFile.{RouteTree, matchers_of, children_of, continues_of}
use Rattle.am_config.specs.Path.{list_of}
use Rattle.am_eval.specs.Routing.{is_last}
use Rattle.am_eval.proofs.FlatEnds.{ends_exactly}
use Rattle.am_eval.proofs.laws.a_child_is_tried_where_each_match_before_it_continues.Goals as goal

-- a route does not stop an alert exactly if it has `continue` or does not match
goes_on : (matches continues : Bool)
    → (matches && not continues) ≡ false ↔ (matches ≡ true → continues ≡ true)
goes_on matches continues = grind (arith, common_steps)

each_goes_on : (s : LabelMap) (ts : List RouteTree)
    → AllByRecursion (λ t. IsFalse (is_last s t)) ts
    ↔ AllByRecursion (λ t. IsTrue (all_hold s (matchers_of t)) → IsTrue (continues_of t)) ts
each_goes_on s [] = (λ h. tt, λ h. tt)
each_goes_on s (t ∷ ts) = grind (arith, common_steps, each_goes_on s ts, goes_on)

pub returns : goal.returns
returns _ = record {
  exactly = λ s t position path.
      let ends = ends_exactly s t (position ∷ path) in
      let earlier = each_goes_on s (take position (list_of (children_of t))) in (
        λ h.
            let there = ends.0 h in
            (there.0, there.1, there.2, earlier.0 there.3, (ends_exactly s there.1 path).1 there.4),
        λ h. ends.1 (h.0, h.1, h.2, earlier.1 h.3, (ends_exactly s h.1 path).0 h.4),
      );
}
