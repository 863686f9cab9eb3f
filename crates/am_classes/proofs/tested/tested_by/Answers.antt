use Rattle.std.proofs.Common.{◌≡◌, ◌++◌, ◌∷◌, [], List, ℕ, if◌then◌else◌, string_bytes, refl, sym, ap, ◌∙◌, subst}
use Rattle.std.proofs.lemmas.Iterator.Adapters.{YieldsList-from_vec}
use Rattle.std.proofs.lemmas.Iterator.Consumers.{YieldsList-end}
use Rattle.std.proofs.lemmas.List.{map-append}
use Rattle.std.proofs.lemmas.List.Folds.{map_fixed}
use Rattle.am_universe.proofs.DistinctLists.{all_push, all_pushed}
use Rattle.am_labels.specs.Pattern.{finds}
use Rattle.am_classes.specs.Truths.{AreHits}
use Rattle.am_classes.proofs.tested.tested_by.Goals as goal

pub loop-text-preserved : goal.loop-text-preserved
loop-text-preserved c =
    let text = c.in-Some.text in
    let same = c.loop-text.invariant.same in
    let more = c.in_ok-with_hit.field-0 in
    let after : (List ℕ → List ℕ) → List ℕ → List ℕ =
    λ hits x. hits x ++ (if finds c.args.finder x then c.args.place ∷ [] else []) in
    record {
      same = c.in_ok-with_hit.ensures.same ∙ same;
      texts = simp (c.in_ok-push.ensures.items, map-append) (
          λ i. c.loop-text.invariant.texts i ++ string_bytes (c.in_ok-with_hit.ensures.text i) ∷ []);
      hits = λ hits all.
          let parts = all_pushed _ c.loop-text.yielded text all in
          subst (AreHits (after hits)) (sym c.in_ok-push.ensures.items)
          (all_push _ c.loop-text.all.items more (c.loop-text.invariant.hits hits parts.0)
          (c.in_ok-with_hit.ensures.hits
          ∙ (λ i. parts.1 i ++ (if finds (same i) (string_bytes text.text) then c.args.place ∷ [] else []))
          ∙ ap (after hits) (ap string_bytes (sym c.in_ok-with_hit.ensures.text))));
    }

pub returns-clause-hits : goal.returns-clause-hits
returns-clause-hits c = λ hits all.
    let start = c.into_iter-text-iterator.ensures.into_iter_gives in
    let end =
    YieldsList-end
    (YieldsList-from_vec {s = c.into_iter-text-iterator.result} c.args.texts.items start.0
    (start.1 ∙ c.args.texts.ok.0))
    c.loop-text.yielded c.loop-text.text-iterator c.loop-text.yielded_by c.next.result
    c.next.new.self c.in-None.is c.next.ensures.steps in
    let whole : c.loop-text.yielded ≡ c.args.texts.items =
    sym (map_fixed (λ x. x) c.loop-text.yielded (λ k d h. refl)) ∙ end.0 in
    c.loop-text.invariant.hits hits (subst (AreHits hits) (sym whole) all)
