use Rattle.std.proofs.Common.{◌≡◌, ◌++◌, ℕ, List, map, ap, sym, ◌∙◌, append-nil, All, subst, arith}
use Rattle.std.proofs.lemmas.Grind.{common_steps}
use Rattle.std.proofs.lemmas.List.Elements.{All-push, All-weaker}
use Rattle.std.specs.FinMap.{entries}
use Rattle.am_universe.specs.LabelSetView.{entry_texts}
use Rattle.am_universe.proofs.MapTextLemmas.{entries_kept}
use Rattle.am_alerts.specs.declared.alert_labels.AlertLabel.{AlertLabel}
use Rattle.am_alerts.specs.AlertLabels.{label_view, HasNamePlace, HasPlace}
use Rattle.am_alerts.proofs.alert_labels.add_labels.Goals as goal

pub loop-name-preserved : goal.loop-name-preserved
loop-name-preserved c =
    let old = c.loop-name.labels.items in
    let names = c.place_of.new.texts.keys in
    let values = c.place_of-in-loop-name.new.texts.keys in
    let l : AlertLabel = record {
      name = c.as_str-name.result;
      value = c.as_str-value.result;
      alert = c.args.alert;
      name_place = c.in_ok-name_place.name_place;
      place = c.in_ok-place.place;
    } in
    record {
      labels = grind (arith, common_steps);
      names = subst (All (HasNamePlace names)) (sym c.in_ok-push.ensures.items)
          (All-push (HasNamePlace names) old l
          (All-weaker (HasNamePlace c.loop-name.names.keys) (HasNamePlace names)
          (λ m there. c.in_ok-name_place.ensures.grows m.name_place m.name.now there) old c.loop-name.invariant.names)
          c.in_ok-name_place.ensures.place);
      values = subst (All (HasPlace values)) (sym c.in_ok-push.ensures.items)
          (All-push (HasPlace values) old l
          (All-weaker (HasPlace c.loop-name.values.keys) (HasPlace values)
          (λ m there. c.in_ok-place.ensures.grows m.place m.value.now there) old c.loop-name.invariant.values)
          c.in_ok-place.ensures.place);
    }

pub returns : goal.returns
returns c =
    let gives = c.into_iter-name-iterator.ensures.into_iter_gives in
    let kept : entries c.args.set.now ≡ entry_texts c.into_iter-name-iterator.result =
    ap entries (sym c.values-name-items.ensures.values)
    ∙ entries_kept c.values-name-items.result.now gives.5 ∙ ap entry_texts (sym gives.0) in
    let all = rw (c.in-None.ensures.steps.0, append-nil) at c.loop-name.invariant.labels in
    record {
      labels = all
          ∙ ap (λ (es : List (List ℕ × List ℕ)). map label_view c.args.labels.now.items ++ map (λ e. (c.args.alert, e)) es)
          (sym kept);
      names = c.loop-name.invariant.names;
      values = c.loop-name.invariant.values;
    }
