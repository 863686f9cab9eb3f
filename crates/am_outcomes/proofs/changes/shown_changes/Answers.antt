use Rattle.std.proofs.Common.{◌≡◌, ◌++◌, ◌∷◌, [], ℕ, List, None, map, take, ap, sym, ◌∙◌, append-nil}
use Rattle.std.proofs.lemmas.List.{map_push}
use Rattle.am_config.specs.ConfigView.{config_view}
use Rattle.am_outcomes.specs.Configurations.{Pair}
use Rattle.am_outcomes.specs.Changes.{ShownChange, is_change, changes_of, shown_change}
use Rattle.am_outcomes.specs.OutcomesView.{lists_view}
use Rattle.am_outcomes.proofs.LineSteps.{kept_more, whole_at}
use Rattle.am_outcomes.proofs.changes.shown_changes.Goals as goal
use Rattle.am_outcomes.proofs.changes.shown_changes.Goals.{then-is_change+in_ok-labels_of+in_ok-push, else-is_change}

pub labels_of-requires : goal.labels_of-requires
labels_of-requires c =
    whole_at c.requires.0 (Pair (config_view c.args.old.now) (config_view c.args.new.now))
    c.args.outcomes.now c.args.universe.now c.loop-i.i _ c.requires.1 c.requires.2
    c.get.ensures.outcome

pub loop-i-preserved : goal.loop-i-preserved
loop-i-preserved c =
    let test = is_change (config_view c.args.old.now) (config_view c.args.new.now) in
    let outcome : List (List ℕ) × List ℕ = (lists_view c.get.result.0.now, c.get.result.1.now) in
    let more = kept_more test c.args.outcomes.now c.loop-i.i outcome c.get.ensures.outcome in
    let so_far = map (shown_change c.args.universe.now)
    (changes_of (config_view c.args.old.now) (config_view c.args.new.now)
    (take c.loop-i.i c.args.outcomes.now)) in
    let change : List (List ℕ × List ℕ) → ShownChange =
    λ labels. record { group = None; lists = outcome.0; labels = labels } in
    let tells : test outcome ≡ c.is_change.result = sym c.is_change.ensures.change in
    elim c.if-is_change.branch [
      | then-is_change+in_ok-labels_of+in_ok-push w ↦
          rw (
            w.changes-is,
            w.in_ok-push.ensures.items,
            c.loop-i.invariant,
            more,
            tells ∙ w.if-is_change.true,
            map_push,
          )
          (ap (λ labels. so_far ++ change labels ∷ [])
          w.in_ok-labels_of.ensures)
      | else-is_change w ↦
          rw (w.changes-is, more, tells ∙ w.if-is_change.false, append-nil) c.loop-i.invariant
    ]
