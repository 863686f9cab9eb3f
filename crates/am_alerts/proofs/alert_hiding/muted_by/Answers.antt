use Rattle.std.proofs.Common.{◌≡◌, Bool, true, false, not, ◌&&◌, if◌then◌else◌, ℕ, Some, refl, sym, ap, ◌∙◌}
use Rattle.std.specs.Prelude.{slice_get}
use Rattle.std.specs.Global.{Vec}
use Rattle.std.proofs.lemmas.Option.{same_Some}
use Rattle.std.proofs.lemmas.Result.{IfOk-weaker}
use Rattle.am_universe.specs.LabelSet.{LabelMap}
use Rattle.am_labels.specs.Matcher.{all_hold}
use Rattle.am_eval.specs.Inhibition.{have_equal}
use Rattle.am_alerts.specs.AlertLabels.{flag}
use Rattle.am_alerts.proofs.alert_hiding.muted_by.Goals as goal
use Rattle.am_alerts.proofs.alert_hiding.muted_by.Goals.{then-target-firing+in_ok-among, else-target-firing+in_ok-among-2}

-- the firing alert is on the source side; whether it, and the other alert, are on both
table : (ta ts ss eq : Bool) → ((if ta then ts && not ss else ts) && eq)
    ≡ (((true && ts) && eq) && not ((true && ta) && (ss && ts)))
table true false ss eq = refl
table false false ss eq = refl
table false true ss true = refl
table false true ss false = refl
table true true true true = refl
table true true true false = refl
table true true false true = refl
table true true false false = refl

pub returns : goal.returns
returns c =
    let rule = c.args.rule.now in
    let alerts = c.args.labels.now in
    let source = λ (s : LabelMap). all_hold s rule.source in
    let target = λ (s : LabelMap). all_hold s rule.target in
    let among : (a : LabelMap) → slice_get alerts c.args.firing ≡ Some a → (i : ℕ) (s : LabelMap)
    → slice_get alerts i ≡ Some s → flag c.if-target-firing.among.items i
    ≡ (if target a then target s && not (source s) else target s) = λ a there i s at.
    elim c.if-target-firing.branch [
      | then-target-firing+in_ok-among w ↦
          ap (λ (v : Vec Bool). flag v.items i) w.among-is ∙ w.in_ok-among.ensures.rest i
          ∙ (λ j. c.requires.sides.1.1 i s at j && not (c.requires.sides.0.1 i s at j))
          ∙ ap (λ b. if b then target s && not (source s) else target s)
          (sym w.if-target-firing.true ∙ c.requires.sides.1.1 c.args.firing a there)
      | else-target-firing+in_ok-among-2 w ↦
          ap (λ (v : Vec Bool). flag v.items i) w.among-is
          ∙ ap (λ flags. flag flags i) (w.in_ok-among-2.ensures.items_if_clones_equal (λ x y h. h))
          ∙ c.requires.sides.1.1 i s at
          ∙ ap (λ b. if b then target s && not (source s) else target s)
          (sym w.if-target-firing.false ∙ c.requires.sides.1.1 c.args.firing a there)
    ] in
    record {
      count = IfOk-weaker c.equal_to.result _ _ (λ kept keeps. keeps.0) c.equal_to.ensures.equal;
      muted = IfOk-weaker c.equal_to.result _ _
          (λ kept keeps a there. (
            keeps.0,
            λ i s at.
                let same : c.get.result.now ≡ a =
                same_Some c.get.result.now a (sym c.get.ensures.alert
                ∙ ap (λ xs. slice_get xs c.args.firing) c.alerts.ensures.alerts ∙ there) in
                let is : source a ≡ true =
                sym (c.requires.sides.0.1 c.args.firing a there) ∙ c.requires.firing.1 in
                keeps.1 i s at
                ∙ (λ j. flag (c.as_slice.ensures.value j) i && have_equal (c.equal.ensures.equal j) (same j) s)
                ∙ ap (λ b. b && have_equal rule.equal a s) (among a there i s at)
                ∙ table (target a) (target s) (source s) (have_equal rule.equal a s)
                ∙ ap (λ b. ((b && target s) && have_equal rule.equal a s)
                && not ((b && target a) && (source s && target s))) (sym is),
          ))
          c.equal_to.ensures.equal;
    }
