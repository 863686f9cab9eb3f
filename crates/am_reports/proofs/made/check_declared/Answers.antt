-- No label lacks a value; or the fault is that of the first label for which this is not known.
use Rattle.std.proofs.Common.{◌≡◌, ◌≢◌, ◌<◌, ℕ, List, length, string_bytes, Some, slice_get}
use Rattle.std.proofs.Common.{sym, ◌∙◌, subst, arith}
use Rattle.std.proofs.lemmas.Option.{get_or_from_slice_get}
use Rattle.am_json.specs.Reading.{refusal_of}
use Rattle.am_files.proofs.FirstFaults.{handed_on}
use Rattle.am_universe.specs.declared.kind.Kind.TheVariants as kinds
use Rattle.am_universe.specs.Universe.{Label, IsUniverse}
use Rattle.am_universe.proofs.LabelPairLemmas.{found_at}
use Rattle.am_complete.specs.declared.label_state.LabelState.{LabelState}
use Rattle.am_complete.specs.AskedLabel.{AskedLabel, IsAskedOf}
use Rattle.am_complete.specs.LabelState.{IsSoAt}
use Rattle.am_complete.specs.Complete.{impossible_matchers}
use Rattle.am_complete.proofs.AmongMatchers.{last_among}
use Rattle.am_complete.proofs.Pushed.{one_more_passes}
use Rattle.am_reports.specs.RoutingLabels.{routing_matchers}
use Rattle.am_rule_outcomes.specs.StandsForOutcomes.{outcome_matchers}
use Rattle.am_reports.specs.RoutingLabels.{labels_of_routes}
use Rattle.am_outcomes.specs.Configurations.{configurations_of}
use Rattle.am_reports.specs.Made.{IsDeclaredRefusal, IsDeclaredWhole, IsStateRefusal}
use Rattle.am_reports.proofs.DeclaredStates.{told_at, whole_by, refused_by}
use Rattle.am_reports.proofs.made.check_declared.Goals as goal
use Rattle.am_reports.proofs.made.check_declared.Goals.{After-index}

pub label_states-requires : goal.label_states-requires
label_states-requires c =
    let s = c.args.space.now in
    let k = configurations_of c.args.configs in (
      routing_matchers s k,
      rw (c.as_slice.ensures.value) c.in-Ok.ensures.asked,
      last_among (outcome_matchers k) (impossible_matchers s.impossible),
    )

-- the label at this position, and what is true of it
here : (c : After-index) → (l : Label) × (slice_get c.args.space.now.labels c.loop-i.i ≡ Some l)
    × (string_bytes c.index.result.now.name ≡ l.name)
    × IsSoAt c.args.alphabet c.args.space.now
    (routing_matchers c.args.space.now (configurations_of c.args.configs))
    (labels_of_routes (configurations_of c.args.configs) c.args.space.now.impossible) l.name
    c.index.result.now.completeness
here c =
    let s = c.args.space.now in
    let k = configurations_of c.args.configs in
    let ms = routing_matchers s k in
    let states = c.in-Ok-label_states.states.items in
    let i = c.loop-i.i in
    let asked : c.as_slice.result.now ≡ labels_of_routes k s.impossible =
    c.as_slice.ensures.value ∙ c.in-Ok.ensures.labels in
    let of : IsAskedOf c.as_slice.result.now ms =
    rw (c.as_slice.ensures.value) c.in-Ok.ensures.asked in
    let is : IsUniverse s.labels = rw (← c.universe-2.ensures.labels) c.len-i-end.ensures.universe in
    let within : i < length s.labels =
    subst (λ (u : List Label). i < length u) c.universe-2.ensures.labels
    (omega (arith, c.loop-i-test.true, c.len-i-end.ensures.len)) in
    let l = found_at s.labels i within in
    let told = told_at c.args.alphabet s ms c.as_slice.result.now states i l.0 is
    c.in-Ok-label_states.ensures.names (c.in-Ok-label_states.ensures.each ms of) l.1 in
    let same : told.0 ≡ c.index.result.now =
    sym (get_or_from_slice_get states i told.0 c.index.result.now told.1) ∙ sym c.index.ensures in (
      l.0,
      l.1,
      subst (λ (state : LabelState). string_bytes state.name ≡ l.0.name) same told.2,
      subst (λ (state : LabelState). IsSoAt c.args.alphabet s ms
          (labels_of_routes k s.impossible) l.0.name state.completeness) same
          (subst (λ (ls : List AskedLabel). IsSoAt c.args.alphabet s ms ls l.0.name
          told.0.completeness) asked told.3),
    )

pub returns-in_err-check_state-clause-refused : goal.returns-in_err-check_state-clause-refused
returns-in_err-check_state-clause-refused c =
    let s = c.args.space.now in
    let k = configurations_of c.args.configs in
    let a = c.args.alphabet in
    let fault = c.in_err-check_state.field-0.0 in
    let l = here (goal.at.returns-in_err-check_state-clause-refused c).After-index in
    handed_on (λ f. f.kind ≢ kinds.Memory → IsDeclaredRefusal a s k f.place (refusal_of f))
    fault c.from_residual.result c.from_residual.ensures.1
    (λ remembered. refused_by a s k c.loop-i.i l.0 c.index.result.now.completeness fault.place
    (refusal_of fault) l.1 c.loop-i.invariant
    (subst (λ (name : List ℕ).
    IsStateRefusal k c.loop-i.i name c.index.result.now.completeness fault.place (refusal_of fault))
    l.2 (c.in_err-check_state.ensures.refused remembered)) l.3)

pub loop-i-preserved : goal.loop-i-preserved
loop-i-preserved c =
    let s = c.args.space.now in
    let k = configurations_of c.args.configs in
    let a = c.args.alphabet in
    let l = here (goal.at.loop-i-preserved c).After-index in
    let is : IsUniverse s.labels = rw (← c.universe-2.ensures.labels) c.len-i-end.ensures.universe in
    one_more_passes (IsDeclaredWhole a s k) s.labels c.loop-i.i l.0 l.1 c.loop-i.invariant
    (whole_by a s (routing_matchers s k) (labels_of_routes k s.impossible) l.0.name
    c.index.result.now.completeness is c.in_ok-check_state.ensures.settled l.3)
