-- What is made for the labels that the routes ask about, and the faults.
use Rattle.std.proofs.Common.{◌≡◌, ◌≢◌, inl, inr, refl, ◌∙◌, subst}
use Rattle.am_universe.specs.declared.kind.Kind.TheVariants as kinds
use Rattle.am_labels.specs.Space.{Space}
use Rattle.am_json.specs.Reading.{refusal_of}
use Rattle.am_files.proofs.FirstFaults.{handed_on}
use Rattle.am_complete.specs.AskedLabel.{IsAskedOf}
use Rattle.am_complete.specs.declared.allowed_names.AllowedNames.TheVariants as allowed_are
use Rattle.am_complete.specs.Covering.{AddsNeeded}
use Rattle.am_complete.specs.Complete.{impossible_matchers}
use Rattle.am_complete.proofs.AmongMatchers.{last_among}
use Rattle.am_asked.specs.Made.{NoRoomFor, IsFirstUnproved}
use Rattle.am_asked.proofs.Undeclared.{undeclared_is}
use Rattle.am_reports.specs.RoutingLabels.{routing_matchers}
use Rattle.am_rule_outcomes.specs.StandsForOutcomes.{outcome_matchers}
use Rattle.am_reports.specs.RoutingLabels.{labels_of_routes}
use Rattle.am_outcomes.specs.Configurations.{configurations_of}
use Rattle.am_reports.specs.Made.{IsMadeRefusal}
use Rattle.am_reports.proofs.made.universe_for_routes.Goals as goal
use Rattle.am_reports.proofs.made.universe_for_routes.Goals.{After-as_slice}

is_asked : (c : After-as_slice) → IsAskedOf c.as_slice.result.now
    (routing_matchers c.args.space.now (configurations_of c.args.configs))
is_asked c = rw (c.as_slice.ensures.value) c.in-Ok.ensures.asked

are_asked : (c : After-as_slice) → c.as_slice.result.now
    ≡ labels_of_routes (configurations_of c.args.configs) c.args.space.now.impossible
are_asked c = c.as_slice.ensures.value ∙ c.in-Ok.ensures.labels

pub universe_for-requires : goal.universe_for-requires
universe_for-requires c =
    let s = c.args.space.now in
    let k = configurations_of c.args.configs in (
      routing_matchers s k,
      is_asked (goal.at.universe_for-requires c).After-as_slice,
      last_among (outcome_matchers k) (impossible_matchers s.impossible),
    )

pub returns-in_err-found-clause-refused : goal.returns-in_err-found-clause-refused
returns-in_err-found-clause-refused c =
    let s = c.args.space.now in
    let k = configurations_of c.args.configs in
    let a = c.args.alphabet in
    let fault = c.in_err-found.field-0.0 in
    let at = (goal.at.returns-in_err-found-clause-refused c).After-as_slice in
    handed_on (λ f. f.kind ≢ kinds.Memory
    → IsMadeRefusal a s.impossible k f.place (refusal_of f)) fault c.from_residual.result
    c.from_residual.ensures.1
    (λ remembered.
    let full : NoRoomFor a allowed_are.Any s (labels_of_routes k s.impossible) fault.place (refusal_of fault) =
    rw (are_asked at) at (c.in_err-found.ensures.refused remembered) in
    inl (subst (λ (t : Space).
    NoRoomFor a allowed_are.Any t (labels_of_routes k s.impossible) fault.place (refusal_of fault))
    (undeclared_is s c.requires) full))

pub returns-clause-refused : goal.returns-clause-refused
returns-clause-refused c = λ remembered.
    let s = c.args.space.now in
    let labels = labels_of_routes (configurations_of c.args.configs) s.impossible in
    let at = (goal.at.returns-clause-refused c).After-as_slice in
    let label = c.in-Err.label.now in
    let told = rw (c.first.ensures.first, c.name.ensures.name)
    at (c.unproved_label.ensures.refusal remembered) in
    let unproved : IsFirstUnproved c.args.alphabet allowed_are.Any s labels label =
    rw (are_asked at) at (rw c.in-Err.is at c.in_ok-found.ensures.unproved).1 in
    inr (
      label,
      subst (λ (t : Space). IsFirstUnproved c.args.alphabet allowed_are.Any t labels label)
          (undeclared_is s c.requires) unproved,
      told.0,
      told.1,
    )

pub returns-in-Ok-found-clause-stands : goal.returns-in-Ok-found-clause-stands
returns-in-Ok-found-clause-stands c =
    let s = c.args.space.now in
    let ms = routing_matchers s (configurations_of c.args.configs) in
    let at = (goal.at.returns-in-Ok-found-clause-stands c).After-as_slice in
    let made = (rw c.in-Ok-found.is at c.in_ok-found.ensures.made) ms (is_asked at) in
    record {
      stands = record {
        universe = made.universe;
        complete = made.complete refl;
        over = made.over (rw c.requires tt);
      };
      adds = subst (λ (t : Space). AddsNeeded c.args.alphabet t ms c.in-Ok-found.universe)
          (undeclared_is s c.requires) made.adds;
      order = rw (are_asked at, c.requires) at made.order;
    }
