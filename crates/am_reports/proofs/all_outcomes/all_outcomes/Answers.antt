-- What is checked, made and found is true of the space that was passed.
use Rattle.std.proofs.Common.{◌≡◌, ◌≢◌, List, sym, ◌∙◌, subst, inl, inr}
use Rattle.std.proofs.lemmas.Result.{IfOk-weaker, IfErr-weaker}
use Rattle.am_universe.specs.declared.kind.Kind.TheVariants as kinds
use Rattle.am_universe.specs.declared.fault.Fault.{Fault}
use Rattle.am_universe.specs.Universe.{Label}
use Rattle.am_labels.specs.Space.{Space}
use Rattle.am_json.specs.Reading.{refusal_of}
use Rattle.am_files.proofs.FirstFaults.{handed_on}
use Rattle.am_classes.specs.declared.alphabet.Alphabet.{Alphabet}
use Rattle.am_outcomes.specs.Configurations.{Configurations, configurations_of, tried_of}
use Rattle.am_outcomes.specs.Outcomes.{outcomes_of}
use Rattle.am_outcomes.specs.Ways.{HaveManyWays}
use Rattle.am_every_alert.specs.Deciding.{space_of}
use Rattle.am_reports.specs.AllOutcomes.{AreAllOutcomes}
use Rattle.am_reports.specs.LaterStages.{IsOutcomesRefusal}
use Rattle.am_reports.specs.Made.{StandsForAll}
use Rattle.am_reports.proofs.OutcomesOver.{outcomes_are}
use Rattle.am_reports.proofs.all_outcomes.all_outcomes.Goals as goal
use Rattle.am_reports.proofs.all_outcomes.all_outcomes.Goals.{After-declare-2}

-- the space over which outcomes are found
made : (c : After-declare-2)
    → c.declare-2.new.self ≡ space_of c.args.space.now.impossible c.in_ok-universe.universe
made c = λ i. record {
  labels = c.declare-2.ensures.labels i;
  impossible = (c.declare-2.ensures.impossible ∙ c.declare.ensures.impossible) i;
}

stands : (c : After-declare-2) → StandsForAll c.args.alphabet c.args.space.now.impossible
    (configurations_of c.args.configs) c.in_ok-universe.universe
stands c = rw c.declare.ensures.impossible at c.in_ok-universe.ensures.stands

-- a fault is one that the contract allows
abbrev IsRefused : Alphabet → Space → Configurations → Fault → Type 0
IsRefused a s k f = f.kind ≢ kinds.Memory → IsOutcomesRefusal a s k f.place (refusal_of f)

pub returns-in_err-check_declared-clause-refused : goal.returns-in_err-check_declared-clause-refused
returns-in_err-check_declared-clause-refused c =
    handed_on (IsRefused c.args.alphabet c.args.space.now (configurations_of c.args.configs))
    c.in_err-check_declared.field-0.0 c.from_residual.result c.from_residual.ensures.1
    (λ remembered. inl (c.in_err-check_declared.ensures.refused remembered))

pub returns-in_err-universe-clause-refused : goal.returns-in_err-universe-clause-refused
returns-in_err-universe-clause-refused c =
    handed_on (IsRefused c.args.alphabet c.args.space.now (configurations_of c.args.configs))
    c.in_err-universe.field-0.0 c.from_residual-in_err-universe.result
    c.from_residual-in_err-universe.ensures.1
    (λ remembered. inr (
      c.in_ok-check_declared.ensures.whole,
      inl (rw c.declare.ensures.impossible at (c.in_err-universe.ensures.refused remembered)),
    ))

pub returns-clause-refused : goal.returns-clause-refused
returns-clause-refused c =
    let at = goal.at.returns-clause-refused c in
    IfErr-weaker c.outcomes_of_choices.result _ _
    (λ fault told remembered.
    inr (
      c.in_ok-check_declared.ensures.whole,
      inr (elim (told remembered) [
        | inl refused ↦ inl (
          refused.0,
          record {
            labels = c.in_ok-universe.universe;
            stands = stands at.After-declare-2;
            many = subst
                (λ (t : Space). HaveManyWays t (tried_of (configurations_of c.args.configs)))
                (made at.After-declare-2) refused.1;
            refusal = refused.2;
          },
        )
        | inr cut ↦ inr cut
      ]),
    )) c.outcomes_of_choices.ensures.refused

pub returns-clause-whole : goal.returns-clause-whole
returns-clause-whole c =
    IfOk-weaker c.outcomes_of_choices.result _ _
    (λ outcomes is. c.in_ok-check_declared.ensures.whole)
    c.outcomes_of_choices.ensures.outcomes

pub returns-clause-are : goal.returns-clause-are
returns-clause-are c =
    let at = (goal.at.returns-clause-are c).After-declare-2 in
    let s = c.args.space.now in
    let k = configurations_of c.args.configs in
    let u = c.in_ok-universe.universe in
    IfOk-weaker c.outcomes_of_choices.result _ _
    (λ outcomes order.
    subst (λ (v : List Label). AreAllOutcomes c.args.alphabet s k v outcomes)
    (sym c.declare-2.ensures.labels)
    (outcomes_are c.args.alphabet s k u (stands at) outcomes
    (subst (λ (t : Space). outcomes ≡ outcomes_of t k) (made at) order)))
    c.outcomes_of_choices.ensures.outcomes
