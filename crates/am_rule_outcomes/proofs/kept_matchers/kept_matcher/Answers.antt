use Rattle.std.proofs.Common.{◌≡◌, ℕ, Bor, List, [], Option, Some, None, option_map, length, refl, sym, ap, ◌∙◌, inl, inr, arith}
use Rattle.std.specs.Prelude.{unwrap_or, option_and_then}
use Rattle.std.proofs.lemmas.Option.{slice_get-map, slice_get_past}
use Rattle.am_universe.specs.Universe.{IsLabel}
use Rattle.am_universe.specs.LabelSet.{value_at}
use Rattle.am_universe.proofs.LabelPairLemmas.{at_place, found_at, name_at}
use Rattle.am_labels.specs.declared.op.Op.TheVariants.{Equal}
use Rattle.am_rule_outcomes.proofs.kept_matchers.kept_matcher.Goals as goal
use Rattle.am_rule_outcomes.proofs.kept_matchers.kept_matcher.Goals.{then-position-size, else-position-size}

pub unreachable-requires : goal.unreachable-requires
unreachable-requires c =
    let u = c.args.universe.now in
    let l = found_at u c.args.i c.requires.label in
    let named : l.0.name ≡ c.name.result.now = name_at u c.args.i l.0 c.name.result.now l.1 c.name.ensures.name in
    let is_label = at_place IsLabel u c.args.i l.0 c.requires.universe.labels l.1 in
    elim (c.in-Err.ensures.refused (λ memory. absurd (cc (c.in-Err.ensures.memory memory).0))) [
      | inl unnamed ↦ is_label.name (named ∙ sym c.in_ok-name.ensures.ok ∙ unnamed.0)
      | inr refused ↦ absurd (cc refused.1.pattern)
    ]

text_of : (o : Option (Bor (List ℕ))) (other : Bor (List ℕ))
    → (unwrap_or o other).now ≡ unwrap_or (option_map (λ t. t.now) o) other.now
text_of None other = refl
text_of (Some t) other = refl

pub returns : goal.returns
returns c = λ label at.
    let u = c.args.universe.now in
    let named = name_at u c.args.i label c.name.result.now at c.name.ensures.name in
    let text : c.if-position-size.text.now ≡ unwrap_or (value_at label c.args.position) [] =
    elim c.if-position-size.branch [
      | then-position-size w ↦
          ap (λ t. t.now) w.text-is ∙ ap (λ t. t.now) w.unwrap_or-text.ensures
          ∙ text_of w.value.result _
          ∙ ap (λ o. unwrap_or o []) (w.value.ensures.text
          ∙ ap (option_and_then (λ l. value_at l c.args.position)) at)
      | else-position-size w ↦
          let size : Some c.size.result ≡ Some (length label.values) =
          sym c.size.ensures.size ∙ slice_get-map (λ l. length l.values) u c.args.i
          ∙ ap (option_map (λ l. length l.values)) at in
          let is : c.size.result ≡ length label.values = cc in
          ap (λ t. t.now) w.text-is
          ∙ sym (ap (λ o. unwrap_or (option_and_then (λ v. v) o) [])
          (slice_get_past label.values c.args.position (omega (arith, w.if-position-size.false, is))))
    ] in
    c.in-Ok.ensures.ok
    ∙ (λ i. record {
      name = (c.in_ok-name.ensures.ok ∙ sym named) i;
      op = Equal;
      value = (c.in_ok-from_str.ensures.ok ∙ text) i;
    })
