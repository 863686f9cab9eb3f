use Rattle.std.proofs.Common.{◌≡◌, ℕ, List, [], ◌∷◌, Bool, true, false, not, ◌&&◌, ◌||◌, inl, inr, refl, sym, ap, ◌∙◌}
use Rattle.std.specs.Prelude.{◌==◌}
use Rattle.std.specs.List.{list_any}
use Rattle.std.proofs.lemmas.Bool.{true≢false, or_cases, or_parts, eqb-true}
use Rattle.am_alerts.specs.Judge.{passes, text_at}
use Rattle.am_alerts.specs.AlertLabels.{flag, is_at}
use Rattle.am_alerts.proofs.alert_labels.judge_row.Goals as goal
use Rattle.am_alerts.proofs.alert_labels.judge_row.Goals.{else-may_be_left-via-then-may_be_left+in_ok-passes+else-not-branch, else-may_be_left-via-else-may_be_left}

none_at : (flags : List Bool) (positions : List ℕ) (i : ℕ) → list_any (flag flags) positions ≡ false
    → is_at positions i ≡ true → flag flags i ≡ false
none_at flags [] i none at = absurd (true≢false (sym at))
none_at flags (p ∷ positions) i none at =
    let parts = or_parts (flag flags p) _ none in
    elim (or_cases (p == i) _ at) [
      | inl here ↦ ap (flag flags) (sym (eqb-true p i here)) ∙ parts.0
      | inr later ↦ none_at flags positions i parts.1 later
    ]

with_true : (b : Bool) → b ≡ (b && true)
with_true true = refl
with_true false = refl

absent : (b t m : Bool) → (m ≡ true → b ≡ false) → b ≡ (b && (t || not m))
absent false t m h = refl
absent true true m h = refl
absent true false false h = refl
absent true false true h = absurd (true≢false (h refl))

pub returns-else-may_be_left-clause-judged : goal.returns-else-may_be_left-clause-judged
returns-else-may_be_left-clause-judged c = λ i.
    let kept = c.args.kept.now in
    let positions = c.args.positions.now in
    let test = c.args.judge.now.test in
    elim c.else-may_be_left.branch [
      | else-may_be_left-via-then-may_be_left+in_ok-passes+else-not-branch w ↦
          with_true (flag kept i)
          ∙ ap (λ t. flag kept i && (t || not (is_at positions i)))
          (sym w.if-not-branch.false ∙ w.in_ok-passes.ensures.truth)
      | else-may_be_left-via-else-may_be_left w ↦
          absent (flag kept i) (passes test (text_at c.args.values.now c.args.row.now.place)) (is_at positions i)
          (none_at kept positions i (c.may_be_left.ensures.none w.if-may_be_left.false))
    ]
