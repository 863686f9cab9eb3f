use Rattle.std.proofs.Common.{◌≡◌, Bool, true, false, not, ◌&&◌, ◌||◌, Result, Ok, Err, refl, sym, ap, ◌∙◌, length}
use Rattle.std.specs.Prelude.{IfOk, slice_get}
use Rattle.am_eval.specs.declared.question.Question.TheOpen.{Question-F}
use Rattle.am_eval.specs.declared.question.Question.TheVariants as variants
use Rattle.am_eval.specs.Question.{satisfies}
use Rattle.am_eval.specs.QuestionView.{question_view}
use Rattle.am_eval.proofs.QuestionSeen.{seen_by}
use Rattle.am_alerts.specs.AlertLabels.{flag}
use Rattle.am_alerts.proofs.truth.+truths_of.Goals as goal

either : (p q : Bool) → not (not p && not q) ≡ (p || q)
either true q = refl
either false true = refl
either false false = refl

both : {X E : Type 0} {P Q R : X → Type 0} (r : Result X E) → ((x : X) → P x → Q x → R x) → IfOk r P
    → IfOk r Q → IfOk r R
both (Ok x) gives p q = gives x p q
both (Err e) gives p q = tt

pub returns-in_ok-neither-in-Or : goal.returns-in_ok-neither-in-Or
returns-in_ok-neither-in-Or t c =
    let w = c.args.outcomes.now in
    record {
      truths = both c.others-in-Or-2.result (λ others count each. (
        count ∙ ap length c.labels-in-Or-2.ensures.labels,
        λ i s at. each i s (ap (λ xs. slice_get xs i) c.labels-in-Or-2.ensures.labels ∙ at)
            ∙ ap (λ flags. not (flag flags i)) c.as_slice-in-Or-4.ensures.value
            ∙ ap not (c.in_ok-neither-in-Or.ensures.rest i
            ∙ (λ j. flag (c.as_slice-in-Or-2.ensures.value j) i && not (flag (c.as_slice-in-Or-3.ensures.value j) i))
            ∙ (λ j. (c.in_ok-left_out-in-Or.ensures.others i s
            (ap (λ xs. slice_get xs i) c.labels-in-Or.ensures.labels ∙ at)
            ∙ ap (λ flags. not (flag flags i)) c.as_slice-in-Or.ensures.value
            ∙ ap not (c.in_ok-first-in-Or.ensures.truths.1 i s at)) j
            && not (c.in_ok-second-in-Or.ensures.truths.1 i s at j)))
            ∙ either _ _
            ∙ (λ j. satisfies w (question_view (c.deref-in-Or.ensures j)) s
            || satisfies w (question_view (c.deref-in-Or-2.ensures j)) s)
            ∙ sym (ap (λ q. satisfies w q s)
            (seen_by (Question-F.Or _ _) (variants.rolls-Or _ _ ∙ sym c.in-Or.is))),
      )) c.others-in-Or-2.ensures.count c.others-in-Or-2.ensures.others;
    }
