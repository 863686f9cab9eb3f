use Rattle.am_plans.proofs.Soundness.{question_judges, verdict_says}
use Rattle.am_plans.proofs.laws.a_verdict_says_what_holds_of_all_completions.Goals as goal

pub returns : goal.returns
returns c = record {
  yes = λ s w q prefix universe. (question_judges s w q universe).yes prefix;
  no = λ s w q prefix universe. (question_judges s w q universe).no prefix;
  whole = λ s w q d universe. verdict_says s w q d;
  closed = λ s w q d universe. (question_judges s w q universe).whole d;
}
