use Rattle.std.proofs.Common.{ℕ, refl, arith}
use Rattle.std.specs.List.{enumerate_from}
use Rattle.std.specs.Ordering.{nat_cmp}
use Rattle.std.proofs.lemmas.List.Kept.{IsStrictlySortedBy-filter}
use Rattle.am_universe.specs.LabelSet.{LabelMap}
use Rattle.am_universe.proofs.ListLemmas.{IsIn-from_Contains, Contains-from_IsIn, IsStrictlySortedBy-map}
use Rattle.am_universe.proofs.Members.{item_at, numbered_at}
use Rattle.am_labels.proofs.Passing.{passes_from_kept, kept_from_passes}
use Rattle.am_eval.specs.Question.{satisfies}
use Rattle.am_eval.proofs.PairLemmas.{Numbers, numbers_ascend}
use Rattle.am_alerts.specs.AlertLines.{asked_alerts}
use Rattle.am_alerts.proofs.laws.asked_alerts_are_those_that_satisfy.Goals as goal

pub returns : goal.returns
returns _ = record {
  exactly = λ w q i s.
      let numbered = enumerate_from 0 w.alerts in
      let passes = λ (alert : ℕ × LabelMap). satisfies w q alert.1 in (
        λ h.
            let kept = passes_from_kept passes numbered (i, s)
            (IsIn-from_Contains (asked_alerts w q) (i, s) h) in
            (item_at w.alerts (i, s) kept.0, kept.1),
        λ h.
            let there = numbered_at 0 w.alerts i s h.0 i (omega arith) in
            Contains-from_IsIn (asked_alerts w q) (i, s)
            (kept_from_passes passes numbered (i, s) there h.1),
      );
  ascending = λ w q.
      IsStrictlySortedBy-map Numbers nat_cmp (λ alert. alert.0) (asked_alerts w q) (λ a b. refl)
      (IsStrictlySortedBy-filter Numbers (λ alert. satisfies w q alert.1)
      (enumerate_from 0 w.alerts) (numbers_ascend 0 w.alerts));
}
