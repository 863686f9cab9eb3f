use Rattle.std.proofs.Common.{Some}
use Rattle.std.proofs.lemmas.Bool.{and_from, and_right}
use Rattle.am_labels.specs.Matcher.{all_hold}
use Rattle.am_eval.specs.Silencing.{is_active}
use Rattle.am_idle.proofs.NamedSets.{named_counts}
use Rattle.am_idle.proofs.laws.an_idle_silence_hides_no_alert.Goals as goal

pub returns : goal.returns
returns c = record {
  idle = λ a s w alerts silence instant alert said is.
      and_right (is_active (Some instant) silence) (all_hold alert silence.matchers)
      (said.1 alert is);
  all = λ a s w alerts silence instant alert said is active.
      and_from (is_active (Some instant) silence) (all_hold alert silence.matchers) active
      (said.1.1 alert is);
  count = λ a s alert is. named_counts a s alert is;
}
