use Rattle.am_eval.specs.Reaching.{EndsAt, Enters, GoesTo}
use Rattle.am_classes.specs.declared.alphabet.Alphabet.TheVariants.{Unicode}
use Rattle.am_every_alert.proofs.UniverseTexts.{universe_texts}
use Rattle.am_every_alert.proofs.SpaceAlerts.{none_exactly, ends_told, enters_told, goes_told}
use Rattle.am_commands.proofs.laws.over_a_complete_universe_dead_is_exact.Goals as goal

pub returns : goal.returns
returns _ = record {
  dead = λ file path s c says complete.
      none_exactly Unicode s c says.3.is_universe complete (EndsAt c path) (ends_told c path)
      (universe_texts file s says);
  never_entered = λ file path s c says complete.
      none_exactly Unicode s c says.3.is_universe complete (Enters c path) (enters_told c path)
      (universe_texts file s says);
  unmatched = λ file s c receiver says complete.
      none_exactly Unicode s c says.3.is_universe complete (GoesTo c receiver)
      (goes_told c receiver) (universe_texts file s says);
  dead_over = λ a s c path h texts complete.
      none_exactly a s c h complete (EndsAt c path) (ends_told c path) texts;
  never_entered_over = λ a s c path h texts complete.
      none_exactly a s c h complete (Enters c path) (enters_told c path) texts;
  unmatched_over = λ a s c receiver h texts complete.
      none_exactly a s c h complete (GoesTo c receiver) (goes_told c receiver) texts;
}
