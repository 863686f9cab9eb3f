use Rattle.am_every_alert.proofs.OverAscii.{complete_at_over_ascii, complete_over_ascii}
use Rattle.am_every_alert.proofs.OverAscii.{space_complete_over_ascii, alert_over_unicode}
use Rattle.am_every_alert.proofs.OverAscii.{alert_of_space_over_unicode, texts_over_unicode}
use Rattle.am_every_alert.proofs.laws.what_is_complete_over_unicode_is_complete_over_ascii.Goals as goal

pub returns : goal.returns
returns c = record {
  at_label = complete_at_over_ascii;
  universe = complete_over_ascii;
  space = space_complete_over_ascii;
  alert = alert_over_unicode;
  alert_of_space = alert_of_space_over_unicode;
  texts = texts_over_unicode;
}
