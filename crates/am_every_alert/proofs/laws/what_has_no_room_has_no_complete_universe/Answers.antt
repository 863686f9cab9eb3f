use Rattle.am_every_alert.proofs.RoomLemmas.{none_without_room}
use Rattle.am_every_alert.proofs.laws.what_has_no_room_has_no_complete_universe.Goals as goal

pub returns : goal.returns
returns c = record {
  none = λ a allowed s asked ms v universe keeps asks among none complete.
      none_without_room a allowed s asked ms v keeps asks complete among universe none;
}
