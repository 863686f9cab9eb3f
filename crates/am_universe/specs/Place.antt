-- Where a fault is: a word for each input of a call, for its output and for memory.
use Rattle.std.specs.Prelude.{ℕ, List, codes}
use Rattle.am_universe.specs.declared.place.Place.{Place}
use Rattle.am_universe.specs.declared.place.Place.TheVariants.{Universe, Config, Silences, Alerts}
use Rattle.am_universe.specs.declared.place.Place.TheVariants.{Old, New, Rules, Instant, Question}
use Rattle.am_universe.specs.declared.place.Place.TheVariants.{Set, Token, Output, Memory}

-- The word for a place that the program prints.
abbrev pub place_text : Place → List ℕ
place_text Universe = codes "universe"
place_text Config = codes "config"
place_text Old = codes "old"
place_text New = codes "new"
place_text Silences = codes "silences"
place_text Alerts = codes "alerts"
place_text Rules = codes "rules"
place_text Instant = codes "instant"
place_text Question = codes "question"
place_text Set = codes "set"
place_text Token = codes "token"
place_text Output = codes "output"
place_text Memory = codes "memory"
