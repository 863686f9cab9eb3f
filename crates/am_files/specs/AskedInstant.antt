-- The instant that is asked about. (This project's own.)
use Rattle.std.specs.Prelude.{ℕ, ℤ, List, Option, Some, None, option_and_then}
use Rattle.am_universe.specs.declared.kind.Kind.{Kind}
use Rattle.am_universe.specs.declared.kind.Kind.TheVariants as kinds
use Rattle.am_list_files.specs.Instant.{instant_of}
use Rattle.am_list_files.specs.Instant.{time_fault}

-- The instant that is asked about, if there is a text that says one.
abbrev pub asked_instant : Option (List ℕ) → Option ℤ
asked_instant at = option_and_then instant_of at

-- What is wrong with the instant, if anything is: the text says no instant, or there is no text
-- although there is a file of silences. Such a file needs an instant, whatever the file says.
-- Source: own choice.
-- Example: with a file of silences that is `null` and no text, the fault is `need-at`. With the
-- text `yesterday` it is `bad-time`, with or without such a file.
abbrev pub instant_fault : Option (List ℕ) → Option (List ℕ) → Option Kind
instant_fault silences (Some at) = time_fault at
instant_fault (Some bytes) None = Some kinds.NeedAt
instant_fault None None = None
