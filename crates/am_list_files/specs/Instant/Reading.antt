-- What reads instants. Only this module names `jiff`, so a check of a crate above does not load
-- what is proved of `jiff`.
use Rattle.std.specs.Prelude.{◌≡◌, ℕ, List}
use Rattle.std.specs.Result.{result_ok}
use Rattle.std.proofs.Common.{refl}
use Rattle.jiff.specs.Words.{parse_timestamp}
use Rattle.am_list_files.specs.Instant.{instant_of}

-- The instant that a text says is the one that `jiff` reads in it.
pub instant_read : (text : List ℕ) → instant_of text ≡ result_ok (parse_timestamp text)
unfolding instant_of
instant_read text = refl
