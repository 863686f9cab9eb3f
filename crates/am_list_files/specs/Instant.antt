-- Instants, and the texts that say them. (RFC 3339, and what `jiff` reads beyond it.)
pub mod Reading
use Rattle.std.specs.Prelude.{ℕ, ℤ, List, is_some, if◌then◌else◌, Option, Some, None}
use Rattle.std.specs.Result.{result_ok}
use Rattle.am_universe.specs.declared.kind.Kind.{Kind}
use Rattle.am_universe.specs.declared.kind.Kind.TheVariants as kinds
use Rattle.jiff.specs.Words.{parse_timestamp}

-- The instant that the crate `jiff` reads in a text, if it reads one, in nanoseconds since
-- 1970-01-01T00:00:00Z.
-- Source: RFC 3339, section 5.6: a date, a time, and `Z` or an offset. Own choice: what `jiff`
-- reads counts. It takes the second 60, in any minute, for the second 59. It also reads other
-- texts: without seconds or minutes, without separators, with a comma, with an offset that has only
-- hours or that has seconds, with a sign and a year of six digits, and with brackets at the end,
-- whose zone it neither looks up nor compares. It does not read every text of the RFC: a fraction
-- has at most nine digits, and the last instant is `9999-12-30T22:00:00.999999999Z`.
-- Example: `2024-05-01T12:00:00+02:00` and `2024-05-01T10:00:00.000Z` say the same instant.
-- `2024-05-01` says none.
pub instant_of : List ℕ → Option ℤ
instant_of text = result_ok (parse_timestamp text)

-- What is wrong with the text of an instant: `bad-time` if it says none.
abbrev pub time_fault : List ℕ → Option Kind
time_fault text = if is_some (instant_of text) then None else Some kinds.BadTime
