-- The silences of a world that are active. (This project's own.)
use Rattle.std.specs.Prelude.{ℕ, List, map}
use Rattle.std.specs.List.{filter, enumerate_from}
use Rattle.am_labels.specs.Matcher.{Matcher}
use Rattle.am_eval.specs.Silencing.{is_active}
use Rattle.am_eval.specs.World.{World}

-- The active silences, each with its position in the file and its matchers.
-- Source: own choice.
-- Example: if of three silences the second is over, they are those at 0 and 2.
abbrev pub active_silences : World → List (ℕ × List Matcher)
active_silences w =
    map (λ silence. (silence.0, silence.1.matchers))
    (filter (λ silence. is_active w.instant silence.1) (enumerate_from 0 w.silences))
