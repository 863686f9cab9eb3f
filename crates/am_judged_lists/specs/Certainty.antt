-- Two questions about a verdict. `May`: is it not excluded? `Must`: is it certain?
use Rattle.std.specs.Prelude.{Bool, not}
use Rattle.am_search.specs.declared.verdict.Verdict.{Verdict}
use Rattle.am_search.specs.Judge.{is_yes, is_no}
use Rattle.am_judged_lists.specs.declared.certainty.Certainty.{Certainty}
use Rattle.am_judged_lists.specs.declared.certainty.Certainty.TheVariants.{May, Must}

-- A verdict passes `May` if it is not `No`, and `Must` if it is `Yes`.
abbrev pub passes : Certainty → Verdict → Bool
passes May v = not (is_no v)
passes Must v = is_yes v

-- The opposite of a verdict exchanges the two: it is not excluded if the verdict is not certain,
-- and it is certain if the verdict is excluded.
abbrev pub other : Certainty → Certainty
other May = Must
other Must = May
