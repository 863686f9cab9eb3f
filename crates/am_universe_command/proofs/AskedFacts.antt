-- Matchers that are among those that decide.
use Rattle.std.proofs.Common.{List, ◌++◌, Bool}
use Rattle.am_labels.specs.Matcher.{Matcher}
use Rattle.am_eval.specs.Question.{Question}
use Rattle.am_eval.specs.World.{World}
use Rattle.am_complete.specs.Complete.{AreAmong, impossible_matchers}
use Rattle.am_complete.proofs.AmongMatchers.{last_among, among_through}
use Rattle.am_asked.specs.Asked.{questions_matchers}
use Rattle.am_universe_command.specs.Universes.{deciding_matchers}

last_of_three : (ms ns ks : List Matcher) → AreAmong ks (ms ++ (ns ++ ks))
last_of_three ms ns ks =
    among_through ks (ns ++ ks) (ms ++ (ns ++ ks)) (last_among ns ks) (last_among ms (ns ++ ks))

-- the matchers of the impossible lists are among those that decide
pub lists_decide : (routes : Bool) (w : World) (questions : List Question)
    (lists : List (List Matcher))
    → AreAmong (impossible_matchers lists) (deciding_matchers routes w questions lists)
lists_decide routes w questions lists =
    last_of_three _ (questions_matchers questions) (impossible_matchers lists)
