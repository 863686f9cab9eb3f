use Rattle.std.proofs.Common.{◌≡◌, ◌++◌, ℕ, List, length}
use Rattle.am_universe.specs.Sink.{Wrote}
use Rattle.am_search.specs.AnswersView.{answers_left, answers_judge, answers_stop, answers_page}
use Rattle.am_search.specs.BudgetPage.{trailer_at}
use Rattle.am_search.specs.Page.{page_ending}
use Rattle.am_search.specs.PageText.{lines_text}
use Rattle.am_search.proofs.PageLines.{trailer_behind}
use Rattle.am_search.proofs.page_text.write_lines.Given as goal

-- the lines of `done` are written, and the page goes on with the answers that are left
abbrev pub invariant-loop-choice : goal.invariant-loop-choice
invariant-loop-choice g l = record {
  done : List (List ℕ);
  written : Wrote g.W.Sink.taken g.W.Sink.failures l.fn.out l.out (lines_text l.fn.table done);
  choices : (answers_page l.fn.answers l.fn.limit).choices
      ≡ done ++ (page_ending (trailer_at (answers_stop l.fn.answers)) (answers_left l.answers) l.room).choices;
  trailer : (answers_page l.fn.answers l.fn.limit).trailer
      ≡ trailer_behind (trailer_at (answers_stop l.fn.answers)) l.last (answers_left l.answers) l.room;
  judge : answers_judge l.answers ≡ answers_judge l.fn.answers;
  table : l.table ≡ l.fn.table;
  stop : answers_stop l.answers ≡ answers_stop l.fn.answers;
}

abbrev pub decreases-loop-choice : goal.decreases-loop-choice
decreases-loop-choice g l = length (answers_left l.answers)
