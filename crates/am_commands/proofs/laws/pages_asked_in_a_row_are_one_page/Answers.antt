use Rattle.std.proofs.Common.{sym, ◌∙◌}
use Rattle.am_commands.proofs.AskedAgain.{lines_of_row, whole_lines}
use Rattle.am_commands.proofs.laws.pages_asked_in_a_row_are_one_page.Goals as goal

pub returns : goal.returns
returns _ = record {
  joined = λ inputs row whole h one unlimited unbudgeted.
      lines_of_row inputs row one.2.space one.2.world one.2.question one.2.start h one.2.accepts
      ∙ sym (whole_lines inputs whole one unlimited unbudgeted);
}
