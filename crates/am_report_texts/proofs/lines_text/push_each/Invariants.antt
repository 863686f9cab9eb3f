use Rattle.std.proofs.Common.{◌≡◌, ◌++◌, [], take, string_bytes}
use Rattle.am_report_texts.specs.Separated.{texts_behind}
use Rattle.am_report_texts.proofs.lines_text.push_each.Given as goal

abbrev pub invariant-loop-i : goal.invariant-loop-i
invariant-loop-i g l =
    string_bytes l.text ≡ string_bytes l.initial.text
    ++ texts_behind [] l.gap g.T.TextItem.item_text (take l.i l.items)
