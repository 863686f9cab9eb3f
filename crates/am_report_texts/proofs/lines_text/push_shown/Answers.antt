use Rattle.std.proofs.Common.{rules, map, [], codes}
use Rattle.am_report_texts.specs.MatchersText.{matchers_text}
use Rattle.am_report_texts.proofs.PieceSteps.{texts_behind-map}
use Rattle.am_report_texts.proofs.lines_text.push_shown.Goals as goal

pub returns-in-Names : goal.returns-in-Names
returns-in-Names c = rw c.in-Names.is (simp texts_behind-map (search rules))

pub returns-in-Lists : goal.returns-in-Lists
returns-in-Lists c =
    let both = texts_behind-map [] (codes " or ") matchers_text (λ list. map (λ m. m.now) list.items) c.in-Lists.lists.items in
    rw (c.in-Lists.is, both) (search rules)

pub returns-in-Labels : goal.returns-in-Labels
returns-in-Labels c = rw c.in-Labels.is (simp texts_behind-map (search rules))
