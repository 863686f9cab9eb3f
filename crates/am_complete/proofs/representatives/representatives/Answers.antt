use Rattle.std.proofs.Common.{map, string_bytes}
use Rattle.am_complete.proofs.NeededTexts.{all_from}
use Rattle.am_complete.proofs.representatives.representatives.Goals as goal

pub returns-clause-classes : goal.returns-clause-classes
returns-clause-classes c = λ all is classes.
    c.put_in_order.ensures.classes c.args.alphabet c.args.label.now.matchers all
    (c.in_ok-chosen.ensures.classes all is classes)

pub returns-clause-from : goal.returns-clause-from
returns-clause-from c =
    all_from _ (map string_bytes c.in_ok-chosen.chosen.items) _ c.in_ok-chosen.ensures.from
    c.put_in_order.ensures.from
