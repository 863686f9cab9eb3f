-- What is made is complete, unless a label is unproved.
use Rattle.std.proofs.Common.{◌≡◌, [], false, sym, ◌∙◌}
use Rattle.am_asked.proofs.made.universe_for.Goals as goal

pub returns-in-Some-clause-unproved : goal.returns-in-Some-clause-unproved
returns-in-Some-clause-unproved c =
    let made = c.in-Ok.made in
    let is = c.in-Ok.ensures in
    let some = rw c.as_slice.ensures.value at c.in-Some.ensures.some in (
      some.0,
      record {
        unproved = made.unproved.items;
        labels = is.unproved;
        room = (made.universe, is.universe, is.keeps, is.names, is.covers);
        position = some.1.0;
        first = some.1.1;
        there = some.1.2;
      },
    )

pub returns-clause-made : goal.returns-clause-made
returns-clause-made c = λ ms asked.
    let is = c.in-Ok.ensures in
    let none : c.args.may_lack ≡ false → c.in-Ok.made.unproved.items ≡ [] =
    λ closed. sym c.as_slice.ensures.value ∙ c.in-None.ensures.none closed in
    record {
      universe = is.universe;
      complete = λ closed. is.complete (none closed) ms asked;
      keeps = is.keeps;
      names = is.names;
      adds = is.adds ms asked;
      order = is.order;
      representatives = is.representatives ms c.args.may_lack asked none;
      over = is.over;
    }
