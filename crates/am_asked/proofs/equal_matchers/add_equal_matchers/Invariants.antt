use Rattle.std.proofs.Common.{◌≡◌, ◌++◌, drop}
use Rattle.am_asked.proofs.EqualMatchers.{of_names}
use Rattle.am_asked.proofs.equal_matchers.add_equal_matchers.Given as goal

-- the matchers so far, and those of the names that are left, are all matchers
abbrev pub invariant-loop-name : goal.invariant-loop-name
invariant-loop-name l =
    l.made.items ++ of_names l.pair.rule l.alert (drop l.name-index l.name-items)
    ≡ l.fn.made.items ++ of_names l.pair.rule l.alert l.name-items
