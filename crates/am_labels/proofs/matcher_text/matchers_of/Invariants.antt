use Rattle.std.proofs.Common.{◌≡◌, ◌++◌, length, IsTrue}
use Rattle.std.specs.Vec.Iter.{into_iter_items, into_iter_len}
use Rattle.am_labels.specs.MatcherRefusals.{have_valid_patterns}
use Rattle.am_labels.proofs.matcher_text.matchers_of.Given as goal

-- The matchers so far are taken over, and their patterns are valid.
abbrev pub invariant-loop-spelled : goal.invariant-loop-spelled
invariant-loop-spelled l = record {
  left : l.yielded ++ into_iter_items l.spelled-iterator ≡ l.fn.list.items;
  len : into_iter_len l.spelled-iterator ≡ length (into_iter_items l.spelled-iterator);
  taken : l.matchers ≡ l.yielded;
  valid_patterns : IsTrue (have_valid_patterns l.matchers);
}
