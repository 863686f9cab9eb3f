use Rattle.std.proofs.Common.{◌≡◌, ◌≤◌, length, take, drop}
use Rattle.am_labels.specs.Matcher.{all_hold}
use Rattle.am_labels.proofs.prepared_matchers.PreparedMatchers.matches.Given as goal

-- The matchers that are left decide, and those before them are prepared.
abbrev pub invariant-loop-i : goal.invariant-loop-i
invariant-loop-i l = record {
  decided : all_hold l.set (drop l.i l.matcher-items) ≡ all_hold l.set l.matcher-items;
  same : l.self-inside.matchers.now ≡ l.matcher-items;
  reached : l.i ≤ length l.self-inside.prepared.items;
  prepared : l.self-inside.prepared.items
      ≡ take (length l.self-inside.prepared.items) l.self-inside.matchers.now;
}
