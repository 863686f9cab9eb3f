use Rattle.std.proofs.Common.{◌≡◌, map, string_bytes}
use Rattle.std.specs.List.{filter}
use Rattle.am_complete.specs.Complete.{asks_only_of, may_have}
use Rattle.am_complete.proofs.possible_texts.possible_texts.Given as goal

-- the texts so far that the label may have are kept
abbrev pub invariant-loop-text : goal.invariant-loop-text
invariant-loop-text l = record {
  lists : l.lists.items ≡ filter (asks_only_of l.name) l.impossible;
  kept : map string_bytes l.kept.items
      ≡ filter (may_have l.impossible l.name) (map string_bytes l.yielded);
}
