use Rattle.std.proofs.Common.{Contains, map, string_bytes}
use Rattle.std.specs.List.{AllByRecursion}
use Rattle.am_complete.proofs.missing_texts.set_of.Given as goal

abbrev pub invariant-loop-text : goal.invariant-loop-text
invariant-loop-text l =
    AllByRecursion (λ text. Contains (map string_bytes l.texts) text.now) l.set.keys
