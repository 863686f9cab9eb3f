use Rattle.std.proofs.Common.{[], take}
use Rattle.std.specs.List.{AllZip}
use Rattle.std.specs.Option.{option_map_or}
use Rattle.am_complete.specs.Missing.{AreMissing}
use Rattle.am_complete.specs.Representatives.{AreRepresentatives}
use Rattle.am_complete.proofs.made_universe.missing_of_each.Given as goal

-- it is known what the labels so far lack, and the texts stand for their classes
abbrev pub invariant-loop-label : goal.invariant-loop-label
invariant-loop-label l = record {
  missing : AreMissing l.alphabet l.allowed l.space (take l.label-index l.asked) l.missing.items;
  representatives : AllZip (AreRepresentatives l.alphabet (option_map_or (λ a. a.now) l.alerts []))
      (take l.label-index l.asked) l.missing.items;
}
