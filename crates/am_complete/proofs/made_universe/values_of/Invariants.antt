use Rattle.std.proofs.Common.{◌≡◌, [], false, map, take, string_bytes, unwrap_or}
use Rattle.std.specs.List.{AllByRecursion}
use Rattle.am_universe.specs.Universe.{is_empty_text}
use Rattle.am_universe.specs.UniverseView.{texts_of}
use Rattle.am_complete.proofs.made_universe.values_of.Given as goal

-- the values so far have the texts so far
abbrev pub invariant-loop-text : goal.invariant-loop-text
invariant-loop-text l = record {
  texts : map (λ v. unwrap_or v []) (texts_of l.values.items)
      ≡ map string_bytes (take l.text-index l.texts);
  values : AllByRecursion (λ v. is_empty_text v ≡ false) (texts_of l.values.items);
}
