use Rattle.std.proofs.Common.{◌≡◌, ◌++◌, map, not, string_bytes, take, drop, option_map}
use Rattle.std.specs.List.{AllByRecursion, filter}
use Rattle.am_universe.specs.Universe.{names}
use Rattle.am_complete.specs.AskedLabel.{asked_names}
use Rattle.am_complete.specs.FoundState.{IsSoOfName}
use Rattle.am_complete.specs.LabelState.{is_declared, reported_names}
use Rattle.am_complete.proofs.states_of_labels.label_states.Given as goal

-- the states so far are those of the labels so far, and each is true
abbrev pub invariant-loop-i : goal.invariant-loop-i
invariant-loop-i l = record {
  names : map (λ s. string_bytes s.name) l.states.items ≡ take l.i (names l.space.labels);
  each : AllByRecursion (IsSoOfName l.alphabet l.space l.asked (option_map (λ a. a.now) l.alerts))
      l.states.items;
}

-- the names so far, and those that are left and not declared, are all names
abbrev pub invariant-loop-label : goal.invariant-loop-label
invariant-loop-label l = record {
  names : map (λ s. string_bytes s.name) l.states.items
      ++ filter (λ name. not (is_declared l.space.labels name))
      (asked_names (drop l.label-index l.asked)) ≡ reported_names l.space.labels l.asked;
  each : AllByRecursion (IsSoOfName l.alphabet l.space l.asked (option_map (λ a. a.now) l.alerts))
      l.states.items;
}
