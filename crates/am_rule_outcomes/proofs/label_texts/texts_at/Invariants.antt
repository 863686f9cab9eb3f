use Rattle.std.proofs.Common.{◌≡◌, [], map, string_bytes, take, unwrap_or}
use Rattle.am_universe.specs.Universe.{values_at}
use Rattle.am_rule_outcomes.proofs.label_texts.texts_at.Given as goal

-- the texts so far are those of the values so far
abbrev pub invariant-loop-j : goal.invariant-loop-j
invariant-loop-j l =
    map string_bytes l.texts.items
    ≡ map (λ v. unwrap_or v []) (take l.j (values_at l.universe l.i))
