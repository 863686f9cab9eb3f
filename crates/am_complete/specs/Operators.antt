-- What is kept with a label while matchers are gathered: which operators come with each value.
use Rattle.std.specs.Prelude.{◌≡◌, ℕ, List, [], Vec}
use Rattle.std.specs.Global.{Global}
use Rattle.std.specs.Option.{option_map_or}
use Rattle.std.specs.List.{list_any}
use Rattle.std.specs.BTreeMap.{BTreeMap, get_by}
use Rattle.std.specs.Ordering.{nat_cmp}
use Rattle.std.specs.Cmp.Lexicographic.{slice_cmp}
use Rattle.am_labels.specs.declared.op.Op.{Op}
use Rattle.am_labels.specs.Matcher.{Matcher}
use Rattle.am_complete.specs.AskedLabel.{same_op, asks_same}
use denote.Ref.{Bor}

-- The operators that a map has for a value.
abbrev pub operators_with : BTreeMap (Bor (List ℕ)) (Vec Op Global) → List ℕ → List Op
operators_with operators value =
    option_map_or (λ found. found.items) (get_by (λ k. slice_cmp nat_cmp value k.now) operators) []

-- A map has the operators that come with each value in some matchers, and no others.
abbrev pub HasOperatorsOf : BTreeMap (Bor (List ℕ)) (Vec Op Global) → List Matcher → Type 0
HasOperatorsOf operators ms =
    (m : Matcher)
    → list_any (λ op. same_op op m.op) (operators_with operators m.value)
    ≡ list_any (asks_same m) ms
