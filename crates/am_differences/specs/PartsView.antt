-- Parts, rules and differences, as the code has them.
use Rattle.std.specs.Prelude.{List, Option, map, option_map, unwrap_or}
use Rattle.std.specs.Borrow.{Bor}
use Rattle.serde_json.specs.Data.{Data, null}
use Rattle.serde_json.specs.View.{view}
use Rattle.serde_json.specs.declared.value.Value.{Value}
use Rattle.am_differences.specs.declared.parts.Part.{Part}
use Rattle.am_differences.specs.declared.rules.NamedRule.{NamedRule}
use Rattle.am_differences.specs.declared.differences.Difference.{Difference}
use Rattle.am_differences.specs.Parts as parts
use Rattle.am_differences.specs.RuleParts as rules
use Rattle.am_differences.specs.Differences as differences

-- A part, and parts.
abbrev pub part_view : Part → parts.Part
part_view p = (p.name.now, view p.value.now)

abbrev pub parts_view : List Part → List parts.Part
parts_view ps = map part_view ps

-- A value that may be absent, which counts as `null`.
abbrev pub value_or_null : Option (Bor Value) → Data
value_or_null found = unwrap_or (option_map (λ v. view v.now) found) null

-- A rule, and rules.
abbrev pub rule_view : NamedRule → rules.NamedRule
rule_view r = (r.rule.now, value_or_null r.name)

abbrev pub rules_view : List NamedRule → List rules.NamedRule
rules_view rs = map rule_view rs

-- A name of which the parts differ.
abbrev pub difference_view : Difference → differences.Difference
difference_view d = (d.name.now, d.presence)
