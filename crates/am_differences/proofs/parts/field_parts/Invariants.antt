use Rattle.std.proofs.Common.{◌≡◌, ◌++◌}
use Rattle.std.specs.List.{filter}
use Rattle.serde_json.specs.View.{members_view}
use Rattle.am_json.specs.Json.{member_list}
use Rattle.am_config.specs.ConfigView.{whole_config_view}
use Rattle.am_differences.specs.Parts.{is_field_part, field_parts}
use Rattle.am_differences.specs.PartsView.{parts_view}
use Rattle.am_differences.proofs.parts.field_parts.Given as goal

-- the parts so far, and then those among the members that are left, are all parts
abbrev pub invariant-loop-key : goal.invariant-loop-key
invariant-loop-key l =
    parts_view l.parts.items
    ++ filter (λ m. is_field_part m.0 m.1) (member_list (members_view l.key-iterator))
    ≡ field_parts (whole_config_view l.config).rest
