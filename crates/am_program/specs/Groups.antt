-- Exports of groups, which two commands do not take for alerts. (This project's own.)
use Rattle.std.specs.Prelude.{◌≡◌, ◌&&◌, Bool, true, false, string_bytes, codes}
use Rattle.std.specs.Prelude.{option_map, unwrap_or}
use Rattle.am_universe.specs.declared.fault.Fault.{Fault}
use Rattle.am_universe.specs.declared.kind.Kind.TheVariants as kinds
use Rattle.am_universe.specs.declared.place.Place.TheVariants as places
use Rattle.am_command_line.specs.declared.table.Request.{Request}
use Rattle.am_command_line.specs.declared.table.Request.TheVariants as requests
use Rattle.am_notes.specs.Groups.{has_groups}
use Rattle.am_program.specs.Requests.{Call, bytes_if_any}

-- The request takes each alert of the alerts file by itself: it is `lint` or `alerts`.
abbrev pub takes_no_groups : Request → Bool
takes_no_groups (requests.Lint _) = true
takes_no_groups (requests.Alerts _) = true
takes_no_groups _ = false

-- The call is refused for its alerts file, if it has one: the file is an export of groups.
-- Source: own choice.
-- Example: `lint --config alertmanager.json --alerts groups.json` is refused, if `groups.json` is
-- `[{"alerts": []}]`.
abbrev pub has_refused_groups : Call → Bool
has_refused_groups call =
    takes_no_groups call.request
    && unwrap_or (option_map has_groups (bytes_if_any call.alerts)) false

-- The fault of such a call is at the alerts of the first group.
abbrev pub IsFaultOfGroups : Fault → Type 0
IsFaultOfGroups fault =
    (fault.kind ≡ kinds.Shape) × (fault.place ≡ places.Alerts)
    × (string_bytes fault.pointer ≡ codes "/0/alerts")
