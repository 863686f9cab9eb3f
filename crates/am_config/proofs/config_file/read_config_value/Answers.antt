use Rattle.std.proofs.Common.{None, codes}
use Rattle.serde_json.specs.View.{view}
use Rattle.am_config.specs.declared.limits.TheConstants.{MAX_LEVELS}
use Rattle.am_json.specs.Pointer.{to_field}
use Rattle.am_config.specs.ConfigForm.{route_form}
use Rattle.am_config.specs.RouteView.{route_view, names_of}
use Rattle.am_json.proofs.Readings.{within_ok, within_gives}
use Rattle.am_config.proofs.ConfigSays.{config_sound}
use Rattle.am_config.proofs.config_file.read_config_value.Goals as goal

pub invariant_of-result : goal.invariant_of-result
invariant_of-result c =
    let names = names_of c.in_ok-receivers.receivers.items in
    let d = view c.in_ok-root.root.now in
    let read = rw c.deref.ensures.value at c.read_root.ensures in
    let g = within_gives route_view (to_field (codes "route")) c.read_root.result
    c.within_field.result (route_form names MAX_LEVELS None 0 d) read c.within_field.ensures.within in
    let h = rw c.in_ok-root-2.was at g in
    record {
      sound = config_sound names d (route_view c.in_ok-root-2.root) c.in_ok-rules.rules.items
          (within_ok (to_field (codes "route")) ((route_form names MAX_LEVELS None 0 d).result)
          (route_view c.in_ok-root-2.root) h);
    }
