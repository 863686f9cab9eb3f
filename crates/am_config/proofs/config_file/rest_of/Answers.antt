use Rattle.std.proofs.Common.{codes}
use Rattle.serde_json.proofs.Views.{view-Object}
use Rattle.am_config.proofs.RestOfFile.{members_view-remove_entry}
use Rattle.am_config.proofs.config_file.rest_of.Goals as goal

pub returns : goal.returns
returns c =
    rw (c.in-Object.is, view-Object, c.remove.ensures.entries)
    (members_view-remove_entry (codes "route") c.in-Object.members.entries)
