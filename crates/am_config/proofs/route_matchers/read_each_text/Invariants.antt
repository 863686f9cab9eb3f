use Rattle.std.proofs.Common.{map, drop}
use Rattle.std.specs.List.{enumerate_from}
use Rattle.serde_json.specs.View.{view}
use Rattle.am_json.specs.Reading.{read_each}
use Rattle.am_config.specs.ConfigForm.{next_text_form, each_text_form}
use Rattle.am_json.proofs.Readings.{Leads}
use Rattle.am_config.proofs.route_matchers.read_each_text.Given as goal

-- reading the texts that are left, after the matchers so far, gives what reading all texts gives
abbrev pub invariant-loop-i : goal.invariant-loop-i
invariant-loop-i l =
    Leads (read_each next_text_form l.all
    (enumerate_from l.i (map view (drop l.i l.items)))) (each_text_form (map view l.items))
