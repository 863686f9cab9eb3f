use Rattle.std.specs.Prelude.{codes}
use Rattle.am_json.specs.Pointer.{to_field}
use Rattle.am_list_files.specs.MatcherFaults.{check_matcher}
use Rattle.am_json.proofs.Readings.{within_gives}
use Rattle.am_list_files.proofs.silences_file.read_flagged_matcher.Goals as goal

pub returns : goal.returns
returns c =
    within_gives (λ m. m) (to_field (codes "value")) c.new_matcher.result c.within_field.result
    (check_matcher
    (record { name = c.args.name.now; op = c.args.op; value = c.args.value.now }))
    c.new_matcher.ensures.reading c.within_field.ensures.within
