use Rattle.std.proofs.Common.{[]}
use Rattle.am_json.specs.Pointer.{to_item}
use Rattle.am_list_files.proofs.MatcherTexts.{spelled_decides, text_fails}
use Rattle.am_config.proofs.route_matchers.read_matcher_text_at.Goals as goal

pub returns-in-Ok : goal.returns-in-Ok
returns-in-Ok c =
    (spelled_decides (to_item c.args.i) [] c.args.text.now).reads c.in-Ok.found
    (c.in-Ok.ensures.spelled, c.in-Ok.ensures.at_most, c.in-Ok.ensures.valid_patterns)

pub returns-in-Err : goal.returns-in-Err
returns-in-Err c =
    text_fails (to_item c.args.i) [] c.args.text.now c.in-Err.kind c.refuse_text.result
    c.in-Err.ensures.refused c.refuse_text.ensures.refusal c.refuse_text.ensures.memory
