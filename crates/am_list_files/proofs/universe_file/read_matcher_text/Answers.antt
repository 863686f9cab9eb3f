use Rattle.std.proofs.Common.{[]}
use Rattle.am_list_files.specs.MatcherTexts.{matcher_text_form}
use Rattle.am_json.proofs.Readings.{found_gives}
use Rattle.am_list_files.proofs.MatcherTexts.{spelled_decides, text_refused_here}
use Rattle.am_list_files.proofs.universe_file.read_matcher_text.Goals as goal

pub returns : goal.returns
returns c =
    let text = c.args.text.now in
    found_gives (λ ms. ms) c.parse_matchers.result c.or_refused.result (matcher_text_form [] [] text)
    c.or_refused.ensures.seen (λ list is. let spelled = rw is at c.parse_matchers.ensures in
    (spelled_decides [] [] text).reads list
    (spelled.spelled, spelled.at_most, spelled.valid_patterns))
    (λ kind is. let told = rw is at c.parse_matchers.ensures in
    text_refused_here text kind told.refused)
