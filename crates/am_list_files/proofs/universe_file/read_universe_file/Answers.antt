use Rattle.std.proofs.Common.{map, string_bytes}
use Rattle.serde_json.specs.View.{view}
use Rattle.am_list_files.proofs.UniverseTexts.{texts_are_found}
use Rattle.am_list_files.proofs.universe_file.read_universe_file.Goals as goal

pub returns-clause-texts : goal.returns-clause-texts
returns-clause-texts c =
    texts_are_found c.args.bytes.now (view c.in_ok-value.value) c.in_ok-space.space
    (map string_bytes c.in_ok-texts.texts.items) c.in_ok-value.ensures.reading c.in_ok-space.ensures
    c.in_ok-texts.ensures
