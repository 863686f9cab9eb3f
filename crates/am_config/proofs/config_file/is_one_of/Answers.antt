use Rattle.std.proofs.Common.{string_bytes, rules, tests}
use Rattle.std.proofs.lemmas.Iterator.{YieldsList-from_slice}
use Rattle.std.proofs.lemmas.Iterator.Search.{any_from_yields_List}
use Rattle.am_universe.specs.Text.{same_text}
use Rattle.am_universe.proofs.UniverseLemmas.{list_any-map}
use Rattle.am_config.proofs.config_file.is_one_of.Goals as goal

pub returns : goal.returns
returns c =
    rw (list_any-map (λ other. same_text other c.args.name.now) string_bytes c.args.names.now)
    (any_from_yields_List (λ other. same_text (string_bytes other) c.args.name.now) _ _ _
    c.any.ensures.ran (YieldsList-from_slice c.args.names.now cc)
    (λ x b q k. search (rules, tests)))
