use Rattle.std.proofs.Common.{string_bytes, sym, ◌∙◌, rules, tests}
use Rattle.std.proofs.lemmas.Iterator.{YieldsList-from_slice}
use Rattle.std.proofs.lemmas.Iterator.Search.{any_from_yields_List}
use Rattle.am_universe.specs.Text.{same_text}
use Rattle.am_universe.proofs.UniverseLemmas.{list_any-map}
use Rattle.am_differences.proofs.rules.is_one_of.Goals as goal

pub returns : goal.returns
returns c =
    any_from_yields_List (λ n. same_text c.args.name.now (string_bytes n)) _ _ c.any.result
    c.any.ensures.ran (YieldsList-from_slice c.args.names.now cc) (λ x b q k. search (rules, tests))
    ∙ sym (list_any-map (same_text c.args.name.now) string_bytes c.args.names.now)
