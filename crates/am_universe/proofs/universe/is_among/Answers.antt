use Rattle.std.proofs.Common.{rules, ◌∙◌, sym, option_map, string_bytes}
use borrow.Author.Tests.{tests}
use Rattle.std.proofs.lemmas.Iterator.{YieldsList-from_slice}
use Rattle.std.proofs.lemmas.Iterator.Search.{any_from_yields_List}
use Rattle.am_universe.specs.Universe.{same_value}
use Rattle.am_universe.proofs.UniverseLemmas.{list_any-map}
use Rattle.am_universe.proofs.universe.is_among.Goals as goal

pub returns : goal.returns
returns c =
    any_from_yields_List (λ v. same_value (option_map string_bytes v) (option_map (λ t. t.now) c.args.value)) _ _ c.any.result c.any.ensures.ran (YieldsList-from_slice c.args.others.now cc) (λ x b q k. search (rules, tests)) ∙ sym (list_any-map (λ other. same_value other (option_map (λ t. t.now) c.args.value)) (option_map string_bytes) c.args.others.now)
