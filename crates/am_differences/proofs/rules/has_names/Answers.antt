use Rattle.std.proofs.Common.{string_bytes, sym, ◌∙◌, rules, tests}
use Rattle.std.specs.List.{list_any}
use Rattle.std.proofs.lemmas.Iterator.{YieldsList-from_slice}
use Rattle.std.proofs.lemmas.Iterator.Search.{all_from_yields_List}
use Rattle.std.proofs.lemmas.List.Folds.{list_all-map}
use Rattle.am_universe.specs.Text.{same_text}
use Rattle.am_config.specs.RouteView.{names_of}
use Rattle.am_differences.proofs.rules.has_names.Goals as goal

pub returns : goal.returns
returns c =
    let names = names_of c.args.names.now in
    all_from_yields_List (λ n. list_any (same_text (string_bytes n)) names) _ _ c.all.result
    c.all.ensures.ran (YieldsList-from_slice c.args.others.now cc)
    (λ x b q k. search (rules, tests))
    ∙ sym (list_all-map (λ n. list_any (same_text n) names) string_bytes c.args.others.now)
