use Rattle.std.proofs.Common.{sym, ◌∙◌, rules, tests}
use Rattle.std.proofs.lemmas.Iterator.{YieldsList-from_slice}
use Rattle.std.proofs.lemmas.Iterator.Search.{all_from_yields_List}
use Rattle.std.proofs.lemmas.List.Folds.{list_all-map}
use Rattle.am_config.specs.ConfigFile.{options_of}
use Rattle.am_config.specs.RouteView.{route_view}
use Rattle.am_differences.specs.Options.{same_option}
use Rattle.am_differences.proofs.options.have_same_option.Goals as goal

pub returns : goal.returns
returns c =
    let k = c.args.position in
    all_from_yields_List
    (λ p. same_option k (options_of (route_view p.0.now)) (options_of (route_view p.1.now))) _ _
    c.all.result c.all.ensures.ran (YieldsList-from_slice c.args.pairs.now cc)
    (λ x b q k. search (rules, tests))
    ∙ sym (list_all-map (λ p. same_option k p.0 p.1)
    (λ p. (options_of (route_view p.0.now), options_of (route_view p.1.now))) c.args.pairs.now)
