use Rattle.std.proofs.Common.{sym, ◌∙◌, rules, tests}
use Rattle.std.proofs.lemmas.Iterator.{YieldsList-from_slice}
use Rattle.std.proofs.lemmas.Iterator.Search.{all_from_yields_List}
use Rattle.std.proofs.lemmas.List.Folds.{list_all-map}
use Rattle.serde_json.specs.View.{view}
use Rattle.am_differences.specs.Parts.{is_named}
use Rattle.am_differences.proofs.parts.are_named.Goals as goal

pub returns : goal.returns
returns c =
    all_from_yields_List (λ v. is_named (view v)) _ _ c.all.result c.all.ensures.ran
    (YieldsList-from_slice c.args.items.now cc) (λ x b q k. search (rules, tests))
    ∙ sym (list_all-map is_named view c.args.items.now)
