use Rattle.std.proofs.Common.{rules, tests, sym, ap, ◌∙◌}
use Rattle.std.specs.List.{list_all}
use Rattle.std.proofs.lemmas.Iterator.{YieldsList-from_slice}
use Rattle.std.proofs.lemmas.Iterator.Search.{all_from_yields_List}
use Rattle.std.proofs.lemmas.List.Folds.{list_all-map}
use Rattle.am_labels.specs.Wildcards.{alternatives, is_fine_piece, pieces_of}
use Rattle.am_labels.proofs.wildcards.is_wildcards.Goals as goal

pub returns : goal.returns
returns c =
    let fine = list_all is_fine_piece in
    let found = c.in_ok-alternatives.alternatives.items in
    all_from_yields_List (λ a. fine a.items) _ _ c.all.result c.all.ensures.ran
    (YieldsList-from_slice found cc) (λ x b q k. search (rules, tests))
    ∙ sym (list_all-map fine (λ a. a.items) found)
    ∙ ap (list_all fine) c.in_ok-alternatives.ensures
    ∙ list_all-map fine pieces_of (alternatives c.args.pattern.now)
