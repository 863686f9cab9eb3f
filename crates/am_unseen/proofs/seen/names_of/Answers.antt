-- The names of the alerts, and then those of the rules.
use Rattle.std.proofs.Common.{◌++◌, fold, map, take, [], ap, ◌∙◌, sym, arith, List, ℕ, Bor, append-nil}
use Rattle.std.specs.FinMap.{keys}
use Rattle.std.specs.List.{flat_map}
use Rattle.std.proofs.lemmas.List.{take_all}
use Rattle.am_report_texts.proofs.PieceSteps.{item_here}
use Rattle.am_report_texts.specs.EachOnce.{with_text}
use Rattle.am_unseen.specs.UnseenNames.{seen_names}
use Rattle.am_unseen.specs.Search.{texts_of}
use Rattle.am_unseen.proofs.SeenValues.{names_more, second_longer}
use Rattle.am_unseen.proofs.seen.names_of.Goals as goal

pub loop-set-init : goal.loop-set-init
loop-set-init c =
    let alerts = c.args.alerts.now in
    c.in_ok-add_all_names.ensures
    ∙ ap (λ ks. fold with_text (map (λ (t : Bor (List ℕ)). t.now) ks) (flat_map keys alerts))
    c.new-names.ensures.empty
    ∙ ap seen_names (sym (append-nil alerts))

pub loop-set-preserved : goal.loop-set-preserved
loop-set-preserved c =
    let alerts = c.args.alerts.now in
    let rules = c.args.rules.now in
    let i = c.loop-set.set-index in
    names_more [] (texts_of c.loop-set.names) (texts_of c.add_names.new.names)
    (alerts ++ take i rules) c.set-item.result c.in_ok-add_names.ensures c.loop-set.invariant
    ∙ ap seen_names (second_longer alerts rules i c.set-item.result
    (item_here rules i c.set-item.result c.loop-set-test.true c.set-item.is))

pub returns : goal.returns
returns c =
    let rules = c.args.rules.now in
    c.loop-set.invariant ∙ ap (λ rs. seen_names (c.args.alerts.now ++ rs))
    (take_all c.loop-set.set-index rules (omega arith))
