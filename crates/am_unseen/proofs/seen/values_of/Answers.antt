-- The values of the alerts, and then those of the rules.
use Rattle.std.proofs.Common.{◌++◌, fold, map, take, [], ap, ◌∙◌, sym, arith, List, ℕ, Bor, append-nil}
use Rattle.std.proofs.lemmas.List.{take_all}
use Rattle.am_report_texts.proofs.PieceSteps.{item_here}
use Rattle.am_report_texts.specs.EachOnce.{with_text}
use Rattle.am_unseen.specs.Unseen.{all_values, seen_values}
use Rattle.am_unseen.specs.Search.{texts_of}
use Rattle.am_unseen.proofs.SeenValues.{second_longer, value_more}
use Rattle.am_unseen.proofs.seen.values_of.Goals as goal

pub loop-set-init : goal.loop-set-init
loop-set-init c =
    let alerts = c.args.alerts.now in
    let name = c.args.name.now in
    c.in_ok-add_values.ensures
    ∙ ap (λ ks. fold with_text (map (λ (t : Bor (List ℕ)). t.now) ks) (all_values alerts name))
    c.new-values.ensures.empty
    ∙ ap (λ sets. seen_values sets name) (sym (append-nil alerts))

pub loop-set-preserved : goal.loop-set-preserved
loop-set-preserved c =
    let alerts = c.args.alerts.now in
    let rules = c.args.rules.now in
    let name = c.args.name.now in
    let i = c.loop-set.set-index in
    value_more [] (texts_of c.loop-set.values) (texts_of c.add_value.new.values)
    (alerts ++ take i rules) c.set-item.result name c.in_ok-add_value.ensures c.loop-set.invariant
    ∙ ap (λ sets. seen_values sets name) (second_longer alerts rules i c.set-item.result
    (item_here rules i c.set-item.result c.loop-set-test.true c.set-item.is))

pub returns : goal.returns
returns c =
    let rules = c.args.rules.now in
    c.loop-set.invariant ∙ ap (λ rs. seen_values (c.args.alerts.now ++ rs) c.args.name.now)
    (take_all c.loop-set.set-index rules (omega arith))
