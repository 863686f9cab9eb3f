use Rattle.std.proofs.Common.{◌+◌, ap, map, drop}
use Rattle.std.specs.List.{enumerate_from}
use Rattle.std.proofs.lemmas.Result.{err_from_is_err_and}
use Rattle.serde_json.specs.View.{view}
use Rattle.am_config.specs.ConfigForm.{next_text_form, each_text_form}
use Rattle.am_json.proofs.Readings.{leads-refl}
use Rattle.am_json.proofs.Items.{goes_on, ends, is_done, left_is, none_left}
use Rattle.am_config.proofs.route_matchers.read_each_text.Goals as goal

pub loop-i-init : goal.loop-i-init
loop-i-init c =
    rw c.empty-all.ensures.no_matcher (leads-refl (each_text_form (map view c.args.items.now)))

pub returns-in_err-all : goal.returns-in_err-all
returns-in_err-all c =
    let l = c.loop-i in
    let items = c.args.items.now in
    let p = err_from_is_err_and c.from_residual.result c.from_residual.ensures.1 in
    rw (p.1, p.2) (ends next_text_form c.in_err-all.field-0.0 l.all
    (enumerate_from l.i (map view (drop l.i items))) (l.i, view c.index-items-i.result)
    (enumerate_from (l.i + 1) (map view (drop (l.i + 1) items)))
    (each_text_form (map view items))
    (ap (enumerate_from l.i) (left_is view items l.i c.index-items-i.result c.loop-i-test.true
    c.index-items-i.is)) c.in_err-all.ensures l.invariant)

pub loop-i-preserved : goal.loop-i-preserved
loop-i-preserved c =
    let l = c.loop-i in
    let items = c.args.items.now in
    goes_on next_text_form l.all c.in_ok-all.all
    (enumerate_from l.i (map view (drop l.i items))) (l.i, view c.index-items-i.result)
    (enumerate_from (l.i + 1) (map view (drop (l.i + 1) items)))
    (each_text_form (map view items))
    (ap (enumerate_from l.i) (left_is view items l.i c.index-items-i.result c.loop-i-test.true
    c.index-items-i.is)) c.in_ok-all.ensures l.invariant

pub returns : goal.returns
returns c =
    is_done next_text_form c.loop-i.all
    (enumerate_from c.loop-i.i (map view (drop c.loop-i.i c.args.items.now)))
    (each_text_form (map view c.args.items.now))
    (ap (enumerate_from c.loop-i.i)
    (none_left view c.args.items.now c.loop-i.i c.loop-i-test.false)) c.loop-i.invariant
