-- One more receiver, all of whose alerts are hidden, or not. And no first alert that is matched.
use Rattle.std.proofs.Common.{◌≡◌, ◌<◌, length, map, false, refl, ap, subst, sym, ◌∙◌, arith}
use Rattle.std.specs.List.{All, range_with_len}
use Rattle.std.proofs.lemmas.List.{flat_map_more, length-map, map-append, append-nil}
use Rattle.std.proofs.lemmas.List.Elements.{All-from_recursion}
use Rattle.am_universe.specs.LabelSet.{LabelMap}
use Rattle.am_universe.proofs.LabelPairLemmas.{found_at}
use Rattle.am_universe.proofs.ListLemmas.{AllByRecursion-at}
use Rattle.am_universe.proofs.Members.{in_at}
use Rattle.am_labels.specs.Matcher.{all_hold}
use Rattle.am_report_texts.specs.LineView.{line_view}
use Rattle.am_report_texts.proofs.PieceSteps.{item_here}
use Rattle.am_firing.specs.Unreached.{goes_to}
use Rattle.am_firing.specs.HidesAll.{alerts_of, hides_each}
use Rattle.am_firing.specs.Going.{positions_of, are_all_marked}
use Rattle.am_firing.specs.FiringLines.{hiding_line}
use Rattle.am_firing.proofs.Numbered.{row_at, rows_long}
use Rattle.am_firing.proofs.Positions.{where_within, where_count, all_marked}
use Rattle.am_firing.proofs.Hiding.{hides_as_marks, range_more, unmatched_none, all_within}
use Rattle.am_firing.proofs.hiding_lines.push_silence_lines.Goals as goal
use Rattle.am_firing.proofs.hiding_lines.push_silence_lines.Goals.{then-are_all_marked+in_ok-hiding_line+in_ok-push, else-are_all_marked}

pub matches_a_first-requires : goal.matches_a_first-requires
matches_a_first-requires c =
    let w = c.args.world.now in
    let same = ap length c.alerts.ensures.alerts in
    all_within w (length c.alerts.result.now) (omega (arith, same)) c.args.going.now
    (range_with_len 0 (length w.config.receivers)) c.requires.going

pub returns-then-not-branch : goal.returns-then-not-branch
returns-then-not-branch c =
    let w = c.args.world.now in
    let going = c.args.going.now in
    let n = length w.config.receivers in
    let test = λ (a : LabelMap). all_hold a c.args.silence.now.matchers in
    let marks : map (λ a. all_hold a c.matchers.result.now) c.alerts.result.now ≡ map test w.alerts =
    λ k. map (λ a. all_hold a (c.matchers.ensures.matchers k)) (c.alerts.ensures.alerts k) in
    let long : length going ≡ n = rows_long (λ row. row.items) (positions_of w) going n c.requires.going in
    let none = c.in_ok-matches_a_first.ensures c.if-not-branch.true in
    rw (unmatched_none w (c.args.position, c.args.silence.now) c.requires.active (λ receiver lt.
    let there = found_at going receiver (omega (arith, long, lt)) in
    subst (λ positions. are_all_marked (map test w.alerts) positions ≡ false)
    (row_at (λ row. row.items) (positions_of w) going n receiver there.0 c.requires.going there.1)
    (subst (λ all. are_all_marked all there.0.items ≡ false) marks
    (AllByRecursion-at _ going there.0 none (in_at going receiver there.0 there.1)))))
    (sym (append-nil _))

pub are_all_marked-requires : goal.are_all_marked-requires
are_all_marked-requires c =
    let w = c.args.world.now in
    let going = c.args.going.now in
    let receiver = c.loop-receiver.receiver in
    let row = c.index-going-receiver.result in
    let test = λ (a : LabelMap). all_hold a c.matchers-2.result.now in
    let at = item_here going receiver row c.loop-receiver-test.true c.index-going-receiver.is in
    let is : c.as_slice-in-loop-receiver.result.now ≡ positions_of w receiver =
    c.as_slice-in-loop-receiver.ensures.value
    ∙ row_at (λ positions. positions.items) (positions_of w) going (length w.config.receivers) receiver row
    c.requires.going at in
    let long : length c.as_slice.result.now ≡ length w.alerts =
    ap length (c.as_slice.ensures.value ∙ c.in_ok-hidden.ensures) ∙ length-map c.alerts-2.result.now test
    ∙ ap length c.alerts-2.ensures.alerts in
    subst (All (λ i. i < length c.as_slice.result.now)) (sym is)
    (All-from_recursion (λ i. i < length c.as_slice.result.now) (positions_of w receiver)
    (where_within (goes_to w.config receiver) 0 w.alerts (length c.as_slice.result.now) (omega (arith, long))))

pub loop-receiver-preserved : goal.loop-receiver-preserved
loop-receiver-preserved c =
    let w = c.args.world.now in
    let going = c.args.going.now in
    let silence = c.args.silence.now in
    let receiver = c.loop-receiver.receiver in
    let row = c.index-going-receiver.result in
    let test = λ (a : LabelMap). all_hold a silence.matchers in
    let at = item_here going receiver row c.loop-receiver-test.true c.index-going-receiver.is in
    let items : row.items ≡ positions_of w receiver =
    row_at (λ positions. positions.items) (positions_of w) going (length w.config.receivers) receiver row
    c.requires.going at in
    let marks : c.as_slice.result.now ≡ map test w.alerts =
    c.as_slice.ensures.value ∙ c.in_ok-hidden.ensures
    ∙ (λ k. map (λ a. all_hold a (c.matchers-2.ensures.matchers k)) (c.alerts-2.ensures.alerts k)) in
    let tested : c.are_all_marked.result ≡ hides_each w silence (alerts_of w receiver) =
    c.are_all_marked.ensures
    ∙ (λ k. are_all_marked (marks k) ((c.as_slice-in-loop-receiver.ensures.value ∙ items) k))
    ∙ all_marked test (goes_to w.config receiver) w.alerts
    ∙ sym (hides_as_marks w silence c.requires.active (alerts_of w receiver)) in
    let count : length row.items ≡ length (alerts_of w receiver) =
    ap length items ∙ where_count (goes_to w.config receiver) 0 w.alerts in
    rw (range_more 0 receiver receiver (omega arith), ← flat_map_more, ← c.loop-receiver.invariant)
    (elim c.if-are_all_marked.branch [
      | then-are_all_marked+in_ok-hiding_line+in_ok-push v ↦
          let yes = sym tested ∙ v.if-are_all_marked.true in
          let number : v.len-count.result ≡ length (alerts_of w receiver) =
          omega (arith, count, row.ok.0, v.len-count.ensures) in
          let line : line_view v.in_ok-hiding_line.field-0
          ≡ hiding_line w.config c.args.position receiver (length (alerts_of w receiver)) =
          v.in_ok-hiding_line.ensures
          ∙ (λ k. hiding_line (v.config.ensures.config k) c.args.position receiver (number k)) in
          rw (v.lines-is, v.in_ok-push.ensures.items, map-append line_view, line, yes) refl
      | else-are_all_marked v ↦
          let no = sym tested ∙ v.if-are_all_marked.false in
          rw (v.lines-is, no) (sym (append-nil (map line_view c.loop-receiver.lines.items)))
    ])

pub returns : goal.returns
returns c =
    let w = c.args.world.now in
    let long : length c.args.going.now ≡ length w.config.receivers =
    rows_long (λ positions. positions.items) (positions_of w) c.args.going.now (length w.config.receivers)
    c.requires.going in
    let end : c.loop-receiver.receiver ≡ length w.config.receivers =
    omega (arith, long, c.loop-receiver-test.false, c.loop-receiver.auto.receiver-end) in
    rw end at c.loop-receiver.invariant
