use Rattle.std.proofs.Common.{◌≡◌, ◌+◌, map, length, codes, ap, sym, ◌∙◌, arith}
use Rattle.std.proofs.lemmas.List.{length-map}
use Rattle.am_config.specs.ConfigView.{whole_config_view}
use Rattle.am_report_texts.specs.LineView.{line_view}
use Rattle.am_differences.specs.PartLines.{part_lines}
use Rattle.am_outcomes.specs.Changes.{losses, gains, without_groups}
use Rattle.am_outcomes.specs.ChangeLines.{receiver_line, change_line, count_pieces, count_changes}
use Rattle.am_outcomes.specs.OutcomesView.{founds_view}
use Rattle.am_outcomes.proofs.ChangeSteps.{joined, joined_length}
use Rattle.am_outcomes.proofs.change_lines.compare_changes.Goals as goal

pub returns-clause-report : goal.returns-clause-report
returns-clause-report c =
    let old = whole_config_view c.args.old.now in
    let new = whole_config_view c.args.new.now in
    let changes = c.args.changes.now in
    let lost = losses old.config new.config (without_groups changes) in
    let gained = gains old.config new.config (without_groups changes) in
    let lines = joined line_view _ _ _ _ _ _ _ (map (receiver_line (codes "loses")) lost)
    (map (receiver_line (codes "gains")) gained) (map (change_line old.config new.config) changes)
    (part_lines old new) c.in_ok-append.ensures.items c.in_ok-append-2.ensures.items
    c.in_ok-append-3.ensures.items
    (c.in_ok-lines.ensures ∙ ap (λ fs. map (receiver_line (codes "loses")) (founds_view fs))
    c.as_slice.ensures.value ∙ ap (map (receiver_line (codes "loses"))) c.in_ok-lost.ensures)
    (c.in_ok-receiver_lines.ensures
    ∙ ap (λ fs. map (receiver_line (codes "gains")) (founds_view fs)) c.as_slice-2.ensures.value
    ∙ ap (map (receiver_line (codes "gains"))) c.in_ok-gained.ensures)
    c.in_ok-changed.ensures c.in_ok-part_lines.ensures.lines in
    let all : length c.append-2.new.self.items ≡ length changes + length (part_lines old new) =
    joined_length line_view (change_line old.config new.config) _ _ _ changes (part_lines old new)
    c.in_ok-append-2.ensures.items c.in_ok-changed.ensures c.in_ok-part_lines.ensures.lines in
    let some_lost : length c.in_ok-lost.lost.items ≡ length lost =
    sym (length-map c.in_ok-lost.lost.items _) ∙ ap length c.in_ok-lost.ensures in
    let some_gained : length c.in_ok-gained.gained.items ≡ length gained =
    sym (length-map c.in_ok-gained.gained.items _) ∙ ap length c.in_ok-gained.ensures in
    let count : c.len-count.result ≡ count_changes old new changes = omega arith in
    let losts : c.len.result ≡ length lost = omega arith in
    let gaineds : c.len-2.result ≡ length gained = omega arith in
    let last = c.in_ok-last.ensures ∙ (λ i. count_pieces (count i) (losts i) (gaineds i)) in
    λ i. record { lines = lines i; last = last i }

pub returns-clause-changes : goal.returns-clause-changes
returns-clause-changes c =
    let old = whole_config_view c.args.old.now in
    let new = whole_config_view c.args.new.now in
    let changes = c.args.changes.now in
    let all : length c.append-2.new.self.items ≡ length changes + length (part_lines old new) =
    joined_length line_view (change_line old.config new.config) _ _ _ changes (part_lines old new)
    c.in_ok-append-2.ensures.items c.in_ok-changed.ensures c.in_ok-part_lines.ensures.lines in
    omega arith
