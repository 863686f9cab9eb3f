use Rattle.std.proofs.Common.{◌≡◌, ◌==◌, ℕ, not, sym, subst, ◌∙◌, length, arith}
use Rattle.std.specs.List.{list_all}
use Rattle.am_judged_lists.specs.Cube.{MaskedLabels}
use Rattle.am_judged_lists.specs.BlockView.{IsInRows}
use Rattle.am_judged_lists.proofs.BlockLemmas.{AreSaid, each_place_pushed, one_row, no_row, all_said, all_at}
use Rattle.am_judged_lists.proofs.block.rows_of_labels.Goals as goal
use Rattle.am_judged_lists.proofs.block.rows_of_labels.Goals.{then-not-are_free+in_ok-of+in_ok-push, else-not-are_free}

pub loop-label-preserved : goal.loop-label-preserved
loop-label-preserved c =
    let label = c.loop-label.label in
    let labels = c.loop-label.labels.items in
    let so_far = c.loop-label.invariant in
    elim c.if-not-are_free.branch [
      | then-not-are_free+in_ok-of+in_ok-push w ↦ record {
        rows = λ k cube i rows at.
            rw (w.labels-is, w.in_ok-push.ensures.items)
            (each_place_pushed (λ i rows. IsInRows k cube rows) labels w.in_ok-of.field-0
            (λ i rows there. so_far.rows k cube i rows at there) (w.in_ok-of.ensures.rows k cube at) i rows);
        said = λ k cube prefix at.
            rw (w.labels-is, w.in_ok-push.ensures.items)
            (one_row cube prefix label labels w.in_ok-of.field-0 w.in_ok-of.ensures.label (so_far.said k cube prefix at));
      }
      | else-not-are_free w ↦ record {
        rows = rw w.labels-is so_far.rows;
        said = λ k cube prefix at. rw w.labels-is
            (no_row cube prefix label labels
            (all_at (λ (x : MaskedLabels). list_all (λ m. not (m.label == label)) x.masks) c.args.cubes.now k cube
            (sym c.are_free.ensures ∙ w.if-not-are_free.false) at)
            (so_far.said k cube prefix at));
      }
    ]

pub returns-clause-covered : goal.returns-clause-covered
returns-clause-covered c = λ k cube prefix at short.
    let all : c.loop-label.label ≡ length c.args.universe.now =
    omega (arith, c.loop-label-test.false, c.loop-label.auto, c.len-label-end.ensures.len) in
    all_said cube prefix (length c.args.universe.now) c.loop-label.labels.items short
    (subst (λ (n : ℕ). AreSaid cube prefix n c.loop-label.labels.items) all (c.loop-label.invariant.said k cube prefix at))
