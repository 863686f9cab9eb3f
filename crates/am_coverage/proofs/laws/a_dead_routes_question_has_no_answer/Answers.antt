use Rattle.std.proofs.Common.{◌≡◌, ◌↔◌, [], None}
use Rattle.std.specs.List.{filter, find}
use Rattle.am_labels.specs.Space.{Space, all_choices}
use Rattle.am_eval.specs.World.{World}
use Rattle.am_eval.specs.Tree.{Part}
use Rattle.am_eval.specs.declared.reach.Reach.TheVariants.{Ends, Enters}
use Rattle.am_eval.specs.Question.{Simple, Receiver, Route, satisfies_at, answers}
use Rattle.am_eval.proofs.RouteConditions.{through}
use Rattle.am_first_sets.proofs.FirstPossible.{find_first, no_first}
use Rattle.am_coverage.proofs.CoverageLaws.{end_exactly, entry_exactly, receipt_exactly}
use Rattle.am_coverage.proofs.laws.a_dead_routes_question_has_no_answer.Goals as goal

-- there is no answer exactly if there is no first one
no_answer : (s : Space) (w : World) (part : Simple)
    → (find (satisfies_at s.labels w (Part part)) (all_choices s) ≡ None)
    ↔ (answers s w (Part part) ≡ [])
no_answer s w part =
    let test = satisfies_at s.labels w (Part part) in
    let all = all_choices s in no_first (filter test all) (find test all) (find_first test all)

pub returns : goal.returns
returns _ = record {
  dead = λ s w path. through (end_exactly s w.config path None) (no_answer s w (Route Ends path));
  never_entered = λ s w path.
      through (entry_exactly s w.config path None) (no_answer s w (Route Enters path));
  unmatched = λ s w receiver.
      through (receipt_exactly s w.config receiver None) (no_answer s w (Receiver receiver));
}
