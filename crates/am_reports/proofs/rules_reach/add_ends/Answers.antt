-- One more path.
use Rattle.std.proofs.Common.{◌≡◌, ◌||◌, ◌+◌, ◌∷◌, [], map, take, ap, sym, refl, ◌∙◌}
use Rattle.std.specs.List.{list_any}
use Rattle.std.proofs.lemmas.List.{map_push}
use Rattle.std.proofs.lemmas.List.Folds.{list_any-append}
use Rattle.std.proofs.Math.Bool.{or-false, or_assoc}
use Rattle.am_complete.proofs.Pushed.{one_longer}
use Rattle.am_report_texts.proofs.PieceSteps.{item_here}
use Rattle.am_config.specs.Path.{leads_through}
use Rattle.am_firing.specs.Reach.{leads_to, paths_of}
use Rattle.am_firing.proofs.SomeEnd.{end_inserted}
use Rattle.am_outcomes.specs.OutcomesView.{lists_view}
use Rattle.am_reports.proofs.rules_reach.add_ends.Goals as goal

pub loop-path-preserved : goal.loop-path-preserved
loop-path-preserved c = λ other.
    let paths = c.args.paths.now in
    let i = c.loop-path.path-index in
    let path = c.path-item.result in
    let through = leads_through other path.items in
    let before = leads_to (paths_of c.args.ends.now) other in
    let so_far = leads_to (lists_view (take i paths)) other in
    let found = leads_to (paths_of c.loop-path.ends) other in
    let put : leads_to (paths_of c.insert.new.self) other ≡ (found || through) =
    ap (λ ks. leads_to (map (λ end. end.items) ks) other) c.in_ok-insert.ensures.keys
    ∙ end_inserted _ (λ x y. refl) c.loop-path.ends.keys c.in_ok-from_slice.field-0 other
    ∙ ap (λ p. found || leads_through other p) (c.in_ok-from_slice.ensures.items ∙ c.as_slice.ensures.value) in
    let more : leads_to (lists_view (take (i + 1) paths)) other ≡ (so_far || through) =
    ap (λ ps. leads_to (lists_view ps) other)
    (sym (one_longer paths i path (item_here paths i path c.loop-path-test.true c.path-item.is)))
    ∙ ap (list_any (leads_through other)) (map_push (λ l. l.items) (take i paths) path)
    ∙ list_any-append (leads_through other) (lists_view (take i paths)) (path.items ∷ [])
    ∙ ap (λ b. so_far || b) (or-false through) in
    put ∙ ap (λ b. b || through) (c.loop-path.invariant other) ∙ or_assoc before so_far through
    ∙ ap (λ b. before || b) (sym more)
