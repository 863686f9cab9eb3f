-- One more path.
use Rattle.std.proofs.Common.{◌≡◌, ◌||◌, ◌+◌, map, take, ap, sym, refl, ◌∙◌}
use Rattle.std.proofs.Math.Bool.{or_assoc}
use Rattle.std.proofs.lemmas.List.Folds.{list_any_more}
use Rattle.am_config.specs.Path.{leads_through}
use Rattle.am_firing.specs.Reach.{leads_to, paths_of}
use Rattle.am_firing.proofs.SomeEnd.{end_inserted}
use Rattle.am_firing.proofs.entered.add_paths.Goals as goal

pub loop-path-preserved : goal.loop-path-preserved
loop-path-preserved c = λ other.
    let paths = c.args.paths.now in
    let i = c.loop-path.path-index in
    let path = c.path-item.result in
    let before = leads_to (paths_of c.args.found.now) other in
    let so_far = leads_to (take i paths) other in
    let found = leads_to (paths_of c.loop-path.found) other in
    let put : leads_to (paths_of c.insert.new.self) other ≡ (found || leads_through other path) =
    ap (λ ks. leads_to (map (λ end. end.items) ks) other) c.in_ok-insert.ensures.keys
    ∙ end_inserted _ (λ x y. refl) c.loop-path.found.keys c.in_ok-steps_of.field-0 other
    ∙ ap (λ p. found || leads_through other p) c.in_ok-steps_of.ensures in
    let more : leads_to (take (i + 1) paths) other ≡ (so_far || leads_through other path) =
    list_any_more (leads_through other) paths i path c.loop-path-test.true
    ∙ ap (λ p. so_far || leads_through other p) (sym c.path-item.is) in
    put ∙ ap (λ b. b || leads_through other path) (c.loop-path.invariant other)
    ∙ or_assoc before so_far (leads_through other path) ∙ ap (λ b. before || b) (sym more)
