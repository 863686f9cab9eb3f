-- What was kept is the same elsewhere.
use Rattle.std.proofs.Common.{◌≡◌, ℕ, List, Some, Vec, map, sym, ap, ◌∙◌}
use Rattle.std.specs.Option.{option_copied}
use Rattle.std.specs.declared.alloc.Global.{Global}
use Rattle.std.proofs.lemmas.Result.{IfOk-weaker}
use Rattle.std.proofs.lemmas.Map.Text.{btree_map_updates_str}
use Rattle.am_complete.specs.declared.origin.Origin.{Origin}
use Rattle.am_unseen.specs.Unseen.{UnseenMatcher, unseen_beside}
use Rattle.am_unseen.specs.Search.{kept_at, placed_at, texts_of}
use Rattle.am_unseen.proofs.KeptMaps.{one_more}
use Rattle.am_unseen.proofs.MisspelledSteps.{unseen_moved}
use Rattle.am_unseen.proofs.known_values.kept_or_found.Goals as goal

pub returns-in-Some-clause-unseen : goal.returns-in-Some-clause-unseen
returns-in-Some-clause-unseen c =
    let m = c.args.matcher.now in
    let origin = c.args.origin.now in
    let at : kept_at c.args.kept.now m.value ≡ Some c.in-Some.found.now =
    ap (kept_at c.args.kept.now) (sym c.value.ensures.value) ∙ sym c.get.ensures.value
    ∙ ap option_copied c.in-Some.is in
    IfOk-weaker c.placed_at.result _ _ (λ placed e. e
    ∙ (λ i. map (placed_at origin (c.name.ensures.name i)) (c.as_slice.ensures.value i))
    ∙ c.requires.kept m.value c.in-Some.found.now at origin m.name) c.placed_at.ensures

pub returns-clause-kept : goal.returns-clause-kept
returns-clause-kept c =
    let m = c.args.matcher.now in
    let values = texts_of c.args.values.now in
    let value = c.value-2.result.now in
    let after = c.insert.new.self in
    one_more (λ text (found : Vec UnseenMatcher Global). (origin : Origin) (name : List ℕ)
    → map (placed_at origin name) found.items
    ≡ unseen_beside values (origin, record { name = name; op = m.op; value = text }))
    c.args.kept.now after value c.requires.kept c.in_ok-found.found
    (λ origin name. ap (map (placed_at origin name)) c.in_ok-found.ensures.unseen
    ∙ unseen_moved origin name (c.args.origin.now, m) values
    ∙ ap (λ v. unseen_beside values (origin, record { name = name; op = m.op; value = v }))
    (sym c.value-2.ensures.value))
    (btree_map_updates_str value c.args.kept.now after _ c.in_ok-insert.ensures.updates)

pub returns-clause-unseen : goal.returns-clause-unseen
returns-clause-unseen c =
    let m = c.args.matcher.now in
    let origin = c.args.origin.now in
    c.in_ok-placed.ensures
    ∙ (λ i. map (placed_at origin (c.name-2.ensures.name i))
    ((c.as_slice-2.ensures.value ∙ c.in_ok-found.ensures.unseen) i))
    ∙ unseen_moved origin m.name (origin, m) (texts_of c.args.values.now)
