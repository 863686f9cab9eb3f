use Rattle.std.proofs.Common.{◌++◌, ◌∷◌, [], None, if◌then◌else◌, get_or, sym, ap, ◌∙◌, arith}
use Rattle.am_classes.specs.PatternPlaces.{is_found}
use Rattle.am_classes.proofs.PlaceLemmas.{places_front}
use Rattle.am_classes.proofs.label_tests.places_with.Goals as goal

pub loop-place-preserved : goal.loop-place-preserved
loop-place-preserved c = λ k within.
    let test = is_found (k ∷ []) in
    let patterns = c.args.patterns.now in
    let i = c.loop-place.place in
    let x = get_or patterns i None in
    let more = places_front test patterns i None c.loop-place-test.true in
    let count = c.push_place.ensures.count in
    let old = c.loop-place.lists in
    let new = c.push_place.new.lists in
    c.in_ok-push_place.ensures.each k (omega (arith, within, count, old.ok.0, new.ok.0))
    ∙ ap (λ ks. ks ++ (if test x then i ∷ [] else [])) (c.loop-place.invariant k (omega (arith, within, count, old.ok.0, new.ok.0)))
    ∙ sym more
