use Rattle.std.proofs.Common.{◌≡◌, List, length, map, take, sym, ap, ◌∙◌, arith}
use Rattle.std.proofs.lemmas.List.{length-map, length-take}
use Rattle.am_labels.specs.Matcher.{Matcher}
use Rattle.am_scan.proofs.Places.{map_front}
use Rattle.am_classes.specs.LabelTests.{noted}
use Rattle.am_classes.specs.Named.{named_by}
use Rattle.am_classes.specs.Truths.{naming}
use Rattle.am_classes.proofs.HitLemmas.{naming_more}
use Rattle.am_classes.proofs.naming.naming_places.Goals as goal

pub loop-place-preserved : goal.loop-place-preserved
loop-place-preserved c = λ text.
    let n = c.loop-place.place in
    let m = c.index-matchers-place.result in
    let items = c.args.matchers.now in
    let front : List Matcher = map (λ m. m.now) (take n items) in
    let count : length front ≡ n =
    length-map (take n items) (λ m. m.now) ∙ omega (arith, length-take n items) in
    c.in_ok-note.ensures text ∙ ap (noted (named_by m.now) n text) (c.loop-place.invariant text)
    ∙ ap (λ k. noted (named_by m.now) k text (naming front text)) (sym count)
    ∙ sym (naming_more front m.now text)
    ∙ ap (λ ms. naming ms text) (sym (map_front (λ m. m.now) items n m (omega arith) c.index-matchers-place.is))
