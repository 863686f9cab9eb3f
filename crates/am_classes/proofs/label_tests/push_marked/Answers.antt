use Rattle.std.proofs.Common.{◌++◌, ◌∷◌, [], None, append_assoc, take, get_or, refl, sym, ap, ◌∙◌}
use Rattle.std.proofs.lemmas.List.{append-nil}
use Rattle.am_classes.specs.PatternPlaces.{is_marked}
use Rattle.am_classes.specs.Places.{places_where}
use Rattle.am_classes.proofs.PlaceLemmas.{places_front}
use Rattle.am_classes.proofs.label_tests.push_marked.Goals as goal
use Rattle.am_classes.proofs.label_tests.push_marked.Goals.{then-is_marked+in_ok-push, else-is_marked}

pub loop-place-preserved : goal.loop-place-preserved
loop-place-preserved c =
    let test = is_marked c.args.marks.now in
    let start = c.args.hits.now.items in
    let patterns = c.args.patterns.now in
    let i = c.loop-place.place in
    let front = take i patterns in
    let x = get_or patterns i None in
    let more = places_front test patterns i None c.loop-place-test.true in
    elim c.if-is_marked.branch [
      | then-is_marked+in_ok-push w ↦
          ap (λ v. v.items) w.hits-is ∙ w.in_ok-push.ensures.items ∙ ap (λ ks. ks ++ i ∷ []) c.loop-place.invariant
          ∙ append_assoc start (places_where test front) (i ∷ [])
          ∙ ap (λ ks. start ++ ks) (sym (more ∙ rw (← c.is_marked.ensures, w.if-is_marked.true) refl))
      | else-is_marked w ↦
          ap (λ v. v.items) w.hits-is ∙ c.loop-place.invariant
          ∙ ap (λ ks. start ++ ks) (sym (more ∙ rw (← c.is_marked.ensures, w.if-is_marked.false) (append-nil (places_where test front))))
    ]
