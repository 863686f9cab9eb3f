use Rattle.std.proofs.Common.{◌∷◌, [], List, Contains, map, refl, sym, ap, ◌∙◌, subst}
use Rattle.std.proofs.lemmas.List.{map-append}
use Rattle.std.proofs.lemmas.Option.{slice_get_read}
use Rattle.am_universe.proofs.DistinctLists.{all_push}
use Rattle.am_universe.proofs.ListLemmas.{Contains-from_IsIn, IsIn-map}
use Rattle.am_universe.proofs.Members.{in_at}
use Rattle.am_labels.specs.Matcher.{Matcher}
use Rattle.am_complete.specs.Complete.{AreAmong}
use Rattle.am_complete.proofs.found_texts.some_matchers.Goals as goal

pub loop-matcher-preserved : goal.loop-matcher-preserved
loop-matcher-preserved c =
    let matchers = c.args.matchers.now in
    let ms : List Matcher = map (λ m. m.now) matchers in
    let old = c.loop-matcher.some.items in
    let i = c.loop-matcher.matcher-index in
    let m = c.matcher-item.result in
    subst (λ ns. AreAmong ns ms)
    (sym (ap (map (λ m. m.now)) c.in_ok-push.ensures.items ∙ map-append (λ m. m.now) old (m ∷ [])))
    (all_push (Contains ms) (map (λ m. m.now) old) m.now c.loop-matcher.invariant
    (Contains-from_IsIn ms m.now (IsIn-map (λ x. x.now) matchers m
    (in_at matchers i m (slice_get_read matchers _ i m refl c.loop-matcher-test.true c.matcher-item.is)))))
