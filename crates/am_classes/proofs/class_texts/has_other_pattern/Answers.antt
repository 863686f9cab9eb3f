use Rattle.std.proofs.Common.{List, map, refl, sym, ◌∙◌}
use Rattle.std.proofs.lemmas.Option.{slice_get_read}
use Rattle.am_universe.proofs.ListLemmas.{Contains-from_IsIn, IsIn-map}
use Rattle.am_universe.proofs.Members.{in_at}
use Rattle.am_labels.specs.Matcher.{Matcher}
use Rattle.am_classes.proofs.class_texts.has_other_pattern.Goals as goal

pub returns-then-not-names_texts : goal.returns-then-not-names_texts
returns-then-not-names_texts c = λ _.
    let matchers = c.args.matchers.now in
    let ms : List Matcher = map (λ m. m.now) matchers in
    let i = c.loop-matcher.matcher-index in
    let m = c.matcher-item.result in (
      m.now,
      Contains-from_IsIn ms m.now (IsIn-map (λ x. x.now) matchers m
          (in_at matchers i m (slice_get_read matchers _ i m refl c.loop-matcher-test.true c.matcher-item.is))),
      sym c.names_texts.ensures ∙ c.if-not-names_texts.true,
    )
