use Rattle.std.proofs.Common.{[], not, inl, inr, map, string_bytes, subst, arith}
use Rattle.std.specs.Option.{option_map_or}
use Rattle.std.proofs.lemmas.Bool.{not-false}
use Rattle.std.proofs.lemmas.List.{length-map}
use Rattle.am_classes.specs.Limits.{MayBePastLimits}
use Rattle.am_classes.specs.LabelTests.{IsTestsOf}
use Rattle.am_complete.specs.Representatives.{AreFoundTexts, IsRepresentative, IsUsual}
use Rattle.am_complete.proofs.RepresentativeTexts.{all_gained, are_found}
use Rattle.am_complete.proofs.missing_texts.known_texts.Goals as goal
use Rattle.am_complete.proofs.missing_texts.known_texts.Goals.{In-Some}

known : (c : In-Some) → AreFoundTexts c.args.alphabet (option_map_or (λ x. x.now) c.args.alerts [])
    c.args.label.now c.in-Some.known
known c =
    let h = rw c.in-Some.is at c.in_ok-known.ensures in
    are_found c.args.alphabet (option_map_or (λ x. x.now) c.args.alerts []) c.args.label.now
    c.in-Some.known _ c.matchers.ensures.matchers h.covers h.over h.apart h.tied h.tests

pub returns-in_default-clause-none : goal.returns-in_default-clause-none
returns-in_default-clause-none c =
    let none = rw c.in_default.is at c.in_ok-known.ensures.none in
    subst (MayBePastLimits c.args.alphabet) c.matchers.ensures.matchers
    (record { pattern = none.0; past = λ alone. inl (none.1 alone) })

pub returns-then-not-known-clause-some : goal.returns-then-not-known-clause-some
returns-then-not-known-clause-some c = (
  known (goal.at.returns-then-not-known-clause-some c).In-Some,
  λ some_missing.
      let h = rw c.in-Some.is at c.in_ok-known.ensures in
      let many = h.many some_missing in
      let texts = c.in-Some.known.texts in
      subst (MayBePastLimits c.args.alphabet) c.matchers.ensures.matchers (record {
        pattern = many.1;
        past = λ alone. inr (
          map string_bytes texts.items,
          omega (arith, many.0, length-map texts.items string_bytes, texts.ok.0),
          h.over,
          h.apart,
        );
      }),
)

pub returns-clause-some : goal.returns-clause-some
returns-clause-some c =
    let l = c.args.label.now in
    let alerts = option_map_or (λ x. x.now) c.args.alerts [] in
    let all = c.in-Some.known.all in
    let tests = c.in-Some.known.tests in
    let here = known (goal.at.returns-clause-some c).In-Some in
    let whole = not-false _ c.if-not-known.false in
    let is = subst (λ ns. IsTestsOf ns tests) (here.tests.3 whole) here.tests.1 in (
      record {
        classes = c.in_ok-texts.ensures.classes all is here.classes;
        represent = all_gained (IsRepresentative (not all) c.args.alphabet alerts l.name l.matchers)
            (IsUsual alerts l.name) _ _ here.represent (λ x usual. inr (inl usual))
            c.in_ok-texts.ensures.from;
        tests = here.tests;
      },
      λ some_missing. absurd cc,
    )
