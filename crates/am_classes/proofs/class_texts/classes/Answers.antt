use Rattle.std.proofs.Common.{List, map, string_bytes, Contains, inl, inr, refl, ap, subst}
use Rattle.am_universe.proofs.ListLemmas.{AllByRecursion-at, AllByRecursion-each, Contains-from_IsIn}
use Rattle.am_labels.specs.Matcher.{Matcher}
use Rattle.am_classes.specs.Alike.{HasOtherPattern}
use Rattle.am_classes.specs.Limits.{HaveTooManyStates, HaveWildcardsAlone}
use Rattle.am_classes.specs.Named.{other_patterns}
use Rattle.am_classes.specs.Parts.{AreClassTexts}
use Rattle.am_classes.proofs.ClassLemmas.{asked_by}
use Rattle.am_classes.proofs.LimitLemmas.{lacking_wanted, refused_automaton, refused_exploration}
use Rattle.am_classes.proofs.class_texts.classes.Goals as goal
use Rattle.am_classes.proofs.class_texts.classes.Goals.{In_ok-classes}

pub returns-in-Some-clause-tied : goal.returns-in-Some-clause-tied
returns-in-Some-clause-tied c =
    let many = rw c.in-Some.is at c.in_ok-many.ensures.many in
    AllByRecursion-each _ (map string_bytes c.in-Some.many.texts.items) (λ x i.
    elim (AllByRecursion-at _ (map string_bytes c.in-Some.many.texts.items) x many.tied i) [
      | inl named ↦ inl (inl named)
      | inr short ↦ inr (many.not_all, short)
    ])

pub returns-in_default-2-clause-none : goal.returns-in_default-2-clause-none
returns-in_default-2-clause-none c =
    let a = c.args.alphabet in
    let ms : List Matcher = map (λ m. m.now) c.args.matchers.now in
    let is = c.in_ok-tests.ensures in
    elim (rw c.in_default-2.is at c.in_ok-parts.ensures.none) [
      | inl lack ↦
          refused_automaton a ms
          (lacking_wanted (other_patterns ms) (map (λ p. p.now) c.in_ok-tests.tests.patterns.keys) is.patterns lack)
      | inr (q, asks, some, many) ↦
          let asked = asked_by ms a c.in_ok-tests.tests (map string_bytes c.in_ok-texts.texts.items) q is c.in_ok-texts.ensures asks in
          subst (λ b. HasOtherPattern ms × (HaveWildcardsAlone ms → HaveTooManyStates b ms)) (ap (λ v. v.0) asks)
          (refused_exploration ms q asked some many)
    ]

-- what is returned are classes
are : (c : In_ok-classes)
    → AreClassTexts c.args.alphabet (map (λ m. m.now) c.args.matchers.now) c.in_ok-classes.classes
are c =
    let parts = rw c.in-Some-2.is at c.in_ok-parts.ensures.some in
    c.in_ok-classes.ensures (map (λ m. m.now) c.args.matchers.now) c.args.alphabet
    (map string_bytes c.in_ok-texts.texts.items) c.in_ok-tests.ensures c.in_ok-texts.ensures parts

pub returns-clause-covers : goal.returns-clause-covers
returns-clause-covers c = (are (goal.at.returns-clause-covers c).In_ok-classes).covers

pub returns-clause-many : goal.returns-clause-many
returns-clause-many c = (are (goal.at.returns-clause-many c).In_ok-classes).many

pub returns-clause-over : goal.returns-clause-over
returns-clause-over c = (are (goal.at.returns-clause-over c).In_ok-classes).over

pub returns-clause-apart : goal.returns-clause-apart
returns-clause-apart c = (are (goal.at.returns-clause-apart c).In_ok-classes).apart

pub returns-clause-tied : goal.returns-clause-tied
returns-clause-tied c = (are (goal.at.returns-clause-tied c).In_ok-classes).tied

pub returns-clause-tests : goal.returns-clause-tests
returns-clause-tests c =
    let ms : List Matcher = map (λ m. m.now) c.args.matchers.now in (
      ms,
      (are (goal.at.returns-clause-tests c).In_ok-classes).tests,
      AllByRecursion-each (Contains ms) ms (λ m i. Contains-from_IsIn ms m i),
      λ _. refl,
    )
