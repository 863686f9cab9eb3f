use Rattle.std.proofs.Common.{◌≡◌, ◌+◌, ◌-◌, ◌<◌, [], ◌∷◌, List, ℕ, length, map, drop, get_or, refl, ap}
use Rattle.std.proofs.Common.{sym, subst, subst₂, arith}
use Rattle.std.proofs.lemmas.List.{drop_all}
use Rattle.am_labels.specs.Matcher.{Matcher}
use Rattle.am_outcomes.specs.Configurations.{matchers_of_each, silences_view}
use Rattle.am_outcomes.specs.OutcomesView.{tried_view}
use Rattle.am_outcomes.specs.Steps.{AreSteps, GoesThrough}
use Rattle.am_outcomes.specs.declared.configs.ActiveSilence.{ActiveSilence}
use Rattle.am_outcomes.specs.declared.steps.Step.{Step}
use Rattle.am_outcomes.proofs.StepLemmas.{list_pushed, next_from_behind, no_steps, only_lists}
use Rattle.am_outcomes.proofs.StepLemmas.{steps_pushed}
use Rattle.am_outcomes.proofs.steps.steps_of_silences.Goals as goal

-- the lists of the silences behind one, with its own
next_lists : (silences : List ActiveSilence) (i : ℕ) (silence : ActiveSilence) → i < length silences
    → silence ≡ get_or silences (length silences - 1 - i) silence
    → matchers_of_each (silences_view (drop (length silences - (i + 1)) silences))
    ≡ silence.matchers.now
    ∷ matchers_of_each (silences_view (drop (length silences - i) silences))
next_lists silences i silence within is =
    ap (map (λ (s : ℕ × List Matcher). s.1))
    (next_from_behind (λ (s : ActiveSilence). (s.position, s.matchers.now)) silences i silence within
    is)

pub loop-i-init : goal.loop-i-init
loop-i-init c =
    let silences = c.args.silences.now in
    let none = c.new-steps.ensures.items in
    record {
      steps = subst AreSteps (sym none) no_steps;
      goes = subst₂ (λ (ss : List ActiveSilence) (steps : List Step).
          GoesThrough c.args.universe.now (tried_view [] ss) steps (length steps))
          (sym (drop_all (length silences - 0) silences (omega arith))) (sym none)
          (λ d whole. refl);
    }

pub loop-i-preserved : goal.loop-i-preserved
loop-i-preserved c =
    let l = c.loop-i in
    let u = c.args.universe.now in
    let silences = c.args.silences.now in
    let silence = c.index-silences-silences.result in
    let steps = l.steps.items in
    let next : c.len-next.result ≡ length steps = omega (arith, c.len-next.ensures) in
    record {
      steps = subst AreSteps (sym c.in_ok-push.ensures.items)
          (steps_pushed steps _ l.invariant.steps (omega arith) (omega (arith, next)));
      goes = subst₂ (λ (ls : List (List Matcher)) (new : List Step).
          GoesThrough u (only_lists ls) new (length new))
          (sym (next_lists silences l.i silence c.loop-i-test.true c.index-silences-silences.is))
          (sym c.in_ok-push.ensures.items)
          (list_pushed u silence.matchers.now
          (matchers_of_each (silences_view (drop (length silences - l.i) silences))) steps _
          c.in_ok-of.ensures.exact refl next l.invariant.goes);
    }
