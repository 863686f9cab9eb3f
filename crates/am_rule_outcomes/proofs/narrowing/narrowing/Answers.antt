use Rattle.std.proofs.Common.{◌+◌, List, drop, set, sym, ap, ◌∙◌, arith}
use Rattle.std.proofs.lemmas.List.{length-set}
use Rattle.am_universe.specs.Universe.{Label}
use Rattle.am_complete.specs.AskedLabel.{AskedLabel}
use Rattle.am_alerting_rules.specs.RuleView.{pairs_view}
use Rattle.am_rule_outcomes.specs.Narrowing.{matchers_on, narrowing}
use Rattle.am_rule_outcomes.specs.NarrowingView.{AreLabelTexts, IsLabelTexts}
use Rattle.am_rule_outcomes.proofs.NarrowingLemmas.{LabelAt, behind, label_at, texts_kept, zip_length}
use Rattle.am_rule_outcomes.proofs.NarrowingLemmas.{narrowed_more, narrowed_none, narrowed_all}
use Rattle.am_rule_outcomes.proofs.narrowing.narrowing.Goals as goal
use Rattle.am_rule_outcomes.proofs.narrowing.narrowing.Goals.{In_ok-found}

-- the label at the position
here : (c : In_ok-found) (asked : List AskedLabel) (u : List Label)
    → AreLabelTexts asked u c.args.labels.now.items
    → LabelAt asked u c.loop-i.i c.index_mut.result.now
here c asked u are =
    label_at asked u c.loop-i.labels.items c.loop-i.i c.index_mut.result.now
    (c.loop-i.invariant.texts asked u are) (omega arith) c.index_mut.ensures.value

-- the texts stay the same
same_texts : (c : In_ok-found) (asked : List AskedLabel) (u : List Label)
    → AreLabelTexts asked u c.args.labels.now.items
    → AreLabelTexts asked u (set c.loop-i.labels.items c.loop-i.i c.narrowing_at.new.label)
same_texts c asked u are =
    texts_kept asked u c.loop-i.labels.items c.loop-i.i c.index_mut.result.now
    c.narrowing_at.new.label (c.loop-i.invariant.texts asked u are) (omega arith)
    c.index_mut.ensures.value c.in_ok-found.ensures.same

pub loop-i-preserved : goal.loop-i-preserved
loop-i-preserved c =
    let found = (goal.at.loop-i-preserved c).In_ok-found in
    record {
      count = length-set c.loop-i.labels.items c.loop-i.i _ ∙ c.loop-i.invariant.count;
      texts = same_texts found;
      kept = λ asked u are.
          let fixed = pairs_view c.args.fixed.now in
          let l = here found asked u are in
          narrowed_more asked fixed u c.loop-i.i l.label c.loop-i.kept.items c.in-Some.one l.at
          (sym (c.in_ok-found.ensures.narrowing (matchers_on asked l.label.name) l.label l.is)
          ∙ c.in-Some.is) (c.loop-i.invariant.kept asked u are)
          ∙ ap (λ kept. behind kept (narrowing asked fixed (drop (c.loop-i.i + 1) u)))
          (sym c.in_ok-push-in-Some.ensures.items);
    }

pub returns-in-None-clause-narrowing : goal.returns-in-None-clause-narrowing
returns-in-None-clause-narrowing c = λ asked u are.
    let l = here (goal.at.returns-in-None-clause-narrowing c).In_ok-found asked u are in
    sym (narrowed_none asked (pairs_view c.args.fixed.now) u c.loop-i.i l.label c.loop-i.kept.items
    l.at (sym (c.in_ok-found.ensures.narrowing (matchers_on asked l.label.name) l.label l.is)
    ∙ c.in-None.is) (c.loop-i.invariant.kept asked u are))

pub returns-in-None-clause-same : goal.returns-in-None-clause-same
returns-in-None-clause-same c = same_texts (goal.at.returns-in-None-clause-same c).In_ok-found

pub returns-clause-narrowing : goal.returns-clause-narrowing
returns-clause-narrowing c = λ asked u are.
    sym (narrowed_all asked (pairs_view c.args.fixed.now) u c.loop-i.i c.loop-i.kept.items
    (let count = zip_length (λ (l : Label) t. IsLabelTexts (matchers_on asked l.name) l t) u
    c.args.labels.now.items are in
    omega arith) (c.loop-i.invariant.kept asked u are))
