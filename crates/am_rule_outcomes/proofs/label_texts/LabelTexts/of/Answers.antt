use Rattle.std.proofs.Common.{refl, sym, ◌∙◌}
use Rattle.std.proofs.lemmas.Option.{same_Some}
use Rattle.am_universe.specs.Universe.{Label}
use Rattle.am_classes.proofs.AutomataLemmas.{get_under}
use Rattle.am_rule_outcomes.proofs.label_texts.LabelTexts.of.Goals as goal

pub returns : goal.returns
returns c = λ label here. record {
  name = same_Some _ _ (sym c.name.ensures.name
      ∙ get_under (λ (l : Label). l.name) c.args.universe.now c.args.i label here);
  tests = c.in_ok-tests.ensures;
  are = c.in_ok-texts.ensures.texts ∙ c.in_ok-texts_at.ensures ∙ rw here refl;
  tested = c.in_ok-texts.ensures.tested _ c.in_ok-tests.ensures;
  known = rw c.new.ensures.empty tt;
}
