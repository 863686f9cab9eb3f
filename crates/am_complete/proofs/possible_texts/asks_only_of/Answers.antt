use Rattle.std.proofs.Common.{sym, ◌∙◌, arith}
use Rattle.std.proofs.lemmas.Bool.{not-true, not-false}
use Rattle.std.proofs.lemmas.Grind.{common_steps}
use Rattle.am_universe.specs.Text.{same_text}
use Rattle.am_universe.proofs.Members.{in_at}
use Rattle.am_complete.proofs.PossibleTexts.{all_more, one_fails}
use Rattle.am_complete.proofs.possible_texts.asks_only_of.Goals as goal

pub returns-then-ne : goal.returns-then-ne
returns-then-ne c =
    let m = c.get.result.now in
    sym (one_fails (λ n. same_text n.name c.args.name.now) c.args.list.now m
    (in_at c.args.list.now c.loop-i.i m c.get.ensures.matcher)
    (rw (← c.name.ensures.name) (not-true _ (sym c.ne.ensures ∙ c.if-ne.true))))

pub loop-i-preserved : goal.loop-i-preserved
loop-i-preserved c = grind (arith, common_steps, all_more, not-false)
