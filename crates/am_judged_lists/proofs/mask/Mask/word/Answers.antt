use Rattle.std.proofs.Common.{◌∷◌, refl, ◌∙◌, arith}
use Rattle.std.proofs.lemmas.Grind.{common_steps}
use Rattle.am_judged_lists.proofs.WordLemmas.{word_there}
use Rattle.am_judged_lists.proofs.mask.Mask.word.Goals as goal

pub returns-then-i-eq0 : goal.returns-then-i-eq0
returns-then-i-eq0 c = λ j at.
    word_there (c.self.inside.first ∷ c.self.inside.more.items) c.args.self.now c.self.inside.first 0 j c.self.view_is refl
    (at ∙ c.if-i-eq0.true)

pub returns-in-Some : goal.returns-in-Some
returns-in-Some c = λ j at.
    word_there (c.self.inside.first ∷ c.self.inside.more.items) c.args.self.now c.in-Some.word.now c.args.i j c.self.view_is
    (grind (arith, common_steps, c.in-Some.ensures.lookup)) at

pub returns-in-None : goal.returns-in-None
returns-in-None c = λ j at.
    word_there (c.self.inside.first ∷ c.self.inside.more.items) c.args.self.now 0 c.args.i j c.self.view_is
    (grind (arith, common_steps, c.in-None.ensures.lookup)) at
