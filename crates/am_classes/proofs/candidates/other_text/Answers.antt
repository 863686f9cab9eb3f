use Rattle.std.proofs.Common.{◌≡◌, ◌++◌, suc, codes, string_bytes, arith, below_more, ap, ◌∙◌, subst}
use Rattle.std.proofs.lemmas.Grind.{common_steps}
use Rattle.am_classes.specs.ClassTexts.{others}
use Rattle.am_classes.specs.State.{IsNamed}
use Rattle.am_classes.proofs.candidates.other_text.Goals as goal

pub loop-text-preserved : goal.loop-text-preserved
loop-text-preserved c =
    let q = c.args.questions.now in
    let other = c.loop-text.invariant.other in
    let text : string_bytes c.push_str.new.self ≡ string_bytes c.loop-text.text ++ codes "other" =
    c.in_ok-push_str.ensures.bytes in
    let named = subst (IsNamed q) (c.as_bytes.ensures.value ∙ other.1)
    (c.names.ensures.0 c.loop-text-test.true) in
    record {
      ordinary = grind (arith, common_steps);
      other = (
        suc other.0,
        text ∙ ap (λ x. x ++ codes "other") other.1,
        λ k below. below_more (λ j. IsNamed q (others j)) other.0 other.2 named k (omega (arith, below)),
      );
    }
