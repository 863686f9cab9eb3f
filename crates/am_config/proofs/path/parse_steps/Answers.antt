use Rattle.std.proofs.Common.{◌≡◌, lit<, refl, sym, arith}
use Rattle.std.specs.Str.Iter.{split_steps}
use Rattle.std.specs.Str.Pattern.{FindsChar}
use Rattle.std.proofs.lemmas.Iterator.Splits.{YieldsList-from_str_split}
use Rattle.am_config.proofs.PathTexts.{pieces_of_path}
use Rattle.am_config.proofs.PathSteps.{IsNext, next_step, all_read, step_read, too_large}
use Rattle.am_config.proofs.path.parse_steps.Goals as goal

pub loop-part-init : goal.loop-part-init
loop-part-init c = λ path some is.
    let yields = (YieldsList-from_str_split 47 c.args.text.now (lit< tt)
    c.split-part-items.ensures.text c.split-part-items.ensures.has_more
    c.split-part-items.ensures.pattern).runs in
    rw c.root-path.ensures.steps (record {
      left = path;
      all = refl;
      yields = rw (
        sym (pieces_of_path path c.args.text.now some is),
        c.into_iter-part-iterator.ensures.into_iter_gives,
      ) yields;
      short = omega arith;
      small = tt;
    })

pub returns-in_err-position : goal.returns-in_err-position
returns-in_err-position c = λ path some is.
    let next : IsNext (split_steps FindsChar (λ a b. b ≡ a)) path c.loop-part.path
    c.in-Some.part.now c.next.new.self =
    next_step _ path _ _ _ c.in-Some.part (c.loop-part.invariant path some is)
    c.in-Some.ensures.steps in
    let large = rw c.in_err-position.was at (c.child_position.ensures next.position next.is) in
    rw c.from_residual.ensures (too_large _ path c.loop-part.path _ _ next large)

pub loop-part-preserved : goal.loop-part-preserved
loop-part-preserved c = λ path some is.
    let before = c.loop-part.invariant path some is in
    let next : IsNext (split_steps FindsChar (λ a b. b ≡ a)) path c.loop-part.path
    c.in-Some.part.now c.next.new.self =
    next_step _ path _ _ _ c.in-Some.part before c.in-Some.ensures.steps in
    let position = rw c.in_ok-position.was at
    (c.child_position.ensures next.position next.is) in
    rw c.child-path.ensures.steps (step_read _ path c.loop-part.path _ _ _
    c.in_ok-position.position next before position.0 (omega (arith, position.0, position.1))
    (omega arith))

pub returns : goal.returns
returns c = λ path some is.
    all_read _ path _ _ _ (c.loop-part.invariant path some is) c.in-None.ensures.steps
