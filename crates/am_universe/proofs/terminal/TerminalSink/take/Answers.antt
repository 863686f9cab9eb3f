use Rattle.std.proofs.Common.{◌≤◌, sym, ◌∙◌, length-take, arith}
use Rattle.std.proofs.Math.Logic.{∥∥₁_map}
use Rattle.std.proofs.lemmas.List.{take-take}
use Rattle.am_universe.specs.Shown.{hidden, plain}
use Rattle.am_universe.proofs.terminal.TerminalSink.take.Goals as goal

pub invariant_of-self-then-plain-eq0-clause-shows : goal.invariant_of-self-then-plain-eq0-clause-shows
invariant_of-self-then-plain-eq0-clause-shows g c same =
    let ends = rw c.if-plain-eq0.true at (c.plain_len-plain.ensures.ends (omega arith)) in
    let wrote = c.in_ok-write_escape.ensures.ok in
    rw (c.followed_by-self.ensures.joined, wrote.all, c.hidden_len-hidden.ensures.len)
    (∥∥₁_map (c.args.self.now.shows (sym wrote.none_failed ∙ same)) (λ shows. hidden shows c.args.bytes.now ends.0 ends.1))

pub invariant_of-self-2-clause-shows : goal.invariant_of-self-2-clause-shows
invariant_of-self-2-clause-shows g c same =
    let text = c.args.bytes.now in
    let within : c.in_ok-count.count ≤ c.plain_len-plain.result = omega (arith, c.in_ok-count.ensures.count.1, length-take c.plain_len-plain.result text) in
    rw (c.followed_by-self-2.ensures.joined, c.in_ok-count.ensures.taken, take-take _ _ text within)
    (∥∥₁_map (c.args.self.now.shows (sym c.in_ok-count.ensures.failures ∙ same))
    (λ shows. plain shows text _ (λ hides place less. c.plain_len-plain.ensures.plain hides place (omega arith))))
