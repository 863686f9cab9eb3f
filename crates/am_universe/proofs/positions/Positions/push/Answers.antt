-- The cells stay in the stored form when a position is added.
use Rattle.std.proofs.Common.{◌≡◌, ◌+◌, ◌-◌, arith, length, drop, replicate, ap, sym, ◌∙◌}
use Rattle.std.proofs.lemmas.List.{drop-drop, drop-set-lt, drop-replicate}
use Rattle.std.proofs.Math.ListN.{length-set}
use Rattle.am_universe.specs.declared.limits.TheConstants.{MAX_POSITIONS}
use Rattle.am_universe.specs.PositionsView.{view_of, stored_again}
use Rattle.am_universe.proofs.positions.Positions.push.Goals as goal

pub invariant_of-self : goal.invariant_of-self
invariant_of-self c =
    let a = c.self.inside in
    let h = c.self.invariant in
    let count : length (view_of a) ≡ a.len = ap (λ b. b.len) (stored_again a h) in
    let same : length (view_of a) ≡ length c.args.self.now = ap length c.self.view_is in
    let less : MAX_POSITIONS - a.len - 1 ≡ MAX_POSITIONS - (a.len + 1) = omega arith in
    record {
      cells = simp length-set h.cells;
      within = omega arith;
      zeros = drop-set-lt _ a.positions _ _ (omega arith) ∙ sym (drop-drop 1 a.len a.positions)
          ∙ ap (drop 1) h.zeros ∙ drop-replicate 1 (MAX_POSITIONS - a.len) 0
          ∙ ap (λ k. replicate k 0) less;
    }
