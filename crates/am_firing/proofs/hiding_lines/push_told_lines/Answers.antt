-- A silence of which all is said, and one that is not active.
use Rattle.std.proofs.Common.{◌≡◌, ◌∙◌, true, false, append-nil, sym}
use Rattle.am_firing.specs.HidesAll.{is_all}
use Rattle.am_firing.proofs.Hiding.{inactive_none}
use Rattle.am_firing.proofs.hiding_lines.push_told_lines.Goals as goal
use Rattle.am_firing.proofs.hiding_lines.push_told_lines.Goals.{then-is_all-via-then-is_all, then-is_all-via-else-is_all+then-not-active}

pub returns-then-is_all : goal.returns-then-is_all
returns-then-is_all c = λ silence at.
    elim c.then-is_all.branch [
      | then-is_all-via-then-is_all v ↦
          let all : is_all c.args.finding.now ≡ true = sym c.is_all.ensures ∙ v.if-is_all.true in
          rw all (sym (append-nil _))
      | then-is_all-via-else-is_all+then-not-active v ↦
          let other : is_all c.args.finding.now ≡ false = sym c.is_all.ensures ∙ v.if-is_all.false in
          let none = inactive_none c.args.world.now (c.args.position, silence)
          (sym (v.active.ensures.active silence at) ∙ v.if-not-active.true) in
          rw (other, none) (sym (append-nil _))
    ]
