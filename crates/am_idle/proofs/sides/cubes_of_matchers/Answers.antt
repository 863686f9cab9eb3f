-- The cube of a matcher, asked of a side.
use Rattle.std.proofs.Common.{◌≡◌, ap, [], ◌∷◌, ℕ, List, ◌∙◌, true, false, Bool, refl}
use Rattle.std.specs.Prelude.{◌&&◌}
use Rattle.am_labels.specs.Matcher.{Matcher, condition_holds}
use Rattle.am_labels.specs.Row.{TruthRow}
use Rattle.am_universe.specs.Universe.{sizes}
use Rattle.am_universe.specs.Choice.{IsWhole}
use Rattle.am_universe.specs.LabelSet.{label_set_of}
use Rattle.am_judged_lists.specs.Cube.{MaskedLabels, matches}
use Rattle.am_first_sets.specs.Pairs.{pair_choices, side_of}
use Rattle.am_first_sets.specs.PossibleChoices.{IsPossible}
use Rattle.am_first_sets.proofs.CubeTruth.{matches_where}
use Rattle.am_idle.proofs.SilenceSteps.{zip_more}
use Rattle.am_idle.proofs.sides.cubes_of_matchers.Goals as goal

and_true : (b : Bool) → (b && true) ≡ b
and_true true = refl
and_true false = refl

pub of_rows-requires : goal.of_rows-requires
of_rows-requires c = record {
  rows = (
    c.get.result.now ∷ [],
    ap (λ (r : TruthRow). r ∷ []) c.in_ok-row.ensures.row,
  );
}

pub loop-i-preserved : goal.loop-i-preserved
loop-i-preserved c =
    let u = c.args.universe.now in
    let m = c.get.result.now in
    let pairs = c.args.pairs.now in
    let side = c.args.side in
    let cube = c.in_ok-cube.cube in
    let exact = c.in_ok-cube.ensures.exact (m ∷ [])
    (ap (λ (r : TruthRow). r ∷ []) c.in_ok-row.ensures.row) in
    zip_more (λ (n : Matcher) (asked : MaskedLabels). (e : List ℕ) → IsPossible (pair_choices pairs) e
    → IsWhole (sizes u) (side_of pairs side e)
    → matches asked e ≡ condition_holds (label_set_of u (side_of pairs side e)) n)
    c.args.matchers.now c.loop-i.i m c.in_ok-cube-2.field-0 c.loop-i.cubes.items
    c.push.new.self.items c.get.ensures.matcher c.in_ok-push.ensures.items c.loop-i.invariant
    (λ e possible whole.
    c.in_ok-cube-2.ensures e possible
    ∙ matches_where u (side_of pairs side e) whole (m ∷ []) cube
    (exact (side_of pairs side e) whole.0)
    ∙ and_true (condition_holds (label_set_of u (side_of pairs side e)) m))
