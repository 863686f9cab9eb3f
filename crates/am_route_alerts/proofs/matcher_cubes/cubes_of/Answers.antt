-- One more matcher has its cube.
use Rattle.std.proofs.Common.{◌+◌, ◌++◌, ◌∷◌, [], List, take, refl, ap, sym}
use Rattle.std.proofs.Common.{subst}
use Rattle.std.specs.List.{AllZip}
use Rattle.std.proofs.lemmas.Slice.Zip.{all_zipped_more}
use Rattle.am_labels.specs.Matcher.{Matcher}
use Rattle.am_labels.specs.Row.{TruthRow}
use Rattle.am_complete.proofs.Pushed.{one_longer}
use Rattle.am_route_alerts.specs.declared.matcher_cubes.MatcherCube.{MatcherCube}
use Rattle.am_route_alerts.specs.MatcherCubes.{IsMatcherCube}
use Rattle.am_route_alerts.proofs.matcher_cubes.cubes_of.Goals as goal

pub of_rows-requires : goal.of_rows-requires
of_rows-requires c = record {
  rows = (
    c.get-matcher.result.now ∷ [],
    ap (λ (r : TruthRow). r ∷ []) c.in_ok-row.ensures.row,
  );
}

pub loop-i-preserved : goal.loop-i-preserved
loop-i-preserved c =
    let u = c.args.universe.now in
    let ms = c.args.matchers.now in
    let i = c.loop-i.i in
    let m = c.get-matcher.result.now in
    let found : MatcherCube =
    record { matcher = c.get-matcher.result; cube = c.in_ok-cube.cube } in
    let exact = c.in_ok-cube.ensures.exact (m ∷ [])
    (ap (λ (r : TruthRow). r ∷ []) c.in_ok-row.ensures.row) in
    subst (AllZip (IsMatcherCube u) (take (i + 1) ms)) (sym c.in_ok-push.ensures.items)
    (subst (λ (xs : List Matcher). AllZip (IsMatcherCube u) xs (c.loop-i.cubes.items ++ found ∷ []))
    (one_longer ms i m c.get-matcher.ensures.matcher)
    (all_zipped_more (IsMatcherCube u) (take i ms) c.loop-i.cubes.items m found c.loop-i.invariant
    (refl, exact)))
