use Rattle.std.proofs.Common.{◌≡◌, ◌<◌, length, length-set, true, IfNone, IfSome, Some, None, Option, refl, subst, sym, inl, inr, ◌∙◌, arith, slice_get}
use Rattle.std.specs.Borrow.{Bor}
use Rattle.std.proofs.lemmas.Option.{slice_get_read, same_Some}
use Rattle.std.proofs.lemmas.Bool.{cases_Bool}
use Rattle.am_judged_lists.specs.declared.mask.Part.TheVariants.{Outside}
use Rattle.am_judged_lists.specs.Cube.{MaskedLabels}
use Rattle.am_judged_lists.specs.Boxes.{IsOpen, count_positions}
use Rattle.am_first_sets.specs.Solving.{marked}
use Rattle.am_first_sets.proofs.SolverLemmas.{IsKept, avoids_more, kept_missed, narrowed_by, narrowed_marked, refuted_by}
use Rattle.am_first_sets.proofs.solver.narrow.Goals.{in-Misses, in-Opens+then-open-eq1, in-Opens+else-open-eq1}
use Rattle.am_first_sets.proofs.solver.narrow.Goals as goal

if_none : {A : Type 0} (o : Option A) (P Q : Type 0) → (P → Q) → IfNone o P → IfNone o Q
if_none None P Q f h = f h
if_none (Some x) P Q f h = tt

if_some : {A : Type 0} (o : Option A) (P : A → Type 0) → ((x : A) → P x) → IfSome o P
if_some None P all = tt
if_some (Some x) P all = all x

pub returns-in-Covers-clause-narrowed : goal.returns-in-Covers-clause-narrowed
returns-in-Covers-clause-narrowed c =
    let cubes = c.args.unwanted.now in
    narrowed_marked c.args.positions.now c.loop-index.positions (marked c.args.used.now cubes) cubes
    c.loop-index.used c.loop-index.index c.loop-index.invariant.narrowed

pub returns-in-Covers-clause-step : goal.returns-in-Covers-clause-step
returns-in-Covers-clause-step c =
    let cubes = c.args.unwanted.now in
    let i = c.loop-index.index in
    refuted_by c.loop-index.used cubes c.loop-index.positions i c.index-unwanted-index.result
    (omega (arith, c.loop-index-test.true, c.loop-index.invariant.long, c.requires))
    (slice_get_read cubes (length cubes) i c.index-unwanted-index.result refl c.loop-index-test.true
    c.index-unwanted-index.is)
    c.in-Covers.ensures

pub loop-index-preserved : goal.loop-index-preserved
loop-index-preserved c =
    let cubes = c.args.unwanted.now in
    let i = c.loop-index.index in
    let old = c.args.positions.now in
    let b = c.loop-index.positions in
    let used = c.loop-index.used in
    let before = marked c.args.used.now cubes in
    let cube = c.index-unwanted-index.result in
    let inv = c.loop-index.invariant in
    let within : i < length used = omega (arith, c.loop-index-test.true, inv.long, c.requires) in
    let at : slice_get cubes i ≡ Some cube =
    slice_get_read cubes (length cubes) i cube refl c.loop-index-test.true c.index-unwanted-index.is in
    elim c.match-matching.branch [
      | in-Misses w ↦ rw (w.positions-is, w.used-is, w.simplest-is, w.is_narrowed-is) (record {
        long = inv.long;
        narrowed = inv.narrowed;
        missed = if_none c.loop-index.simplest _ _
            (λ all d inside. avoids_more cubes i cube d at (w.in-Misses.ensures d inside)
            (all d inside)) inv.missed;
        fewer = inv.fewer;
        same = inv.same;
        found = inv.found;
      })
      | in-Opens+then-open-eq1 w ↦
          let n = w.keep.new.self in
          let label = w.in-Opens.label in
          let again = w.index-unwanted-index-then-open-eq1.result in
          let is : again ≡ cube = same_Some again cube
          (sym (slice_get_read cubes (length cubes) i again refl c.loop-index-test.true
          w.index-unwanted-index-then-open-eq1.is) ∙ at) in
          let kept : IsKept b n cube.now label Outside =
          subst (λ (x : Bor MaskedLabels). IsKept b n x.now label Outside) is w.keep.ensures.choices in
          let exact = w.in-Opens.ensures.1 w.if-open-eq1.true in
          rw (w.positions-is, w.used-is, w.simplest-is, w.is_narrowed-is) (record {
            long = length-set used i true ∙ inv.long;
            narrowed = narrowed_by old b n label before cubes used i cube within at inv.narrowed
                w.keep.ensures.some kept exact;
            missed = if_none c.loop-index.simplest _ _
                (λ all d inside. avoids_more cubes i cube d at
                (kept_missed b n label cube.now kept exact d inside)
                (all d ((kept d).0 inside).0)) inv.missed;
            fewer = λ narrowed. elim (cases_Bool c.loop-index.is_narrowed) [
              | inl was ↦ omega (arith, inv.fewer was, w.keep.ensures.fewer)
              | inr was ↦ subst (λ x. count_positions n < count_positions x) (inv.same was)
                  w.keep.ensures.fewer
            ];
            same = λ no. cc;
            found = if_some c.loop-index.simplest _ (λ best no. cc);
          })
      | in-Opens+else-open-eq1 w ↦
          rw (w.positions-is, w.used-is, w.simplest-is, w.is_narrowed-is) (record {
            long = inv.long;
            narrowed = inv.narrowed;
            missed = tt;
            fewer = inv.fewer;
            same = inv.same;
            found = elim w.simpler_of.ensures [
              | inl first ↦ rw first at inv.found
              | inr this ↦ rw this (λ no. (
                c.loop-index-test.true,
                λ other there.
                    subst (λ (x : Bor MaskedLabels). IsOpen b x.now w.in-Opens.label)
                    (same_Some cube other (sym at ∙ there)) w.in-Opens.ensures.0,
              ))
            ];
          })
    ]
