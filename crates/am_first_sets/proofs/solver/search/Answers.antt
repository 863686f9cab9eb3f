use Rattle.std.proofs.Common.{◌≡◌, ◌<◌, ◌∷◌, [], ◌++◌, List, Bool, true, false, length, slice_get, Some, refl, sym, ap, ◌∙◌, subst, subst₂}
use Rattle.std.specs.Borrow.{Bor}
use Rattle.std.proofs.lemmas.Option.{slice_get_read, same_Some}
use Rattle.std.proofs.lemmas.Bool.{both_ways}
use Rattle.am_judged_lists.specs.declared.mask.Part.TheVariants.{Within, Outside}
use Rattle.am_judged_lists.specs.Cube.{MaskedLabels}
use Rattle.am_judged_lists.specs.Boxes.{IsOpen, HasChoice, count_positions}
use Rattle.am_first_sets.specs.Solving.{avoids, marked}
use Rattle.am_first_sets.proofs.SolverLemmas.{AreLeft, IsKept, left_start, left_nothing, left_done, left_refuted, left_narrowed, left_split, weight, lighter_none, lighter_one, lighter_two}
use Rattle.am_first_sets.proofs.solver.search.Goals.{After-narrow, then-has_choice+in_ok-push, else-has_choice}
use Rattle.am_first_sets.proofs.solver.search.Goals as goal

pub loop-positions-init : goal.loop-positions-init
loop-positions-init c = elim c.if-has_choice.branch [
  | then-has_choice+in_ok-push w ↦
      rw (w.stack-is, w.in_ok-push.ensures.items, c.new-stack.ensures.items) (record {
        long = c.requires;
        left = left_start c.args.start (marked c.args.used.now c.args.unwanted.now)
            (c.has_choice.ensures.0 w.if-has_choice.true);
        same = refl;
      })
  | else-has_choice w ↦
      rw (w.stack-is, c.new-stack.ensures.items) (record {
        long = c.requires;
        left = left_nothing c.args.start (marked c.args.used.now c.args.unwanted.now) (λ some.
            let apart : true ≡ false = sym (c.has_choice.ensures.1 some) ∙ w.if-has_choice.false in
            cc);
        same = refl;
      })
]

-- what is left to look at once a pass has narrowed the last box
left_after : (c : After-narrow)
    → AreLeft c.args.start (marked c.narrow.new.used c.args.unwanted.now)
    (c.pop.new.self.items ++ c.narrow.new.positions ∷ [])
left_after c =
    let start = c.args.start in
    let before = marked c.loop-positions.used c.args.unwanted.now in
    left_narrowed start (marked c.narrow.new.used c.args.unwanted.now) before c.pop.new.self.items
    c.in-Some.positions c.narrow.new.positions
    (subst (AreLeft start before) c.in-Some.ensures.items c.loop-positions.invariant.left)
    c.narrow.ensures.narrowed

pub returns-in-Done-clause-found : goal.returns-in-Done-clause-found
returns-in-Done-clause-found c =
    let start = c.args.start in
    let cubes = c.args.unwanted.now in
    let after = marked c.narrow.new.used c.args.unwanted.now in
    let boxes = c.pop.new.self.items in
    let n = c.narrow.new.positions in
    let left = left_after (goal.at.returns-in-Done-clause-found c).After-narrow in
    left_done start after cubes boxes n left c.in-Done.ensures.step

pub loop-positions-smaller-in-Refuted-1 : goal.loop-positions-smaller-in-Refuted-1
loop-positions-smaller-in-Refuted-1 c =
    subst (λ (boxes : List (List (List Bool))). weight c.pop.new.self.items < weight boxes)
    (sym c.in-Some.ensures.items) (lighter_none c.pop.new.self.items c.in-Some.positions)

pub loop-positions-preserved-in-Refuted-1 : goal.loop-positions-preserved-in-Refuted-1
loop-positions-preserved-in-Refuted-1 c =
    let start = c.args.start in
    let after = marked c.narrow.new.used c.args.unwanted.now in
    let boxes = c.pop.new.self.items in
    let n = c.narrow.new.positions in
    let left = left_after (goal.at.loop-positions-preserved-in-Refuted-1 c).After-narrow in
    record {
      long = c.narrow.ensures.long ∙ c.loop-positions.invariant.long;
      left = left_refuted start after boxes n left
          (λ d i e. both_ways (avoids after d) (c.in-Refuted.ensures.step d i) e);
      same = c.take.ensures.same ∙ c.loop-positions.invariant.same;
    }

pub loop-positions-smaller-in-Continue-branch-2 : goal.loop-positions-smaller-in-Continue-branch-2
loop-positions-smaller-in-Continue-branch-2 c =
    subst₂ (λ (new old : List (List (List Bool))). weight new < weight old)
    (sym c.in_ok-push-in-Narrowed.ensures.items) (sym c.in-Some.ensures.items)
    (lighter_one c.pop.new.self.items c.in-Some.positions c.narrow.new.positions
    c.in-Narrowed.ensures.step)

pub loop-positions-preserved-in-Continue-branch-2 :
    goal.loop-positions-preserved-in-Continue-branch-2
loop-positions-preserved-in-Continue-branch-2 c =
    let start = c.args.start in
    let after = marked c.narrow.new.used c.args.unwanted.now in
    let left = left_after (goal.at.loop-positions-preserved-in-Continue-branch-2 c).After-narrow in
    record {
      long = c.narrow.ensures.long ∙ c.loop-positions.invariant.long;
      left = subst (AreLeft start after) (sym c.in_ok-push-in-Narrowed.ensures.items) left;
      same = c.take.ensures.same ∙ c.loop-positions.invariant.same;
    }

pub keep-requires : goal.keep-requires
keep-requires c =
    let cubes = c.args.unwanted.now in
    let cube = c.index-unwanted-index.result in
    subst (λ (b : List (List Bool)). IsOpen b cube.now c.in-Split.label)
    (sym c.in_ok-within-in-Split.ensures.same)
    (c.in-Split.ensures.step.2 cube
    (slice_get_read cubes (length cubes) c.in-Split.index cube refl c.in-Split.ensures.step.1
    c.index-unwanted-index.is))

pub keep-requires-in-Split : goal.keep-requires-in-Split
keep-requires-in-Split c =
    let cubes = c.args.unwanted.now in
    let cube = c.index-unwanted-index-in-Split.result in
    c.in-Split.ensures.step.2 cube
    (slice_get_read cubes (length cubes) c.in-Split.index cube refl c.in-Split.ensures.step.1
    c.index-unwanted-index-in-Split.is)

pub loop-positions-smaller : goal.loop-positions-smaller
loop-positions-smaller c =
    let b = c.in-Some.positions in
    let n = c.narrow.new.positions in
    let same : n ≡ b = c.in-Split.ensures.step.0 in
    subst₂ (λ (new old : List (List (List Bool))). weight new < weight old)
    (sym (c.in_ok-push-in-Split-2.ensures.items
    ∙ ap (λ xs. xs ++ c.keep-in-Split.new.self ∷ []) c.in_ok-push-in-Split.ensures.items))
    (sym c.in-Some.ensures.items)
    (lighter_two c.pop.new.self.items b c.keep.new.self c.keep-in-Split.new.self
    (subst (λ (x : List (List Bool)). count_positions c.keep.new.self < count_positions x)
    (c.in_ok-within-in-Split.ensures.same ∙ same) c.keep.ensures.fewer)
    (subst (λ (x : List (List Bool)). count_positions c.keep-in-Split.new.self < count_positions x)
    same c.keep-in-Split.ensures.fewer))

pub loop-positions-preserved : goal.loop-positions-preserved
loop-positions-preserved c =
    let start = c.args.start in
    let cubes = c.args.unwanted.now in
    let after = marked c.narrow.new.used c.args.unwanted.now in
    let boxes = c.pop.new.self.items in
    let n = c.narrow.new.positions in
    let left = left_after (goal.at.loop-positions-preserved c).After-narrow in
    let label = c.in-Split.label in
    let first = c.index-unwanted-index.result in
    let again = c.index-unwanted-index-in-Split.result in
    let within = c.in-Split.ensures.step.1 in
    let at : slice_get cubes c.in-Split.index ≡ Some first =
    slice_get_read cubes (length cubes) c.in-Split.index first refl within
    c.index-unwanted-index.is in
    let too : slice_get cubes c.in-Split.index ≡ Some again =
    slice_get_read cubes (length cubes) c.in-Split.index again refl within
    c.index-unwanted-index-in-Split.is in
    let same : again ≡ first = same_Some again first (sym too ∙ at) in
    let w = c.keep.new.self in
    let o = c.keep-in-Split.new.self in
    record {
      long = c.narrow.ensures.long ∙ c.loop-positions.invariant.long;
      left = subst (AreLeft start after)
          (sym (c.in_ok-push-in-Split-2.ensures.items
          ∙ ap (λ xs. xs ++ o ∷ []) c.in_ok-push-in-Split.ensures.items))
          (left_split start after boxes n w o label first.now left
          (subst (λ (x : List (List Bool)). HasChoice x → HasChoice w)
          c.in_ok-within-in-Split.ensures.same c.keep.ensures.some)
          (subst (λ (x : List (List Bool)). IsKept x w first.now label Within)
          c.in_ok-within-in-Split.ensures.same c.keep.ensures.choices)
          c.keep-in-Split.ensures.some
          (subst (λ (x : Bor MaskedLabels). IsKept n o x.now label Outside) same
          c.keep-in-Split.ensures.choices));
      same = c.take.ensures.same ∙ c.loop-positions.invariant.same;
    }
