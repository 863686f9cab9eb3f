use Rattle.std.proofs.Common.{◌≡◌, ◌∷◌, ◌++◌, [], false, true, if◌then◌else◌, not, map, string_bytes, sym, ap, ◌∙◌, arith}
use Rattle.std.specs.FinMap.{empty}
use Rattle.std.specs.List.{filter}
use Rattle.std.proofs.lemmas.List.{append-nil, map-append}
use Rattle.std.proofs.lemmas.Grind.{common_steps}
use Rattle.am_universe.specs.LabelSet.{with_value}
use Rattle.am_complete.specs.Complete.{may_have}
use Rattle.am_complete.proofs.PossibleTexts.{kept_more}
use Rattle.am_complete.proofs.possible_texts.possible_texts.Goals as goal
use Rattle.am_complete.proofs.possible_texts.possible_texts.Goals.{In_ok-matches_one}

-- the texts that the label may have, with the one at hand
more : (c : In_ok-matches_one)
    → filter (may_have c.args.impossible.now c.args.name.now) (map string_bytes (c.loop-text.yielded ++ c.in-Some.text ∷ []))
    ≡ map string_bytes c.loop-text.kept.items
    ++ (if not c.in_ok-matches_one.field-0 then string_bytes c.in-Some.text ∷ [] else [])
more c =
    let x = string_bytes c.in-Some.text in
    let xs = map string_bytes c.loop-text.yielded in
    let test = may_have c.args.impossible.now c.args.name.now in
    ap (filter test) (map-append string_bytes c.loop-text.yielded (c.in-Some.text ∷ []))
    ∙ kept_more c.args.impossible.now c.loop-text.lists.items c.in_ok-set.set c.args.name.now x xs
    c.in_ok-matches_one.field-0 c.loop-text.invariant.lists
    (c.in_ok-set.ensures ∙ ap (with_value empty c.args.name.now) c.as_str.ensures.value)
    c.in_ok-matches_one.ensures.matched
    ∙ ap (λ ys. ys ++ (if not c.in_ok-matches_one.field-0 then x ∷ [] else [])) (sym c.loop-text.invariant.kept)

pub loop-text-preserved-then-not-branch : goal.loop-text-preserved-then-not-branch
loop-text-preserved-then-not-branch c =
    let here = (goal.at.loop-text-preserved-then-not-branch c).In_ok-matches_one in
    let so : c.in_ok-matches_one.field-0 ≡ false = grind (arith, common_steps) in
    record {
      lists = c.in_ok-matches_one.ensures.same ∙ c.loop-text.invariant.lists;
      kept = ap (map string_bytes) c.in_ok-push.ensures.items
          ∙ map-append string_bytes c.loop-text.kept.items (c.in-Some.text ∷ []) ∙ sym (rw so at (more here));
    }

pub loop-text-preserved : goal.loop-text-preserved
loop-text-preserved c =
    let here = (goal.at.loop-text-preserved c).In_ok-matches_one in
    let so : c.in_ok-matches_one.field-0 ≡ true = grind (arith, common_steps) in
    record {
      lists = c.in_ok-matches_one.ensures.same ∙ c.loop-text.invariant.lists;
      kept = sym (append-nil (map string_bytes c.loop-text.kept.items)) ∙ sym (rw so at (more here));
    }
