use Rattle.std.proofs.Common.{◌≡◌, ◌<◌, length, lit<, refl, sym, ◌∙◌, arith, slice_index, rules}
use Rattle.std.specs.Str.Iter.{split_steps}
use Rattle.std.specs.Str.Pattern.{FindsChar}
use Rattle.std.proofs.lemmas.Bool.Decides.{nat_tests}
use Rattle.std.proofs.lemmas.List.{length-map}
use Rattle.std.proofs.lemmas.Option.{get_or_from_slice_get}
use Rattle.std.proofs.lemmas.Iterator.Splits.{YieldsList-from_str_split}
use Rattle.am_universe.specs.Universe.{Label, sizes}
use Rattle.am_search.proofs.Positions.{pieces_of, decimal-injective}
use Rattle.am_search.proofs.Odometer.{admits_at_most}
use Rattle.am_search.proofs.TokenTexts.{next_piece, all_read, piece_read, seam, sizes_of_universe}
use Rattle.am_search.proofs.token.parse_positions.Goals as goal

pub loop-part-init : goal.loop-part-init
loop-part-init c =
    let yields = (YieldsList-from_str_split 46 c.args.text.now (lit< tt) c.split-part-items.ensures.text c.split-part-items.ensures.has_more c.split-part-items.ensures.pattern).runs in
    rw c.empty-prefix.ensures.no_position (record {
      left = pieces_of c.args.text.now;
      all = refl;
      yields = rw c.into_iter-part-iterator.ensures.into_iter_gives yields;
      admitted = refl;
    })

pub returns-then-len : goal.returns-then-len
returns-then-len c = λ d a e.
    let u = c.args.universe.now in
    let ns = sizes u in
    let some : 0 < length c.args.text.now = grind (arith, nat_tests) in
    let at = seam (split_steps FindsChar (λ a b. b ≡ a)) ns c.args.text.now c.loop-part.prefix d _ c.next.new.self c.in-Some.part (sizes_of_universe u c.len-in-loop-part.ensures.universe).values some c.loop-part.invariant c.in-Some.ensures.steps a e in
    omega (arith, at.label, length-map u (λ (l : Label). length l.values))

pub returns-in_err-position : goal.returns-in_err-position
returns-in_err-position c =
    let u = c.args.universe.now in
    let ns = sizes u in
    let some : 0 < length c.args.text.now = grind (arith, nat_tests) in
    let none = rw c.in_err-position.was at c.parse_position.ensures in
    rw c.from_residual.ensures (λ d a e.
    let at = seam (split_steps FindsChar (λ a b. b ≡ a)) ns c.args.text.now c.loop-part.prefix d _ c.next.new.self c.in-Some.part (sizes_of_universe u c.len-in-loop-part.ensures.universe).values some c.loop-part.invariant c.in-Some.ensures.steps a e in
    none at.position (omega (arith, at.below, at.limit)) at.is)

pub returns-then-from-size : goal.returns-then-from-size
returns-then-from-size c = λ d a e.
    let u = c.args.universe.now in
    let ns = sizes u in
    let some : 0 < length c.args.text.now = grind (arith, nat_tests) in
    let position = rw c.in_ok-position.was at c.parse_position.ensures in
    let at = seam (split_steps FindsChar (λ a b. b ≡ a)) ns c.args.text.now c.loop-part.prefix d _ c.next.new.self c.in-Some.part (sizes_of_universe u c.len-in-loop-part.ensures.universe).values some c.loop-part.invariant c.in-Some.ensures.steps a e in
    let same : at.position ≡ c.in_ok-position.position = decimal-injective at.position c.in_ok-position.position (omega (arith, at.below, at.limit)) (omega arith) (at.is ∙ sym position) in
    let size : slice_index ns (length c.loop-part.prefix) ≡ c.size.result = get_or_from_slice_get ns (length c.loop-part.prefix) c.size.result 0 (rw c.len-in-loop-part-2.ensures.len at c.size.ensures.size) in
    omega (arith, at.below, size, same)

pub loop-part-preserved : goal.loop-part-preserved
loop-part-preserved c = search (rules, next_piece, get_or_from_slice_get, admits_at_most, piece_read, length-map)

pub returns : goal.returns
returns c = (c.loop-part.invariant.admitted, all_read _ _ _ _ _ _ c.loop-part.invariant c.in-None.ensures.steps)
