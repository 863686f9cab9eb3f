use Rattle.std.proofs.Common.{[], ℕ, List, Bor, get_or, map, take, sym, subst}
use Rattle.std.specs.List.{AllByRecursion}
use Rattle.std.proofs.lemmas.List.{map_more}
use Rattle.am_universe.proofs.DistinctLists.{all_push}
use Rattle.am_scan.specs.Characters.{CannotTell}
use Rattle.am_scan.proofs.CharacterLemmas.{all_map}
use Rattle.am_classes.proofs.EnoughLemmas.{tell_narrowed}
use Rattle.am_classes.proofs.enough_bytes.add_patterns.Goals as goal

pub loop-pattern-preserved : goal.loop-pattern-preserved
loop-pattern-preserved c =
    let items = c.args.patterns.now in
    let i = c.loop-pattern.pattern-index in
    let none : Bor (List ℕ) = record { ref_ptr = (0, 0); now = [] } in
    let old = c.loop-pattern.sets in
    let new = c.add_pattern.new.self in
    let front : List (List ℕ) = map (λ p. p.now) (take i items) in
    subst (AllByRecursion (CannotTell new)) (sym (map_more (λ p. p.now) items i none c.loop-pattern-test.true))
    (all_push (CannotTell new) front (get_or items i none).now
    (all_map (CannotTell old) (CannotTell new) front (tell_narrowed old new c.add_pattern.ensures.narrows)
    c.loop-pattern.invariant)
    (c.in_ok-add_pattern.ensures.blind c.if-not-branch.false))
