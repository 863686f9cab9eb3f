use Rattle.std.proofs.Common.{◌≡◌, ◌++◌, ◌∷◌, [], ℕ, List, Bor, get_or, map, sym, ap, ap₂, ◌∙◌}
use Rattle.std.proofs.lemmas.List.{map-append, map_more}
use Rattle.am_scan.specs.Automaton.{pattern_of, scanned_bytes}
use Rattle.am_classes.proofs.ExplorationLemmas.{each_more}
use Rattle.am_classes.proofs.automata.automata_of.Goals as goal

pub loop-pattern-preserved : goal.loop-pattern-preserved
loop-pattern-preserved c =
    let h = c.loop-pattern.invariant in
    let old = c.loop-pattern.automata.items in
    let a = c.in-Some.automaton in
    let patterns = c.args.patterns.now in
    let i = c.loop-pattern.pattern-index in
    let none : Bor (List ℕ) = record { ref_ptr = (0, 0); now = [] } in
    let pattern : pattern_of a ≡ (get_or patterns i none).now =
    rw c.in-Some.is at c.in_ok-automaton.ensures.pattern in
    record {
      patterns = ap (map pattern_of) c.in_ok-push.ensures.items ∙ map-append pattern_of old (a ∷ [])
          ∙ ap₂ ◌++◌ h.patterns (ap (λ p. p ∷ []) pattern)
          ∙ sym (map_more (λ p. p.now) patterns i none c.loop-pattern-test.true);
      fit = each_more (λ x. scanned_bytes x ≡ c.args.bytes) old c.push.new.self.items a
          c.in_ok-push.ensures.items h.fit (rw c.in-Some.is at c.in_ok-automaton.ensures.bytes);
    }
