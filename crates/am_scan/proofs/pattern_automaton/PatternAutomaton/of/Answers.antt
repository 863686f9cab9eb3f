-- The rows lead each text to a state of the text.
use Rattle.std.proofs.Common.{◌≡◌, length, refl, subst, sym, ap, ◌∙◌, true≢false, arith}
use Rattle.am_labels.specs.Wildcards.{is_wildcards}
use Rattle.am_scan.specs.Sight.{IsScanned}
use Rattle.am_scan.specs.Automaton.{scanned_bytes, pattern_of}
use Rattle.am_scan.proofs.AutomatonLemmas.{found_in-exact}
use Rattle.am_scan.proofs.pattern_automaton.PatternAutomaton.of.Goals as goal

pub invariant_of-result : goal.invariant_of-result
invariant_of-result c =
    let scan = c.in-Some.scan in
    let columns = c.in-Some-2.columns in
    let count = rw c.in-Some-2.is at c.in_ok-columns.ensures.count in
    let own = rw c.in-Some-2.is at c.in_ok-columns.ensures.classes in
    let same = rw c.in-Some.is at c.in_ok-scan.ensures.bytes in
    let are = rw c.in-Some-3.is at c.in_ok-rows.ensures in
    let bytes : length columns.classes.items ≡ 256 = omega (arith, columns.classes.ok.0, count) in
    record {
      exact = λ text scanned _.
          found_in-exact scan columns.columns.items columns.classes.items are.0 c.in-Some-3.rows.items bytes own are.1 text
          (subst (λ a. IsScanned a text) (sym same) scanned);
      by_state = λ yes. let name = rw c.in-Some.is at c.in_ok-scan.ensures.pattern in absurd (true≢false (sym yes ∙ ap is_wildcards name ∙ sym c.in_ok-is_wildcards.ensures ∙ c.if-branch.false));
      gone = rw (c.as_slice.ensures.value, c.as_slice-2.ensures.value) at c.in_ok-lost.ensures;
    }

pub returns-clause-pattern : goal.returns-clause-pattern
unfolding pattern_of
returns-clause-pattern c = rw c.in-Some.is at c.in_ok-scan.ensures.pattern

pub returns-clause-bytes : goal.returns-clause-bytes
unfolding scanned_bytes
returns-clause-bytes c = refl
