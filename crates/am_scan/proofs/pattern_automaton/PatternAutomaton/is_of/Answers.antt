use mathlib.Core.Bool.{beq}
use Rattle.std.proofs.Common.{◌≡◌, ◌∙◌, Bool, true, false, refl, sym, ap}
use Rattle.std.specs.Bool.{Decides}
use Rattle.std.proofs.lemmas.Slice.Eq.{bytes_eq-Decides, slice_eq-Decides}
use Rattle.am_scan.specs.Automaton.{scanned_bytes, pattern_of}
use Rattle.am_scan.proofs.pattern_automaton.PatternAutomaton.is_of.Goals as goal

same_mark : (x y : Bool) → Decides (beq x y) (x ≡ y)
same_mark true true = ((λ _. refl), λ _. refl)
same_mark true false = ((λ e. sym e), λ e. sym e)
same_mark false true = ((λ e. e), λ e. e)
same_mark false false = ((λ _. refl), λ _. refl)

pub returns-then-eq : goal.returns-then-eq
unfolding pattern_of scanned_bytes
returns-then-eq c = λ same.
    let pattern = (bytes_eq-Decides c.as_str.result.now c.args.pattern.now).0 (sym c.eq.ensures ∙ c.if-eq.true) in
    let marks =
    (slice_eq-Decides same_mark c.args.self.now.bytes.marks c.args.bytes.now.marks
    c.eq-then-eq.result c.eq-then-eq.ensures).0 same in
    (sym c.as_str.ensures.value ∙ pattern, ap (λ m. record { marks = m }) marks)
