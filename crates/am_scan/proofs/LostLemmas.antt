-- No byte leads out of the lost texts of a pattern.
use Rattle.std.proofs.Common.{◌≡◌, ℕ, true, false, List, ◌∷◌, sym, ◌∙◌}
use Rattle.std.specs.Prelude.{IsUtf8}
use Rattle.am_labels.specs.Pattern.{finds}
use Rattle.am_scan.specs.declared.pattern_automaton.PatternAutomaton.{PatternAutomaton}
use Rattle.am_scan.specs.Automaton.{is_lost, number_of, pattern_of, scanned_bytes}
use Rattle.am_scan.specs.Sight.{IsScanned}

-- A lost text stays lost with a byte before it.
pub lost_stays : (a : PatternAutomaton) (text : List ℕ) (b : ℕ) → is_lost a (number_of a text) ≡ true
    → is_lost a (number_of a (b ∷ text)) ≡ true
unfolding is_lost number_of
lost_stays a text b lost = a.gone.stays _ lost b

-- A pattern does not find a lost text.
pub lost_finds : (a : PatternAutomaton) (text : List ℕ) → is_lost a (number_of a text) ≡ true
    → IsScanned (scanned_bytes a) text → IsUtf8 text → finds (pattern_of a) text ≡ false
unfolding is_lost number_of scanned_bytes pattern_of
lost_finds a text lost scanned utf8 = sym (a.exact text scanned utf8) ∙ a.gone.unfound _ lost
