-- The patterns that may still find a text of which only the end has been read.
use Rattle.std.specs.Prelude.{◌≡◌, ℕ, suc, List, [], ◌∷◌, ◌++◌, Option, Some, slice_get}
use Rattle.std.specs.Prelude.{if◌then◌else◌}
use Rattle.std.specs.Global.{Vec}
use Rattle.am_scan.specs.Automaton.{is_lost, number_of}
use Rattle.am_scan.specs.declared.pattern_automaton.PatternAutomaton.{PatternAutomaton}
use Rattle.am_classes.specs.declared.live.LivePattern.{LivePattern}

-- A pattern that gives a text a number is live, unless texts with this number are lost.
abbrev pub live_at : ℕ → PatternAutomaton → ℕ → List LivePattern
live_at place automaton number =
    if is_lost automaton number then [] else record { place = place; number = number } ∷ []

-- The live patterns of a text, each with the number that it gives the text. Places count from a
-- number, or from 0.
-- Source: own choice; in automata theory states are live or dead.
-- Example: of `db` and `web`, only the second is live for the text `eb`.
abbrev pub live_from : ℕ → List PatternAutomaton → List ℕ → List LivePattern
live_from place [] text = []
live_from place (a ∷ automata) text =
    live_at place a (number_of a text) ++ live_from (suc place) automata text

abbrev pub live_of : List PatternAutomaton → List ℕ → List LivePattern
live_of automata text = live_from 0 automata text

-- For some bytes, the live patterns of the text of this byte alone.
abbrev pub AreLast : List PatternAutomaton → List (Option (Vec LivePattern)) → Type 0
AreLast automata lasts =
    (b : ℕ) (live : Vec LivePattern) → slice_get lasts b ≡ Some (Some live)
    → live.items ≡ live_of automata (b ∷ [])
