-- The patterns by which a label is asked.
use Rattle.std.specs.Prelude.{ℕ, List, Option, Some, None}
use Rattle.am_classes.specs.declared.label_tests.Asked.{Asked}
use Rattle.am_classes.specs.declared.label_tests.Asked.TheVariants.{Nothing, Questions, Found}
use Rattle.am_classes.specs.State.{patterns_of}

-- The patterns, if the questions are known.
abbrev pub patterns_asked : Asked → Option (List (List ℕ))
patterns_asked Nothing = None
patterns_asked (Questions q) = Some (patterns_of q)
patterns_asked (Found f) = Some f.1.1
