-- The part of a space that some matchers match. (This project's own.)
use Rattle.std.specs.Prelude.{List, [], ◌∷◌, ◌++◌, map}
use Rattle.am_labels.specs.declared.op.Op.{Op}
use Rattle.am_labels.specs.declared.op.Op.TheVariants.{Equal, NotEqual, Matches, NotMatches}
use Rattle.am_labels.specs.Matcher.{Matcher}
use Rattle.am_labels.specs.Space.{Space}

-- The operator that is true where another is not, and the list that matches where a matcher is not
-- true.
abbrev pub opposite : Op → Op
opposite Equal = NotEqual
opposite NotEqual = Equal
opposite Matches = NotMatches
opposite NotMatches = Matches

abbrev pub opposite_list : Matcher → List Matcher
opposite_list m = record m { op = opposite m.op } ∷ []

-- The space of those label sets of a space that match some matchers: where one of the matchers is
-- not true, the label set is impossible.
-- Source: own choice.
-- Example: for `team="db"` it is the space in which `team!="db"` is impossible too.
abbrev pub matched_part : Space → List Matcher → Space
matched_part s ms = record s { impossible = s.impossible ++ map opposite_list ms }
