-- What is wrong with the name and the pattern of a matcher in any file, and the reading of a
-- matcher from its parts. (This project's own.)
use Rattle.std.specs.Prelude.{ℕ, List, [], ◌∷◌, ◌++◌, Bool, ◌&&◌, if◌then◌else◌, Option}
use Rattle.std.specs.Prelude.{Some, None, ⊤}
use Rattle.std.specs.List.{flat_map}
use Rattle.am_universe.specs.declared.kind.Kind.{Kind}
use Rattle.am_universe.specs.declared.kind.Kind.TheVariants as kinds
use Rattle.am_labels.specs.Matcher.{Matcher, takes_pattern}
use Rattle.am_labels.specs.MatcherRefusals.{has_valid_pattern, pattern_refusal}
use Rattle.am_labels.specs.PatternProfile.{in_profile}
use Rattle.am_json.specs.Objections.{Objection, a_fault, a_pattern}
use Rattle.am_json.specs.Pointer.{refusal_here}
use Rattle.am_json.specs.Reading.{Reading, ◌>>=◌, accept, stopped_at_first}

-- What is wrong with the name of a label: it is empty.
abbrev pub label_name_fault : List ℕ → Option Kind
label_name_fault [] = Some kinds.Empty
label_name_fault (c ∷ cs) = None

-- The value of a matcher is a pattern of the profile. By a law of `am_labels`, `in_profile` decides
-- `IsInProfile`.
abbrev pub has_profile_pattern : Matcher → Bool
has_profile_pattern m = takes_pattern m.op && in_profile m.value

-- The objections to the pattern of a matcher, if it has one, and to those of a list of matchers. A
-- pattern of the profile is an objection, since the engine may refuse it. A pattern that is not of
-- the profile, or that the engine's grammar does not read, is a fault.
abbrev pub one_pattern_objections : Matcher → List Objection
one_pattern_objections m =
    (if has_profile_pattern m then a_pattern [] ∷ [] else [])
    ++ (if has_valid_pattern m then []
    else a_fault (refusal_here (pattern_refusal m.value)) ∷ [])

abbrev pub pattern_objections : List Matcher → List Objection
pattern_objections ms = flat_map one_pattern_objections ms

-- The patterns of matchers, in order: reading stops at the first that is at fault.
abbrev pub check_patterns : List Matcher → Reading ⊤
check_patterns ms = stopped_at_first tt (pattern_objections ms)

-- A matcher, if its pattern is accepted.
abbrev pub check_matcher : Matcher → Reading Matcher
check_matcher m = check_patterns (m ∷ []) >>= λ _. accept m
