-- Worked examples of the first fault of a configuration file.
use Rattle.std.specs.Prelude.{ℕ, zero, suc, List, [], ◌∷◌, ◌++◌, replicate, Option, Some, None}
use Rattle.std.specs.Prelude.{codes}
use Rattle.std.specs.List.{flat_map}
use Rattle.serde_json.specs.Data.{Data, null, number, string, unsigned}
use Rattle.am_universe.specs.declared.kind.Kind.{Kind}
use Rattle.am_universe.specs.declared.kind.Kind.TheVariants as kinds
use Rattle.am_json.specs.Pointer.{Refusal}
use Rattle.am_json.specs.FormExamples.{object_of, array_of, refused_at}

-- A number. No field that is read may be a number.
abbrev pub one : Data
one = number (unsigned 1)

-- The field `receivers` of most files, with the one receiver `a`.
abbrev pub receivers : List ℕ × Data
receivers =
    (codes "receivers", array_of (object_of ((codes "name", string (codes "a")) ∷ []) ∷ []))

-- A file with this top-level route; and a top-level route with the receiver `a` and these fields.
abbrev pub file_with : Data → Data
file_with route = object_of (receivers ∷ (codes "route", route) ∷ [])

abbrev pub root_with : List (List ℕ × Data) → Data
root_with fields = object_of (fields ++ (codes "receiver", string (codes "a")) ∷ [])

-- A file whose top-level route has this field in addition to the receiver; and one whose top-level
-- route has one child, with this field alone.
abbrev pub root_field : List ℕ → Data → Data
root_field key d = file_with (root_with ((key, d) ∷ []))

abbrev pub child_field : List ℕ → Data → Data
child_field key d = root_field (codes "routes") (array_of (object_of ((key, d) ∷ []) ∷ []))

-- A chain of routes, each the only child of the one above it. The argument is the number of routes
-- below the first.
abbrev pub deep : ℕ → Data
deep zero = root_with []
deep (suc n) = root_with ((codes "routes", array_of (deep n ∷ [])) ∷ [])

-- A file with this value in `inhibit_rules`; and one with one rule, which has this field alone.
abbrev pub file_with_rules : Data → Data
file_with_rules rules =
    object_of ((codes "inhibit_rules", rules) ∷ receivers ∷ (codes "route", root_with []) ∷ [])

abbrev pub rule_field : List ℕ → Data → Data
rule_field key d = file_with_rules (array_of (object_of ((key, d) ∷ []) ∷ []))

abbrev pub at : Kind → List ℕ → Option Refusal
at kind pointer = Some (refused_at kind pointer)

-- Files with their first faults, if they have any.
abbrev pub fault_examples : List (Data × Option Refusal)
fault_examples =
    -- not an object, no receivers, no route, and a receiver that occurs twice
    (array_of [], at kinds.Shape (codes ""))
    ∷ (object_of [], at kinds.Shape (codes "/receivers"))
    ∷ (object_of (receivers ∷ []), at kinds.Shape (codes "/route"))
    ∷ (
      object_of ((
        codes "receivers",
        array_of (replicate 2 (object_of
            ((codes "name", string (codes "a")) ∷ []))),
      ) ∷ []),
      at kinds.Duplicate (codes "/receivers/1/name"),
    )
    -- an unknown field of a route, and one that is `null`
    ∷ (root_field (codes "x") one, at kinds.UnknownField (codes "/route/x"))
    ∷ (root_field (codes "x") null, None)
    -- receivers that are not declared, or not set on the top-level route
    ∷ (
      file_with (object_of ((codes "receiver", string (codes "b")) ∷ [])),
      at kinds.UndefinedReceiver (codes "/route/receiver"),
    )
    ∷ (
      file_with (object_of ((codes "receiver", string []) ∷ [])),
      at kinds.Shape (codes "/route/receiver"),
    )
    -- an empty name comes before a value that is not a text; and a name with `/` and `~`
    ∷ (
      child_field (codes "match") (object_of ((codes "", one) ∷ [])),
      at kinds.Empty (codes "/route/routes/0/match/"),
    )
    ∷ (
      child_field (codes "match") (object_of ((codes "a/b~c", one) ∷ [])),
      at kinds.Shape (codes "/route/routes/0/match/a~1b~0c"),
    )
    -- the top-level route may not have matchers, but may have a text that spells the empty list
    ∷ (root_field (codes "matchers") (array_of (string (codes "{}") ∷ [])), None)
    ∷ (
      root_field (codes "matchers") (array_of (string (codes "a=b") ∷ [])),
      at kinds.RootMatchers (codes "/route/matchers"),
    )
    ∷ (
      root_field (codes "match") (object_of ((codes "a", string (codes "b")) ∷ [])),
      at kinds.RootMatchers (codes "/route/match"),
    )
    -- 64 matchers of a child, and 65
    ∷ (child_field (codes "match") (object_of (replicate 64 (codes "a", string (codes "b")))), None)
    ∷ (
      child_field (codes "match") (object_of (replicate 65 (codes "a", string (codes "b")))),
      at kinds.Limit (codes "/route/routes/0/match"),
    )
    ∷ (
      child_field (codes "matchers") (array_of (replicate 65 (string (codes "a=b")))),
      at kinds.Limit (codes "/route/routes/0/matchers"),
    )
    -- routes in 32 levels, and in 33
    ∷ (file_with (deep 31), None)
    ∷ (
      file_with (deep 32),
      at kinds.Limit (codes "/route" ++ flat_map (λ (text : List ℕ). text)
          (replicate 32 (codes "/routes/0"))),
    )
    -- 1,024 routes, and 1,025
    ∷ (root_field (codes "routes") (array_of (replicate 1023 (object_of []))), None)
    ∷ (
      root_field (codes "routes") (array_of (replicate 1024 (object_of []))),
      at kinds.Limit (codes "/route/routes/1023"),
    )
    -- inhibition rules: not an array, not an object, an unknown field, and a `name` of any kind
    ∷ (file_with_rules one, at kinds.Shape (codes "/inhibit_rules"))
    ∷ (file_with_rules (array_of (one ∷ [])), at kinds.Shape (codes "/inhibit_rules/0"))
    ∷ (rule_field (codes "x") one, at kinds.UnknownField (codes "/inhibit_rules/0/x"))
    ∷ (rule_field (codes "name") one, None)
    -- names in `equal`: an empty one, the same one 64 times, and 65 names
    ∷ (
      rule_field (codes "equal") (array_of (string [] ∷ [])),
      at kinds.Empty (codes "/inhibit_rules/0/equal/0"),
    )
    ∷ (rule_field (codes "equal") (array_of (replicate 64 (string (codes "a")))), None)
    ∷ (
      rule_field (codes "equal") (array_of (replicate 65 (string (codes "a")))),
      at kinds.Limit (codes "/inhibit_rules/0/equal"),
    )
    -- an empty name on the target side; and faults on both sides, of which that on the source side
    -- comes first
    ∷ (
      rule_field (codes "target_match") (object_of ((codes "", one) ∷ [])),
      at kinds.Empty (codes "/inhibit_rules/0/target_match/"),
    )
    ∷ (
      file_with_rules (array_of (object_of
          ((codes "target_match", one) ∷ (codes "source_match_re", one) ∷ []) ∷ [])),
      at kinds.Shape (codes "/inhibit_rules/0/source_match_re"),
    )
    -- the routes come before the rules
    ∷ (
      object_of ((codes "inhibit_rules", one) ∷ receivers ∷ (codes "route", one) ∷ []),
      at kinds.Shape (codes "/route"),
    )
    ∷ []
