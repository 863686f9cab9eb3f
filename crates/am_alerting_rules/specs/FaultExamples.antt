-- Worked examples of the first fault of rules files.
use Rattle.std.specs.Prelude.{ℕ, List, [], ◌∷◌, Option, Some, None, codes}
use Rattle.serde_json.specs.Data.{Data, null, number, string, unsigned}
use Rattle.am_universe.specs.declared.kind.Kind.{Kind}
use Rattle.am_universe.specs.declared.kind.Kind.TheVariants as kinds
use Rattle.am_json.specs.Pointer.{Refusal}
use Rattle.am_json.specs.FormExamples.{object_of, array_of, refused_at}

-- A number.
abbrev pub one : Data
one = number (unsigned 1)

-- A first fault: this kind at this pointer.
abbrev pub at : Kind → List ℕ → Option Refusal
at kind pointer = Some (refused_at kind pointer)

-- A file with these groups, a group of the name `node` with these rules, one with this value of
-- `labels` and a rule at fault, and a rule of the name `DiskFull` with this value of `labels`.
abbrev pub groups_file : List Data → Data
groups_file groups = object_of ((codes "groups", array_of groups) ∷ [])

abbrev pub node_file : List Data → Data
node_file rules = groups_file (object_of
    ((codes "name", string (codes "node")) ∷ (codes "rules", array_of rules) ∷ []) ∷ [])

abbrev pub labelled_file : Data → Data
labelled_file labels = groups_file (object_of
    ((codes "labels", labels) ∷ (codes "name", string (codes "node"))
    ∷ (codes "rules", array_of (one ∷ [])) ∷ []) ∷ [])

abbrev pub disk_rule : Data → Data
disk_rule labels =
    object_of ((codes "alert", string (codes "DiskFull")) ∷ (codes "labels", labels) ∷ [])

-- Rules files with their first faults, if they have any.
abbrev pub rule_faults : List (Data × Option Refusal)
rule_faults =
    -- not an object, no groups, and groups that are not an array
    (null, at kinds.Shape (codes ""))
    ∷ (object_of [], at kinds.Shape (codes "/groups"))
    ∷ (object_of ((codes "groups", one) ∷ []), at kinds.Shape (codes "/groups"))
    ∷ (groups_file [], None)
    -- a group: not an object, no name, and a name that is not a text, which comes before the rules
    ∷ (groups_file (one ∷ []), at kinds.Shape (codes "/groups/0"))
    ∷ (groups_file (object_of [] ∷ []), at kinds.Shape (codes "/groups/0/name"))
    ∷ (
      groups_file (object_of ((codes "name", one) ∷ (codes "rules", one) ∷ []) ∷ []),
      at kinds.Shape (codes "/groups/0/name"),
    )
    ∷ (
      groups_file
          (object_of ((codes "name", string []) ∷ (codes "rules", one) ∷ []) ∷ []),
      at kinds.Shape (codes "/groups/0/rules"),
    )
    ∷ (groups_file (object_of ((codes "name", string []) ∷ []) ∷ []), None)
    -- its labels, between its name and its rules: not an object, an empty name, a value that is not
    -- a text, and none
    ∷ (labelled_file one, at kinds.Shape (codes "/groups/0/labels"))
    ∷ (
      labelled_file (object_of ((codes "", one) ∷ [])),
      at kinds.Empty (codes "/groups/0/labels/"),
    )
    ∷ (
      labelled_file (object_of ((codes "site", one) ∷ [])),
      at kinds.Shape (codes "/groups/0/labels/site"),
    )
    ∷ (labelled_file null, at kinds.Shape (codes "/groups/0/rules/0"))
    ∷ (
      groups_file (object_of ((codes "labels", null) ∷ (codes "name", string []) ∷ []) ∷ []),
      None,
    )
    ∷ (
      groups_file (object_of ((codes "labels", one) ∷ (codes "name", one) ∷ []) ∷ []),
      at kinds.Shape (codes "/groups/0/name"),
    )
    -- a rule: not an object, and without `alert`, where nothing else is read
    ∷ (node_file (one ∷ []), at kinds.Shape (codes "/groups/0/rules/0"))
    ∷ (node_file (object_of ((codes "labels", one) ∷ []) ∷ []), None)
    ∷ (
      node_file (object_of ((codes "alert", null) ∷ (codes "labels", one) ∷ []) ∷ []),
      None,
    )
    -- an alerting rule: its name is not a text, or empty, which comes before the labels
    ∷ (
      node_file (object_of ((codes "alert", one) ∷ []) ∷ []),
      at kinds.Shape (codes "/groups/0/rules/0/alert"),
    )
    ∷ (
      node_file (object_of ((codes "alert", string []) ∷ (codes "labels", one) ∷ []) ∷ []),
      at kinds.Empty (codes "/groups/0/rules/0/alert"),
    )
    -- its labels: not an object, an empty name, and a value that is not a text
    ∷ (node_file (disk_rule one ∷ []), at kinds.Shape (codes "/groups/0/rules/0/labels"))
    ∷ (node_file (disk_rule null ∷ []), None)
    ∷ (
      node_file (disk_rule (object_of ((codes "", one) ∷ [])) ∷ []),
      at kinds.Empty (codes "/groups/0/rules/0/labels/"),
    )
    ∷ (
      node_file (disk_rule (object_of ((codes "team", null) ∷ [])) ∷ []),
      at kinds.Shape (codes "/groups/0/rules/0/labels/team"),
    )
    ∷ (node_file (disk_rule (object_of ((codes "team", string []) ∷ [])) ∷ []), None)
    ∷ []
