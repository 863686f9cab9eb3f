-- Trees: how a question is joined from simple parts.

-- A tree of simple parts of some kind, joined by `not`, `and` and `or`.
pub data Tree (P : Type 0) : Type 0 where
  Part : P → Tree P
  Not : Tree P → Tree P
  And : Tree P → Tree P → Tree P
  Or : Tree P → Tree P → Tree P
