-- JSON pointers (RFC 6901), and refusals of a part of a file.
use Rattle.std.specs.Prelude.{ℕ, List, [], ◌∷◌, ◌++◌, if◌then◌else◌, ◌==◌, codes}
use Rattle.std.specs.List.{flat_map}
use Rattle.std.specs.Fmt.{decimal}
use Rattle.am_universe.specs.declared.kind.Kind.{Kind}
use Rattle.am_universe.specs.Bytes.{slash, tilde}

-- A pointer to a part of a value has `/` and a key, or `/` and a position, for each step on the way
-- to the part. Positions count from 0. In a key, `~` is written `~0` and `/` is written `~1`.
-- Source: RFC 6901, sections 3 and 4.
-- Example: the step to the field `m~n/a` is `/m~0n~1a`, and the step to the first item is `/0`.
abbrev pub pointer_escape : ℕ → List ℕ
pointer_escape c =
    if c == tilde then codes "~0" else if c == slash then codes "~1" else c ∷ []

abbrev pub to_field : List ℕ → List ℕ
to_field key = codes "/" ++ flat_map pointer_escape key

abbrev pub to_item : ℕ → List ℕ
to_item position = codes "/" ++ decimal position

-- A refusal: why a file is refused, and the pointer to the part at fault.
pub record Refusal : Type 0 where
  pub kind : Kind
  pub pointer : List ℕ

-- A refusal of the whole value that is looked at, with the empty pointer.
abbrev pub refusal_here : Kind → Refusal
refusal_here kind = record { kind = kind; pointer = [] }

-- The same refusal, as seen from the value that has the part: the pointer to the part is put in
-- front.
abbrev pub refusal_within : List ℕ → Refusal → Refusal
refusal_within part r = record { kind = r.kind; pointer = part ++ r.pointer }
