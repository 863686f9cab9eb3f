-- The line that the program prints for a fault, and its exit status. (This project's own.)
use Rattle.std.specs.Prelude.{ℕ, Bool, true, false, List, [], ◌∷◌, ◌++◌, length, ◌==◌}
use Rattle.std.specs.Prelude.{if◌then◌else◌, codes, string_bytes}
use Rattle.std.specs.List.{flat_map}
use Rattle.am_universe.specs.declared.fault.Fault.{Fault}
use Rattle.am_universe.specs.declared.kind.Kind.{Kind}
use Rattle.am_universe.specs.declared.kind.Kind.TheVariants as kinds
use Rattle.am_universe.specs.Bytes.{backslash, line_feed}
use Rattle.am_universe.specs.Kind.{kind_text}
use Rattle.am_universe.specs.Place.{place_text}

-- A byte of a pointer, as it is printed: `\` is written `\\`, and a line feed `\n`.
abbrev pub pointer_byte_text : ℕ → List ℕ
pointer_byte_text c =
    if c == backslash then codes "\\\\" else if c == line_feed then codes "\\n" else c ∷ []

-- The pointer and the separator after it; nothing for the empty pointer.
abbrev pub pointer_part : List ℕ → List ℕ
pointer_part pointer =
    if length pointer == 0 then [] else flat_map pointer_byte_text pointer ++ codes ": "

-- A fault of writing or of memory is at no part of the input.
abbrev pub has_no_place : Kind → Bool
has_no_place kinds.Write = true
has_no_place kinds.Memory = true
has_no_place _ = false

-- The line for a fault: `amcover:`, the place, the pointer if it is not empty, and the word for the
-- kind. The line for a fault of writing or of memory has neither place nor pointer.
-- Source: own choice.
-- Example: for a universe file whose first label has the values `db` and `db` it is
-- `amcover: universe: /labels/0/values/1: duplicate`, and if memory ran out `amcover: memory`.
abbrev pub place_part : Fault → List ℕ
place_part fault =
    if has_no_place fault.kind then []
    else place_text fault.place ++ (codes ": " ++ pointer_part (string_bytes fault.pointer))

abbrev pub fault_text : Fault → List ℕ
fault_text fault = codes "amcover: " ++ (place_part fault ++ (kind_text fault.kind ++ codes "\n"))

-- The exit status of the program after a fault: 4 if writing failed, 3 if memory ran out, and 1
-- otherwise.
-- Source: own choice.
-- Example: after `amcover: question: question-syntax` it is 1, and after `amcover: write` it is 4.
abbrev pub status_of : Kind → ℕ
status_of kinds.Write = 4
status_of kinds.Memory = 3
status_of _ = 1
