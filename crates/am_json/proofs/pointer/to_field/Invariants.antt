use Rattle.std.proofs.Common.{◌≡◌, ◌++◌, string_bytes}
use Rattle.std.specs.List.{flat_map}
use Rattle.am_json.specs.Pointer.{pointer_escape, to_field}
use Rattle.am_json.proofs.pointer.to_field.Given as goal

-- what was written, followed by what is left to write, is the whole step
abbrev pub invariant-loop-character : goal.invariant-loop-character
invariant-loop-character l =
    string_bytes l.part ++ flat_map pointer_escape l.character-iterator.rest.now ≡ to_field l.key
