use Rattle.std.proofs.Common.{◌≡◌, ◌++◌, codes, string_bytes, take}
use Rattle.std.specs.List.{flat_map}
use Rattle.am_asked.specs.OriginPointer.{child_pointer}
use Rattle.am_asked.proofs.origin_pointer.route_pointer.Given as goal

abbrev pub invariant-loop-position : goal.invariant-loop-position
invariant-loop-position l =
    string_bytes l.pointer ≡ codes "/route" ++ flat_map child_pointer (take l.position-index l.position-items)
