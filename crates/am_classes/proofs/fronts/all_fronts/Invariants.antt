use Rattle.std.proofs.Common.{◌≡◌, map, take, string_bytes}
use Rattle.am_classes.proofs.fronts.all_fronts.Given as goal

abbrev pub invariant-loop-text : goal.invariant-loop-text
invariant-loop-text l =
    map (λ f. f.now) l.fronts.items ≡ map string_bytes (take l.text-index l.texts)
