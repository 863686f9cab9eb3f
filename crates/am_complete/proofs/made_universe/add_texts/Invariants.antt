use Rattle.std.proofs.Common.{◌≡◌, ◌++◌, map, take, string_bytes}
use Rattle.am_complete.proofs.made_universe.add_texts.Given as goal

-- the texts so far come after the others
abbrev pub invariant-loop-text : goal.invariant-loop-text
invariant-loop-text l =
    map string_bytes l.texts.items
    ≡ map string_bytes l.fn.texts.items ++ map string_bytes (take l.text-index l.more)
