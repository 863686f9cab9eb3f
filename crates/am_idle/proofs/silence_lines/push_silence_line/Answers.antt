use Rattle.std.proofs.Common.{refl}
use Rattle.std.proofs.lemmas.List.{map-append}
use Rattle.am_idle.proofs.silence_lines.push_silence_line.Goals as goal

pub returns-in_ok-push : goal.returns-in_ok-push
returns-in_ok-push c =
    rw (c.in-Some.is, c.in_ok-push.ensures.items, map-append, c.in_ok-silence_line.ensures)
    record { lines = refl }
