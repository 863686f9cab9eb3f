use Rattle.std.specs.Cmp.Lexicographic.{bytes_decides}
use Rattle.am_universe.proofs.laws.same_text_decides.Goals as goal

pub returns : goal.returns
returns c = record { decided = bytes_decides }
