use Rattle.std.proofs.Common.{ℕ, Bool, true, false, List, arith}
use Rattle.std.specs.Prelude.{cond}
use Rattle.std.specs.Char.{IsAsciiGraphic}
use Rattle.std.specs.Char.Escape.{hex_digit_at}
use Rattle.std.specs.List.{AllByRecursion}
use Rattle.std.proofs.lemmas.Bool.Decides.{nat_tests}
use Rattle.am_universe.proofs.laws.an_escape_is_printable_ascii.Goals as goal

digit : (place code : ℕ) → IsAsciiGraphic (hex_digit_at place code)
digit place code = (grind (arith, nat_tests), grind (arith, nat_tests))

either : (b : Bool) (x y : List ℕ) → AllByRecursion IsAsciiGraphic x → AllByRecursion IsAsciiGraphic y → AllByRecursion IsAsciiGraphic (cond b x y)
either true x y h k = h
either false x y h k = k

pub returns : goal.returns
returns c = λ code. search (arith, digit, either) depth 20
