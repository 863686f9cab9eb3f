-- Each mark is set.
use Rattle.std.proofs.Common.{◌≡◌, ◌<◌, ℕ, zero, suc, true, false, nat_lt, get_or, replicate, refl, lt-ltb, arith}
use Rattle.std.proofs.lemmas.Bool.{and_from}
use Rattle.am_scan.proofs.byte_set.ByteSet.full.Goals as goal

marked : (n b : ℕ) → b < n → get_or (replicate n true) b false ≡ true
marked zero b below = absurd (omega (arith, below))
marked (suc n) zero below = refl
marked (suc n) (suc b) below = marked n b (omega (arith, below))

pub returns : goal.returns
returns c = λ b below. and_from (nat_lt b 256) _ (lt-ltb b 256 below) (marked 256 b below)
