-- No mark is set.
use Rattle.std.proofs.Common.{◌≡◌, ℕ, zero, suc, false, nat_lt, get_or, replicate, refl}
use Rattle.std.proofs.lemmas.Bool.{and_right}
use Rattle.am_scan.proofs.byte_set.ByteSet.empty.Goals as goal

unmarked : (n b : ℕ) → get_or (replicate n false) b false ≡ false
unmarked zero b = refl
unmarked (suc n) zero = refl
unmarked (suc n) (suc b) = unmarked n b

pub returns : goal.returns
returns c = λ b. and_right (nat_lt b 256) _ (unmarked 256 b)
