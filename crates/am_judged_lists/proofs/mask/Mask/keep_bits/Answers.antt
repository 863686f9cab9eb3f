use Rattle.std.proofs.Common.{◌-◌, ◌<◌, ◌∷◌, suc, length, refl, arith}
use Rattle.std.proofs.lemmas.List.{get_or_read}
use Rattle.am_judged_lists.proofs.WordLemmas.{same_long, kept_bits, kept_past}
use Rattle.am_judged_lists.proofs.mask.Mask.keep_bits.Goals as goal

pub returns-then-i-eq0-clause-same : goal.returns-then-i-eq0-clause-same
returns-then-i-eq0-clause-same c =
    same_long (c.self.inside.first ∷ c.self.inside.more.items) c.args.self.now 0 _ c.self.view_is

pub returns-then-i-eq0-clause-kept : goal.returns-then-i-eq0-clause-kept
returns-then-i-eq0-clause-kept c = λ j.
    kept_bits (c.self.inside.first ∷ c.self.inside.more.items) c.args.self.now c.args.i c.args.bits j
    c.self.view_is 0 c.self.inside.first c.if-i-eq0.true refl (omega arith)

pub returns-then-i-len-clause-same : goal.returns-then-i-len-clause-same
returns-then-i-len-clause-same c =
    same_long (c.self.inside.first ∷ c.self.inside.more.items) c.args.self.now (suc (c.args.i - 1)) _ c.self.view_is

pub returns-then-i-len-clause-kept : goal.returns-then-i-len-clause-kept
returns-then-i-len-clause-kept c = λ j.
    let more = c.self.inside.more in
    let within : c.args.i - 1 < length more.items = omega (arith, more.ok.0) in
    kept_bits (c.self.inside.first ∷ more.items) c.args.self.now c.args.i c.args.bits j
    c.self.view_is (suc (c.args.i - 1)) c.index_mut.result.now (omega arith)
    (get_or_read more.items _ _ within c.index_mut.ensures.value 0) (omega (arith, within))

pub returns-else-i-len-clause-kept : goal.returns-else-i-len-clause-kept
returns-else-i-len-clause-kept c = λ j.
    kept_past (c.self.inside.first ∷ c.self.inside.more.items) c.args.self.now c.args.i c.args.bits j
    c.self.view_is (omega (arith, c.self.inside.more.ok.0))
