use Rattle.std.proofs.Common.{Contains, map, string_bytes, refl, sym, subst}
use Rattle.std.proofs.lemmas.Option.{slice_get_read}
use Rattle.am_universe.proofs.ListLemmas.{Contains-from_IsIn, IsIn-map}
use Rattle.am_universe.proofs.Members.{in_at}
use Rattle.am_complete.proofs.BesideTexts.{keys_put}
use Rattle.am_complete.proofs.missing_texts.set_of.Goals as goal

pub loop-text-preserved : goal.loop-text-preserved
loop-text-preserved c =
    let texts = c.args.texts.now in
    let text = c.text-item.result in
    let there = map string_bytes texts in
    keys_put (λ k. Contains there k.now) c.loop-text.set.keys c.insert.new.self.keys c.as_str.result
    c.in_ok-insert.field-0 c.loop-text.invariant
    (subst (Contains there) (sym c.as_str.ensures.value)
    (Contains-from_IsIn there (string_bytes text) (IsIn-map string_bytes texts text (in_at texts
    c.loop-text.text-index text (slice_get_read texts _ c.loop-text.text-index text refl
    c.loop-text-test.true c.text-item.is))))) c.in_ok-insert.ensures.keys
