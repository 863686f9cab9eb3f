use Rattle.std.proofs.Common.{◌≡◌, true, map, string_bytes, sym, ◌∙◌, subst}
use Rattle.std.specs.List.{list_any}
use Rattle.std.proofs.lemmas.List.{map-append}
use Rattle.am_universe.specs.Text.{same_text}
use Rattle.am_complete.proofs.BesideTexts.{found_there, one_among, one_beside}
use Rattle.am_complete.proofs.missing_texts.texts_beside.Goals as goal

pub loop-text-preserved : goal.loop-text-preserved
loop-text-preserved c =
    simp (c.in_ok-push.ensures.items, map-append) (one_beside (map string_bytes c.args.others.now)
    (map string_bytes c.loop-text.yielded) (map string_bytes c.loop-text.beside.items)
    (string_bytes c.in-Some.text) c.loop-text.invariant)

pub loop-text-preserved-then-contains : goal.loop-text-preserved-then-contains
loop-text-preserved-then-contains c =
    let others = map string_bytes c.args.others.now in
    let keys = c.in_ok-known.known.keys in
    let x = string_bytes c.in-Some.text in
    simp map-append (one_among others (map string_bytes c.loop-text.yielded)
    (map string_bytes c.loop-text.beside.items) x c.loop-text.invariant
    (found_there others keys x c.in_ok-known.ensures
    (subst (λ y. list_any (λ k. same_text y k.now) keys ≡ true) c.as_str.ensures.value
    (sym c.contains.ensures ∙ c.if-contains.true))))
