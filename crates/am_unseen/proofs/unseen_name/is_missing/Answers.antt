use Rattle.std.proofs.Common.{◌≢◌, [], refl, sym, ap, ◌∙◌, not}
use Rattle.std.proofs.lemmas.Bool.{both_ways}
use Rattle.am_universe.specs.Text.{same_text}
use Rattle.am_unseen.specs.Search.{texts_of}
use Rattle.am_unseen.proofs.Found.{if_some}
use Rattle.am_unseen.proofs.SeenValues.{some_texts, text_there}
use Rattle.am_unseen.proofs.unseen_name.is_missing.Goals as goal

pub returns-then-not-is_empty : goal.returns-then-not-is_empty
returns-then-not-is_empty c =
    let name = c.args.name.now in
    let texts = texts_of c.args.names.now in
    let some : texts ≢ [] =
    some_texts c.args.names.now.keys
    (λ e. both_ways c.is_empty.result c.if-not-is_empty.true (c.is_empty.ensures.1 e)) in
    ap not (c.contains.ensures ∙ text_there _ name (λ k. refl) c.args.names.now.keys)
    ∙ sym (if_some (same_text name) texts some)
