-- The bytes spell the characters that stand by themselves.
use Rattle.std.proofs.Common.{◌∙◌, chars, subst, sym}
use Rattle.std.specs.Str.{IsUtf8}
use Rattle.std.proofs.lemmas.Str.{encodes-chars, scalars-chars}
use Rattle.am_scan.proofs.character_sets.CharacterSets.add_literal.Goals as goal

pub returns-clause-blind : goal.returns-clause-blind
returns-clause-blind c = λ _.
    let text = c.in-Ok.text.now in
    let cases = c.in-Ok.ensures.cases in
    let utf8 : IsUtf8 text = subst IsUtf8 (sym cases.0) cases.1 in
    (chars text, scalars-chars text utf8, encodes-chars text utf8 ∙ cases.0, c.in_ok-add_text.ensures.alone)
