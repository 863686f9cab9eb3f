use Rattle.std.proofs.Common.{sym, ap₂, ◌∙◌, ◌∷◌}
use Rattle.am_labels.specs.declared.wildcards.WildcardPiece.TheVariants.{AnyText}
use Rattle.am_labels.specs.Wildcards.{matches, pieces_of}
use Rattle.am_labels.proofs.WildcardFronts.{same_front}
use Rattle.am_labels.proofs.wildcard_match.alternative_matches.Goals as goal

pub returns-in-AtAnyText : goal.returns-in-AtAnyText
returns-in-AtAnyText c =
    let behind = c.in-AtAnyText.alternative.now in
    let front = c.in-AtAnyText.ensures.front in
    c.matches_behind_any.ensures
    ∙ sym (ap₂ matches front.2 front.1
    ∙ same_front front.0 (AnyText ∷ pieces_of behind) c.in-AtAnyText.text.now)
