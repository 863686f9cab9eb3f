use Rattle.std.proofs.Common.{◌∙◌, ap, sym}
use Rattle.am_labels.specs.MatcherText.{matcher_pieces, without_closing}
use Rattle.am_labels.specs.MatcherReading.{read_words}
use Rattle.am_labels.proofs.MatcherTextPieces.{pieces_of_one, pieces_of_others}
use Rattle.am_labels.proofs.matcher_text.read_words.Goals as goal

pub returns-in_ok-pieces : goal.returns-in_ok-pieces
unfolding read_words
returns-in_ok-pieces c =
    let cut = c.without_closing.ensures ∙ ap without_closing c.without_opening.ensures in
    let pieces = c.in_ok-pieces.ensures ∙ ap matcher_pieces cut
    ∙ sym (pieces_of_one (λ word. word.now) c.args.words.now _ c.if-words-eq1.true) in
    rw (← pieces, ← c.as_slice.ensures.value) c.read_pieces.ensures

pub returns-else-words-eq1 : goal.returns-else-words-eq1
unfolding read_words
returns-else-words-eq1 c =
    rw (pieces_of_others (λ word. word.now) c.args.words.now c.if-words-eq1.false)
    c.read_pieces-else-words-eq1.ensures
