use Rattle.std.proofs.Common.{arith, inr, refl, None}
use Rattle.std.proofs.lemmas.Grind.{common_steps}
use Rattle.std.proofs.lemmas.Str.Pattern.{strip_prefix_char}
use Rattle.am_labels.proofs.MatcherTextBodies.{unread_quoted, unread_bare}
use Rattle.am_labels.proofs.matcher_text.read_body.Goals as goal

pub returns-else-end-rest : goal.returns-else-end-rest
returns-else-end-rest c =
    inr (
      refl,
      unread_quoted c.args.raw.now c.in-Some.rest.now c.first_quote-end.result
          (grind (arith, common_steps)) (grind (arith, common_steps)) (grind (arith, common_steps)) (grind (arith, common_steps)),
    )

pub returns-else-first_quote-raw : goal.returns-else-first_quote-raw
returns-else-first_quote-raw c =
    inr (
      refl,
      unread_bare c.args.raw.now
          (strip_prefix_char 34 c.args.raw.now None c.in-None.ensures.cases (omega arith))
          (grind (arith, common_steps)),
    )
