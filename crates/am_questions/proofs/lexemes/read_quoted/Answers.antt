use Rattle.std.proofs.Common.{◌≡◌, ◌≢◌, ◌<◌, ◌≤◌, ◌+◌, refl, ◌∙◌, ℕ, ◌++◌, [], ◌∷◌, length, get_or}
use Rattle.std.proofs.Common.{take, drop, arith, true, false}
use Rattle.std.proofs.lemmas.Grind.{common_steps}
use Rattle.std.proofs.lemmas.Result.{err_from_is_err_and}
use Rattle.std.proofs.lemmas.Str.{IsCharBoundary-after_ascii, encode_ascii}
use Rattle.std.specs.String.{string_bytes}
use Rattle.std.specs.List.{prefix_len}
use Rattle.am_labels.specs.MatcherText.{has_escape, byte_of_escape}
use Rattle.am_questions.specs.Lexemes.{is_plain}
use Rattle.am_questions.proofs.QuotedTexts.{escape_goes_on, no_escape_here}
use Rattle.am_questions.proofs.QuotedTexts.{quote_is_missing, escape_ascii, escaped_ascii}
use Rattle.am_questions.proofs.lexemes.read_quoted.Goals as goal

pub returns-in_err-escape_of-in-92-clause-refused :
    goal.returns-in_err-escape_of-in-92-clause-refused
returns-in_err-escape_of-in-92-clause-refused c =
    let p = err_from_is_err_and c.from_residual-in_err-escape_of-in-92.result
    c.from_residual-in_err-escape_of-in-92.ensures.1 in
    let n : ℕ = c.plain_len-len.result in
    let rest = c.loop-value.rest.now in
    let is : n ≡ prefix_len is_plain rest = grind (arith, common_steps) in
    let inside : n + 1 < length rest = grind (arith, common_steps) in
    let at : get_or rest n 0 ≡ 92 = grind (arith, common_steps) in
    let refused = c.in_err-escape_of-in-92.ensures.refused in
    let unknown : has_escape (get_or rest (n + 1) 0) ≡ false =
    grind (arith, common_steps, refused.1) in
    rw (p.1, p.2)
    (λ other. (
      refused.0,
      no_escape_here _ _ rest n is c.loop-value.invariant.1 inside at unknown,
    ))

pub returns-in_default-clause-refused : goal.returns-in_default-clause-refused
returns-in_default-clause-refused c = λ _.
    let n : ℕ = c.plain_len-len.result in
    let rest = c.loop-value.rest.now in
    let is : n ≡ prefix_len is_plain rest = grind (arith, common_steps) in
    let no_quote : n < length rest → get_or rest n 0 ≢ 34 =
    λ inside e. grind (arith, common_steps) in
    let no_more : n < length rest → get_or rest n 0 ≡ 92 → length rest ≤ n + 1 =
    λ inside e. grind (arith, common_steps) in (
      refl,
      quote_is_missing _ _ rest n is c.loop-value.invariant.1
          (λ inside. (no_quote inside, no_more inside)),
    )

pub loop-value-preserved : goal.loop-value-preserved
loop-value-preserved c =
    let n : ℕ = c.plain_len-len.result in
    let rest = c.loop-value.rest.now in
    let is : n ≡ prefix_len is_plain rest = grind (arith, common_steps) in
    let inside : n + 1 < length rest = grind (arith, common_steps) in
    let at : get_or rest n 0 ≡ 92 = grind (arith, common_steps) in
    let read = c.in_ok-escape_of-in-92.ensures.read in
    let d : ℕ = get_or rest (n + 1) 0 in
    let known : has_escape d ≡ true = grind (arith, common_steps, read.0) in
    let gives : c.in_ok-escape_of-in-92.field-0 ≡ byte_of_escape d =
    grind (arith, common_steps, read.1) in
    let goes_on =
    escape_goes_on _ _ rest n is c.loop-value.invariant.1 inside at known in
    let run : string_bytes c.push_str.new.self ≡ string_bytes c.loop-value.value ++ take n rest =
    grind (arith, common_steps) in
    let one = encode_ascii (byte_of_escape d) (escape_ascii d known) in
    let value_is : string_bytes c.push.new.self
    ≡ (string_bytes c.loop-value.value ++ take n rest) ++ byte_of_escape d ∷ [] =
    c.in_ok-push-in-92.ensures.bytes ∙ rw (run, gives, one) refl in
    let behind_is : c.range_from-rest.result.now ≡ drop (n + 2) rest =
    grind (arith, common_steps) in
    (c.range_from-rest.utf8, rw (value_is, behind_is) goes_on, grind (arith, common_steps))

pub range_from-rest-requires : goal.range_from-rest-requires
range_from-rest-requires c = grind (arith, common_steps, IsCharBoundary-after_ascii, escaped_ascii)
