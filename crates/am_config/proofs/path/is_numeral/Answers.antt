use Rattle.std.proofs.Common.{◌≡◌, ◌<◌, length, get_or, ap, ◌∙◌, inl, inr, arith, rules, tests}
use Rattle.std.specs.Char.{is_ascii_digit}
use Rattle.std.proofs.lemmas.Bool.Decides.{nat_tests}
use Rattle.std.proofs.lemmas.Iterator.{YieldsList-from_slice}
use Rattle.std.proofs.lemmas.Iterator.Search.{all_from_yields_List}
use Rattle.am_config.proofs.Numerals.{is_no_numeral, digits_decide, reads_back}
use Rattle.am_config.proofs.path.is_numeral.Goals as goal
use Rattle.am_config.proofs.path.is_numeral.Goals.{then-is_empty-via-then-is_empty}
use Rattle.am_config.proofs.path.is_numeral.Goals.{then-is_empty-via-else-is_empty+then-digits-gt1}

pub returns-then-is_empty : goal.returns-then-is_empty
returns-then-is_empty c =
    let same = c.as_bytes-digits.ensures.value in
    is_no_numeral c.as_bytes-digits.result.now (λ h. elim c.then-is_empty.branch [
      | then-is_empty-via-then-is_empty w ↦ grind (arith, nat_tests)
      | then-is_empty-via-else-is_empty+then-digits-gt1 w ↦
          omega (arith, h.lead w.if-digits-gt1.true.0)
    ]) ∙ ap reads_back same

pub returns : goal.returns
returns c =
    let d = c.as_bytes-digits.result.now in
    let some : 0 < length d = grind (arith, nat_tests) in
    let lead : get_or d 0 0 ≡ 48 → length d ≡ 1 = λ zero_first. elim c.if-digits-gt1.either [
      | inl alone ↦ omega (arith, alone.1)
      | inr other ↦ absurd (other zero_first)
    ] in
    all_from_yields_List is_ascii_digit _ _ _ c.all.ensures.ran
    (YieldsList-from_slice d cc) (λ x b q k. search (rules, tests))
    ∙ digits_decide d some lead ∙ ap reads_back c.as_bytes-digits.ensures.value
