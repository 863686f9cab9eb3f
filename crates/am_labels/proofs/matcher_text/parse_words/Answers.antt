use Rattle.std.proofs.Common.{ℕ, List, map, arith, inl, inr, refl}
use Rattle.std.proofs.lemmas.Grind.{common_steps}
use Rattle.std.proofs.lemmas.Result.{err_from_is_err_and}
use Rattle.am_labels.proofs.MatcherRefusalLemmas.{words_refused}
use Rattle.am_labels.proofs.MatcherTextWhole.{words_are_spelled, all_named, refused_is_none}
use Rattle.am_labels.proofs.matcher_text.parse_words.Goals as goal

pub returns-in_err-list-clause-refused : goal.returns-in_err-list-clause-refused
returns-in_err-list-clause-refused c =
    let p = err_from_is_err_and c.from_residual.result c.from_residual.ensures.1 in
    rw (p.1, p.2) (refused_is_none c.in_err-list.field-0.0 _ c.in_err-list.ensures)

pub returns-then-len-gt-MAX_MATCHERS-clause-refused :
    goal.returns-then-len-gt-MAX_MATCHERS-clause-refused
returns-then-len-gt-MAX_MATCHERS-clause-refused c = λ _. inr (record {
  list = c.in_ok-list.list.items;
  spelled = words_are_spelled _ _ c.in_ok-list.ensures;
  refused = inl (grind (arith, common_steps), refl);
})

pub matchers_of-requires-clause-named : goal.matchers_of-requires-clause-named
matchers_of-requires-clause-named c = all_named _ _ c.in_ok-list.ensures

pub returns-clause-spelled : goal.returns-clause-spelled
returns-clause-spelled c =
    let spelled = words_are_spelled _ _ c.in_ok-list.ensures in
    grind (arith, common_steps)

pub returns-clause-refused : goal.returns-clause-refused
returns-clause-refused c =
    let words : List (List ℕ) = map (λ word. word.now) c.args.words.now in
    words_refused _ words c.in_ok-list.list.items (words_are_spelled _ _ c.in_ok-list.ensures)
    (grind (arith, common_steps)) c.matchers_of.ensures.refused
