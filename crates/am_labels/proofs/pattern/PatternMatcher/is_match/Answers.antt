-- What is compiled searches for the pattern, and wildcards mean the same to the grammar.
use Rattle.std.proofs.Common.{◌<◌, ◌∙◌, sym}
use Rattle.std.proofs.lemmas.List.Elements.{All-from_get_or}
use Rattle.am_labels.specs.Pattern.{finds}
use Rattle.am_labels.proofs.WildcardMatches.{finds_wildcards}
use Rattle.am_labels.proofs.pattern.PatternMatcher.is_match.Goals as goal

pub returns-in-Some-clause-found : goal.returns-in-Some-clause-found
returns-in-Some-clause-found c =
    let text = c.args.text.now in
    let bytes = All-from_get_or (λ b. b < 256) text 0 (λ i _. (c.type_inv.text i).fits) in
    let found = rw c.in-Some.is at c.self.invariant in
    c.is_match.ensures.found ∙ found text bytes ∙ (λ i. finds (c.self.view_is i) text)

pub returns-clause-found : goal.returns-clause-found
returns-clause-found c =
    let text = c.args.text.now in
    let is = rw c.in_default.is at c.self.invariant in
    c.wildcards_find.ensures ∙ sym (finds_wildcards _ text is c.utf8.text)
    ∙ (λ i. finds (c.self.view_is i) text)
