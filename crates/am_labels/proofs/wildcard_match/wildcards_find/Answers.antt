use Rattle.std.proofs.Common.{rules, tests, lit<}
use Rattle.std.proofs.lemmas.Iterator.Search.{any_from_yields_List}
use Rattle.std.proofs.lemmas.Iterator.Splits.{YieldsList-from_str_split}
use Rattle.am_labels.specs.Wildcards.{matches, pieces_of}
use Rattle.am_labels.proofs.wildcard_match.wildcards_find.Goals as goal

pub returns : goal.returns
returns c =
    any_from_yields_List (λ a. matches (pieces_of a) c.args.text.now) _ _ c.any.result
    c.any.ensures.ran
    (YieldsList-from_str_split 124 c.args.pattern.now (lit< tt) c.split.ensures.text
    c.split.ensures.has_more c.split.ensures.pattern) (λ x b q k. search (rules, tests))
