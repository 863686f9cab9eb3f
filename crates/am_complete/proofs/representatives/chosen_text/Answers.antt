use Rattle.std.proofs.Common.{◌≡◌, Some, option_map, sym, ap, ◌∙◌, inr}
use Rattle.std.specs.List.{find}
use Rattle.am_universe.proofs.ListLemmas.{Contains-from_IsIn}
use Rattle.am_classes.specs.Truths.{has_same_hits}
use Rattle.am_complete.proofs.LabelTexts.{found}
use Rattle.am_complete.proofs.representatives.chosen_text.Goals as goal

pub returns-in-Some : goal.returns-in-Some
returns-in-Some c =
    let usual = c.args.usual.now in
    let other = c.in-Some.other.now in
    let is : find (has_same_hits c.args.wanted.now) usual ≡ Some other =
    sym c.first_alike.ensures ∙ ap (option_map (λ t. t.now)) c.in-Some.is in
    let r = found (has_same_hits c.args.wanted.now) usual other is in
    inr (other, Contains-from_IsIn usual other r.0, c.as_str.ensures.value, r.1)
