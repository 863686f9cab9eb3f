-- The example counts, and the list does not match it.
use Rattle.std.proofs.Common.{not, sym, ap, ◌∙◌}
use Rattle.std.specs.List.{list_any}
use Rattle.std.proofs.lemmas.Bool.{not-true}
use Rattle.am_labels.specs.Matcher.{all_hold}
use Rattle.am_idle.proofs.named_alerts.misses_example.Goals as goal

pub returns : goal.returns
returns c = λ misses.
    let example = c.in_ok-example.example in
    let possible =
    ap not (ap (list_any (all_hold example)) (sym c.impossible.ensures.lists)
    ∙ sym c.in_ok-matches_any_list.ensures ∙ c.if-branch.false) in (
      example,
      ((c.in_ok-example.ensures.alert, possible), c.in_ok-example.ensures.named),
      sym c.in_ok-matches.ensures.matched ∙ not-true c.in_ok-matches.field-0 misses,
    )
