-- The map in memory has the same text as the view. If it has none, the value is empty.
use Rattle.std.proofs.Common.{Some, None, ap, sym, ◌∙◌}
use Rattle.std.specs.Option.{option_copied}
use Rattle.am_universe.specs.LabelSet.{value_of}
use Rattle.am_universe.proofs.LabelMapLemmas.{value_kept}
use Rattle.am_universe.proofs.label_set.LabelSet.get.Goals as goal

pub returns-in-Some : goal.returns-in-Some
returns-in-Some c = record {
  value =
      let found = sym (ap option_copied c.in-Some.is) ∙ c.get.ensures.value in
      c.as_str.ensures.value ∙ value_kept c.self.inside.values c.args.name.now (Some c.in-Some.value.now) found ∙ ap (λ s. value_of s c.args.name.now) c.self.view_is;
}

pub returns-in-None : goal.returns-in-None
returns-in-None c = record {
  value =
      let found = sym (ap option_copied c.in-None.is) ∙ c.get.ensures.value in
      value_kept c.self.inside.values c.args.name.now None found ∙ ap (λ s. value_of s c.args.name.now) c.self.view_is;
}
