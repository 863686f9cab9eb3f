use Rattle.std.proofs.Common.{Bool, List, ℕ, sym, ◌∙◌, rules, tests}
use Rattle.std.specs.Prelude.{string_bytes}
use Rattle.std.proofs.lemmas.Iterator.{YieldsList-from_slice}
use Rattle.std.proofs.lemmas.Iterator.Search.{all_from_yields_List}
use Rattle.std.proofs.lemmas.List.Folds.{list_all-map}
use Rattle.am_universe.specs.LabelSet.{LabelMap, value_of}
use Rattle.am_universe.specs.Text.{same_text}
use Rattle.am_eval.proofs.inhibition.have_equal.Goals as goal

abbrev same_value : LabelMap → LabelMap → List ℕ → Bool
same_value a s name = same_text (value_of a name) (value_of s name)

pub returns : goal.returns
returns c =
    all_from_yields_List
    (λ name. same_value c.args.alert.now c.args.set.now (string_bytes name)) _ _ c.all.result
    c.all.ensures.ran (YieldsList-from_slice c.args.names.now cc)
    (λ x b q k. search (rules, tests))
    ∙ sym (list_all-map (same_value c.args.alert.now c.args.set.now) string_bytes c.args.names.now)
