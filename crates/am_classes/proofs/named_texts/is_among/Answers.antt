use Rattle.std.proofs.Common.{rules, ◌∙◌, sym, map, string_bytes}
use Rattle.std.specs.Str.{bytes_eq}
use borrow.Author.Tests.{tests}
use Rattle.std.proofs.lemmas.Iterator.{YieldsList-from_slice}
use Rattle.std.proofs.lemmas.Iterator.Search.{any_from_yields_List}
use Rattle.am_universe.proofs.UniverseLemmas.{list_any-map}
use Rattle.am_classes.proofs.AskedLemmas.{among_place, among_found}
use Rattle.am_classes.proofs.named_texts.is_among.Goals as goal

pub returns : goal.returns
returns c =
    let found =
    any_from_yields_List (λ t. bytes_eq (string_bytes t) c.args.text.now) _ _ c.any.result c.any.ensures.ran (YieldsList-from_slice c.args.texts.now cc) (λ x b q k. search (rules, tests))
    ∙ sym (list_any-map (λ x. bytes_eq x c.args.text.now) string_bytes c.args.texts.now)
    in (
      λ yes. among_place (map string_bytes c.args.texts.now) c.args.text.now (sym found ∙ yes),
      λ h. found ∙ among_found (map string_bytes c.args.texts.now) c.args.text.now h.0 h.1,
    )
