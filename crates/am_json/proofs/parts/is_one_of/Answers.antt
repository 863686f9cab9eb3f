use Rattle.am_universe.specs.Text.{same_text}
use Rattle.am_universe.proofs.UniverseLemmas.{list_any-map}
use Rattle.am_json.proofs.parts.is_one_of.Goals as goal

pub returns : goal.returns
returns c =
    rw (list_any-map (λ name. same_text name c.args.key.now) (λ name. name.now) c.args.names.now)
    c.contains.ensures.value
