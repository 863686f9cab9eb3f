use Rattle.std.proofs.Common.{◌≡◌, ◌≢◌, List, [], map, String, string_bytes, sym, ◌∙◌, subst, refl}
use Rattle.std.proofs.Common.{◌∷◌}
use Rattle.std.specs.declared.alloc.Global.{Global}
use Rattle.am_universe.specs.declared.kind.Kind.TheVariants as kinds
use Rattle.am_universe.specs.Universe.{IsUniverse}
use Rattle.am_universe.specs.UniverseView.{label_of, texts_of}
use Rattle.am_universe.proofs.LabelFaultLemmas.{faults_are_exact}
use Rattle.am_complete.proofs.DeclaredLabels.{full_otherwise}
use Rattle.am_complete.proofs.made_universe.declare.Goals as goal

pub returns-in-Ok-clause-universe : goal.returns-in-Ok-clause-universe
returns-in-Ok-clause-universe c =
    let label = label_of c.in_ok-name.name c.in_ok-values.values in
    subst IsUniverse (sym c.in-Ok.ensures.ok)
    ((faults_are_exact c.args.universe.now label c.requires).0 c.in-Ok.ensures.accepted)

some_bytes : (texts : List (String Global)) → texts ≢ [] → map string_bytes texts ≢ []
some_bytes [] some e = some refl
some_bytes (text ∷ texts) some e = cc

pub returns-in-Err-clause-limit : goal.returns-in-Err-clause-limit
returns-in-Err-clause-limit c = λ limit named fresh some distinct.
    let u = c.args.universe.now in
    let values = texts_of c.in_ok-values.values.items in
    let first = rw c.in_ok-name.ensures.ok at c.in-Err.ensures.first in
    full_otherwise u c.args.name.now values (map string_bytes c.args.texts.now) c.in-Err.fault
    c.requires c.in_ok-values.ensures.texts c.in_ok-values.ensures.values first
    (λ memory.
    let both : kinds.Limit ≡ kinds.Memory =
    sym limit ∙ c.limit_or_memory.ensures.memory memory in cc)
    named fresh (some_bytes c.args.texts.now some) distinct
