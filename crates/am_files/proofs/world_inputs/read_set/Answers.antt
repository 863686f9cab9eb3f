-- A fault of the words is at the place `Set`.
use Rattle.std.proofs.Common.{arith, ◌≢◌, ◌∙◌, ℕ, List, map, sym, subst}
use Rattle.am_universe.specs.declared.kind.Kind.{Kind}
use Rattle.am_universe.specs.declared.kind.Kind.TheVariants as kinds
use Rattle.am_labels.specs.ParsedLabelSet.{SetWordsRefusedFor}
use Rattle.am_files.proofs.world_inputs.read_set.Goals as goal

pub returns-in-Err-clause-refused : goal.returns-in-Err-clause-refused
returns-in-Err-clause-refused c = λ remembered.
    let given : c.in-Err.kind ≢ kinds.Memory = λ e. remembered (c.at.ensures.kind ∙ e) in
    let words : List (List ℕ) = map (λ word. word.now) c.args.words.now in
    let told = c.in-Err.ensures.refused given in
    let refused = subst (λ (k : Kind). SetWordsRefusedFor words k) (sym c.at.ensures.kind) told in
    let unwritten : c.in-Err.kind ≢ kinds.Write = grind (arith, told) in
    (c.at.ensures.place given unwritten, (refused, c.at.ensures.pointer))
