-- A token is refused with one of two kinds.
use Rattle.std.proofs.Common.{◌≢◌, ◌∙◌, ℕ, List, inl, inr, sym}
use Rattle.am_universe.specs.Universe.{sizes}
use Rattle.am_universe.specs.declared.kind.Kind.{Kind}
use Rattle.am_universe.specs.declared.kind.Kind.TheVariants as kinds
use Rattle.am_search.specs.Token.{RefusesToken}
use Rattle.am_questions.proofs.inputs.read_start.Goals as goal

-- a token is refused with no other kind
not_of : (sizes fingerprint text : List ℕ) (kind other : Kind) → kinds.BadToken ≢ other
    → kinds.OtherInputs ≢ other → RefusesToken sizes fingerprint text kind → kind ≢ other
not_of sizes fingerprint text kind other none others (inl refused) e = none (sym refused.0 ∙ e)
not_of sizes fingerprint text kind other none others (inr refused) e = others (sym refused.0 ∙ e)

pub returns-in-Err-clause-refused : goal.returns-in-Err-clause-refused
returns-in-Err-clause-refused c = λ remembered.
    let text = c.in-Some.token.now in
    let kind = c.in-Err.kind in
    let fingerprint = c.args.fingerprint.now in
    let refuses : RefusesToken (sizes c.args.space.now.labels) fingerprint text kind =
    rw (← c.universe.ensures.labels) c.in-Err.ensures.refused in
    let place = c.at.ensures.place
    (not_of (sizes c.args.space.now.labels) fingerprint text kind kinds.Memory (λ e. cc) (λ e. cc) refuses)
    (not_of (sizes c.args.space.now.labels) fingerprint text kind kinds.Write (λ e. cc) (λ e. cc) refuses) in
    (place, (c.at.ensures.pointer, rw (c.in-Some.is, c.at.ensures.kind) refuses))
