use Rattle.std.proofs.Common.{rules, ◌≡◌, ◌≢◌}
use borrow.Author.Tests.{tests}
use Rattle.std.proofs.lemmas.Iterator.{IsFirst-from_position, YieldsList-from_slice}
use Rattle.am_universe.proofs.UniverseLemmas.{found_name, no_name}
use Rattle.am_universe.proofs.universe.Universe.position.Goals as goal

pub returns-clause-found : goal.returns-clause-found
returns-clause-found c =
    found_name c.args.self.now c.args.name.now c.position.result
    (IsFirst-from_position _ _ _ (λ l. l.name ≡ c.args.name.now) (λ l. l.name ≢ c.args.name.now) c.position.ensures.ran (YieldsList-from_slice c.args.self.now cc) (λ x q k. search (rules, tests)) (λ x q k. search (rules, tests)))

pub returns-clause-none : goal.returns-clause-none
returns-clause-none c =
    no_name c.args.self.now c.args.name.now c.position.result
    (IsFirst-from_position _ _ _ (λ l. l.name ≡ c.args.name.now) (λ l. l.name ≢ c.args.name.now) c.position.ensures.ran (YieldsList-from_slice c.args.self.now cc) (λ x q k. search (rules, tests)) (λ x q k. search (rules, tests)))
