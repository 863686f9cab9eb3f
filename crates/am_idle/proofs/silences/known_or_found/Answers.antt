-- What is known of a list with the same matchers.
use Rattle.std.proofs.Common.{List}
use Rattle.am_universe.proofs.ListLemmas.{AllByRecursion-at}
use Rattle.am_universe.proofs.Members.{in_at}
use Rattle.am_labels.specs.Matcher.{Matcher}
use Rattle.am_idle.specs.declared.known_extents.Extent.{Extent}
use Rattle.am_idle.specs.KnownExtents.{IsKnown}
use Rattle.am_idle.proofs.silences.known_or_found.Goals as goal

pub returns-in-Some-clause-found : goal.returns-in-Some-clause-found
returns-in-Some-clause-found c =
    let known = c.args.known.now in
    let it : List Matcher × Extent = (c.args.matchers.now, c.in-Some.extent) in
    AllByRecursion-at (IsKnown c.args.alphabet c.args.space.now) known it c.requires.known
    (in_at known c.in-Some.ensures.0 it c.in-Some.ensures.1)
