-- The first matcher on a label stands in an input.
use Rattle.std.proofs.Common.{inl, inr, refl}
use Rattle.am_universe.proofs.ListLemmas.{IsIn}
use Rattle.am_complete.specs.declared.origin.Origin.{Origin}
use Rattle.am_complete.specs.declared.origin.Origin.TheVariants as origin_is
use Rattle.am_asked.specs.OriginPointer.{origin_place, matcher_places}

pub origin_in : (o : Origin) → IsIn matcher_places (origin_place o)
origin_in (origin_is.Route path) = inr (inl refl)
origin_in (origin_is.Rule position) = inr (inl refl)
origin_in (origin_is.Silence position) = inr (inr (inr (inr (inl refl))))
origin_in (origin_is.Question position) = inr (inr (inr (inr (inr (inl refl)))))
origin_in (origin_is.Impossible position) = inl refl
