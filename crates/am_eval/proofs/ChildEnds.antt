-- The ends at and below the children of a route, one child after the other.
use Rattle.std.proofs.Common.{◌≡◌, ℕ, List, refl}
use Rattle.std.proofs.Common.{true, false}
use Rattle.am_universe.specs.LabelSet.{LabelMap}
use Rattle.am_labels.specs.Matcher.{all_hold}
use Rattle.am_config.specs.ConfigFile.{RouteTree, routes_of, matchers_of, continues_of}
use Rattle.am_eval.specs.Routing.{children_seen, ends_tried, is_last}

-- the ends at and below the children from a position on
abbrev pub ends_from : LabelMap → ℕ → List RouteTree → List (List ℕ)
ends_from s i ts = ends_tried (children_seen s i (routes_of ts))

pub is_last-true : (s : LabelMap) (t : RouteTree) → all_hold s (matchers_of t) ≡ true
    → continues_of t ≡ false → is_last s t ≡ true
is_last-true s t matched stops = rw (matched, stops) refl

pub is_last-unmatched : (s : LabelMap) (t : RouteTree) → all_hold s (matchers_of t) ≡ false
    → is_last s t ≡ false
is_last-unmatched s t matched = rw matched refl

pub is_last-goes_on : (s : LabelMap) (t : RouteTree) → all_hold s (matchers_of t) ≡ true
    → continues_of t ≡ true → is_last s t ≡ false
is_last-goes_on s t matched goes = rw (matched, goes) refl
