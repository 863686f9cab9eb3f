-- What the search finds, matcher by matcher.
use Rattle.std.proofs.Common.{◌≡◌, List, [], ◌∷◌, ◌++◌, fold, sym, ap, ◌∙◌}
use Rattle.std.proofs.Common.{append_assoc, append-nil}
use Rattle.std.specs.List.{flat_map}
use Rattle.am_universe.specs.LabelSet.{LabelMap}
use Rattle.am_labels.specs.Matcher.{Matcher}
use Rattle.am_complete.specs.declared.origin.Origin.{Origin}
use Rattle.am_unseen.specs.Unseen.{UnseenMatcher, unseen_by}
use Rattle.am_unseen.specs.Search.{Search, after_matcher}

abbrev state : List LabelMap → List UnseenMatcher → Search
state known found = record { known = known; found = found }

pub found_after : (known : List LabelMap) (found : List UnseenMatcher)
    (placed : List (Origin × Matcher))
    → fold after_matcher (record { known = known; found = found }) placed
    ≡ record { known = known; found = found ++ flat_map (unseen_by known) placed }
found_after known found [] = ap (state known) (sym (append-nil found))
found_after known found (p ∷ ps) =
    let more = unseen_by known p in
    found_after known (found ++ more) ps
    ∙ ap (state known) (append_assoc found more (flat_map (unseen_by known) ps))
