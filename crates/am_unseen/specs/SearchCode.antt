-- The code of a search: a tree of numbers, by which proofs tell searches apart.
use Rattle.std.proofs.Common.{ℕ, List, Option, refl}
use Rattle.std.specs.Coded.{Coded, code_by, coded×, coded_ℕ, coded_list, coded_option}
use Rattle.am_universe.specs.LabelSet.{LabelMap}
use Rattle.am_labels.specs.Matcher.{Matcher}
use Rattle.am_labels.specs.contracts.matcher.Matcher as matcher
use Rattle.am_list_files.specs.contracts.alert.Alerts as alerts
use Rattle.am_complete.specs.declared.origin.Origin.{Origin}
use Rattle.am_complete.specs.contracts.origin.Origin as origin
use Rattle.am_unseen.specs.Unseen.{UnseenMatcher}
use Rattle.am_unseen.specs.Search.{Search}

-- The code of an unseen matcher, which is that of its parts.
abbrev coded_unseen_matcher : Coded UnseenMatcher
coded_unseen_matcher =
    code_by (Origin × (Matcher × Option (List ℕ)))
    (coded× origin.the_row.coded
    (coded× matcher.the_row.coded (coded_option (coded_list coded_ℕ))))
    (λ u. (u.origin, (u.matcher, u.similar)))
    (λ p. record { origin = p.0; matcher = p.1.0; similar = p.1.1 })
    (λ _. refl)

-- The code of a search, which is that of its parts.
abbrev pub coded_search : Coded Search
coded_search =
    code_by (List LabelMap × List UnseenMatcher)
    (coded× alerts.the_row.coded (coded_list coded_unseen_matcher))
    (λ s. (s.known, s.found)) (λ p. record { known = p.0; found = p.1 }) (λ _. refl)
