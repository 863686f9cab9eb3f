use Rattle.std.proofs.Common.{◌≡◌, List, ◌++◌, subst, sym}
use Rattle.am_labels.specs.Matcher.{Matcher}
use Rattle.am_labels.specs.Space.{Space}
use Rattle.am_config.specs.ConfigView.{config_view}
use Rattle.am_asked.specs.Asked.{route_matchers}
use Rattle.am_complete.specs.Complete.{impossible_matchers}
use Rattle.am_complete.specs.AskedLabel.{AskedLabel, IsAskedOf}
use Rattle.am_complete.proofs.AmongMatchers.{last_among}
use Rattle.am_notes.proofs.universes.states_by_routes.Goals as goal

-- the labels are those that the routes and the impossible lists ask about
asked_as : (routes : List Matcher) (s : Space) (asked items : List AskedLabel)
    (lists : List (List Matcher)) → asked ≡ items → lists ≡ s.impossible
    → IsAskedOf items (routes ++ impossible_matchers lists)
    → IsAskedOf asked (routes ++ impossible_matchers s.impossible)
asked_as routes s asked items lists are same of =
    subst (λ (a : List AskedLabel). IsAskedOf a (routes ++ impossible_matchers s.impossible))
    (sym are)
    (subst
    (λ (l : List (List Matcher)). IsAskedOf items (routes ++ impossible_matchers l))
    same of)

pub label_states-requires : goal.label_states-requires
label_states-requires c =
    let s = c.args.space.now in
    let routes = route_matchers (config_view c.args.config.now).root in (
      routes ++ impossible_matchers s.impossible,
      asked_as routes s c.as_slice.result.now c.in_ok-asked.asked.items c.impossible.result.now
          c.as_slice.ensures.value c.impossible.ensures.lists c.in_ok-asked.ensures.asked,
      last_among routes (impossible_matchers s.impossible),
    )
