-- What is made for the labels that the lists ask about, and what is refused for them.
use Rattle.std.proofs.Common.{◌≡◌, List, map, inl, subst}
use Rattle.am_labels.specs.Matcher.{Matcher}
use Rattle.am_labels.specs.Space.{Space}
use Rattle.am_complete.specs.AskedLabel.{IsAskedOf}
use Rattle.am_complete.specs.Complete.{impossible_matchers}
use Rattle.am_complete.specs.declared.allowed_names.AllowedNames.TheVariants as allowed_are
use Rattle.am_complete.specs.Room.{HaveNoRoom}
use Rattle.am_complete.proofs.AmongMatchers.{last_among}
use Rattle.am_asked.proofs.Undeclared.{undeclared_is}
use Rattle.am_every_alert.specs.Deciding.{deciding_matchers}
use Rattle.am_idle.specs.Lists.{listed_matchers, labels_of_lists}
use Rattle.am_idle.proofs.lists.universe_for_lists.Goals as goal
use Rattle.am_idle.proofs.lists.universe_for_lists.Goals.{After-as_slice}

abbrev lists_of : After-as_slice → List (List Matcher)
lists_of c = map (λ list. list.now) c.args.lists.now

is_asked : (c : After-as_slice) → IsAskedOf c.as_slice.result.now
    (deciding_matchers c.args.space.now (listed_matchers (lists_of c)))
is_asked c = rw (c.as_slice.ensures.value, ← c.impossible.ensures.lists) c.in_ok-asked.ensures.asked

are_asked : (c : After-as_slice) → c.as_slice.result.now
    ≡ labels_of_lists c.args.space.now (lists_of c)
are_asked c =
    rw (c.as_slice.ensures.value, ← c.impossible.ensures.lists) c.in_ok-asked.ensures.labels

pub universe_for-requires : goal.universe_for-requires
universe_for-requires c =
    let at = (goal.at.universe_for-requires c).After-as_slice in
    let listed = listed_matchers (lists_of at) in (
      deciding_matchers c.args.space.now listed,
      is_asked at,
      last_among listed (impossible_matchers c.args.space.now.impossible),
    )

pub returns-clause-refused : goal.returns-clause-refused
returns-clause-refused c = λ remembered.
    let s = c.args.space.now in
    let asked = are_asked (goal.at.returns-clause-refused c).After-as_slice in
    let full = rw asked at (c.in-Err.ensures.refused remembered) in
    let labels = labels_of_lists s (lists_of (goal.at.returns-clause-refused c).After-as_slice) in
    inl (
      λ i. (full.2 i).kind,
      subst (λ (t : Space). HaveNoRoom c.args.alphabet allowed_are.Any t labels) (undeclared_is s c.requires) full.1,
    )
