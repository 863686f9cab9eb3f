use Rattle.std.proofs.Common.{◌≡◌, fold, take}
use Rattle.am_config.specs.RouteView.{names_of}
use Rattle.am_unseen.specs.Search.{mentioned}
use Rattle.am_unseen.specs.UnseenNames.{mentioned_at}
use Rattle.am_unseen.proofs.mentions.add_names.Given as goal

-- what is kept with the mentions of the names so far
abbrev pub invariant-loop-name : goal.invariant-loop-name
invariant-loop-name l =
    l.found ≡ fold mentioned l.initial.found
    (mentioned_at l.origin (names_of (take l.name-index l.names)))
