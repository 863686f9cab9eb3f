use Rattle.std.proofs.Common.{◌≡◌, take}
use Rattle.am_unseen.specs.UnseenNames.{missing_among}
use Rattle.am_unseen.specs.Search.{texts_of}
use Rattle.am_unseen.proofs.unseen_name.missing_among.Given as goal

-- those of the mentioned names so far that are missing
abbrev pub invariant-loop-mention : goal.invariant-loop-mention
invariant-loop-mention l =
    (l.all_names ≡ texts_of l.names)
    × (l.found.items ≡ missing_among (texts_of l.names) (take l.mention-index l.mentioned))
