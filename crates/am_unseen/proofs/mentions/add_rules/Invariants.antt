use Rattle.std.proofs.Common.{◌≡◌, fold, drop}
use Rattle.std.specs.List.{flat_map, enumerate_from}
use Rattle.am_unseen.specs.Search.{mentioned}
use Rattle.am_unseen.specs.UnseenNames.{mentioned_in_rule, mentioned_in_rules}
use Rattle.am_unseen.proofs.mentions.add_rules.Given as goal

-- what is kept so far, with the mentions of the rules that are left, is what is kept with those of
-- all rules
abbrev pub invariant-loop-i : goal.invariant-loop-i
invariant-loop-i l =
    fold mentioned l.found (flat_map mentioned_in_rule (enumerate_from l.i (drop l.i l.rules)))
    ≡ fold mentioned l.initial.found (mentioned_in_rules l.rules)
