use Rattle.std.proofs.Common.{List, ℕ, map, string_bytes}
use Rattle.std.proofs.lemmas.Result.{IfOk-weaker}
use Rattle.am_scan.specs.Characters.{CannotTell}
use Rattle.am_scan.proofs.CharacterLemmas.{all_map}
use Rattle.am_classes.proofs.EnoughLemmas.{all_bytes, enough, tell_narrowed}
use Rattle.am_classes.proofs.enough_bytes.representative_bytes.Goals as goal

pub returns-then-not-branch : goal.returns-then-not-branch
returns-then-not-branch c = all_bytes _ _ c.full.result c.full.ensures

pub returns : goal.returns
returns c =
    let old = c.add_patterns.new.sets in
    let new = c.add_texts.new.sets in
    let patterns : List (List ℕ) = map (λ p. p.now) c.args.patterns.now in
    let tell = all_map (CannotTell old) (CannotTell new) patterns (tell_narrowed old new c.add_texts.ensures.narrows)
    (c.in_ok-add_patterns.ensures c.if-not-branch.false) in
    IfOk-weaker c.representative_bytes.result _ _
    (λ bytes have. enough new bytes have (map string_bytes c.args.texts.now) patterns
    c.in_ok-add_texts.ensures.alone tell)
    c.representative_bytes.ensures
