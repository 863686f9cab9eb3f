use Rattle.std.proofs.Common.{◌≡◌, drop, map, nat_eq}
use Rattle.std.specs.List.{find, starts_with}
use Rattle.am_labels.proofs.pattern_profile.first_prefix_len.Given as goal

abbrev pub invariant-loop-word : goal.invariant-loop-word
invariant-loop-word l =
    find (λ word. starts_with nat_eq l.text word) (map (λ w. w.now) (drop l.word-index l.words))
    ≡ find (λ word. starts_with nat_eq l.text word) (map (λ w. w.now) l.words)
