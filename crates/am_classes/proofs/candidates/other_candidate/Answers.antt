use Rattle.std.proofs.Common.{◌⊎◌, [], inl, string_bytes}
use Rattle.am_classes.specs.ClassTexts.{IsOther}
use Rattle.am_classes.specs.State.{IsNamed}
use Rattle.am_classes.proofs.ExplorationLemmas.{each_more}
use Rattle.am_classes.proofs.CandidateLemmas.{one_candidate}
use Rattle.am_classes.proofs.OverLemmas.{ordinary_over}
use Rattle.am_classes.proofs.candidates.other_candidate.Goals as goal

pub returns-clause-candidates : goal.returns-clause-candidates
returns-clause-candidates c =
    one_candidate c.args.questions.now c.in_ok-vec.field-0.items _ c.in_ok-vec.ensures.items c.requires
    c.new-found.ensures.items c.in_ok-text.ensures.unnamed
    (ordinary_over c.args.questions.now.alphabet c.in_ok-text.text c.in_ok-text.ensures.ordinary)

pub returns-clause-tied : goal.returns-clause-tied
returns-clause-tied c =
    each_more (λ x. IsOther (IsNamed c.args.questions.now) (string_bytes x.text) ⊎ _) [] c.in_ok-vec.field-0.items _
    c.in_ok-vec.ensures.items (λ k x at. absurd cc) (inl c.in_ok-text.ensures.other)
