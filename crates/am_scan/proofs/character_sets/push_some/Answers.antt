-- The part is there, or it is empty.
use Rattle.std.proofs.Common.{◌≡◌, ◌∙◌, [], ap, arith, eqb-true, length, sym, subst, Some, slice_get, vec_len}
use Rattle.std.proofs.lemmas.Bool.{false≢true}
use Rattle.std.proofs.lemmas.List.{nil_from_length}
use Rattle.regex_class.specs.Ranges.{in_ranges}
use Rattle.regex_class.proofs.RangesLemmas.{in_ranges-nil}
use Rattle.am_scan.proofs.Places.{get_last}
use Rattle.am_scan.proofs.character_sets.push_some.Goals as goal

pub returns-in_ok-push-clause-has : goal.returns-in_ok-push-clause-has
returns-in_ok-push-clause-has c = λ e yes.
    let old = c.args.parts.now.items in
    (length old, c.args.part, subst (λ xs. slice_get xs (length old) ≡ Some c.args.part) (sym c.in_ok-push.ensures.items) (get_last old c.args.part), yes)

pub returns-else-not-is_empty-clause-has : goal.returns-else-not-is_empty-clause-has
returns-else-not-is_empty-clause-has c = λ e yes.
    let ranges = c.args.part.ranges in
    let none = eqb-true (vec_len ranges) 0 (sym c.is_empty.ensures ∙ c.if-not-is_empty.false) in
    let empty : ranges.items ≡ [] = nil_from_length ranges.items (omega (arith, none, ranges.ok.0)) in
    absurd (false≢true (sym (in_ranges-nil e) ∙ ap (λ rs. in_ranges rs e) (sym empty) ∙ yes))
