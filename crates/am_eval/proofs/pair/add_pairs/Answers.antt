use Rattle.std.proofs.Common.{◌≡◌, ◌<◌, ℕ, List, [], ◌∷◌, ◌++◌, length, true, false, sym, ap, ◌∙◌}
use Rattle.std.proofs.Common.{append_assoc, arith}
use Rattle.std.proofs.lemmas.List.{length-append}
use Rattle.std.proofs.lemmas.Result.{err_from_is_err_and}
use Rattle.am_universe.proofs.Members.{left_at}
use Rattle.am_labels.specs.Matcher.{all_hold}
use Rattle.am_config.specs.ConfigFile.{Rule}
use Rattle.am_eval.specs.declared.limits.TheConstants.{MAX_PAIRS}
use Rattle.am_eval.specs.declared.pair.Pair.{Pair}
use Rattle.am_eval.specs.Pairs.{pair_of}
use Rattle.am_eval.proofs.pair.add_pairs.Goals as goal
use Rattle.am_eval.proofs.pair.add_pairs.Goals.{in-Some+in_ok-add_pair, in_default}

-- if there are as many pairs as there may be, one more is too many
one_too_many : (found left all : List Pair) (pair : Pair) (n : ℕ) → length found ≡ n
    → found ++ pair ∷ left ≡ all → n < length all
one_too_many found left all pair n full e =
    omega (arith, full, ap length e, length-append found (pair ∷ left))

pub returns-in_err-add_pair-clause-limit : goal.returns-in_err-add_pair-clause-limit
returns-in_err-add_pair-clause-limit c =
    let p = err_from_is_err_and c.from_residual-in_err-add_pair.result
    c.from_residual-in_err-add_pair.ensures.1 in
    let some = rw c.in-Some.is at c.in_ok-pair.ensures.matched in
    let passes : all_hold c.get.result.now c.args.rule.now.source ≡ true =
    ap (all_hold c.get.result.now) (sym c.loop-i.invariant.source) ∙ sym some in
    let here = left_at c.args.alerts.now c.loop-i.i c.get.result.now c.get.ensures.alert in
    rw (p.1, p.2) (λ other.
    let full = c.in_err-add_pair.ensures.limit other in (
      full.0,
      one_too_many c.loop-i.found.items _ _ _ MAX_PAIRS full.1
          (rw (here, passes) at c.loop-i.invariant.together),
    ))

-- what is left is the alert at the position and the alerts after it
pub loop-i-preserved : goal.loop-i-preserved
loop-i-preserved c =
    let rule : ℕ × Rule = (c.args.position, c.args.rule.now) in
    let alert = c.get.result.now in
    let here = left_at c.args.alerts.now c.loop-i.i alert c.get.ensures.alert in
    let kept = c.loop-i.invariant in
    let source = ap (all_hold alert) (sym kept.source) in
    let same = c.in_ok-pair.ensures.same in
    let rule_kept = ap (λ s. s.rule) same ∙ kept.rule in
    let source_kept = ap (λ s. s.source) same ∙ kept.source in
    let target_kept = ap (λ s. s.target) same ∙ kept.target in
    elim c.match-branch-2.branch [
      | in-Some+in_ok-add_pair w ↦
          let passes : all_hold alert rule.1.source ≡ true =
          source ∙ sym (rw w.in-Some.is at c.in_ok-pair.ensures.matched) in
          let pair : w.in-Some.pair ≡ pair_of rule (c.loop-i.i, alert) =
          (rw w.in-Some.is at c.in_ok-pair.ensures.pair) ∙ (λ k. record {
            rule = kept.rule k;
            alert = c.loop-i.i;
            both = all_hold alert (kept.target k);
          }) in
          rw w.found-is (record {
            together = rw (w.in_ok-add_pair.ensures.added, pair)
                (append_assoc c.loop-i.found.items (pair_of rule (c.loop-i.i, alert) ∷ []) _
                ∙ (rw (here, passes) at kept.together));
            few = w.in_ok-add_pair.ensures.few;
            rule = rule_kept;
            source = source_kept;
            target = target_kept;
          })
      | in_default w ↦
          let fails : all_hold alert rule.1.source ≡ false =
          source ∙ sym (rw w.in_default.is at c.in_ok-pair.ensures.matched) in
          rw w.found-is (record {
            together = rw (here, fails) at kept.together;
            few = kept.few;
            rule = rule_kept;
            source = source_kept;
            target = target_kept;
          })
    ]
