use Rattle.std.proofs.Common.{◌≡◌, ◌≤◌, Contains, List, ℕ, [], true, false, length, map}
use Rattle.std.proofs.Common.{string_bytes, sym, ap, ◌∙◌, subst, inl, inr}
use Rattle.std.specs.List.{AllByRecursion}
use Rattle.std.specs.Option.{option_map_or}
use Rattle.am_universe.proofs.ListLemmas.{IsIn-map, AllByRecursion-at, Contains-from_IsIn}
use Rattle.am_universe.proofs.Members.{in_at}
use Rattle.am_labels.specs.Matcher.{takes_pattern}
use Rattle.am_classes.specs.Alphabet.{IsOver, AreOver}
use Rattle.am_complete.specs.Representatives.{IsRepresentative, IsUsual}
use Rattle.am_complete.proofs.LabelStates.{stands_at}
use Rattle.am_complete.proofs.RepresentativeTexts.{all_gained, named_represents, word_represents}
use Rattle.am_complete.proofs.RepresentativeTexts.{absence_represents}
use Rattle.am_complete.proofs.found_texts.texts_to_try.Goals as goal
use Rattle.am_complete.proofs.found_texts.texts_to_try.Goals.{then-not-takes_pattern+in_ok-push_new}
use Rattle.am_complete.proofs.found_texts.texts_to_try.Goals.{else-not-takes_pattern}
use Rattle.am_complete.proofs.found_texts.texts_to_try.Goals.{then-takes_pattern+in_ok-push_words}
use Rattle.am_complete.proofs.found_texts.texts_to_try.Goals.{else-takes_pattern}

pub loop-matcher-preserved : goal.loop-matcher-preserved
loop-matcher-preserved c =
    let a = c.args.alphabet in
    let alerts = option_map_or (λ x. x.now) c.args.alerts [] in
    let label = c.args.label.now in
    let So : List ℕ → Type 0 = IsRepresentative true a alerts label.name label.matchers in
    let old = map string_bytes c.loop-matcher.texts.items in
    let matchers = c.matchers-matcher-items.result.now in
    let i = c.loop-matcher.matcher-index in
    let m = c.matcher-item.result in
    let there = subst (λ ns. Contains ns m.now) c.matchers-matcher-items.ensures.matchers
    (Contains-from_IsIn (map (λ x. x.now) matchers) m.now (IsIn-map (λ x. x.now) matchers m
    (in_at matchers i m (stands_at matchers i m c.loop-matcher-test.true c.matcher-item.is)))) in
    elim c.if-not-takes_pattern.branch [
      | then-not-takes_pattern+in_ok-push_new w ↦
          let text : takes_pattern m.now.op ≡ false =
          ap takes_pattern (sym c.op.ensures.op) ∙ sym c.takes_pattern.ensures.takes_pattern
          ∙ w.if-not-takes_pattern.true in
          let new = map string_bytes w.push_new.new.texts.items in
          record {
            over = subst (λ v. AreOver a (map string_bytes v.items)) (sym w.texts-is)
                (all_gained (IsOver a) _ old new c.loop-matcher.invariant.over (λ x more. more.0)
                w.push_new.ensures);
            so = subst (λ v. AllByRecursion So (map string_bytes v.items)) (sym w.texts-is)
                (all_gained So _ old new c.loop-matcher.invariant.so
                (λ x more. named_represents a alerts label.name label.matchers m.now there x text
                (more.1 ∙ w.value.ensures.value)) w.push_new.ensures);
          }
      | else-not-takes_pattern w ↦
          record {
            over = subst (λ v. AreOver a (map string_bytes v.items)) (sym w.texts-is)
                c.loop-matcher.invariant.over;
            so = subst (λ v. AllByRecursion So (map string_bytes v.items)) (sym w.texts-is)
                c.loop-matcher.invariant.so;
          }
    ]

pub loop-text-init : goal.loop-text-init
loop-text-init c =
    let a = c.args.alphabet in
    let alerts = option_map_or (λ x. x.now) c.args.alerts [] in
    let label = c.args.label.now in
    let old = map string_bytes c.loop-matcher.texts.items in
    let new = map string_bytes c.push_new-2.new.texts.items in
    record {
      over = all_gained (IsOver a) _ old new c.loop-matcher.invariant.over (λ x more. more.0)
          c.push_new-2.ensures;
      so = all_gained (IsRepresentative true a alerts label.name label.matchers) _ old new
          c.loop-matcher.invariant.so
          (λ x more. absence_represents a alerts label.name label.matchers x more.1)
          c.push_new-2.ensures;
    }

pub loop-text-preserved : goal.loop-text-preserved
loop-text-preserved c =
    let a = c.args.alphabet in
    let alerts = option_map_or (λ x. x.now) c.args.alerts [] in
    let label = c.args.label.now in
    let old = map string_bytes c.loop-text.texts.items in
    let new = map string_bytes c.push_new-in-loop-text.new.texts.items in
    let usual = c.deref-text-items.result.now in
    let i = c.loop-text.text-index in
    let text = c.text-item.result in
    let So : List ℕ → Type 0 = IsUsual alerts label.name in
    let all = subst (λ ts. AllByRecursion So (map string_bytes ts))
    (sym c.deref-text-items.ensures.value)
    (subst (λ n. AllByRecursion (IsUsual alerts n) (map string_bytes c.in_ok-usual.usual.items))
    c.name.ensures.name c.in_ok-usual.ensures.usual) in
    let here : So (string_bytes text) =
    AllByRecursion-at So (map string_bytes usual) (string_bytes text) all
    (IsIn-map string_bytes usual text (in_at usual i text
    (stands_at usual i text c.loop-text-test.true c.text-item.is))) in
    record {
      over = all_gained (IsOver a) _ old new c.loop-text.invariant.over (λ x more. more.0)
          c.push_new-in-loop-text.ensures;
      so = all_gained (IsRepresentative true a alerts label.name label.matchers) _ old new
          c.loop-text.invariant.so
          (λ x more. inr (inl (subst So (sym (more.1 ∙ c.as_str.ensures.value)) here)))
          c.push_new-in-loop-text.ensures;
    }

pub loop-matcher-2-preserved : goal.loop-matcher-2-preserved
loop-matcher-2-preserved c =
    let a = c.args.alphabet in
    let alerts = option_map_or (λ x. x.now) c.args.alerts [] in
    let label = c.args.label.now in
    let So : List ℕ → Type 0 = IsRepresentative true a alerts label.name label.matchers in
    let old = map string_bytes c.loop-matcher-2.texts.items in
    let matchers = c.matchers-matcher-items-2.result.now in
    let i = c.loop-matcher-2.matcher-index in
    let m = c.matcher-item-in-loop-matcher-2.result in
    let there = subst (λ ns. Contains ns m.now) c.matchers-matcher-items-2.ensures.matchers
    (Contains-from_IsIn (map (λ x. x.now) matchers) m.now (IsIn-map (λ x. x.now) matchers m
    (in_at matchers i m (stands_at matchers i m c.loop-matcher-2-test.true
    c.matcher-item-in-loop-matcher-2.is)))) in
    elim c.if-takes_pattern.branch [
      | then-takes_pattern+in_ok-push_words w ↦
          let pattern : takes_pattern m.now.op ≡ true =
          ap takes_pattern (sym c.op-in-loop-matcher-2.ensures.op)
          ∙ sym c.takes_pattern-in-loop-matcher-2.ensures.takes_pattern
          ∙ w.if-takes_pattern.true in
          let new = map string_bytes w.push_words.new.texts.items in
          record {
            over = subst (λ v. AreOver a (map string_bytes v.items)) (sym w.texts-is)
                (all_gained (IsOver a) _ old new c.loop-matcher-2.invariant.over (λ x more. more.0)
                w.push_words.ensures);
            so = subst (λ v. AllByRecursion So (map string_bytes v.items)) (sym w.texts-is)
                (all_gained So _ old new c.loop-matcher-2.invariant.so
                (λ x more. word_represents a alerts label.name label.matchers m.now there x pattern
                (subst (λ v. length x ≤ length v) w.value-then-takes_pattern.ensures.value more.1))
                w.push_words.ensures);
          }
      | else-takes_pattern w ↦
          record {
            over = subst (λ v. AreOver a (map string_bytes v.items)) (sym w.texts-is)
                c.loop-matcher-2.invariant.over;
            so = subst (λ v. AllByRecursion So (map string_bytes v.items)) (sym w.texts-is)
                c.loop-matcher-2.invariant.so;
          }
    ]
