use Rattle.std.proofs.Common.{◌≡◌, ◌≢◌, ◌<◌, ℕ, ◌+◌, List, ◌∷◌, [], ◌++◌, length, Bool, true, false, ◌&&◌, nat_lt, if◌then◌else◌, inl, inr, sym, ap, ◌∙◌, arith, set}
use Rattle.std.specs.Global.{Vec}
use Rattle.std.proofs.lemmas.Bool.{cases_eq}
use Rattle.std.proofs.lemmas.Bool.Decides.{nat_tests}
use Rattle.std.proofs.lemmas.Grind.{common_steps}
use Rattle.std.proofs.lemmas.List.{map-set, set-get_or, get_or-map}
use Rattle.am_alerts.specs.AlertLabels.{flag}
use Rattle.am_alerts.specs.AlertLists.{list_at}
use Rattle.am_alerts.proofs.alert_lists.push_where.Goals as goal
use Rattle.am_alerts.proofs.alert_lists.push_where.Goals.{then-among-i+in_ok-push, else-among-i}

-- one more list was looked at
one_more : {X : Type 0} (x : X) (among : List Bool) (i k : ℕ) (b : Bool)
    (old before after : List X) → flag among i ≡ b
    → before ≡ (if nat_lt k i && flag among k then old ++ x ∷ [] else old)
    → ((k ≡ i) → after ≡ (if b then before ++ x ∷ [] else before))
    → ((k ≢ i) → after ≡ before)
    → after ≡ (if nat_lt k (i + 1) && flag among k then old ++ x ∷ [] else old)
one_more x among i k b old before after e was same other = elim (cases_eq k i) [
  | inl at ↦
      let here : flag among k ≡ b = ap (flag among) at ∙ e in
      let now : after ≡ (if b then before ++ x ∷ [] else before) = same at in
      grind (arith, nat_tests)
  | inr apart ↦ let now : after ≡ before = other apart in grind (arith, nat_tests)
]

at_same : {X : Type 0} (lists : List (Vec X)) (i k : ℕ) (v : Vec X) → i < length lists → k ≡ i
    → list_at (set lists i v) k ≡ v.items
at_same lists i k v lt at = grind (arith, common_steps, map-set)

at_other : {X : Type 0} (lists : List (Vec X)) (i k : ℕ) (v : Vec X) → k ≢ i
    → list_at (set lists i v) k ≡ list_at lists k
at_other lists i k v apart = grind (arith, common_steps, map-set)

pub loop-i-preserved : goal.loop-i-preserved
loop-i-preserved g c =
    let lists = c.loop-i.lists in
    let i = c.loop-i.i in
    let among = c.args.among.now in
    let lt : i < length lists = omega (arith, c.loop-i-test.true, c.loop-i.auto.lists) in
    elim c.if-among-i.branch [
      | then-among-i+in_ok-push w ↦ λ k.
          let pushed = w.push.new.self in
          one_more c.args.item among i k true (list_at c.args.lists.now k) (list_at lists k) _
          w.if-among-i.true (c.loop-i.invariant k)
          (λ at. ap (λ ls. list_at ls k) w.lists-is ∙ at_same lists i k pushed lt at
          ∙ w.in_ok-push.ensures.items
          ∙ ap (λ xs. xs ++ c.args.item ∷ [])
          (sym (ap (list_at lists) at ∙ get_or-map (λ v. v.items) lists i c.index-lists-i.result [] lt)))
          (λ apart. ap (λ ls. list_at ls k) w.lists-is ∙ at_other lists i k pushed apart)
      | else-among-i w ↦ λ k.
          let same : list_at c.if-among-i.lists k ≡ list_at lists k =
          ap (λ ls. list_at ls k) (w.lists-is ∙ set-get_or lists i c.index-lists-i.result) in
          one_more c.args.item among i k false (list_at c.args.lists.now k) (list_at lists k) _
          w.if-among-i.false (c.loop-i.invariant k) (λ at. same) (λ apart. same)
    ]
