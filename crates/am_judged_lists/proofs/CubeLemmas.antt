-- The verdict of a cube at a prefix, and its verdicts at the completions of the prefix.
use Rattle.std.proofs.Common.{◌≡◌, ◌≢◌, ℕ, ◌<◌, ◌≤◌, Bool, true, false, not, cond, ◌||◌, ◌==◌, List, [], ◌∷◌, length, get_or, refl, ap, sym, ◌∙◌, subst, inl, inr, arith}
use Rattle.std.specs.List.{list_all, AllByRecursion}
use Rattle.std.proofs.lemmas.Bool.{cases_Bool, cases_lt, eq-eqb, ne_eqb, lt-ltb, le-ltb, ltb-true, ltb-false, eqb-true, cond_both, false_from_ne_true, or_right}
use Rattle.am_universe.specs.Choice.{admits}
use Rattle.am_universe.specs.Completions.{completions}
use Rattle.am_universe.proofs.ListLemmas.{IsIn, AllByRecursion-at, AllByRecursion-each}
use Rattle.am_judged_lists.specs.declared.cube.LabelMask.{LabelMask}
use Rattle.am_judged_lists.specs.Verdicts.{verdict_over}
use Rattle.am_judged_lists.specs.Cube.{reaches, permits_at, may_at, verdict_at}
use Rattle.am_judged_lists.specs.CubeView.{AscendByLabel}
use Rattle.am_judged_lists.proofs.ListLemmas.{each_both, each_map, each_passes, all_pass, one_fails, not_all, some_passes, none_passes}
use Rattle.am_search.proofs.PrefixOrder.{begins_at, begins_length}
use Rattle.am_search.proofs.Walks.{completion_whole}
use Rattle.am_judged_lists.proofs.Completed.{begins, IsBelow, completed, completed_in, completed_at}
use Rattle.am_judged_lists.proofs.VerdictLemmas.{verdict_yes, verdict_open, verdict_no}

-- ---- One mask.

-- a prefix has no position that a mask forbids
abbrev pub fits : List ℕ → LabelMask → Bool
fits prefix m = not (reaches prefix m) || permits_at prefix m

pub fits_from : (prefix : List ℕ) (m : LabelMask) → (m.label < length prefix → permits_at prefix m ≡ true) → fits prefix m ≡ true
fits_from prefix m h = elim (cases_lt m.label (length prefix)) [
  | inl within ↦ or_right (not (reaches prefix m)) (permits_at prefix m) (h within)
  | inr past ↦ ap (λ b. not b || permits_at prefix m) (le-ltb m.label (length prefix) past)
]

pub fits_at : (prefix : List ℕ) (m : LabelMask) → m.label < length prefix → fits prefix m ≡ permits_at prefix m
fits_at prefix m h = ap (λ b. not b || permits_at prefix m) (lt-ltb m.label (length prefix) h)

-- a mask that fits a choice fits its prefixes, and the reverse if the prefix has the position
pub fits_prefix : (c prefix : List ℕ) (m : LabelMask) → begins c prefix ≡ true → fits c m ≡ true → fits prefix m ≡ true
fits_prefix c prefix m b e = fits_from prefix m (λ h.
    let long = begins_length prefix c b in
    let within : m.label < length c = omega (arith, h) in
    ap (λ p. get_or m.mask p false) (sym (begins_at c prefix m.label b h)) ∙ sym (fits_at c m within) ∙ e)

pub fits_again : (c prefix : List ℕ) (m : LabelMask) → begins c prefix ≡ true → m.label < length prefix → fits prefix m ≡ true → fits c m ≡ true
fits_again c prefix m b h e = fits_from c m (λ within.
    ap (λ p. get_or m.mask p false) (begins_at c prefix m.label b h) ∙ sym (fits_at prefix m h) ∙ e)

-- ---- Masks that are neither empty nor full.

-- a mask permits some positions of its label, but not all
pub record IsProper (ns : List ℕ) (m : LabelMask) : Type 0 where
  pub within : m.label < length ns
  pub some : (j : ℕ) × (j < get_or ns m.label 0) × (get_or m.mask j false ≡ true)
  pub not_each : (j : ℕ) × (j < get_or ns m.label 0) × (get_or m.mask j false ≡ false)

-- each label has a value
abbrev pub HaveValues : List ℕ → Type 0
HaveValues ns = (i : ℕ) → i < length ns → 0 < get_or ns i 0

-- a position for each label that the label's mask permits
pub record Permitted (ns : List ℕ) (masks : List LabelMask) : Type 0 where
  pub position : ℕ → ℕ
  pub below : IsBelow position ns
  pub each : AllByRecursion (λ m. get_or m.mask (position m.label) false ≡ true) masks

-- the same positions, except at one label
abbrev pub but_at : (ℕ → ℕ) → ℕ → ℕ → ℕ → ℕ
but_at f label j i = cond (i == label) j (f i)

but_at_below : (ns : List ℕ) (f : ℕ → ℕ) (label j : ℕ) → IsBelow f ns → j < get_or ns label 0 → IsBelow (but_at f label j) ns
but_at_below ns f label j below h i within =
    cond_both (i == label) j (f i) (λ p. p < get_or ns i 0)
    (λ e. subst (λ k. j < get_or ns k 0) (sym (eqb-true i label e)) h) (λ e. below i within)

but_at_same : (f : ℕ → ℕ) (label j : ℕ) → but_at f label j label ≡ j
but_at_same f label j = rw (eq-eqb label label refl) refl

but_at_other : (f : ℕ → ℕ) (label j i : ℕ) → i ≢ label → but_at f label j i ≡ f i
but_at_other f label j i other = rw (ne_eqb i label other) refl

pub permitted : (ns : List ℕ) (masks : List LabelMask) → HaveValues ns → AscendByLabel masks → AllByRecursion (IsProper ns) masks → Permitted ns masks
permitted ns [] values ascend proper = record { position = λ i. 0; below = values; each = tt }
permitted ns (m ∷ masks) values ascend proper =
    let r = permitted ns masks values ascend.1 proper.1 in
    let j = proper.0.some in
    record {
      position = but_at r.position m.label j.0;
      below = but_at_below ns r.position m.label j.0 r.below j.1;
      each = (
        ap (λ p. get_or m.mask p false) (but_at_same r.position m.label j.0) ∙ j.2,
        each_both (λ n. m.label < n.label) (λ n. get_or n.mask (r.position n.label) false ≡ true)
            (λ n. get_or n.mask (but_at r.position m.label j.0 n.label) false ≡ true) masks
            (λ n above e. ap (λ p. get_or n.mask p false) (but_at_other r.position m.label j.0 n.label (λ same. omega (arith, above, same))) ∙ e)
            ascend.0 r.each,
      );
    }

-- ---- The masks of a prefix, and its completions.

module _ (ns prefix : List ℕ) (masks : List LabelMask) (values : HaveValues ns) (admitted : admits ns prefix ≡ true) where
  -- if the masks fit the prefix, they fit some completion
  pub some_fits : AscendByLabel masks → AllByRecursion (IsProper ns) masks → list_all (fits prefix) masks ≡ true
      → (c : List ℕ) × IsIn (completions ns prefix) c × (list_all (fits c) masks ≡ true)
  some_fits ascend proper e =
      let r = permitted ns masks values ascend proper in
      let c = completed r.position ns prefix in
      let i = completed_in r.position ns prefix admitted r.below in
      let b = (completion_whole ns prefix c i).1 in
      let here = each_both (λ m. fits prefix m ≡ true) (λ m. get_or m.mask (r.position m.label) false ≡ true) (λ m. m.label < length ns → fits c m ≡ true) masks
      (λ m fit free within. elim (cases_lt m.label (length prefix)) [
        | inl before ↦ fits_again c prefix m b before fit
        | inr behind ↦ fits_from c m (λ h. ap (λ p. get_or m.mask p false) (completed_at r.position ns prefix m.label behind within) ∙ free)
      ]) (each_passes (fits prefix) masks e) r.each in
      (c, i, all_pass (fits c) masks (each_both (IsProper ns) (λ m. m.label < length ns → fits c m ≡ true) (λ m. fits c m ≡ true) masks (λ m p f. f p.within) proper here))

  -- a mask of a label after the prefix forbids some completion
  pub one_forbidden : (m : LabelMask) → IsIn masks m → IsProper ns m → length prefix ≤ m.label
      → (c : List ℕ) × IsIn (completions ns prefix) c × (list_all (fits c) masks ≡ false)
  one_forbidden m at proper behind =
      let j = proper.not_each in
      let f : ℕ → ℕ = but_at (λ i. 0) m.label j.0 in
      let below : IsBelow f ns = but_at_below ns (λ i. 0) m.label j.0 values j.1 in
      let c = completed f ns prefix in
      let i = completed_in f ns prefix admitted below in
      let whole = (completion_whole ns prefix c i).0 in
      let within : m.label < length c = omega (arith, whole.1, proper.within) in
      let here : get_or c m.label 0 ≡ j.0 = completed_at f ns prefix m.label behind proper.within ∙ but_at_same (λ k. 0) m.label j.0 in
      (c, i, not_all (fits c) masks m at (fits_at c m within ∙ ap (λ p. get_or m.mask p false) here ∙ j.2))

  -- there is some completion
  pub some_completion : (c : List ℕ) × IsIn (completions ns prefix) c
  some_completion = (completed (λ i. 0) ns prefix, completed_in (λ i. 0) ns prefix admitted values)

-- the verdict of a cube is that of its truth over the completions
pub exact : (ns prefix : List ℕ) (empty : Bool) (masks : List LabelMask) → HaveValues ns → admits ns prefix ≡ true → AscendByLabel masks → AllByRecursion (IsProper ns) masks
    → verdict_at (record { empty = empty; masks = masks }) prefix ≡ verdict_over (may_at (record { empty = empty; masks = masks })) (completions ns prefix)
exact ns prefix true masks values admitted ascend proper =
    let test : List ℕ → Bool = may_at (record { empty = true; masks = masks }) in
    let cs = completions ns prefix in
    let c = some_completion ns prefix masks values admitted in
    sym (verdict_no test cs (not_all test cs c.0 c.1 refl) (none_passes test cs (AllByRecursion-each (λ d. test d ≡ false) cs (λ d i. refl))))
exact ns prefix false masks values admitted ascend proper =
    let test : List ℕ → Bool = may_at (record { empty = false; masks = masks }) in
    let cs = completions ns prefix in
    elim (cases_Bool (list_all (fits prefix) masks)) [
      | inl fit ↦
          let some = some_fits ns prefix masks values admitted ascend proper fit in
          elim (cases_Bool (list_all (reaches prefix) masks)) [
            | inl reach ↦
                let each = AllByRecursion-each (λ d. test d ≡ true) cs (λ d i.
                all_pass (fits d) masks (each_both (λ m. fits prefix m ≡ true) (λ m. reaches prefix m ≡ true) (λ m. fits d m ≡ true) masks
                (λ m f r. fits_again d prefix m (completion_whole ns prefix d i).1 (ltb-true m.label (length prefix) r) f)
                (each_passes (fits prefix) masks fit) (each_passes (reaches prefix) masks reach))) in
                rw (fit, reach) (sym (verdict_yes test cs (all_pass test cs each)))
            | inr behind ↦
                let m = one_fails (reaches prefix) masks behind in
                let other = one_forbidden ns prefix masks values admitted m.0 m.1 (AllByRecursion-at (IsProper ns) masks m.0 proper m.1) (ltb-false m.0.label (length prefix) m.2) in
                rw (fit, behind) (sym (verdict_open test cs (not_all test cs other.0 other.1 other.2) (some_passes test cs some.0 some.1 some.2)))
          ]
      | inr unfit ↦
          let none = AllByRecursion-each (λ d. test d ≡ false) cs (λ d i. false_from_ne_true (test d) (λ e.
          let fit = all_pass (fits prefix) masks (each_map (λ m. fits d m ≡ true) (λ m. fits prefix m ≡ true) masks
          (λ m f. fits_prefix d prefix m (completion_whole ns prefix d i).1 f) (each_passes (fits d) masks e)) in
          let apart : true ≡ false = sym fit ∙ unfit in cc)) in
          let c = some_completion ns prefix masks values admitted in
          rw unfit (sym (verdict_no test cs (not_all test cs c.0 c.1 (AllByRecursion-at (λ d. test d ≡ false) cs c.0 none c.1)) (none_passes test cs none)))
    ]
