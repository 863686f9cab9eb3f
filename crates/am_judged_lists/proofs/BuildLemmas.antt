-- A cube that is built label by label, from the rows of a list of matchers.
use Rattle.std.proofs.Common.{◌≡◌, ℕ, zero, suc, ◌+◌, ◌<◌, Bool, true, false, not, ◌&&◌, List, [], ◌∷◌, ◌++◌, length, map, get_or, Option, Some, slice_get, All, refl, ap, sym, ◌∙◌, subst, inl, inr, arith}
use Rattle.std.specs.List.{list_all, list_any, range_with_len, AllByRecursion}
use Rattle.std.proofs.Math.Bool.{and_assoc}
use Rattle.std.proofs.lemmas.Bool.{true_from_ne_false, cond_both, and_right, not-false, not-true}
use Rattle.std.proofs.lemmas.List.{length-map, length-append, get_or_append_left, get_or-append-add}
use Rattle.std.proofs.lemmas.List.Folds.{list_all-append, list_all-map, list_all_at}
use Rattle.std.proofs.lemmas.List.FromFn.{get_or-range_with_len, length-range_with_len}
use Rattle.std.proofs.lemmas.List.Quantifiers.{position-Some}
use Rattle.std.proofs.lemmas.Option.{get_or_from_slice_get, slice_get_within}
use Rattle.am_universe.specs.Text.{same_text}
use Rattle.am_universe.specs.Universe.{Label, IsLabel, IsUniverse, sizes, label_position, values_at}
use Rattle.am_universe.specs.Choice.{IsWhole}
use Rattle.am_universe.specs.Completions.{completions}
use Rattle.am_universe.proofs.ListLemmas.{IsIn, AllByRecursion-each}
use Rattle.am_universe.proofs.LabelValueLemmas.{size_at}
use Rattle.am_universe.proofs.UniverseLemmas.{no_label}
use Rattle.am_universe.proofs.WholeChoiceLemmas.{admitted_at}
use Rattle.am_labels.specs.Matcher.{Matcher}
use Rattle.am_labels.specs.Row.{TruthRow, row_of, row_holds, truths_of, truth_on_value}
use Rattle.am_labels.proofs.RowLawLemmas.{rows_decide}
use Rattle.am_judged_lists.specs.declared.cube.LabelMask.{LabelMask}
use Rattle.am_judged_lists.specs.Verdicts.{matches_at}
use Rattle.am_judged_lists.specs.Rows.{all_allow, is_any_of, is_never_true}
use Rattle.am_judged_lists.specs.Cube.{MaskedLabels, may_at, IsCubeOf}
use Rattle.am_judged_lists.specs.CubeView.{AscendByLabel, permits_all, permits_none, restricted}
use Rattle.am_judged_lists.proofs.ListLemmas.{each_map, each_pushed, one_fails, and_true}
use Rattle.am_search.proofs.Walks.{completion_whole}
use Rattle.am_judged_lists.proofs.VerdictLemmas.{same_verdict}
use Rattle.am_judged_lists.proofs.RowLemmas.{allow_first, allow_first_more, IsRowBelow, rows_by_labels}
use Rattle.am_judged_lists.proofs.RowLemmas.{all_allow_joined, others_allow}
use Rattle.am_judged_lists.proofs.CubeLemmas.{fits, fits_at, IsProper, HaveValues, exact}
use Rattle.am_judged_lists.proofs.JudgeLemmas.{ascend_pushed}

-- ---- Numbers in a row.

in_range : (first count j : ℕ) → IsIn (range_with_len first count) j → j < first + count
in_range first zero j i = absurd i
in_range first (suc count) j (inl e) = omega (arith, e)
in_range first (suc count) j (inr i) = omega (arith, in_range (first + 1) count j i)

at_each : (test : ℕ → Bool) (count j : ℕ) → j < count → list_all test (range_with_len 0 count) ≡ true → test j ≡ true
at_each test count j h all = true_from_ne_false (test j) (λ fails.
    let here : test (get_or (range_with_len 0 count) j 0) ≡ false = ap test (get_or-range_with_len 0 count j 0 h ∙ omega arith) ∙ fails in
    let not_each = list_all_at test (range_with_len 0 count) j 0 (rw (length-range_with_len 0 count) h) here in
    let apart : true ≡ false = sym all ∙ not_each in cc)

-- ---- One label more.

module _ (cube : MaskedLabels) (label : ℕ) (mask : List Bool) (size : ℕ) where
  may_of_pushed : (c : List ℕ) → label < length c
      → (not cube.empty && list_all (fits c) (cube.masks ++ record { label = label; mask = mask } ∷ [])) ≡ (may_at cube c && get_or mask (get_or c label 0) false)
  may_of_pushed c h =
      let m : LabelMask = record { label = label; mask = mask } in
      ap (λ b. not cube.empty && b) (list_all-append (fits c) cube.masks (m ∷ []) ∙ ap (λ b. list_all (fits c) cube.masks && (b && true)) (fits_at c m h))
      ∙ ap (λ b. not cube.empty && (list_all (fits c) cube.masks && b)) (and_true (get_or mask (get_or c label 0) false))
      ∙ sym (and_assoc (not cube.empty) (list_all (fits c) cube.masks) (get_or mask (get_or c label 0) false))

  -- three cases: the mask permits all positions, none, or some
  by_mask : (P : MaskedLabels → Type 0) → (permits_all size mask ≡ true → P cube)
      → (permits_none size mask ≡ true → P (record { empty = true; masks = cube.masks }))
      → (permits_all size mask ≡ false → permits_none size mask ≡ false
      → P (record { empty = cube.empty; masks = cube.masks ++ record { label = label; mask = mask } ∷ [] }))
      → P (restricted cube label mask size)
  by_mask P all none some =
      cond_both (permits_all size mask) _ _ P all
      (λ not_each. cond_both (permits_none size mask) _ _ P none (some not_each))

  pub may_restricted : (c : List ℕ) → label < length c → get_or c label 0 < size
      → may_at (restricted cube label mask size) c ≡ (may_at cube c && get_or mask (get_or c label 0) false)
  may_restricted c h within =
      by_mask (λ made. may_at made c ≡ (may_at cube c && get_or mask (get_or c label 0) false))
      (λ all.
      let here : get_or mask (get_or c label 0) false ≡ true = at_each (λ j. get_or mask j false) size (get_or c label 0) within all in
      sym (and_true (may_at cube c)) ∙ ap (λ b. may_at cube c && b) (sym here))
      (λ none.
      let here : get_or mask (get_or c label 0) false ≡ false = not-true (get_or mask (get_or c label 0) false) (at_each (λ j. not (get_or mask j false)) size (get_or c label 0) within none) in
      sym (and_right (may_at cube c) false refl) ∙ ap (λ b. may_at cube c && b) (sym here))
      (λ _ _. may_of_pushed c h)

  pub ascend_restricted : AscendByLabel cube.masks → AllByRecursion (λ m. m.label < label) cube.masks → AscendByLabel (restricted cube label mask size).masks
  ascend_restricted ascend before =
      by_mask (λ made. AscendByLabel made.masks) (λ all. ascend) (λ none. ascend)
      (λ _ _. ascend_pushed cube.masks (record { label = label; mask = mask }) ascend before)

  pub before_restricted : AllByRecursion (λ m. m.label < label) cube.masks → AllByRecursion (λ m. m.label < label + 1) (restricted cube label mask size).masks
  before_restricted before =
      let up = each_map (λ m. m.label < label) (λ m. m.label < label + 1) cube.masks (λ m h. omega (arith, h)) before in
      by_mask (λ made. AllByRecursion (λ m. m.label < label + 1) made.masks) (λ all. up) (λ none. up)
      (λ _ _. each_pushed (λ m. m.label < label + 1) cube.masks (record { label = label; mask = mask }) up (omega arith))

  pub proper_restricted : (ns : List ℕ) → label < length ns → size ≡ get_or ns label 0 → AllByRecursion (IsProper ns) cube.masks → AllByRecursion (IsProper ns) (restricted cube label mask size).masks
  proper_restricted ns h e proper =
      by_mask (λ made. AllByRecursion (IsProper ns) made.masks) (λ all. proper) (λ none. proper)
      (λ not_each some.
      let out = one_fails (λ j. get_or mask j false) (range_with_len 0 size) not_each in
      let free = one_fails (λ j. not (get_or mask j false)) (range_with_len 0 size) some in
      each_pushed (IsProper ns) cube.masks (record { label = label; mask = mask }) proper (record {
        within = h;
        some = (free.0, omega (arith, in_range 0 size free.0 free.1, e), not-false (get_or mask free.0 false) free.2);
        not_each = (out.0, omega (arith, in_range 0 size out.0 out.1, e), out.2);
      }))

-- ---- The labels so far.

-- a cube is built of the rows, as far as the labels below `count` go
pub record IsBuilt (u : List Label) (rows : List TruthRow) (cube : MaskedLabels) (count : ℕ) : Type 0 where
  pub decided : (c : List ℕ) → IsWhole (sizes u) c → may_at cube c ≡ (not (list_any is_never_true rows) && allow_first rows c count)
  pub ascend : AscendByLabel cube.masks
  pub before : AllByRecursion (λ m. m.label < count) cube.masks
  pub proper : AllByRecursion (IsProper (sizes u)) cube.masks

pub built_more : (u : List Label) (rows : List TruthRow) (cube : MaskedLabels) (label : ℕ) (mask : List Bool) (size : ℕ)
    → IsBuilt u rows cube label → slice_get (sizes u) label ≡ Some size → ((j : ℕ) → j < size → get_or mask j false ≡ all_allow rows label j)
    → IsBuilt u rows (restricted cube label mask size) (label + 1)
built_more u rows cube label mask size built at same =
    let ns = sizes u in
    let within : label < length ns = slice_get_within ns label size at in
    let here : size ≡ get_or ns label 0 = sym (get_or_from_slice_get ns label size 0 at) in
    record {
      decided = λ c whole.
          let long : label < length c = omega (arith, whole.1, within) in
          let below : get_or c label 0 < size = omega (arith, admitted_at ns c label whole.0 long, here) in
          may_restricted cube label mask size c long below
          ∙ ap (λ b. may_at cube c && b) (same (get_or c label 0) below)
          ∙ ap (λ b. b && all_allow rows label (get_or c label 0)) (built.decided c whole)
          ∙ and_assoc (not (list_any is_never_true rows)) (allow_first rows c label) (all_allow rows label (get_or c label 0))
          ∙ ap (λ b. not (list_any is_never_true rows) && b) (sym (allow_first_more rows c label));
      ascend = ascend_restricted cube label mask size built.ascend built.before;
      before = before_restricted cube label mask size built.before;
      proper = proper_restricted cube label mask size ns within here built.proper;
    }

-- a label without a row
pub built_past : (u : List Label) (rows more : List TruthRow) (cube : MaskedLabels) (label : ℕ)
    → IsBuilt u (rows ++ more) cube label → is_any_of rows label ≡ false
    → is_any_of more label ≡ false → IsBuilt u (rows ++ more) cube (label + 1)
built_past u rows more cube label built none none_of_more =
    let all = rows ++ more in
    record {
      decided = λ c whole.
          let j = get_or c label 0 in
          built.decided c whole
          ∙ ap (λ b. not (list_any is_never_true all) && b)
          (sym (allow_first_more all c label
          ∙ ap (λ b. allow_first all c label && b)
          (all_allow_joined rows more label j
          ∙ ap (λ b. b && all_allow more label j) (others_allow rows label j none)
          ∙ others_allow more label j none_of_more)
          ∙ and_true (allow_first all c label)));
      ascend = built.ascend;
      before = each_map (λ m. m.label < label) (λ m. m.label < label + 1) cube.masks
          (λ m h. omega (arith, h)) built.before;
      proper = built.proper;
    }

-- ---- All labels.

values_of : (u : List Label) → AllByRecursion IsLabel u → HaveValues (sizes u)
values_of [] all i h = absurd (omega arith)
values_of (l ∷ u) all zero h = all.0.some_value
values_of (l ∷ u) all (suc i) h = values_of u all.1 i (omega arith)

pub have_values : (u : List Label) → IsUniverse u → HaveValues (sizes u)
have_values u h = values_of u h.labels

pub rows_below : (u : List Label) (ms : List Matcher) → AllByRecursion (IsRowBelow (length u)) (map (row_of u) ms)
rows_below u [] = tt
rows_below u (m ∷ ms) = (λ i e. (position-Some (λ l. same_text l.name m.name) u i no_label e).0, rows_below u ms)

pub built_exact : (u : List Label) (ms : List Matcher) (rows : List TruthRow) (cube : MaskedLabels) (count : ℕ) → IsUniverse u
    → rows ≡ map (row_of u) ms → count ≡ length u → IsBuilt u rows cube count → IsCubeOf u ms cube
built_exact u ms rows cube count h same all built = λ prefix admitted.
    let ns = sizes u in
    let cs = completions ns prefix in
    exact ns prefix cube.empty cube.masks (have_values u h) admitted built.ascend built.proper
    ∙ same_verdict (may_at cube) (matches_at u ms) cs (AllByRecursion-each (λ c. may_at cube c ≡ matches_at u ms c) cs (λ c i.
    let whole = (completion_whole ns prefix c i).0 in
    let long : count ≡ length c = omega (arith, all, whole.1, length-map u (λ (l : Label). length l.values)) in
    let below : AllByRecursion (IsRowBelow (length c)) rows = subst (λ rs. AllByRecursion (IsRowBelow (length c)) rs) (sym same) (subst (λ n. AllByRecursion (IsRowBelow n) (map (row_of u) ms)) (sym all ∙ long) (rows_below u ms)) in
    built.decided c whole
    ∙ ap (λ n. not (list_any is_never_true rows) && allow_first rows c n) long
    ∙ sym (rows_by_labels rows c below)
    ∙ ap (list_all (λ row. row_holds row c)) same
    ∙ list_all-map (λ row. row_holds row c) (row_of u) ms
    ∙ sym (rows_decide u c ms h whole)))

-- ---- The rows are as long as their labels have values.

row_sized : (u : List Label) (m : Matcher) (o : Option ℕ) (label size : ℕ) → slice_get (sizes u) label ≡ Some size → o ≡ Some label → length (truths_of u m o) ≡ size
row_sized u m o label size at e =
    ap (λ p. length (truths_of u m p)) e ∙ length-map (values_at u label) (truth_on_value m) ∙ size_at u label size at

all_sized_at : (u : List Label) (ms : List Matcher) (label size k : ℕ) (d : TruthRow) → slice_get (sizes u) label ≡ Some size → k < length (map (row_of u) ms)
    → (get_or (map (row_of u) ms) k d).label ≡ Some label → length (get_or (map (row_of u) ms) k d).truths ≡ size
all_sized_at u [] label size k d at h e = absurd (omega arith)
all_sized_at u (m ∷ ms) label size zero d at h e = row_sized u m (label_position u m.name) label size at e
all_sized_at u (m ∷ ms) label size (suc k) d at h e = all_sized_at u ms label size k d at (omega arith) e

front_of_all : {X : Type 0} (P : X → Type 0) (xs ys : List X) → All P (xs ++ ys) → All P xs
front_of_all P xs ys all = λ k d h.
    subst P (get_or_append_left xs ys d k h) (all k d (omega (arith, h, length-append xs ys)))

rest_of_all : {X : Type 0} (P : X → Type 0) (xs ys : List X) → All P (xs ++ ys) → All P ys
rest_of_all P xs ys all = λ k d h.
    subst P (get_or-append-add xs ys k d)
    (all (length xs + k) d (omega (arith, h, length-append xs ys)))

pub all_sized : (u : List Label) (ms : List Matcher) (rows more : List TruthRow)
    (label size : ℕ) → rows ++ more ≡ map (row_of u) ms → slice_get (sizes u) label ≡ Some size
    → All (λ row. row.label ≡ Some label → length row.truths ≡ size) rows
    × All (λ row. row.label ≡ Some label → length row.truths ≡ size) more
all_sized u ms rows more label size same at =
    let P : TruthRow → Type 0 = λ row. row.label ≡ Some label → length row.truths ≡ size in
    let each : All P (rows ++ more) =
    subst (All P) (sym same) (λ k d h. all_sized_at u ms label size k d at h) in
    (front_of_all P rows more each, rest_of_all P rows more each)
