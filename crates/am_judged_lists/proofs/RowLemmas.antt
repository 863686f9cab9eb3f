-- What rows say of a choice, row by row and label by label.
use Rattle.std.proofs.Common.{◌≡◌, ℕ, ◌+◌, ◌<◌, Bool, true, false, not, ◌&&◌, ◌||◌, ◌==◌, List, [], ◌∷◌, ◌++◌, length, map, take, get_or, Option, Some, None, unwrap_or, slice_get, refl, ap, sym, ◌∙◌}
use Rattle.std.specs.List.{list_all, list_any, range_with_len, AllByRecursion}
use Rattle.std.proofs.lemmas.Bool.{and_from, or_parts, eq-eqb, ne_eqb, lt-ltb}
use Rattle.std.proofs.lemmas.List.{take_more, map-append}
use Rattle.std.proofs.lemmas.Option.{slice_get_within, get_or_from_slice_get}
use Rattle.std.proofs.lemmas.List.Folds.{list_all-append}
use Rattle.am_labels.specs.Row.{TruthRow, truth_among, truth_at, is_reached, row_holds}
use Rattle.am_judged_lists.specs.Rows.{is_label, is_any_of, allows, all_allow, is_false_without, is_never_true}
use Rattle.am_judged_lists.proofs.ListLemmas.{all_both, all_but, all_others, all_first_more}

-- the rows of two lists
pub all_allow_joined : (rows more : List TruthRow) (label j : ℕ)
    → all_allow (rows ++ more) label j ≡ (all_allow rows label j && all_allow more label j)
all_allow_joined rows more label j = list_all-append (λ row. allows row label j) rows more

-- if no row is of a label, each row allows its positions
pub others_allow : (rows : List TruthRow) (label j : ℕ) → is_any_of rows label ≡ false
    → all_allow rows label j ≡ true
others_allow [] label j none = refl
others_allow (row ∷ rows) label j none =
    let parts = or_parts (is_label row.label label) (is_any_of rows label) none in
    and_from (allows row label j) (all_allow rows label j)
    (ap (λ b. not b || truth_at row j) parts.0) (others_allow rows label j parts.1)

-- ---- A choice by its labels.

-- the rows allow the first positions of a choice
abbrev pub allow_first : List TruthRow → List ℕ → ℕ → Bool
allow_first rows c count = list_all (λ i. all_allow rows i (get_or c i 0)) (range_with_len 0 count)

pub allow_first_more : (rows : List TruthRow) (c : List ℕ) (i : ℕ) → allow_first rows c (i + 1) ≡ (allow_first rows c i && all_allow rows i (get_or c i 0))
allow_first_more rows c i = all_first_more (λ k. all_allow rows k (get_or c k 0)) i

-- a row of a label below a count, or of no label
abbrev pub IsRowBelow : ℕ → TruthRow → Type 0
IsRowBelow n row = (i : ℕ) → row.label ≡ Some i → i < n

twice : (b : Bool) → (true && b) ≡ (not (not b) && true)
twice true = refl
twice false = refl

-- one row, over all labels
by_labels : (o : Option ℕ) (truths : List Bool) (c : List ℕ) → ((i : ℕ) → o ≡ Some i → i < length c)
    → (is_reached o (length c) && truth_among o truths (get_or c (unwrap_or o 0) 0))
    ≡ (not (is_false_without o (truth_among o truths 0)) && list_all (λ i. not (is_label o i) || truth_among o truths (get_or c i 0)) (range_with_len 0 (length c)))
by_labels None truths c below =
    let all = all_others (λ i. true) 0 (length c) (λ i h. refl) in
    rw all (twice (truth_among None truths 0))
by_labels (Some k) truths c below =
    let h : k < length c = below k refl in
    let test : ℕ → Bool = λ i. not (k == i) || get_or truths (get_or c i 0) false in
    let one = all_but test k (length c) h (λ i other. ap (λ b. not b || get_or truths (get_or c i 0) false) (ne_eqb k i (λ e. other (sym e)))) in
    ap (λ b. b && get_or truths (get_or c k 0) false) (lt-ltb k (length c) h)
    ∙ sym (one ∙ ap (λ b. not b || get_or truths (get_or c k 0) false) (eq-eqb k k refl))

rearranged : (a b x y : Bool) → ((not a && x) && (not b && y)) ≡ (not (a || b) && (x && y))
rearranged false true true y = refl
rearranged false true false y = refl
rearranged false false false y = refl
rearranged a b x y = refl

-- all rows, over all labels
pub rows_by_labels : (rows : List TruthRow) (c : List ℕ) → AllByRecursion (IsRowBelow (length c)) rows
    → list_all (λ row. row_holds row c) rows ≡ (not (list_any is_never_true rows) && allow_first rows c (length c))
rows_by_labels [] c below = sym (all_others (λ i. true) 0 (length c) (λ i h. refl))
rows_by_labels (row ∷ rows) c below =
    let range = range_with_len 0 (length c) in
    let mine : ℕ → Bool = λ i. allows row i (get_or c i 0) in
    let theirs : ℕ → Bool = λ i. all_allow rows i (get_or c i 0) in
    ap (λ b. b && list_all (λ r. row_holds r c) rows) (by_labels row.label row.truths c below.0)
    ∙ ap (λ b. (not (is_never_true row) && list_all mine range) && b) (rows_by_labels rows c below.1)
    ∙ rearranged (is_never_true row) (list_any is_never_true rows) (list_all mine range) (list_all theirs range)
    ∙ ap (λ b. not (is_never_true row || list_any is_never_true rows) && b) (sym (all_both mine theirs range))

-- ---- The rows of a list, one after another.

pub one_more : {X : Type 0} (xs : List X) (i : ℕ) (x : X) → slice_get xs i ≡ Some x
    → take (i + 1) xs ≡ take i xs ++ x ∷ []
one_more xs i x here =
    take_more xs i x (slice_get_within xs i x here)
    ∙ ap (λ y. take i xs ++ y ∷ []) (get_or_from_slice_get xs i x x here)

-- a mapped list, with one more member
pub mapped_more : {X Y : Type 0} (f : X → Y) (xs : List X) (i : ℕ) (x : X) (ys : List Y) (y : Y)
    → ys ≡ map f (take i xs) → slice_get xs i ≡ Some x → y ≡ f x
    → ys ++ y ∷ [] ≡ map f (take (i + 1) xs)
mapped_more f xs i x ys y so_far here same =
    rw (so_far, same, one_more xs i x here) (sym (map-append f (take i xs) (x ∷ [])))
