-- Boxes, and the search for a choice that avoids some cubes.
use Rattle.std.proofs.Common.{◌≡◌, ◌↔◌, ℕ, zero, suc, ◌+◌, ◌<◌, ◌≤◌, Bool, true, false, not, IsTrue, List, [], ◌∷◌, ◌++◌, length, take, set, get_or, slice_index, slice_get, Some, None, refl, ap, sym, ◌∙◌, subst, inl, inr, arith, append_assoc, append-nil, length-set, get_or-set_same, get_or-set_other, ext_get_or}
use Rattle.std.specs.Borrow.{Bor}
use Rattle.std.specs.List.{AllByRecursion, find}
use Rattle.std.proofs.lemmas.List.{length_push, get_or_push, get_or_append_left}
use Rattle.std.proofs.lemmas.List.Folds.{list_all_more}
use Rattle.std.proofs.lemmas.Option.{slice_get_within, get_or_from_slice_get}
use Rattle.std.proofs.lemmas.Bool.{cases_Bool, cases_eq, cases_lt, and_from, and_parts, both_ways, false_from_ne_true}
use Rattle.am_universe.specs.Choice.{choices, IsWhole}
use Rattle.am_universe.proofs.WholeChoiceLemmas.{admitted_at}
use Rattle.am_judged_lists.specs.declared.mask.Part.{Part}
use Rattle.am_judged_lists.specs.declared.mask.Part.TheVariants.{Within, Outside}
use Rattle.am_judged_lists.specs.Cube.{MaskedLabels, matches, permits_position}
use Rattle.am_judged_lists.specs.Boxes.{box_permits, IsInBox, HasChoice, is_in_part, count_positions}
use Rattle.am_first_sets.specs.Solving.{avoids, marked, IsAnswer, NoneAvoids, IsNarrowed, IsLeast, IsTestOf}
use Rattle.am_judged_lists.proofs.ListLemmas.{each_map}
use Rattle.am_first_sets.proofs.FirstLemmas.{found_least, found_nowhere}

-- ---- Some choice of a box.

-- a mask of which not all positions are forbidden permits some position
some_position : (mask : List Bool) → (((p : ℕ) → get_or mask p false ≡ false) → ⊥)
    → (p : ℕ) × (get_or mask p false ≡ true)
some_position [] h = absurd (h (λ p. refl))
some_position (true ∷ mask) h = (0, refl)
some_position (false ∷ mask) h =
    let r = some_position mask (λ none. h (past mask none)) in
    (suc r.0, r.1)
  where
    past : (mask : List Bool) → ((p : ℕ) → get_or mask p false ≡ false)
        → (p : ℕ) → get_or (false ∷ mask) p false ≡ false
    past mask none zero = refl
    past mask none (suc p) = none p

-- a choice that is in a box
pub some_choice : (b : List (List Bool)) → HasChoice b → (c : List ℕ) × IsInBox b c
some_choice [] h = ([], record { long = refl; each = λ label lt. absurd (omega (arith, lt)) })
some_choice (mask ∷ b) h =
    let p = some_position mask (λ none. h 0 (omega arith) none) in
    let r = some_choice b (λ label lt none. h (suc label) (omega (arith, lt)) none) in
    (p.0 ∷ r.0, record { long = ap suc r.1.long; each = first p.0 r.0 p.1 r.1 })
  where
    first : (p : ℕ) (c : List ℕ) → get_or mask p false ≡ true → IsInBox b c
        → (label : ℕ) → label < length (mask ∷ b)
        → IsTrue (box_permits (mask ∷ b) label (slice_index (p ∷ c) label))
    first p c e i zero lt = e
    first p c e i (suc label) lt = i.each label (omega (arith, lt))

-- a box with a choice in it has a choice
pub choice_of : (b : List (List Bool)) (c : List ℕ) → IsInBox b c → HasChoice b
choice_of b c i label lt none =
    let apart : true ≡ false = sym (i.each label lt) ∙ none (slice_index c label) in cc

-- a choice of a box that has a permitted position at a label
pub choice_with : (b : List (List Bool)) (label p : ℕ) → HasChoice b → label < length b
    → box_permits b label p ≡ true → (c : List ℕ) × IsInBox b c × (slice_index c label ≡ p)
choice_with b label p h lt e =
    let r = some_choice b h in
    let c = r.0 in
    let within : label < length c = omega (arith, lt, r.1.long) in (
      set c label p,
      record {
        long = length-set c label p ∙ r.1.long;
        each = λ other olt. elim (cases_eq other label) [
          | inl same ↦
              subst (λ k. box_permits b k (slice_index (set c label p) k) ≡ true) (sym same)
              (ap (box_permits b label) (get_or-set_same c label p 0 within) ∙ e)
          | inr apart ↦
              ap (box_permits b other) (get_or-set_other c label other p 0 apart)
              ∙ r.1.each other olt
        ];
      },
      get_or-set_same c label p 0 within,
    )

-- ---- The measure of a search.

-- three to the power of a number
abbrev pub power : ℕ → ℕ
power zero = 1
power (suc n) = power n + power n + power n

-- what is left for boxes: each box of n positions can become two of fewer
abbrev pub weight : List (List (List Bool)) → ℕ
weight [] = 0
weight (b ∷ boxes) = power (count_positions b) + weight boxes

power_pos : (n : ℕ) → 0 < power n
power_pos zero = omega arith
power_pos (suc n) = omega (arith, power_pos n)

power_more : (m n : ℕ) → m ≤ n → power m ≤ power n
power_more zero n h = power_pos n
power_more (suc m) zero h = absurd (omega (arith, h))
power_more (suc m) (suc n) h = omega (arith, power_more m n (omega (arith, h)))

power_twice : (m n : ℕ) → m < n → power m + power m < power n
power_twice m zero h = absurd (omega (arith, h))
power_twice m (suc n) h = omega (arith, power_more m n (omega (arith, h)), power_pos n)

pub weight_pushed : (boxes : List (List (List Bool))) (b : List (List Bool))
    → weight (boxes ++ b ∷ []) ≡ weight boxes + power (count_positions b)
weight_pushed [] b = omega arith
weight_pushed (a ∷ boxes) b = omega (arith, weight_pushed boxes b)

pub lighter_none : (boxes : List (List (List Bool))) (b : List (List Bool))
    → weight boxes < weight (boxes ++ b ∷ [])
lighter_none boxes b = omega (arith, weight_pushed boxes b, power_pos (count_positions b))

pub lighter_one : (boxes : List (List (List Bool))) (b a : List (List Bool))
    → count_positions a < count_positions b
    → weight (boxes ++ a ∷ []) < weight (boxes ++ b ∷ [])
lighter_one boxes b a h =
    omega (
      arith,
      weight_pushed boxes b,
      weight_pushed boxes a,
      power_twice (count_positions a) (count_positions b) h,
      power_pos (count_positions a),
    )

pub lighter_two : (boxes : List (List (List Bool))) (b a d : List (List Bool))
    → count_positions a < count_positions b → count_positions d < count_positions b
    → weight ((boxes ++ a ∷ []) ++ d ∷ []) < weight (boxes ++ b ∷ [])
lighter_two boxes b a d h k =
    omega (
      arith,
      weight_pushed boxes b,
      weight_pushed boxes a,
      weight_pushed (boxes ++ a ∷ []) d,
      power_twice (count_positions a) (count_positions b) h,
      power_twice (count_positions d) (count_positions b) k,
    )

-- ---- Cubes.

-- one more cube that misses a choice
pub avoids_more : (cubes : List (Bor MaskedLabels)) (i : ℕ) (cube : Bor MaskedLabels) (c : List ℕ)
    → slice_get cubes i ≡ Some cube → matches cube.now c ≡ false
    → avoids (take i cubes) c ≡ true → avoids (take (i + 1) cubes) c ≡ true
avoids_more cubes i cube c at misses e =
    list_all_more (λ (x : Bor MaskedLabels). not (matches x.now c)) cubes i cube
    (slice_get_within cubes i cube at)
    ∙ and_from (avoids (take i cubes) c) (not (matches (get_or cubes i cube).now c)) e
    (ap (λ (x : Bor MaskedLabels). not (matches x.now c)) (get_or_from_slice_get cubes i cube cube at)
    ∙ ap not misses)

-- ---- Cubes that are marked.

-- a choice that avoids all cubes avoids those that are marked
pub avoids_marked : (ms : List Bool) (cubes : List (Bor MaskedLabels)) (c : List ℕ)
    → avoids cubes c ≡ true → avoids (marked ms cubes) c ≡ true
avoids_marked [] cubes c e = refl
avoids_marked (m ∷ ms) [] c e = refl
avoids_marked (true ∷ ms) (cube ∷ cubes) c e =
    let parts = and_parts (not (matches cube.now c)) (avoids cubes c) e in
    and_from (not (matches cube.now c)) (avoids (marked ms cubes) c) parts.0
    (avoids_marked ms cubes c parts.1)
avoids_marked (false ∷ ms) (cube ∷ cubes) c e =
    avoids_marked ms cubes c (and_parts (not (matches cube.now c)) (avoids cubes c) e).1

-- a choice that avoids the cubes with one more mark avoids those that were marked before, and the
-- one at the new mark
pub marked_more : (ms : List Bool) (cubes : List (Bor MaskedLabels)) (k : ℕ) (c : List ℕ)
    → avoids (marked (set ms k true) cubes) c ≡ true → avoids (marked ms cubes) c ≡ true
marked_more [] cubes k c e = refl
marked_more (m ∷ ms) [] k c e = refl
marked_more (true ∷ ms) (cube ∷ cubes) zero c e = e
marked_more (false ∷ ms) (cube ∷ cubes) zero c e =
    (and_parts (not (matches cube.now c)) (avoids (marked ms cubes) c) e).1
marked_more (true ∷ ms) (cube ∷ cubes) (suc k) c e =
    let parts = and_parts (not (matches cube.now c)) (avoids (marked (set ms k true) cubes) c) e in
    and_from (not (matches cube.now c)) (avoids (marked ms cubes) c) parts.0
    (marked_more ms cubes k c parts.1)
marked_more (false ∷ ms) (cube ∷ cubes) (suc k) c e = marked_more ms cubes k c e

pub marked_at : (ms : List Bool) (cubes : List (Bor MaskedLabels)) (k : ℕ)
    (cube : Bor MaskedLabels) (c : List ℕ) → k < length ms → slice_get cubes k ≡ Some cube
    → avoids (marked (set ms k true) cubes) c ≡ true → matches cube.now c ≡ false
marked_at [] cubes k cube c lt at e = absurd (omega (arith, lt))
marked_at (m ∷ ms) [] k cube c lt at e = cc
marked_at (m ∷ ms) (x ∷ cubes) zero cube c lt at e =
    let is : x ≡ cube = cc in
    subst (λ (y : Bor MaskedLabels). matches y.now c ≡ false) is
    (not_true (matches x.now c)
    (and_parts (not (matches x.now c)) (avoids (marked ms cubes) c) e).0)
  where
    not_true : (b : Bool) → not b ≡ true → b ≡ false
    not_true true e = cc
    not_true false e = refl
marked_at (true ∷ ms) (x ∷ cubes) (suc k) cube c lt at e =
    marked_at ms cubes k cube c (omega (arith, lt)) at
    (and_parts (not (matches x.now c)) (avoids (marked (set ms k true) cubes) c) e).1
marked_at (false ∷ ms) (x ∷ cubes) (suc k) cube c lt at e =
    marked_at ms cubes k cube c (omega (arith, lt)) at e

-- a box that the cube at the new mark covers has no choice that avoids what is marked
pub refuted_by : (ms : List Bool) (cubes : List (Bor MaskedLabels)) (b : List (List Bool)) (k : ℕ)
    (cube : Bor MaskedLabels) → k < length ms → slice_get cubes k ≡ Some cube
    → ((c : List ℕ) → IsInBox b c → IsTrue (matches cube.now c))
    → NoneAvoids b (marked (set ms k true) cubes)
refuted_by ms cubes b k cube lt at covers = λ c i.
    false_from_ne_true (avoids (marked (set ms k true) cubes) c)
    (λ e. both_ways (matches cube.now c) (marked_at ms cubes k cube c lt at e) (covers c i))

-- if the cubes that were used leave no choice, all leave none
pub none_by_all : (start : List (List Bool)) (cubes : List (Bor MaskedLabels)) (ms : List Bool)
    → NoneAvoids start (marked ms cubes) → NoneAvoids start cubes
none_by_all start cubes ms h = λ c i.
    false_from_ne_true (avoids cubes c)
    (λ e. both_ways (avoids (marked ms cubes) c) (h c i) (avoids_marked ms cubes c e))

-- ---- A box that is narrowed.

-- the box `n` has the choices of `b` in a part
abbrev pub IsKept : List (List Bool) → List (List Bool) → MaskedLabels → ℕ → Part → Type 0
IsKept b n cube label part =
    (c : List ℕ) → IsInBox n c ↔ IsInBox b c
    × IsTrue (is_in_part part (permits_position cube label (slice_index c label)))

-- a cube more is marked
pub narrowed_marked : (old b : List (List Bool)) (before cubes : List (Bor MaskedLabels))
    (ms : List Bool) (k : ℕ) → IsNarrowed old b before (marked ms cubes)
    → IsNarrowed old b before (marked (set ms k true) cubes)
narrowed_marked old b before cubes ms k narrowed = record {
  some = narrowed.some;
  inside = narrowed.inside;
  kept = λ c i e. narrowed.kept c i (marked_more ms cubes k c e);
  more = λ c e. narrowed.more c (marked_more ms cubes k c e);
}

-- the choices that the cube at the new mark matches are taken out
pub narrowed_by : (old b n : List (List Bool)) (label : ℕ) (before cubes : List (Bor MaskedLabels))
    (ms : List Bool) (k : ℕ) (cube : Bor MaskedLabels) → k < length ms
    → slice_get cubes k ≡ Some cube → IsNarrowed old b before (marked ms cubes)
    → (HasChoice b → HasChoice n) → IsKept b n cube.now label Outside
    → ((c : List ℕ) → IsInBox b c
    → matches cube.now c ≡ permits_position cube.now label (slice_index c label))
    → IsNarrowed old n before (marked (set ms k true) cubes)
narrowed_by old b n label before cubes ms k cube lt at narrowed still kept exact = record {
  some = λ h. still (narrowed.some h);
  inside = λ c i. narrowed.inside c ((kept c).0 i).0;
  kept = λ c i e.
      let inside = narrowed.kept c i (marked_more ms cubes k c e) in (kept c).1 (
        inside,
        ap not (sym (exact c inside)) ∙ ap not (marked_at ms cubes k cube c lt at e),
      );
  more = λ c e. narrowed.more c (marked_more ms cubes k c e);
}

-- none of the choices that are left is matched by the cube
pub kept_missed : (b n : List (List Bool)) (label : ℕ) (cube : MaskedLabels)
    → IsKept b n cube label Outside
    → ((c : List ℕ) → IsInBox b c
    → matches cube c ≡ permits_position cube label (slice_index c label))
    → (c : List ℕ) → IsInBox n c → matches cube c ≡ false
kept_missed b n label cube kept exact c inside =
    let parts = (kept c).0 inside in
    exact c parts.0
    ∙ false_from_not (permits_position cube label (slice_index c label)) parts.1
  where
    false_from_not : (b : Bool) → not b ≡ true → b ≡ false
    false_from_not true e = cc
    false_from_not false e = refl

-- ---- What a search has still to look at.

-- a box with some choice, within another
pub record IsPart (start b : List (List Bool)) : Type 0 where
  pub some : HasChoice b
  pub inside : (c : List ℕ) → IsInBox b c → IsInBox start c

-- a choice is in none of some boxes
abbrev pub IsInNone : List ℕ → List (List (List Bool)) → Type 0
IsInNone c boxes = AllByRecursion (λ b. IsInBox b c → ⊥) boxes

-- What a search has still to look at: boxes within the one where it starts, each with some choice.
-- A choice that avoids the cubes is in one of them.
pub record AreLeft (start : List (List Bool)) (cubes : List (Bor MaskedLabels))
    (boxes : List (List (List Bool))) : Type 0 where
  pub parts : AllByRecursion (IsPart start) boxes
  pub all : (c : List ℕ) → IsInBox start c → avoids cubes c ≡ true → IsInNone c boxes → ⊥

each_split : {X : Type 0} (P : X → Type 0) (xs ys : List X) → AllByRecursion P (xs ++ ys)
    → AllByRecursion P xs × AllByRecursion P ys
each_split P [] ys all = (tt, all)
each_split P (x ∷ xs) ys all = let r = each_split P xs ys all.1 in ((all.0, r.0), r.1)

each_joined : {X : Type 0} (P : X → Type 0) (xs ys : List X) → AllByRecursion P xs
    → AllByRecursion P ys → AllByRecursion P (xs ++ ys)
each_joined P [] ys all more = more
each_joined P (x ∷ xs) ys all more = (all.0, each_joined P xs ys all.1 more)

kept_part : (b n : List (List Bool)) (cube : MaskedLabels) (label : ℕ) (part : Part)
    → HasChoice b → (HasChoice b → HasChoice n) → IsKept b n cube label part → IsPart b n
kept_part b n cube label part some still kept =
    record { some = still some; inside = λ c i. ((kept c).0 i).0 }

module _ (start : List (List Bool)) (cubes : List (Bor MaskedLabels)) where
  pub left_start : HasChoice start → AreLeft start cubes (start ∷ [])
  left_start some = record {
    parts = (record { some = some; inside = λ c i. i }, tt);
    all = λ c i e none. none.0 i;
  }

  pub left_nothing : (HasChoice start → ⊥) → AreLeft start cubes []
  left_nothing empty = record { parts = tt; all = λ c i e none. empty (choice_of start c i) }

  -- the last box is replaced by others, which have all its choices that avoid the cubes
  left_replaced : (boxes : List (List (List Bool))) (b : List (List Bool))
      (others : List (List (List Bool))) → AreLeft start cubes (boxes ++ b ∷ [])
      → AllByRecursion (IsPart b) others
      → ((c : List ℕ) → IsInBox b c → avoids cubes c ≡ true → IsInNone c others → ⊥)
      → AreLeft start cubes (boxes ++ others)
  left_replaced boxes b others left parts covered =
      let old = each_split (IsPart start) boxes (b ∷ []) left.parts in
      let whole : IsPart start b = old.1.0 in
      record {
        parts = each_joined (IsPart start) boxes others old.0
            (each_map (IsPart b) (IsPart start) others (λ o part. record {
              some = part.some;
              inside = λ c i. whole.inside c (part.inside c i);
            }) parts);
        all = λ c i e none.
            let apart = each_split (λ o. IsInBox o c → ⊥) boxes others none in
            left.all c i e (each_joined (λ o. IsInBox o c → ⊥) boxes (b ∷ []) apart.0
            ((λ inside. covered c inside e apart.1), tt));
      }

  pub left_done : (all : List (Bor MaskedLabels)) (boxes : List (List (List Bool)))
      (b : List (List Bool)) → AreLeft start cubes (boxes ++ b ∷ [])
      → ((c : List ℕ) → IsInBox b c → avoids all c ≡ true) → IsAnswer start all b
  left_done all boxes b left avoided =
      let part : IsPart start b = (each_split (IsPart start) boxes (b ∷ []) left.parts).1.0 in
      record { some = part.some; inside = part.inside; avoided = avoided }

  some_last : (boxes : List (List (List Bool))) (b : List (List Bool))
      → AreLeft start cubes (boxes ++ b ∷ []) → HasChoice b
  some_last boxes b left = (each_split (IsPart start) boxes (b ∷ []) left.parts).1.0.some

  pub left_refuted : (boxes : List (List (List Bool))) (b : List (List Bool))
      → AreLeft start cubes (boxes ++ b ∷ [])
      → ((c : List ℕ) → IsInBox b c → avoids cubes c ≡ true → ⊥) → AreLeft start cubes boxes
  left_refuted boxes b left none =
      subst (AreLeft start cubes) (append-nil boxes)
      (left_replaced boxes b [] left tt (λ c i e others. none c i e))

  pub left_narrowed : (before : List (Bor MaskedLabels)) (boxes : List (List (List Bool)))
      (b n : List (List Bool)) → AreLeft start before (boxes ++ b ∷ [])
      → IsNarrowed b n before cubes → AreLeft start cubes (boxes ++ n ∷ [])
  left_narrowed before boxes b n left narrowed =
      let more : AreLeft start cubes (boxes ++ b ∷ []) = record {
        parts = left.parts;
        all = λ c i e none. left.all c i (narrowed.more c e) none;
      } in
      left_replaced boxes b (n ∷ []) more
      (record { some = narrowed.some (some_last boxes b more); inside = narrowed.inside }, tt)
      (λ c i e none. none.0 (narrowed.kept c i e))

  pub left_split : (boxes : List (List (List Bool))) (b w o : List (List Bool)) (label : ℕ)
      (cube : MaskedLabels) → AreLeft start cubes (boxes ++ b ∷ [])
      → (HasChoice b → HasChoice w) → IsKept b w cube label Within
      → (HasChoice b → HasChoice o) → IsKept b o cube label Outside
      → AreLeft start cubes ((boxes ++ w ∷ []) ++ o ∷ [])
  left_split boxes b w o label cube left some_w kept_w some_o kept_o =
      let some = some_last boxes b left in
      subst (AreLeft start cubes) (sym (append_assoc boxes (w ∷ []) (o ∷ [])))
      (left_replaced boxes b (w ∷ o ∷ []) left (
        kept_part b w cube label Within some some_w kept_w,
        (
          kept_part b o cube label Outside some some_o kept_o,
          tt,
        ),
      )
      (λ c i e none.
      elim (cases_Bool (permits_position cube label (slice_index c label))) [
        | inl permitted ↦ none.0 ((kept_w c).1 (i, permitted))
        | inr forbidden ↦ none.1.0 ((kept_o c).1 (i, ap not forbidden))
      ]))

-- ---- One position of a label.

permits_within : (b : List (List Bool)) (label p : ℕ) → box_permits b label p ≡ true
    → label < length b
permits_within [] label p e = cc
permits_within (mask ∷ b) zero p e = omega arith
permits_within (mask ∷ b) (suc label) p e = omega (arith, permits_within b label p e)

-- all positions of a label are taken out but one, which the answer permits
pub answer_fixed : (left found left_after found_after : List (List Bool))
    (cubes : List (Bor MaskedLabels)) (label p : ℕ) → IsAnswer left cubes found
    → box_permits found label p ≡ true
    → ((c : List ℕ) → IsInBox left_after c ↔ IsInBox left c × (slice_index c label ≡ p))
    → ((c : List ℕ) → IsInBox found_after c ↔ IsInBox found c × (slice_index c label ≡ p))
    → IsAnswer left_after cubes found_after
answer_fixed left found left_after found_after cubes label p answer permitted lefts founds =
    let r = choice_with found label p answer.some (permits_within found label p permitted) permitted in
    record {
      some = choice_of found_after r.0 ((founds r.0).1 (r.1, r.2));
      inside = λ c i.
          let old = (founds c).0 i in (lefts c).1 (answer.inside c old.0, old.1);
      avoided = λ c i. answer.avoided c ((founds c).0 i).0;
    }

-- a box with a choice has as many labels as a box in which it is
pub same_labels : (left found : List (List Bool)) (cubes : List (Bor MaskedLabels))
    → IsAnswer left cubes found → length found ≡ length left
same_labels left found cubes answer =
    let r = some_choice found answer.some in
    sym r.1.long ∙ (answer.inside r.0 r.1).long

-- some position below the size is that of a choice of the answer
pub some_below : (left found : List (List Bool)) (cubes : List (Bor MaskedLabels))
    (label size : ℕ) → IsAnswer left cubes found → label < length left
    → ((c : List ℕ) → IsInBox left c → slice_index c label < size)
    → ((p : ℕ) → p < size → box_permits found label p ≡ false) → ⊥
some_below left found cubes label size answer lt below none =
    let within : label < length found = omega (arith, lt, same_labels left found cubes answer) in
    answer.some label within (λ p. elim (cases_lt p size) [
      | inl less ↦ none p less
      | inr more ↦ false_from_ne_true (box_permits found label p) (λ e.
          let r = choice_with found label p answer.some within e in
          omega (arith, more, below r.0 (answer.inside r.0 r.1), r.2))
    ])

-- ---- Label by label.

-- a choice has the positions of a prefix
abbrev pub Follows : List ℕ → List ℕ → Type 0
Follows prefix c = (i : ℕ) → i < length prefix → slice_index c i ≡ slice_index prefix i

-- no choice of a box that avoids the cubes comes before a prefix
abbrev pub NoneBefore : List (List Bool) → List (Bor MaskedLabels) → List ℕ → Type 0
NoneBefore start cubes prefix =
    (c : List ℕ) → IsInBox start c → avoids cubes c ≡ true → (i : ℕ) → i < length prefix
    → ((j : ℕ) → j < i → slice_index c j ≡ slice_index prefix j)
    → slice_index c i < slice_index prefix i → ⊥

-- What is left has exactly the choices of the box that have the positions so far. There is an
-- answer, and no choice that avoids the cubes comes before these positions.
pub record AreFixed (start left : List (List Bool)) (cubes : List (Bor MaskedLabels))
    (found : List (List Bool)) (prefix : List ℕ) : Type 0 where
  pub answer : IsAnswer left cubes found
  pub inside : (c : List ℕ) → IsInBox left c → IsInBox start c
  pub follows : (c : List ℕ) → IsInBox left c → Follows prefix c
  pub all : (c : List ℕ) → IsInBox start c → Follows prefix c → IsInBox left c
  pub least : NoneBefore start cubes prefix

follows_front : (prefix c : List ℕ) (p : ℕ) → Follows (prefix ++ p ∷ []) c
    → Follows prefix c × (slice_index c (length prefix) ≡ p)
follows_front prefix c p f = (
  λ i lt. f i (omega (arith, lt, length_push prefix p)) ∙ get_or_append_left prefix (p ∷ []) 0 i lt,
  f (length prefix) (omega (arith, length_push prefix p)) ∙ get_or_push prefix p 0 (length prefix) refl,
)

follows_push : (prefix c : List ℕ) (p : ℕ) → Follows prefix c
    → slice_index c (length prefix) ≡ p → Follows (prefix ++ p ∷ []) c
follows_push prefix c p f e i lt = elim (cases_lt i (length prefix)) [
  | inl before ↦ f i before ∙ sym (get_or_append_left prefix (p ∷ []) 0 i before)
  | inr last ↦
      let same : i ≡ length prefix = omega (arith, last, lt, length_push prefix p) in
      ap (slice_index c) same ∙ e ∙ sym (get_or_push prefix p 0 i (sym same))
]

-- one label more
pub fixed_more : (start left left_after : List (List Bool)) (cubes : List (Bor MaskedLabels))
    (found found_after : List (List Bool)) (prefix : List ℕ) (p : ℕ)
    → AreFixed start left cubes found prefix → IsLeast left cubes (length prefix) p
    → ((c : List ℕ) → IsInBox left_after c
    ↔ IsInBox left c × (slice_index c (length prefix) ≡ p))
    → IsAnswer left_after cubes found_after
    → AreFixed start left_after cubes found_after (prefix ++ p ∷ [])
fixed_more start left left_after cubes found found_after prefix p before least fixed answer = record {
  answer = answer;
  inside = λ c i. before.inside c ((fixed c).0 i).0;
  follows = λ c i.
      let old = (fixed c).0 i in follows_push prefix c p (before.follows c old.0) old.1;
  all = λ c i f.
      let old = follows_front prefix c p f in (fixed c).1 (before.all c i old.0, old.1);
  least = λ c inside e i lt same less. elim (cases_lt i (length prefix)) [
    | inl front ↦
        before.least c inside e i front
        (λ j k. same j k ∙ get_or_append_left prefix (p ∷ []) 0 j (omega (arith, k, front)))
        (omega (arith, less, get_or_append_left prefix (p ∷ []) 0 i front))
    | inr last ↦
        let here : i ≡ length prefix = omega (arith, last, lt, length_push prefix p) in
        let follow : Follows prefix c = λ j k. same j (omega (arith, k, here))
        ∙ get_or_append_left prefix (p ∷ []) 0 j k in
        least c (before.all c inside follow) e
        (subst (λ k. slice_index c k < p) here
        (omega (arith, less, get_or_push prefix p 0 i (sym here))))
  ];
}

-- ---- The first choice.

-- the choices of a box are choices over labels of some sizes
abbrev pub AreWhole : List ℕ → List (List Bool) → Type 0
AreWhole ns start = (c : List ℕ) → IsInBox start c → IsWhole ns c

-- what is left has a label for each size
pub labels_left : (ns : List ℕ) (start left : List (List Bool)) (cubes : List (Bor MaskedLabels))
    (found : List (List Bool)) (prefix : List ℕ) → AreWhole ns start
    → AreFixed start left cubes found prefix → length left ≡ length ns
labels_left ns start left cubes found prefix whole fixed =
    let r = some_choice found fixed.answer.some in
    let inside = fixed.answer.inside r.0 r.1 in
    sym inside.long ∙ (whole r.0 (fixed.inside r.0 inside)).1

-- a choice of what is left has positions below the sizes
pub below_size : (ns : List ℕ) (start left : List (List Bool)) (cubes : List (Bor MaskedLabels))
    (found : List (List Bool)) (prefix : List ℕ) (label size : ℕ) → AreWhole ns start
    → AreFixed start left cubes found prefix → slice_get ns label ≡ Some size
    → (c : List ℕ) → IsInBox left c → slice_index c label < size
below_size ns start left cubes found prefix label size whole fixed at c inside =
    let w = whole c (fixed.inside c inside) in
    let lt : label < length c = omega (arith, slice_get_within ns label size at, w.1) in
    let less = admitted_at ns c label w.0 lt in
    omega (arith, less, get_or_from_slice_get ns label size 0 at)

pub first_found : (ns : List ℕ) (start left : List (List Bool)) (cubes unwanted : List (Bor MaskedLabels))
    (found : List (List Bool)) (prefix : List ℕ) (test : List ℕ → Bool) → AreWhole ns start
    → ((c : List ℕ) → IsInBox start c → avoids cubes c ≡ avoids unwanted c)
    → AreFixed start left cubes found prefix → length prefix ≡ length ns
    → IsTestOf ns test start unwanted → Some prefix ≡ find test (choices ns)
first_found ns start left cubes unwanted found prefix test whole same fixed long is =
    let r = some_choice found fixed.answer.some in
    let c = r.0 in
    let left_in = fixed.answer.inside c r.1 in
    let start_in = fixed.inside c left_in in
    let w = whole c start_in in
    let equal : c ≡ prefix = ext_get_or 0 c prefix (w.1 ∙ sym long)
    (λ i lt. fixed.follows c left_in i (omega (arith, lt, w.1, long))) in
    let passes : test c ≡ true =
    (is c w).1 (start_in, sym (same c start_in) ∙ fixed.answer.avoided c r.1) in
    sym (found_least ns test prefix (subst (IsWhole ns) equal w) (ap test (sym equal) ∙ passes)
    (λ d dw e i lt agree less.
    let told = (is d dw).0 e in
    fixed.least d told.0 (same d told.0 ∙ told.1) i lt agree less))

pub first_nowhere : (ns : List ℕ) (start : List (List Bool)) (cubes unwanted : List (Bor MaskedLabels))
    (test : List ℕ → Bool)
    → ((c : List ℕ) → IsInBox start c → avoids cubes c ≡ avoids unwanted c)
    → NoneAvoids start cubes → IsTestOf ns test start unwanted → None ≡ find test (choices ns)
first_nowhere ns start cubes unwanted test same none is =
    sym (found_nowhere ns test (λ c w e.
    let told = (is c w).0 e in
    let apart : true ≡ false = sym told.1 ∙ sym (same c told.0) ∙ none c told.0 in cc))
