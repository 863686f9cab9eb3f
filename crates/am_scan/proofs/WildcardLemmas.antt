-- The marked places of a text, place by place.
use Rattle.std.proofs.Common.{◌≡◌, ℕ, suc, ◌<◌, ◌≤◌, ◌+◌, ◌-◌, ◌==◌, ◌||◌, ◌&&◌, not, if◌then◌else◌, nat_lt, Bool, true, false, List, [], ◌∷◌, ◌++◌, Option, None, Some, fold, length, slice_get, slice_index, refl, sym, ap, ◌∙◌, subst, below_more, eq-eqb, zero-add, add-zero, arith}
use Rattle.std.specs.List.{list_any}
use Rattle.std.proofs.lemmas.Bool.{or_parts, ne_eqb, lt-ltb}
use Rattle.std.proofs.lemmas.List.{append-nil, length_push, get_or_append_left, get_or_push}
use Rattle.std.proofs.lemmas.Grind.{common_steps}
use Rattle.am_scan.specs.declared.wildcard_place.WildcardPlace.{WildcardPlace}
use Rattle.am_scan.specs.Automaton.{Grows}
use Rattle.am_scan.specs.WildcardPlaces.{marks, positions, marked_places, matches_from, with_any, own_byte, has_byte, place_at, is_last, push_next, is_byte, is_symbol, AreAlike, HasClass}

-- The mark of a place for a text with one more byte before it.
pub or_false : (x : Bool) → (x || false) ≡ x
or_false x = grind (arith, common_steps)

next_mark : (any : Bool) (byte : Option ℕ) (rest : List ℕ → Bool) (b : ℕ) (text : List ℕ) →
    with_any any (own_byte byte rest) (b ∷ text) ≡ ((has_byte b byte && rest text) || (any && (not (b == 10) && with_any any (own_byte byte rest) text)))
next_mark true None rest b text = refl
next_mark true (Some c) rest b text = refl
next_mark false None rest b text = refl
next_mark false (Some c) rest b text = sym (or_false (c == b && rest text))

-- The last of the positions.
pub last_read : (xs : List ℕ) (n : ℕ) → 1 ≤ length xs → (slice_index xs (length xs - 1) == n) ≡ is_last xs n
last_read [] n h = absurd (omega arith)
last_read (x ∷ []) n h = refl
last_read (x ∷ y ∷ xs) n h = let e : suc (suc (length xs)) - 1 ≡ suc (length xs) = omega arith in let f : suc (length xs) - 1 ≡ length xs = omega arith in rw (e, ← f) (last_read (y ∷ xs) n (omega arith))

last_of_more : (xs : List ℕ) (x n : ℕ) → is_last (xs ++ x ∷ []) n ≡ (x == n)
last_of_more [] x n = refl
last_of_more (y ∷ []) x n = refl
last_of_more (y ∷ z ∷ xs) x n = last_of_more (z ∷ xs) x n

last_is_later : (ms : List Bool) (at n : ℕ) → n < at → is_last (positions at ms) n ≡ false
last_is_later [] at n h = refl
last_is_later (true ∷ ms) at n h = last_of_more (positions (suc at) ms) at n ∙ ne_eqb at n (λ same. omega arith)
last_is_later (false ∷ ms) at n h = ap (λ xs. is_last xs n) (append-nil (positions (suc at) ms)) ∙ last_is_later ms (suc at) n (omega arith)

last_with : (ms : List Bool) (at : ℕ) (c : Bool) → is_last (positions (suc at) ms ++ (if c then at ∷ [] else [])) at ≡ c
last_with ms at true = last_of_more (positions (suc at) ms) at at ∙ eq-eqb at at refl
last_with ms at false = ap (λ xs. is_last xs at) (append-nil (positions (suc at) ms)) ∙ last_is_later ms (suc at) at (omega arith)

-- A marked place adds itself, if it stays marked and is not there yet, and the one before it.
pushed : (xs : List ℕ) (at up : ℕ) (c any goes_on moves last : Bool) → last ≡ c →
    (let all = xs ++ (if c then at ∷ [] else []) in let stayed = if any && (goes_on && not last) then all ++ at ∷ [] else all in if moves then stayed ++ up ∷ [] else stayed)
    ≡ (xs ++ (if c || (any && (goes_on && true)) then at ∷ [] else [])) ++ (if moves && true then up ∷ [] else [])
pushed xs at up c any goes_on moves last same = grind (arith, common_steps, append-nil)

-- A place that is not marked adds nothing.
idle : (xs : List ℕ) (at up : ℕ) (c any goes_on moves : Bool) →
    xs ++ (if c then at ∷ [] else []) ≡ (xs ++ (if c || (any && (goes_on && false)) then at ∷ [] else [])) ++ (if moves && false then up ∷ [] else [])
idle xs at up c any goes_on moves = grind (arith, common_steps, append-nil)

fold_more : {X Y : Type 0} (f : X → Y → X) (a : X) (ys : List Y) (y : Y) → fold f a (ys ++ y ∷ []) ≡ f (fold f a ys) y
fold_more f a [] y = refl
fold_more f a (z ∷ ys) y = fold_more f (f a z) ys y

-- All marked places from some place on add those that are marked for the longer text from there on, and the place before, if it is.
module _ (all : List WildcardPlace) (b : ℕ) (text : List ℕ) where
  abbrev before : ℕ → Bool → List ℕ
  before at m = if (nat_lt 0 at && is_byte b (place_at all (at - 1))) && m then (at - 1) ∷ [] else []

  one_place : (xs : List ℕ) (ms : List Bool) (at : ℕ) (c m : Bool) → fold (push_next all b) [] xs ≡ positions (suc at) ms ++ (if c then at ∷ [] else []) →
      fold (push_next all b) [] (xs ++ (if m then at ∷ [] else [])) ≡ (positions (suc at) ms ++ (if c || ((place_at all at).after_any && (not (b == 10) && m)) then at ∷ [] else [])) ++ before at m
  one_place xs ms at c true so_far =
      fold_more (push_next all b) [] xs at ∙ ap (λ next. push_next all b next at) so_far ∙ pushed (positions (suc at) ms) at (at - 1) c _ _ _ _ (last_with ms at c)
  one_place xs ms at c false so_far = ap (fold (push_next all b) []) (append-nil xs) ∙ so_far ∙ idle (positions (suc at) ms) at (at - 1) c _ _ _

  next_from : (ps : List WildcardPlace) (at : ℕ) → ((k : ℕ) → place_at all (at + k) ≡ place_at ps k) →
      fold (push_next all b) [] (positions at (marks ps text)) ≡ positions at (marks ps (b ∷ text)) ++ before at (matches_from ps text)
  next_from [] at rest = idle [] at (at - 1) false true true _
  next_from (p ∷ ps) at rest =
      let mark = matches_from (p ∷ ps) text in
      let here : place_at all at ≡ p = ap (place_at all) (sym (add-zero at)) ∙ rest 0 in
      let later = next_from ps (suc at) (λ k. let e : suc at + k ≡ at + suc k = omega arith in ap (place_at all) e ∙ rest (suc k)) in
      let is : before (suc at) (matches_from ps text) ≡ (if has_byte b p.byte && matches_from ps text then at ∷ [] else []) =
      let e : suc at - 1 ≡ at = omega arith in let f : nat_lt 0 (suc at) ≡ true = lt-ltb 0 (suc at) (omega arith) in rw (e, f, here) refl in
      one_place (positions (suc at) (marks ps text)) (marks ps (b ∷ text)) at (has_byte b p.byte && matches_from ps text) mark (later ∙ ap (λ xs. positions (suc at) (marks ps (b ∷ text)) ++ xs) is)
      ∙ ap (λ n. (positions (suc at) (marks ps (b ∷ text)) ++ (if n then at ∷ [] else [])) ++ before at mark) (rw here (sym (next_mark p.after_any p.byte (matches_from ps) b text)))

pub next_marked : (all : List WildcardPlace) (b : ℕ) (text : List ℕ) → fold (push_next all b) [] (marked_places all text) ≡ marked_places all (b ∷ text)
next_marked all b text = next_from all b text all 0 (λ k. ap (place_at all) (zero-add k)) ∙ append-nil (marked_places all (b ∷ text))

-- Two bytes that are no symbols are alike.
module _ (b s : ℕ) (b_goes_on : (b == 10) ≡ false) (s_goes_on : (s == 10) ≡ false) (text : List ℕ) where
  same_from : (p : WildcardPlace) (ps : List WildcardPlace) → is_byte b p ≡ false → is_byte s p ≡ false → matches_from (p ∷ ps) (b ∷ text) ≡ matches_from (p ∷ ps) (s ∷ text)
  same_from p ps h k =
      let next = λ (x : ℕ). next_mark p.after_any p.byte (matches_from ps) x text in
      rw (next b, next s, h, k, b_goes_on, s_goes_on) refl

  same_marks : (ps : List WildcardPlace) → list_any (is_byte b) ps ≡ false → list_any (is_byte s) ps ≡ false → marks ps (b ∷ text) ≡ marks ps (s ∷ text)
  same_marks [] h k = refl
  same_marks (p ∷ ps) h k =
      let f = or_parts (is_byte b p) _ h in
      let g = or_parts (is_byte s p) _ k in
      λ i. same_from p ps f.0 g.0 i ∷ same_marks ps f.1 g.1 i

pub alike : (ps : List WildcardPlace) (b s : ℕ) → is_symbol ps b ≡ false → is_symbol ps s ≡ false → AreAlike ps b s
alike ps b s h k = λ text. let f = or_parts (b == 10) _ h in let g = or_parts (s == 10) _ k in ap (positions 0) (same_marks b s f.0 g.0 text ps f.1 g.1)

-- The classes of the first bytes. One more byte has its class.
pub record HaveClasses (ps : List WildcardPlace) (symbols classes : List ℕ) (n : ℕ) : Type 0 where
  pub few : length symbols ≤ n + 1
  pub first : slice_get symbols 0 ≡ Some 255
  pub count : length classes ≡ n
  pub each : (b : ℕ) → b < n → HasClass ps symbols classes b

pub one_class_more : (ps : List WildcardPlace) (symbols more classes numbers : List ℕ) (class s n : ℕ) → HaveClasses ps symbols classes n → Grows symbols more → length more ≤ length symbols + 1 →
    numbers ≡ classes ++ class ∷ [] → slice_get more class ≡ Some s → AreAlike ps n s → HaveClasses ps more numbers (n + 1)
one_class_more ps symbols more classes numbers class s n h grows few is at same = record {
  few = omega (arith, few, h.few);
  first = grows 0 255 h.first;
  count = ap length is ∙ length_push classes class ∙ ap (λ k. k + 1) h.count;
  each = rw is (below_more (HasClass ps more (classes ++ class ∷ [])) n
      (λ b below. let old = h.each b below in (old.0, subst (λ k. slice_get more k ≡ Some old.0) (sym (get_or_append_left classes (class ∷ []) 0 b (omega (arith, h.count)))) (grows _ _ old.1), old.2))
      (s, subst (λ k. slice_get more k ≡ Some s) (sym (get_or_push classes class 0 n h.count)) at, same));
}
