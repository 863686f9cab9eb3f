-- Listed states: with more listed, and for each text one that it leads to.
use Rattle.std.proofs.Common.{◌≡◌, ◌<◌, ◌≤◌, ◌+◌, ◌-◌, ℕ, zero, suc, ap, map, set, false, Option, ◌⊎◌, List, [], ◌∷◌, ◌++◌, Some, None, get_or, replicate, slice_get, length, refl, inl, inr, subst, sym, ◌∙◌, arith, lt-ltb, le-ltb}
use Rattle.std.proofs.lemmas.Bool.{cases_lt, false≢true}
use Rattle.std.proofs.lemmas.Option.{option_and_then_some, same_Some, slice_get_within}
use Rattle.am_classes.specs.declared.questions.Questions.{Questions}
use Rattle.am_classes.specs.declared.label_state.LabelState.{LabelState}
use Rattle.am_classes.specs.declared.reached_state.ReachedState.{ReachedState}
use Rattle.am_classes.specs.declared.tail.Tail.{Tail}
use Rattle.am_classes.specs.Utf8.{text_step, tail_with}
use Rattle.am_classes.specs.State.{FollowsLabel}
use Rattle.am_classes.specs.Automata.{MakeSame}
use Rattle.am_classes.specs.Exploration.{HasState, LeadsOn, AreLed, byte_at, IsClosed}
use Rattle.am_classes.specs.Exploration.{AreShortFirst, HaveLength, IsSameSpent}
use Rattle.am_scan.specs.Automaton.{Grows}
use Rattle.am_scan.specs.Sight.{is_scanned}
use Rattle.am_scan.proofs.Places.{get_pushed, get_last}
use Rattle.am_classes.proofs.TailLemmas.{in_utf8, step_byte}

-- A listed state is still there when more is listed.
pub has_kept : (q : Questions) (old new : List ReachedState) (n : ℕ) (text : List ℕ)
    → Grows old new → HasState q old n text → HasState q new n text
has_kept q old new n text grows has = (has.0, has.1, grows has.0 has.1 has.2, has.3, has.4)

pub leads_kept : (q : Questions) (old new : List ReachedState) (item : ReachedState) (byte : ℕ)
    → Grows old new → LeadsOn q old item byte → LeadsOn q new item byte
leads_kept q old new item byte grows leads = λ text tail follows has.
    has_kept q old new (length item.text.items + 1) (byte ∷ text) grows (leads text tail follows has)

-- What is so of each element is so with one more, if it is so of that one.
pub each_more : {X : Type 0} (P : X → Type 0) (old new : List X) (y : X) → new ≡ old ++ y ∷ []
    → ((k : ℕ) (x : X) → slice_get old k ≡ Some x → P x) → P y
    → (k : ℕ) (x : X) → slice_get new k ≡ Some x → P x
each_more P old new y is each here = λ k x at.
    elim (get_pushed old y x k (subst (λ xs. slice_get xs k ≡ Some x) is at)) [
      | inl before ↦ each k x before
      | inr last ↦ subst P last.1 here
    ]

-- States with shorter texts still come first with one more that has a longest text.
pub short_more : (n : ℕ) (old new : List ReachedState) (item : ReachedState) → new ≡ old ++ item ∷ []
    → AreShortFirst n old → length item.text.items ≡ n → AreShortFirst n new
short_more n old new item is short here = record {
  order = λ i j x y at also below.
      elim (get_pushed old item x i (subst (λ xs. slice_get xs i ≡ Some x) is at)) [
        | inl a ↦ elim (get_pushed old item y j (subst (λ xs. slice_get xs j ≡ Some y) is also)) [
          | inl b ↦ short.order i j x y a b below
          | inr b ↦ subst (λ z. length x.text.items ≤ length z.text.items) b.1 (omega (arith, short.most i x a, here))
        ]
        | inr a ↦ elim (get_pushed old item y j (subst (λ xs. slice_get xs j ≡ Some y) is also)) [
          | inl b ↦ absurd (omega (arith, a.0, below, slice_get_within old j y b))
          | inr b ↦ subst (λ z. length z.text.items ≤ length y.text.items) a.1 (subst (λ z. length item.text.items ≤ length z.text.items) b.1 (omega arith))
        ]
      ];
  most = each_more (λ x. length x.text.items ≤ n) old new item is short.most (omega (arith, here));
}

-- A state that is added is listed.
pub has_pushed : (q : Questions) (old new : List ReachedState) (item : ReachedState) (n : ℕ)
    (text : List ℕ) → new ≡ old ++ item ∷ [] → FollowsLabel q item.state text
    → length item.text.items ≤ n → HasState q new n text
has_pushed q old new item n text is follows short =
    (length old, item, subst (λ xs. slice_get xs (length old) ≡ Some item) (sym is) (get_last old item), follows, short)

-- A byte leads on if it leads to a state that is spent, and the same one is listed.
pub leads_spent : (q : Questions) (listed : List ReachedState) (item : ReachedState) (byte : ℕ)
    (state : LabelState) (k : ℕ) (other : ReachedState) → slice_get listed k ≡ Some other
    → IsSameSpent state other.state → HaveLength (length item.text.items + 1) listed
    → ((text : List ℕ) → FollowsLabel q item.state text → FollowsLabel q state (byte ∷ text))
    → LeadsOn q listed item byte
leads_spent q listed item byte state k other at same long step = λ text tail follows has.
    let here = step text follows in (
      k,
      other,
      at,
      record {
        tail = here.tail ∙ ap Some same.tails;
        fronts = ap (map (λ f. f.now)) (same.fronts.1 ∙ sym same.fronts.0) ∙ here.fronts;
        live = same.live.1 ∙ sym same.live.0 ∙ here.live;
      },
      omega (arith, long k other at),
    )

-- A byte leads on where another does that leads to the same states.
pub leads_again : (q : Questions) (listed : List ReachedState) (item : ReachedState) (one other : ℕ)
    → text_step (is_scanned q.bytes) item.state.tail one ≡ text_step (is_scanned q.bytes) item.state.tail other
    → ((text : List ℕ) (next : LabelState) → FollowsLabel q item.state text → FollowsLabel q next (one ∷ text)
    → FollowsLabel q next (other ∷ text)) → LeadsOn q listed item one → LeadsOn q listed item other
leads_again q listed item one other tails again leads = λ text tail follows has.
    let step = rw follows.tail at has in
    let there = leads text tail follows (rw follows.tail (tails ∙ step)) in
    (there.0, there.1, there.2, again text there.1.state follows there.3, there.4)

-- After a write, an element is what was written, or what was there before.
get_changed : {X : Type 0} (xs : List X) (i k : ℕ) (x y : X) → slice_get (set xs i x) k ≡ Some y
    → ((k ≡ i) × (x ≡ y)) ⊎ (slice_get xs k ≡ Some y)
get_changed [] i k x y e = absurd cc
get_changed (z ∷ xs) zero zero x y e = inl (refl, same_Some x y e)
get_changed (z ∷ xs) zero (suc k) x y e = inr e
get_changed (z ∷ xs) (suc i) zero x y e = inr e
get_changed (z ∷ xs) (suc i) (suc k) x y e =
    elim (get_changed xs i k x y e) [ inl a ↦ inl (ap suc a.0, a.1) | inr b ↦ inr b ]

-- A byte that is read in `led` is there.
pub led_at : (led : List (Option ℕ)) (class byte : ℕ) → get_or led class None ≡ Some byte
    → slice_get led class ≡ Some (Some byte)
led_at [] class byte e = absurd cc
led_at (x ∷ led) zero byte e = ap Some e
led_at (x ∷ led) (suc class) byte e = led_at led class byte e

-- At first no byte is there.
pub none_led : (count class byte : ℕ) → slice_get (replicate count None) class ≡ Some (Some byte) → ⊥
none_led zero class byte e = absurd cc
none_led (suc count) zero byte e = absurd cc
none_led (suc count) (suc class) byte e = none_led count class byte e

-- A byte that led on still does when more is listed.
pub led_kept : (q : Questions) (old new : List ReachedState) (item : ReachedState) (led : List (Option ℕ))
    → Grows old new → AreLed q old item led → AreLed q new item led
led_kept q old new item led grows are = λ class byte here.
    let before = are class byte here in
    (before.0, leads_kept q old new item byte grows before.1)

-- One more byte has led on.
pub led_more : (q : Questions) (listed : List ReachedState) (item : ReachedState) (led : List (Option ℕ))
    (class byte : ℕ) → AreLed q listed item led → MakeSame q.automata.items class byte
    → LeadsOn q listed item byte → AreLed q listed item (set led class (Some byte))
led_more q listed item led class byte are make leads = λ c b here.
    elim (get_changed led class c (Some byte) (Some b) here) [
      | inl new ↦
          let same = same_Some byte b new.1 in
          subst (λ x. MakeSame q.automata.items c x × LeadsOn q listed item x) same
          (subst (λ k. MakeSame q.automata.items k byte) (sym new.0) make, leads)
      | inr old ↦ are c b old
    ]

-- Each byte has a place.
pub place_of_byte : (byte : ℕ) → byte < 256 → (place : ℕ) × (place < 256) × (byte_at place ≡ byte)
place_of_byte byte small =
    elim (cases_lt byte 32) [
      | inl control ↦ (byte + 95, omega arith, rw (le-ltb (byte + 95) 30 (omega arith), le-ltb (byte + 95) 95 (omega arith), lt-ltb (byte + 95) 127 (omega arith)) (omega arith))
      | inr visible ↦ elim (cases_lt byte 97) [
        | inl low ↦ (byte - 2, omega arith, rw (le-ltb (byte - 2) 30 (omega arith), lt-ltb (byte - 2) 95 (omega arith)) (omega arith))
        | inr high ↦ elim (cases_lt byte 127) [
          | inl letter ↦ (byte - 97, omega arith, rw (lt-ltb (byte - 97) 30 (omega arith)) (omega arith))
          | inr beyond ↦ (byte, small, rw (le-ltb byte 30 (omega arith), le-ltb byte 95 (omega arith), le-ltb byte 127 (omega arith)) refl)
        ]
      ]
    ]

-- A byte that is not of the set leads to no text that is tried.
pub unscanned_leads : (q : Questions) (listed : List ReachedState) (item : ReachedState) (byte : ℕ)
    → is_scanned q.bytes byte ≡ false → LeadsOn q listed item byte
unscanned_leads q listed item byte not = λ text tail follows has.
    option_and_then_some (λ last. text_step (is_scanned q.bytes) last byte)
    (tail_with (is_scanned q.bytes) text) tail has
    (λ last before step.
    absurd (false≢true (sym not ∙ (in_utf8 (is_scanned q.bytes) last tail byte step).0)))

-- Each text that is the end of a text that is tried leads to a listed state, or to one at or
-- behind a position if only the states before that lead on. The text beside it is not longer.
pub reached : (q : Questions) (listed : List ReachedState) (at : ℕ) → IsClosed q listed at
    → (text : List ℕ) (tail : Tail) → tail_with (is_scanned q.bytes) text ≡ Some tail
    → (k : ℕ) × (item : ReachedState) × (slice_get listed k ≡ Some item)
    × (length item.text.items ≤ length text) × (FollowsLabel q item.state text ⊎ (at ≤ k))
reached q listed at closed [] tail e =
    let here = closed.first in (here.0, here.1, here.2, here.4, inl here.3)
reached q listed at closed (byte ∷ text) tail e =
    option_and_then_some (λ last. text_step (is_scanned q.bytes) last byte) (tail_with (is_scanned q.bytes) text) tail e
    (λ last before step.
    let here = reached q listed at closed text last before in
    elim here.4 [
      | inr behind ↦ (here.0, here.1, here.2, omega (arith, here.3), inr behind)
      | inl follows ↦ elim (cases_lt here.0 at) [
        | inr behind ↦ (here.0, here.1, here.2, omega (arith, here.3), inr behind)
        | inl below ↦ (
            let next = closed.leads here.0 byte here.1 below here.2 (step_byte (is_scanned q.bytes) last tail byte step) text tail follows e in
            (next.0, next.1, next.2, omega (arith, here.3, next.4), inl next.3))
      ]
    ])
