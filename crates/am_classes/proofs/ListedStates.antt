-- States that are listed: two are equal if their tails, their fronts and their live patterns are.
use Rattle.std.proofs.Common.{◌≡◌, ◌<◌, Bool, true, ◌&&◌, List, [], ◌∷◌, ◌++◌, ℕ, length, Bor, Some, slice_get, map, ap, ap₂, subst, sym, refl, ◌∙◌, inl, inr, is_some, arith, nat_eq}
use Rattle.std.specs.List.{IsDistinct, list_any}
use Rattle.std.specs.Cmp.Lexicographic.{pointwise}
use Rattle.std.specs.Bool.{Decides}
use Rattle.std.proofs.lemmas.Bool.{and_parts, and_from, cases_Bool, cases_lt, eqb-true}
use Rattle.std.proofs.lemmas.List.{length-map}
use Rattle.std.proofs.lemmas.Map.Keys.{apart_from_distinct}
use Rattle.std.proofs.lemmas.Option.{same_Some, slice_get_within, get_or_from_slice_get}
use Rattle.std.proofs.lemmas.Slice.Eq.{bytes_eq-Decides, slice_eq-Decides}
use Rattle.std.proofs.lemmas.Grind.{common_steps}
use Rattle.indexmap.specs.IndexSet.{insert_key, insert_all}
use Rattle.am_universe.proofs.ListLemmas.{IsIn}
use Rattle.am_universe.proofs.Members.{at_in}
use Rattle.am_labels.proofs.Passing.{any_in}
use Rattle.am_scan.specs.Automaton.{Grows}
use Rattle.am_scan.specs.Sight.{is_scanned}
use Rattle.am_scan.proofs.Places.{all_from_places, grows_pushed}
use Rattle.am_classes.specs.declared.limits.TheConstants.{MAX_STATES}
use Rattle.am_classes.specs.declared.questions.Questions.{Questions}
use Rattle.am_classes.specs.declared.live.LivePattern.{LivePattern}
use Rattle.am_classes.specs.declared.reached_state.ReachedState.{ReachedState}
use Rattle.am_classes.specs.Automata.{numbers_of}
use Rattle.am_classes.specs.Fronts.{fronts_of}
use Rattle.am_classes.specs.State.{FollowsLabel, named_texts}
use Rattle.am_classes.specs.Utf8.{tail_with}
use Rattle.am_classes.specs.Exploration.{AreListed, AreShortFirst, HasState}
use Rattle.am_classes.specs.Exploration.{HasManyLabelStates}
use Rattle.am_classes.specs.contracts.reached_state.ReachedStatePartialEq.TheImpl.{eq-value}
use Rattle.am_classes.specs.contracts.live.LivePatternPartialEq.TheImpl.{eq-value as live_value}
use Rattle.am_classes.proofs.AutomataLemmas.{get_mapped}
use Rattle.am_classes.proofs.LiveLemmas.{same_live}
use Rattle.am_classes.proofs.ExplorationLemmas.{each_more, has_kept, has_pushed, short_more}

abbrev pub is_same : ReachedState → ReachedState → Bool
is_same = eq-value.it

abbrev is_same_pattern : LivePattern → LivePattern → Bool
is_same_pattern = live_value.it

abbrev pub fronts_of_state : ReachedState → List (List ℕ)
fronts_of_state x = map (λ f. f.now) x.state.fronts.items

abbrev same_front : Bor (List ℕ) → Bor (List ℕ) → Bool
same_front f g = pointwise nat_eq f.now g.now

fronts_seen : (fs gs : List (Bor (List ℕ))) → pointwise same_front fs gs
    ≡ pointwise (pointwise nat_eq) (map (λ f. f.now) fs) (map (λ f. f.now) gs)
fronts_seen [] [] = refl
fronts_seen [] (g ∷ gs) = refl
fronts_seen (f ∷ fs) [] = refl
fronts_seen (f ∷ fs) (g ∷ gs) = ap (λ b. pointwise nat_eq f.now g.now && b) (fronts_seen fs gs)

-- Two live patterns are equal exactly if their places and their numbers are.
same_pattern : (l m : LivePattern) → Decides (is_same_pattern l m) (l ≡ m)
same_pattern l m = (
  λ same.
      let parts = and_parts (nat_eq l.place m.place) (nat_eq l.number m.number) same in
      let place = eqb-true l.place m.place parts.0 in
      let number = eqb-true l.number m.number parts.1 in
      ap₂ (λ p n. record { place = p; number = n }) place number,
  λ is. grind (arith, common_steps, and_from),
)

-- Two are equal exactly if their parts are.
pub record HaveSameParts (x y : ReachedState) : Type 0 where
  pub tail : x.state.tail ≡ y.state.tail
  pub fronts : fronts_of_state x ≡ fronts_of_state y
  pub live : x.state.live.items ≡ y.state.live.items

pub parts_same : (x y : ReachedState) → is_same x y ≡ true → HaveSameParts x y
parts_same x y same = record {
  tail = grind (arith, common_steps, and_parts);
  fronts = (slice_eq-Decides bytes_eq-Decides (fronts_of_state x) (fronts_of_state y) _ (fronts_seen x.state.fronts.items y.state.fronts.items)).0 (grind (arith, common_steps, and_parts));
  live = (slice_eq-Decides same_pattern x.state.live.items y.state.live.items _ refl).0 (grind (arith, common_steps, and_parts));
}

pub same_parts : (x y : ReachedState) → HaveSameParts x y → is_same x y ≡ true
same_parts x y parts =
    let fronts = (slice_eq-Decides bytes_eq-Decides (fronts_of_state x) (fronts_of_state y) _ (fronts_seen x.state.fronts.items y.state.fronts.items)).1 parts.fronts in
    let live = (slice_eq-Decides same_pattern x.state.live.items y.state.live.items _ refl).1 parts.live in
    grind (arith, common_steps, and_from)

follows_same : (q : Questions) (x y : ReachedState) (text : List ℕ) → is_same x y ≡ true
    → FollowsLabel q x.state text → FollowsLabel q y.state text
follows_same q x y text same follows =
    let parts = parts_same x y same in
    record {
      tail = follows.tail ∙ ap Some parts.tail;
      fronts = sym parts.fronts ∙ follows.fronts;
      live = sym parts.live ∙ follows.live;
    }

-- ---- More states are listed, each with a text of `n` bytes.

pub record AreListedToo (q : Questions) (n : ℕ) (old more new : List ReachedState) : Type 0 where
  pub grows : Grows old new
  pub own : AreListed q new
  pub short : AreShortFirst n new
  pub serves : (x : ReachedState) → IsIn more x → (text : List ℕ) → FollowsLabel q x.state text
      → HasState q new n text

module _ (q : Questions) (n : ℕ) where
  listed_one : (old : List ReachedState) (x : ReachedState) → AreListed q old → AreShortFirst n old
      → FollowsLabel q x.state x.text.items → length x.text.items ≡ n
      → AreListedToo q n old (x ∷ []) (insert_key is_same old x)
  listed_one old x own short follows long = elim (cases_Bool (list_any (is_same x) old)) [
    | inl there ↦
        let y = any_in (is_same x) old there in
        let at = at_in old y.0 y.1 in
        let new : AreListedToo q n old (x ∷ []) old = record {
          grows = λ k z here. here;
          own = own;
          short = short;
          serves = λ z is text has. elim is [
            | inl same ↦ (at.0, y.0, at.1, follows_same q x y.0 text y.2 (subst (λ w. FollowsLabel q w.state text) (sym same) has), short.most at.0 y.0 at.1)
            | inr none ↦ absurd none
          ];
        } in rw there new
    | inr missed ↦
        let new : AreListedToo q n old (x ∷ []) (old ++ x ∷ []) = record {
          grows = grows_pushed old _ x refl;
          own = each_more (λ y. FollowsLabel q y.state y.text.items) old _ x refl own follows;
          short = short_more n old _ x refl short long;
          serves = λ z is text has. elim is [
            | inl same ↦ has_pushed q old _ x n text refl (subst (λ w. FollowsLabel q w.state text) (sym same) has) (omega (arith, long))
            | inr none ↦ absurd none
          ];
        } in rw missed new
  ]

  pub listed_all : (old more : List ReachedState) → AreListed q old → AreShortFirst n old
      → ((x : ReachedState) → IsIn more x → FollowsLabel q x.state x.text.items × (length x.text.items ≡ n))
      → AreListedToo q n old more (insert_all is_same old more)
  listed_all old [] own short each =
      record { grows = λ k x at. at; own = own; short = short; serves = λ x none. absurd none }
  listed_all old (x ∷ more) own short each =
      let here = each x (inl refl) in
      let one = listed_one old x own short here.0 here.1 in
      let rest = listed_all (insert_key is_same old x) more one.own one.short (λ y is. each y (inr is)) in record {
        grows = λ k y at. rest.grows k y (one.grows k y at);
        own = rest.own;
        short = rest.short;
        serves = λ y is text has. elim is [
          | inl first ↦ has_kept q _ _ n text rest.grows (one.serves y (inl first) text has)
          | inr later ↦ rest.serves y later text has
        ];
      }

-- ---- Too many states.

differ : (listed : List ReachedState) (i j : ℕ) (x y : ReachedState) → IsDistinct is_same listed
    → slice_get listed i ≡ Some x → slice_get listed j ≡ Some y → i < j → HaveSameParts x y → ⊥
differ listed i j x y distinct at also below parts =
    let no = apart_from_distinct is_same listed i j x distinct below (slice_get_within listed j y also) in
    let yes = same_parts x y parts in
    let first = get_or_from_slice_get listed i x x at in
    let second = get_or_from_slice_get listed j y x also in
    cc

same_place : (listed : List ReachedState) (i j : ℕ) (x y : ReachedState) → IsDistinct is_same listed
    → slice_get listed i ≡ Some x → slice_get listed j ≡ Some y → HaveSameParts x y → i ≡ j
same_place listed i j x y distinct at also parts = elim (cases_lt i j) [
  | inl less ↦ absurd (differ listed i j x y distinct at also less parts)
  | inr above ↦ elim (cases_lt j i) [
    | inl less ↦ absurd (differ listed j i y x distinct also at less
        (record { tail = sym parts.tail; fronts = sym parts.fronts; live = sym parts.live }))
    | inr below ↦ omega arith
  ]
]

abbrev text_beside : ReachedState → List ℕ
text_beside x = x.text.items

along : {A : Type 0} (f : List ℕ → A) (s t x y : List ℕ) → x ≡ s → y ≡ t → f s ≡ f t → f x ≡ f y
along f s t x y first second same = ap f first ∙ same ∙ sym (ap f second)

-- The texts beside listed states tell them apart.
pub many_listed : (q : Questions) (listed : List ReachedState) → AreListed q listed
    → IsDistinct is_same listed → MAX_STATES < length listed → HasManyLabelStates q
many_listed q listed own distinct many = (
  map text_beside listed,
  omega (arith, many, length-map listed text_beside),
  all_from_places _ (map text_beside listed) (λ k text at.
      let x = get_mapped text_beside listed k text at in
      ap is_some (ap (tail_with (is_scanned q.bytes)) (sym x.2) ∙ (own k x.0 x.1).tail)),
  λ i j s t at also tails fronts numbers.
      let x = get_mapped text_beside listed i s at in
      let y = get_mapped text_beside listed j t also in
      let one = own i x.0 x.1 in
      let other = own j y.0 y.1 in
      same_place listed i j x.0 y.0 distinct x.1 y.1 (record {
        tail = same_Some _ _ (sym one.tail ∙ along (tail_with (is_scanned q.bytes)) s t _ _ x.2 y.2 tails ∙ other.tail);
        fronts = one.fronts ∙ along (fronts_of (named_texts q)) s t _ _ x.2 y.2 fronts ∙ sym other.fronts;
        live = one.live ∙ same_live 0 q.automata.items _ _ (along (numbers_of q.automata.items) s t _ _ x.2 y.2 numbers) ∙ sym other.live;
      }),
)
