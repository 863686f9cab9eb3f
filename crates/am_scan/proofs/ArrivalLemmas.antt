-- Steps are listed where they lead.
use Rattle.std.proofs.Common.{◌≡◌, ℕ, zero, suc, ◌+◌, ◌<◌, ◌≤◌, Bool, true, false, ◌&&◌, ◌||◌, cond, eqb, nat_lt, List, [], ◌∷◌, ◌++◌, length, map, take, set, get_or, slice_get, slice_index_or, Option, Some, None, refl, sym, ap, ap₂, subst, ◌∙◌, inl, inr, arith, lt-ltb, le-ltb, eq-eqb, ne_eqb, add-one, vec_len}
use Rattle.std.specs.Global.{Vec}
use Rattle.std.specs.List.{filter, list_any}
use Rattle.std.proofs.lemmas.Bool.{and_right, cases_eq}
use Rattle.std.proofs.lemmas.List.Elements.{filter-append}
use Rattle.std.proofs.lemmas.List.{map-append, take_more}
use Rattle.std.proofs.lemmas.List.Folds.{list_any-append, list_any_more}
use Rattle.regex_hir.specs.Text.{is_some_and}
use Rattle.regex_nfa.specs.Run.{state_of}
use Rattle.regex_nfa.specs.States.{next_on}
use Rattle.regex_nfa.specs.declared.nfa.Nfa.{Nfa}
use Rattle.regex_nfa.proofs.RunLemmas.{next_on_within}
use Rattle.am_scan.specs.declared.arrivals.Arrival.{Arrival}
use Rattle.am_scan.specs.declared.column.Column.{Column}
use Rattle.am_scan.specs.declared.column.Edge.{Edge}
use Rattle.am_scan.specs.Arrivals.{AreArrivals, froms, has_edge, items_at, sources_below}
use Rattle.am_scan.specs.Closure.{contains, goes_on}
use Rattle.am_scan.specs.Column.{edges_of}
use Rattle.am_scan.proofs.Places.{take_front}
use Rattle.am_scan.proofs.ColumnLemmas.{any_edges, one_more}

-- a truth or `false` is the truth
or_false : (x : Bool) → (x || false) ≡ x
or_false true = refl
or_false false = refl

-- a truth and `true` is the truth
and_true : (x : Bool) → (x && true) ≡ x
and_true true = refl
and_true false = refl

-- more lists that are all empty
pub empty_pushed : {X : Type 0} (xs : List (Vec X)) (v : Vec X) → v.items ≡ [] → ((k : ℕ) → items_at xs k ≡ []) → (k : ℕ) → items_at (xs ++ v ∷ []) k ≡ []
empty_pushed [] v is h zero = is
empty_pushed [] v is h (suc k) = refl
empty_pushed (x ∷ xs) v is h zero = h 0
empty_pushed (x ∷ xs) v is h (suc k) = empty_pushed xs v is (λ j. h (suc j)) k

-- a write changes the list at its position alone
at_written : {X : Type 0} (xs : List (Vec X)) (i : ℕ) (v : Vec X) → i < length xs → items_at (set xs i v) i ≡ v.items
at_written [] i v within = absurd (omega (arith, within))
at_written (x ∷ xs) zero v within = refl
at_written (x ∷ xs) (suc i) v within = at_written xs i v (omega (arith, within))

at_other : {X : Type 0} (xs : List (Vec X)) (i k : ℕ) (v : Vec X) → (k ≡ i → ⊥) → items_at (set xs i v) k ≡ items_at xs k
at_other [] i k v other = refl
at_other (x ∷ xs) zero zero v other = absurd (other refl)
at_other (x ∷ xs) zero (suc k) v other = refl
at_other (x ∷ xs) (suc i) zero v other = refl
at_other (x ∷ xs) (suc i) (suc k) v other = at_other xs i k v (λ e. other (ap suc e))

pub at_read : {X : Type 0} (xs : List (Vec X)) (i : ℕ) (v : Vec X) → i < length xs → v ≡ get_or xs i v → items_at xs i ≡ v.items
at_read [] i v within is = absurd (omega (arith, within))
at_read {X = X} (x ∷ xs) zero v within is = ap (λ (u : Vec X). u.items) (sym is)
at_read (x ∷ xs) (suc i) v within is = at_read xs i v (omega (arith, within)) is

-- What is known of each list, if an element is pushed to one of them: `holds` is a test that a
-- list passes if one of its elements does, and the new element passes if `one` says so.
pub pushed_at : {X : Type 0} (holds : List X → Bool) (one : Bool) (x : X) → ((ys : List X) → holds (ys ++ x ∷ []) ≡ (holds ys || one))
    → (xs : List (Vec X)) (i : ℕ) (old new : Vec X) → i < length xs → old ≡ get_or xs i old → new.items ≡ old.items ++ x ∷ []
    → (k : ℕ) → holds (items_at (set xs i new) k) ≡ (holds (items_at xs k) || (eqb k i && one))
pushed_at holds one x pushed xs i old new within read is k =
    elim (cases_eq k i) [
      | inl same ↦
          rw (same, eq-eqb i i refl)
          (ap holds (at_written xs i new within ∙ is) ∙ pushed old.items ∙ ap (λ ys. holds ys || one) (sym (at_read xs i old within read)))
      | inr other ↦ ap holds (at_other xs i k new other) ∙ rw (ne_eqb k i other) (sym (or_false (holds (items_at xs k))))
    ]

-- nothing is pushed past the end
pub not_pushed : (h one : Bool) (k i n : ℕ) → k < n → n ≤ i → h ≡ (h || (eqb k i && one))
not_pushed h one k i n within past = rw (ne_eqb k i (λ e. omega (arith, e, within, past))) (sym (or_false h))

-- one more step comes from a state by a class if it did before, or if the last step does
pub froms_pushed : (class q : ℕ) (xs : List Arrival) (a : Arrival) →
    contains (froms class (xs ++ a ∷ [])) q ≡ (contains (froms class xs) q || (eqb class a.class && eqb a.from q))
froms_pushed class q xs a =
    ap (λ ys. contains (map (λ (b : Arrival). b.from) ys) q) (filter-append (λ (b : Arrival). eqb class b.class) xs (a ∷ []))
    ∙ ap (λ ns. contains ns q) (map-append (λ (b : Arrival). b.from) (filter (λ (b : Arrival). eqb class b.class) xs) _)
    ∙ list_any-append (λ m. eqb m q) (froms class xs) _
    ∙ ap (λ b. contains (froms class xs) q || b) (last (eqb class a.class) a.from)
  where
    last : (b : Bool) (m : ℕ) → contains (map (λ (b : Arrival). b.from) (cond b (a ∷ []) [])) q ≡ (b && eqb a.from q)
    last true m = or_false (eqb a.from q)
    last false m = refl

pub contains_pushed : (q : ℕ) (xs : List ℕ) (x : ℕ) → contains (xs ++ x ∷ []) q ≡ (contains xs q || eqb x q)
contains_pushed q xs x = list_any-append (λ m. eqb m q) xs (x ∷ []) ∙ ap (λ b. contains xs q || b) (or_false (eqb x q))

-- a step that is listed beside others
one_beside : (o c e t f : Bool) → ((o || (c && e)) || (t && (c && f))) ≡ (o || (c && (e || (t && f))))
one_beside true c e t f = refl
one_beside false true e t f = refl
one_beside false false e true f = refl
one_beside false false e false f = refl

-- the next step is listed
pub next_edge : (edges : List Edge) (i : ℕ) (d : Edge) (old c : Bool) (r q : ℕ) → i < length edges →
    let p = λ (e : Edge). eqb r e.to && eqb e.from q in
    ((old || (c && list_any p (take i edges))) || (eqb r (get_or edges i d).to && (c && eqb (get_or edges i d).from q)))
    ≡ (old || (c && list_any p (take (i + 1) edges)))
next_edge edges i d old c r q within =
    one_beside old c _ (eqb r (get_or edges i d).to) (eqb (get_or edges i d).from q)
    ∙ ap (λ b. old || (c && b)) (sym (list_any_more (λ (e : Edge). eqb r e.to && eqb e.from q) edges i d within))

-- a state that a step comes from, beside others
source_beside : (o r t : Bool) → ((o || r) || t) ≡ (o || (r || t))
source_beside true r t = refl
source_beside false r t = refl

-- the next state that a step comes from is there
pub next_arrival : (arrivals : List Arrival) (i : ℕ) (d : Arrival) (old : Bool) (k q : ℕ) → i < length arrivals →
    ((old || contains (froms k (take i arrivals)) q) || (eqb k (get_or arrivals i d).class && eqb (get_or arrivals i d).from q))
    ≡ (old || contains (froms k (take (i + 1) arrivals)) q)
next_arrival arrivals i d old k q within =
    source_beside old (contains (froms k (take i arrivals)) q) _
    ∙ ap (λ b. old || b) (sym (ap (λ xs. contains (froms k xs) q) (take_more arrivals i d within) ∙ froms_pushed k q (take i arrivals) (get_or arrivals i d)))

-- two numbers are the same if they are with one more on each
eqb_suc : (k n : ℕ) → eqb (suc k) (suc n) ≡ eqb k n
eqb_suc k n =
    elim (cases_eq k n) [
      | inl same ↦ eq-eqb (suc k) (suc n) (ap suc same) ∙ sym (eq-eqb k n same)
      | inr other ↦ ne_eqb (suc k) (suc n) (λ e. other (omega (arith, e))) ∙ sym (ne_eqb k n other)
    ]

-- the steps of one more column
has_edge_pushed : (columns : List Column) (column : Column) (k q r : ℕ) →
    (has_edge (slice_get columns k) q r || (eqb k (length columns) && list_any (λ (e : Edge). eqb r e.to && eqb e.from q) column.edges.items))
    ≡ has_edge (slice_get (columns ++ column ∷ []) k) q r
has_edge_pushed [] column zero q r = refl
has_edge_pushed [] column (suc k) q r = rw (ne_eqb (suc k) 0 (λ e. omega (arith, e))) refl
has_edge_pushed (x ∷ xs) column zero q r = rw (ne_eqb 0 (suc (length xs)) (λ e. omega (arith, e))) (or_false (has_edge (Some x) q r))
has_edge_pushed (x ∷ xs) column (suc k) q r = rw (eqb_suc k (length xs)) (has_edge_pushed xs column k q r)

pub has_edge_more : (columns : List Column) (i : ℕ) (column : Column) (k q r : ℕ) → i < length columns → column ≡ get_or columns i column → length (take i columns) ≡ i →
    (has_edge (slice_get (take i columns) k) q r || (eqb k i && list_any (λ (e : Edge). eqb r e.to && eqb e.from q) column.edges.items))
    ≡ has_edge (slice_get (take (i + 1) columns) k) q r
has_edge_more columns i column k q r within is count =
    rw (take_front columns i column within is)
    (subst (λ n. (has_edge (slice_get (take i columns) k) q r || (eqb k n && list_any (λ (e : Edge). eqb r e.to && eqb e.from q) column.edges.items))
    ≡ has_edge (slice_get (take i columns ++ column ∷ []) k) q r) count (has_edge_pushed (take i columns) column k q r))

module _ (arrivals : List (Vec Arrival)) (accepted : List Bool) (class q : ℕ) (o : Option ℕ)
    (each : (r : ℕ) → r < length arrivals → contains (froms class (items_at arrivals r)) q ≡ is_some_and o (eqb r)) where
  -- whether the step leads to an accepted state among the first ones
  abbrev arrives : ℕ → ℕ → Bool
  arrives n t = nat_lt t n && slice_index_or accepted t false

  -- the same for one more state
  one_state : (n : ℕ) (p : Option ℕ) → (is_some_and p (arrives n) || (is_some_and p (eqb n) && slice_index_or accepted n false)) ≡ is_some_and p (arrives (suc n))
  one_state n None = refl
  one_state n (Some t) = one_more (λ r. slice_index_or accepted r false) n t

  -- no state is among the first none
  no_state : (p : Option ℕ) → false ≡ is_some_and p (arrives 0)
  no_state None = refl
  no_state (Some t) = sym (ap (λ x. x && slice_index_or accepted t false) (le-ltb t 0 (omega arith)))

  -- what is listed says whether the step leads to an accepted state among the first ones
  below : (n : ℕ) → n ≤ length arrivals → sources_below n arrivals accepted class q ≡ is_some_and o (arrives n)
  below zero within = no_state o
  below (suc n) within =
      ap₂ (λ x y. x || (y && slice_index_or accepted n false)) (below n (omega (arith, within))) (each n (omega (arith, within)))
      ∙ one_state n o

  -- if the step leads to one of the states, what is listed says whether that one is accepted
  within_all : (p : Option ℕ) → ((t : ℕ) → p ≡ Some t → t < length arrivals) → is_some_and p (arrives (length arrivals)) ≡ is_some_and p (λ t. slice_index_or accepted t false)
  within_all None inside = refl
  within_all (Some t) inside = ap (λ x. x && slice_index_or accepted t false) (lt-ltb t (length arrivals) (inside t refl))

  pub listed_sources : ((t : ℕ) → o ≡ Some t → t < length arrivals) → sources_below (length arrivals) arrivals accepted class q ≡ is_some_and o (λ t. slice_index_or accepted t false)
  listed_sources inside = below (length arrivals) (omega arith) ∙ within_all o inside

-- what is listed says whether a byte of a column leads from a state to an accepted state
pub column_sources : (nfa : Nfa) (columns : List Column) (arrivals : List (Vec Arrival)) (accepted : List Bool) (class : ℕ) (column : Column) (byte : ℕ) →
    length arrivals ≡ vec_len nfa.states → length accepted ≡ length arrivals → AreArrivals columns arrivals → slice_get columns class ≡ Some column →
    column.edges.items ≡ edges_of nfa byte → (q : ℕ) → q < vec_len nfa.states →
    sources_below (length accepted) arrivals accepted class q ≡ goes_on nfa accepted q byte
column_sources nfa columns arrivals accepted class column byte states same are at edges q inside =
    ap (λ n. sources_below n arrivals accepted class q) same
    ∙ listed_sources arrivals accepted class q (next_on nfa.transitions.items (state_of nfa q) byte)
    (λ r within.
    are r class q within ∙ ap (λ o. has_edge o q r) at ∙ ap (list_any (λ (e : Edge). eqb r e.to && eqb e.from q)) edges
    ∙ any_edges (eqb r) nfa byte q inside)
    (λ t to. omega (arith, states, next_on_within nfa q byte t to))

module _ (arrivals : List (Vec Arrival)) (accepted : List Bool) (class q n : ℕ) where
  -- one more state, which is accepted
  pub accepted_more : slice_index_or accepted n false ≡ true →
      (sources_below n arrivals accepted class q || contains (froms class (items_at arrivals n)) q) ≡ sources_below (n + 1) arrivals accepted class q
  accepted_more is = rw (add-one n, is) (ap (λ b. sources_below n arrivals accepted class q || b) (sym (and_true (contains (froms class (items_at arrivals n)) q))))

  -- one more state, which is not accepted
  pub refused_more : slice_index_or accepted n false ≡ false → sources_below n arrivals accepted class q ≡ sources_below (n + 1) arrivals accepted class q
  refused_more is =
      rw (add-one n, is)
      (sym (ap (λ b. sources_below n arrivals accepted class q || b) (and_right (contains (froms class (items_at arrivals n)) q) false refl) ∙ or_false (sources_below n arrivals accepted class q)))
