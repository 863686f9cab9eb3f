-- The receivers of outcomes: those of one outcome more.
use Rattle.std.proofs.Common.{◌≡◌, ℕ, ◌+◌, Bool, true, false, cond, ◌&&◌, ◌||◌, List, [], ◌∷◌, ◌++◌}
use Rattle.std.proofs.Common.{map, fold, take, Some, Bor, refl, ap, sym, ◌∙◌, arith}
use Rattle.std.specs.Prelude.{slice_get}
use Rattle.std.specs.List.{list_any}
use mathlib.Core.Bool.{beq}
use Rattle.std.proofs.lemmas.Bool.{cases_Bool}
use Rattle.std.proofs.lemmas.List.{map-append}
use Rattle.std.proofs.lemmas.List.Sums.{fold-append}
use Rattle.std.proofs.lemmas.List.Folds.{list_any-append}
use Rattle.std.proofs.lemmas.Simd.{map-map}
use Rattle.std.proofs.lemmas.Grind.{common_steps}
use Rattle.std.specs.Cmp.Lexicographic.{bytes_decides, nat_list_eq_equiv}
use Rattle.indexmap.specs.IndexSet.{insert_key}
use Rattle.am_universe.specs.Text.{same_text}
use Rattle.am_universe.proofs.UniverseLemmas.{list_any-map}
use Rattle.am_complete.proofs.Pushed.{one_longer}
use Rattle.am_outcomes.specs.Outcomes.{firsts, with_first}
use Rattle.am_rule_outcomes.specs.ReceiverOutcomes.{is_silenced_outcome, receiver_outcome}
use Rattle.am_rule_outcomes.specs.ReceiverOutcomes.{receiver_outcomes, receivers_of, silenced_of}
use Rattle.am_rule_outcomes.specs.ReceiverOutcomes.{some_with, with_shown}

abbrev pub Outcome : Type 0
Outcome = List (List ℕ) × List ℕ

-- ---- Which receivers have an outcome that is silenced, or one that is not.

some_next : (b : Bool) (os : List Outcome) (i : ℕ) (o : Outcome) (rs : List ℕ)
    → slice_get os i ≡ Some o
    → some_with b (take (i + 1) os) rs
    ≡ some_with b (take i os) rs || (same_text (receivers_of o) rs && beq (is_silenced_outcome o) b)
some_next b os i o rs at =
    let test : Outcome → Bool = λ o. same_text (receivers_of o) rs && beq (is_silenced_outcome o) b in
    ap (list_any test) (sym (one_longer os i o at))
    ∙ grind (arith, common_steps, list_any-append test (take i os) (o ∷ []))

-- ---- Lists of receivers in a set.

abbrev pub Key : Type 0
Key = Bor (List ℕ)

abbrev pub texts : List Key → List (List ℕ)
texts ks = map (λ k. k.now) ks

abbrev pub has_receivers : List Key → List ℕ → Bool
has_receivers ks rs = list_any (λ k. same_text rs k.now) ks

same_as : (rs r k : List ℕ) → same_text r k ≡ true → same_text rs r ≡ same_text rs k
same_as rs r k same = ap (same_text rs) ((bytes_decides r k).0 same)

there_too : (ks : List Key) (r rs : List ℕ) → has_receivers ks r ≡ true
    → has_receivers ks rs || same_text rs r ≡ has_receivers ks rs
there_too [] r rs there = absurd cc
there_too (k ∷ ks) r rs there =
    grind (arith, common_steps, cases_Bool, there_too ks r rs, same_as rs r k.now)

put_if : (b : Bool) (ks : List Key) (r : Key) (rs : List ℕ) → has_receivers ks r.now ≡ b
    → has_receivers (cond b ks (ks ++ r ∷ [])) rs ≡ has_receivers ks rs || same_text rs r.now
put_if true ks r rs there = sym (there_too ks r.now rs there)
put_if false ks r rs there =
    grind (arith, common_steps, list_any-append (λ (k : Key). same_text rs k.now) ks (r ∷ []))

module _ (eq : Key → Key → Bool) (compares : (x y : Key) → eq x y ≡ same_text x.now y.now) where
  pub alike_keys : (ks : List Key) (r : Key) → list_any (eq r) ks ≡ has_receivers ks r.now
  alike_keys [] r = refl
  alike_keys (k ∷ ks) r = λ i. compares r k i || alike_keys ks r i

  pub put_more : (ks : List Key) (r : Key) (rs : List ℕ)
      → has_receivers (insert_key eq ks r) rs ≡ has_receivers ks rs || same_text rs r.now
  put_more ks r rs = put_if (list_any (eq r) ks) ks r rs (sym (alike_keys ks r))

-- one outcome more, whose receivers are in the set if it is as the flag says
pub where_put : (b : Bool) (os : List Outcome) (i : ℕ) (o : Outcome) (rs : List ℕ) (now : Bool)
    → slice_get os i ≡ Some o → beq (is_silenced_outcome o) b ≡ true
    → now ≡ some_with b (take i os) rs
    → now || same_text rs (receivers_of o) ≡ some_with b (take (i + 1) os) rs
where_put b os i o rs now at is so_far =
    grind (arith, common_steps, cases_Bool, some_next b os i o rs at, nat_list_eq_equiv.symm rs (receivers_of o))

pub where_same : (b : Bool) (os : List Outcome) (i : ℕ) (o : Outcome) (rs : List ℕ) (now : Bool)
    → slice_get os i ≡ Some o → beq (is_silenced_outcome o) b ≡ false
    → now ≡ some_with b (take i os) rs → now ≡ some_with b (take (i + 1) os) rs
where_same b os i o rs now at is so_far =
    grind (arith, common_steps, cases_Bool, some_next b os i o rs at)

-- ---- The first outcomes with each list.

abbrev pub firsts_of : List Outcome → List (List ℕ × List ℕ)
firsts_of os = firsts same_text (map (λ o. (receivers_of o, o.1)) os)

abbrev firsts_with : Bool → List (List ℕ × List ℕ) → List ℕ × List ℕ → List (List ℕ × List ℕ)
firsts_with b fs one = cond b fs (fs ++ one ∷ [])

abbrev pub first_keys : List (List ℕ × List ℕ) → List (List ℕ)
first_keys fs = map (λ e. e.0) fs

first_more : (os : List Outcome) (i : ℕ) (o : Outcome) → slice_get os i ≡ Some o
    → firsts_of (take (i + 1) os)
    ≡ with_first same_text (firsts_of (take i os)) (receivers_of o, o.1)
first_more os i o at =
    ap firsts_of (sym (one_longer os i o at))
    ∙ ap (fold (with_first same_text) [])
    (map-append (λ (o : Outcome). (receivers_of o, o.1)) (take i os) (o ∷ []))
    ∙ fold-append (with_first same_text) [] (map (λ (o : Outcome). (receivers_of o, o.1)) (take i os))
    ((receivers_of o, o.1) ∷ [])

there : (ks : List Key) (fs : List (List ℕ × List ℕ)) (r : List ℕ) → texts ks ≡ first_keys fs
    → list_any (λ e. same_text r e.0) fs ≡ has_receivers ks r
there ks fs r are =
    sym (list_any-map (same_text r) (λ (e : List ℕ × List ℕ). e.0) fs)
    ∙ ap (list_any (same_text r)) (sym are) ∙ list_any-map (same_text r) (λ (k : Key). k.now) ks

-- the firsts of one outcome more, by whether its receivers are in the set
pub first_by : (b : Bool) (os : List Outcome) (i : ℕ) (o : Outcome) (ks : List Key) (r : Key)
    → slice_get os i ≡ Some o → r.now ≡ receivers_of o
    → texts ks ≡ first_keys (firsts_of (take i os)) → has_receivers ks r.now ≡ b
    → firsts_of (take (i + 1) os) ≡ firsts_with b (firsts_of (take i os)) (receivers_of o, o.1)
first_by b os i o ks r at is are has =
    let fs = firsts_of (take i os) in
    first_more os i o at
    ∙ ap (λ b. firsts_with b fs (receivers_of o, o.1))
    (there ks fs (receivers_of o) are ∙ ap (has_receivers ks) (sym is) ∙ has)

keys_by : (b : Bool) (ks : List Key) (r : Key) (fs : List (List ℕ × List ℕ)) (c : List ℕ)
    → texts ks ≡ first_keys fs
    → texts (cond b ks (ks ++ r ∷ [])) ≡ first_keys (firsts_with b fs (r.now, c))
keys_by true ks r fs c are = are
keys_by false ks r fs c are =
    map-append (λ (k : Key). k.now) ks (r ∷ []) ∙ ap (λ ts. ts ++ r.now ∷ []) are
    ∙ sym (map-append (λ (e : List ℕ × List ℕ). e.0) fs ((r.now, c) ∷ []))

module _ (eq : Key → Key → Bool) (compares : (x y : Key) → eq x y ≡ same_text x.now y.now) where
  pub seen_more : (os : List Outcome) (i : ℕ) (o : Outcome) (ks : List Key) (r : Key)
      → slice_get os i ≡ Some o → r.now ≡ receivers_of o
      → texts ks ≡ first_keys (firsts_of (take i os))
      → texts (insert_key eq ks r) ≡ first_keys (firsts_of (take (i + 1) os))
  seen_more os i o ks r at is are =
      let fs = firsts_of (take i os) in
      keys_by (list_any (eq r) ks) ks r fs o.1 are
      ∙ ap (λ rs. first_keys (firsts_with (list_any (eq r) ks) fs (rs, o.1))) is
      ∙ ap first_keys (sym (first_by (list_any (eq r) ks) os i o ks r at is are
      (sym (alike_keys eq compares ks r))))

-- ---- Something else may stand for the alerts.

module _ {C D : Type 0} (show : C → D) where
  abbrev pub shown : {K : Type 0} → K × C → K × D
  shown one = (one.0, show one.1)

  keys_shown : (b : Bool) (found : List (List ℕ × C)) (one : List ℕ × C)
      → cond b (map shown found) (map shown found ++ shown one ∷ [])
      ≡ map shown (cond b found (found ++ one ∷ []))
  keys_shown true found one = refl
  keys_shown false found one = sym (map-append shown found (one ∷ []))

  firsts_shown : (all found : List (List ℕ × C))
      → fold (with_first same_text) (map shown found) (map shown all)
      ≡ map shown (fold (with_first same_text) found all)
  firsts_shown [] found = refl
  firsts_shown (one ∷ all) found =
      let there : Bool = list_any (λ (e : List ℕ × C). same_text one.0 e.0) found in
      ap (λ b. fold (with_first same_text) (cond b (map shown found) (map shown found ++ shown one ∷ []))
      (map shown all))
      (list_any-map (λ (e : List ℕ × D). same_text one.0 e.0) shown found)
      ∙ ap (λ fs. fold (with_first same_text) fs (map shown all)) (keys_shown there found one)
      ∙ firsts_shown all (with_first same_text found one)

  pub receivers_shown : (os : List (List (List ℕ) × C))
      → receiver_outcomes (map shown os) ≡ map (with_shown show) (receiver_outcomes os)
  receivers_shown os =
      ap (λ keyed. map (receiver_outcome (map shown os)) (firsts same_text keyed))
      (map-map (λ (o : List (List ℕ) × D). (receivers_of o, o.1)) shown os
      ∙ sym (map-map shown keyed os))
      ∙ ap (map (receiver_outcome (map shown os))) (firsts_shown (map keyed os) [])
      ∙ each_shown (firsts same_text (map keyed os))
    where
      keyed : List (List ℕ) × C → List ℕ × C
      keyed o = (receivers_of o, o.1)

      each_shown : (fs : List (List ℕ × C))
          → map (receiver_outcome (map shown os)) (map shown fs)
          ≡ map (with_shown show) (map (receiver_outcome os) fs)
      each_shown [] = refl
      each_shown (f ∷ fs) =
          let same = λ (b : Bool). list_any-map (λ (o : List (List ℕ) × D).
          same_text (receivers_of o) f.0 && beq (is_silenced_outcome o) b) shown os in
          λ i. (record {
            receivers = f.0;
            first = show f.1;
            silenced = silenced_of (same true i) (same false i);
          }) ∷ each_shown fs i
