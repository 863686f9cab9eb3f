-- The steps that a byte takes begin at the states that read it.
use Rattle.std.proofs.Common.{◌≡◌, ℕ, zero, suc, ◌<◌, Bool, true, false, ◌&&◌, ◌||◌, eqb, nat_lt, vec_len, Option, Some, None, refl, sym, ap, ap₂, ◌∙◌, inl, inr, arith, lt-ltb, le-ltb, ne_eqb, eq-eqb}
use Rattle.std.specs.List.{list_any}
use Rattle.std.proofs.lemmas.Bool.{cases_order}
use Rattle.std.proofs.lemmas.List.Folds.{list_any-append}
use Rattle.regex_hir.specs.Text.{is_some_and}
use Rattle.regex_nfa.specs.Run.{state_of}
use Rattle.regex_nfa.specs.States.{next_on}
use Rattle.regex_nfa.specs.declared.nfa.Nfa.{Nfa}
use Rattle.am_scan.specs.declared.column.Edge.{Edge}
use Rattle.am_scan.specs.Column.{edge_from, first_edges, edges_of}

-- with one more state, an earlier state is a source as before
keep : (a b c g h : Bool) → a ≡ true → b ≡ false → c ≡ true → ((a && g) || (b && h)) ≡ (c && g)
keep true false true true h x y z = refl
keep true false true false h x y z = refl
keep a b c g h x y z = absurd cc

-- the last state is a source if it goes on
pick : (a b c g h : Bool) → a ≡ false → b ≡ true → c ≡ true → h ≡ g → ((a && g) || (b && h)) ≡ (c && g)
pick false true true g h x y z e = e
pick a b c g h x y z e = absurd cc

-- no other state is a source
miss : (a b c g h : Bool) → a ≡ false → b ≡ false → c ≡ false → ((a && g) || (b && h)) ≡ (c && g)
miss false false false g h x y z = refl
miss a b c g h x y z = absurd cc

-- a truth and `false` together are `false`
and_false : (x : Bool) → false ≡ (x && false)
and_false true = refl
and_false false = refl

-- one test alone, with the order of its parts changed
alone : (x y : Bool) → ((x && y) || false) ≡ (y && x)
alone true true = refl
alone true false = refl
alone false y = and_false y

-- one more number: it is below the new bound if it was below the last one, or is that one
pub one_more : (g : ℕ → Bool) (n q : ℕ) → ((nat_lt q n && g q) || (eqb n q && g n)) ≡ (nat_lt q (suc n) && g q)
one_more g n q =
    elim (cases_order n q) [
      | inl same ↦
          pick (nat_lt q n) (eqb n q) (nat_lt q (suc n)) (g q) (g n) (le-ltb q n (omega arith)) (eq-eqb n q same)
          (lt-ltb q (suc n) (omega arith)) (ap g same)
      | inr other ↦ elim other [
        | inl less ↦
            miss (nat_lt q n) (eqb n q) (nat_lt q (suc n)) (g q) (g n) (le-ltb q n (omega arith))
            (ne_eqb n q (λ e. omega (arith, e))) (le-ltb q (suc n) (omega arith))
        | inr more ↦
            keep (nat_lt q n) (eqb n q) (nat_lt q (suc n)) (g q) (g n) (lt-ltb q n (omega arith))
            (ne_eqb n q (λ e. omega (arith, e))) (lt-ltb q (suc n) (omega arith))
      ]
    ]

module _ (f : ℕ → Bool) where
  -- whether a step from a state leads where `f` says
  abbrev leads : ℕ → Edge → Bool
  leads q e = f e.to && eqb e.from q

  -- the step from a state counts if it leads there
  any_one : (p : ℕ) (o : Option ℕ) (q : ℕ) → list_any (leads q) (edge_from p o) ≡ (eqb p q && is_some_and o f)
  any_one p None q = and_false (eqb p q)
  any_one p (Some r) q = alone (f r) (eqb p q)

  module _ (nfa : Nfa) (b : ℕ) where
    -- whether a state goes there on the byte
    abbrev goes : ℕ → Bool
    goes q = is_some_and (next_on nfa.transitions.items (state_of nfa q) b) f

    -- the sources among the first states are those that go there
    any_first : (n q : ℕ) → list_any (leads q) (first_edges nfa b n) ≡ (nat_lt q n && goes q)
    any_first zero q = sym (ap (λ x. x && goes q) (le-ltb q 0 (omega arith)))
    any_first (suc n) q =
        list_any-append (leads q) (first_edges nfa b n) _
        ∙ ap₂ ◌||◌ (any_first n q) (any_one n (next_on nfa.transitions.items (state_of nfa n) b) q)
        ∙ one_more goes n q

    -- so the sources among all states are those that go there
    pub any_edges : (q : ℕ) → q < vec_len nfa.states → list_any (leads q) (edges_of nfa b) ≡ goes q
    any_edges q inside = any_first (vec_len nfa.states) q ∙ ap (λ x. x && goes q) (lt-ltb q (vec_len nfa.states) inside)
