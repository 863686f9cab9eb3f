-- An item of a list that passes a test, and what a filter keeps.
use Rattle.std.proofs.Common.{◌≡◌, inl, inr, List, [], ◌∷◌, Bool, true, false, cond, refl, ap, sym, ◌∙◌}
use Rattle.std.specs.Prelude.{IsTrue}
use Rattle.std.specs.List.{list_any, filter}
use Rattle.std.proofs.lemmas.Bool.{cases_Bool}
use Rattle.am_universe.proofs.ListLemmas.{IsIn}

-- ---- Some that passes a test.

pub any_in : {X : Type 0} (test : X → Bool) (xs : List X) → IsTrue (list_any test xs)
    → (x : X) × IsIn xs x × IsTrue (test x)
any_in test [] h = absurd (cc)
any_in test (x ∷ xs) h = elim (cases_Bool (test x)) [
  | inl passes ↦ (x, inl refl, passes)
  | inr fails ↦ let later = any_in test xs (rw fails at h) in (later.0, inr later.1, later.2)
]

pub in_any : {X : Type 0} (test : X → Bool) (xs : List X) (x : X) → IsIn xs x → IsTrue (test x)
    → IsTrue (list_any test xs)
in_any test [] x h passes = absurd h
in_any test (y ∷ xs) x (inl same) passes =
    let here : test y ≡ true = ap test same ∙ passes in rw here refl
in_any test (y ∷ xs) x (inr later) passes = elim (cases_Bool (test y)) [
  | inl first ↦ rw first refl
  | inr fails ↦ rw fails (in_any test xs x later passes)
]

-- ---- What a filter keeps.

kept_step : {X : Type 0} (test : X → Bool) (x y : X) (b : Bool) (xs ks : List X) → test x ≡ b
    → IsIn (cond b (x ∷ ks) ks) y → (IsIn ks y → IsIn xs y × (test y ≡ true))
    → IsIn (x ∷ xs) y × (test y ≡ true)
kept_step test x y true xs ks e (inl same) rest = (inl same, ap test (sym same) ∙ e)
kept_step test x y true xs ks e (inr h) rest = let r = rest h in (inr r.0, r.1)
kept_step test x y false xs ks e h rest = let r = rest h in (inr r.0, r.1)

-- An item that is kept was in the list, and passes.
pub passes_from_kept : {X : Type 0} (test : X → Bool) (xs : List X) (y : X)
    → IsIn (filter test xs) y → IsIn xs y × (test y ≡ true)
passes_from_kept test [] y h = absurd h
passes_from_kept test (x ∷ xs) y h =
    kept_step test x y (test x) xs (filter test xs) refl h (passes_from_kept test xs y)

pub kept_behind : {X : Type 0} (b : Bool) (x y : X) (ks : List X) → IsIn ks y
    → IsIn (cond b (x ∷ ks) ks) y
kept_behind true x y ks h = inr h
kept_behind false x y ks h = h

-- An item that was in the list and passes is kept.
pub kept_from_passes : {X : Type 0} (test : X → Bool) (xs : List X) (y : X) → IsIn xs y
    → test y ≡ true → IsIn (filter test xs) y
kept_from_passes test [] y h e = absurd h
kept_from_passes test (x ∷ xs) y (inl same) e =
    let passes : test x ≡ true = ap test same ∙ e in
    rw passes (inl same)
kept_from_passes test (x ∷ xs) y (inr h) e =
    kept_behind (test x) x y (filter test xs) (kept_from_passes test xs y h e)

-- A test that all items pass keeps all, and a test that none passes keeps none.
pub all_kept : {X : Type 0} (test : X → Bool) (xs : List X) → ((x : X) → test x ≡ true)
    → filter test xs ≡ xs
all_kept test [] each = refl
all_kept test (x ∷ xs) each = rw (each x) (ap (λ ks. x ∷ ks) (all_kept test xs each))

pub none_kept : {X : Type 0} (test : X → Bool) (xs : List X) → ((x : X) → test x ≡ false)
    → filter test xs ≡ []
none_kept test [] each = refl
none_kept test (x ∷ xs) each = rw (each x) (none_kept test xs each)
