-- The texts that a label has in the label sets of a universe.
use Rattle.std.proofs.Common.{◌≡◌, ◌≢◌, ℕ, List, [], ◌∷◌, map, Option, Some, None, Bool, true, false}
use Rattle.std.proofs.Common.{Contains, refl, sym, ap, ◌∙◌, subst, inl, inr}
use Rattle.std.specs.Prelude.{unwrap_or}
use Rattle.std.specs.List.{find, IsDistinct}
use Rattle.std.specs.Cmp.Lexicographic.{bytes_decides}
use Rattle.std.proofs.lemmas.Bool.{cases_Bool}
use Rattle.std.proofs.lemmas.Map.Keys.{IsDistinct-head, IsDistinct-tail}
use Rattle.am_universe.specs.Text.{same_text}
use Rattle.am_universe.specs.Universe.{Label, IsLabel, IsUniverse, names}
use Rattle.am_universe.proofs.ListLemmas.{IsIn, IsIn-map, IsIn-unmap, AllByRecursion-at}
use Rattle.am_universe.proofs.ListLemmas.{IsIn-from_Contains, Contains-from_IsIn}
use Rattle.am_complete.specs.Complete.{label_texts, texts_of_label}

-- ---- The label of a name.

abbrev pub has_name : List ℕ → Label → Bool
has_name name l = same_text l.name name

-- what is found is there, and passes; and if it is found by its name, it has the name
pub found : {X : Type 0} (test : X → Bool) (xs : List X) (x : X) → find test xs ≡ Some x
    → IsIn xs x × (test x ≡ true)
found test [] x e = absurd (cc)
found test (y ∷ xs) x e = elim (cases_Bool (test y)) [
  | inl passes ↦
      let here : Some y ≡ Some x = rw passes at e in
      let first : y ≡ x = cc in (inl first, ap test (sym first) ∙ passes)
  | inr fails ↦ let r = found test xs x (rw fails at e) in (inr r.0, r.1)
]

pub found_in : {X : Type 0} (name_of : X → List ℕ) (name : List ℕ) (xs : List X) (x : X)
    → find (λ y. same_text (name_of y) name) xs ≡ Some x → IsIn xs x × (name_of x ≡ name)
found_in name_of name xs x e =
    let r = found (λ y. same_text (name_of y) name) xs x e in
    (r.0, (bytes_decides (name_of x) name).0 r.1)

-- where names are distinct, each is found by its name
pub finds_in : {X : Type 0} (name_of : X → List ℕ) (xs : List X) (x : X)
    → IsDistinct same_text (map name_of xs) → IsIn xs x
    → find (λ y. same_text (name_of y) (name_of x)) xs ≡ Some x
finds_in name_of [] x d h = absurd h
finds_in name_of (y ∷ xs) x d (inl same) =
    let named : same_text (name_of y) (name_of x) ≡ true =
    (bytes_decides (name_of y) (name_of x)).1 (ap name_of same) in
    rw named (ap Some same)
finds_in name_of (y ∷ xs) x d (inr later) =
    let apart : same_text (name_of y) (name_of x) ≡ false =
    AllByRecursion-at (λ n. same_text (name_of y) n ≡ false) (map name_of xs) (name_of x)
    (IsDistinct-head _ _ _ d) (IsIn-map name_of xs x later) in
    rw apart (finds_in name_of xs x (IsDistinct-tail _ _ _ d) later)

-- no label is found if none has this name
pub none_found : (u : List Label) (name : List ℕ) → (Contains (names u) name → ⊥)
    → find (has_name name) u ≡ None
none_found u name fresh = by (find (has_name name) u) refl
  where
    by : (o : Option Label) → find (has_name name) u ≡ o → find (has_name name) u ≡ None
    by None e = e
    by (Some l) e =
        let r = found_in (λ k. k.name) name u l e in
        absurd (fresh (Contains-from_IsIn (names u) name
        (subst (IsIn (names u)) r.1 (IsIn-map (λ k. k.name) u l r.0))))

pub declared_texts : (u : List Label) (l : Label) → IsUniverse u → IsIn u l
    → label_texts u l.name ≡ map (λ v. unwrap_or v []) l.values
declared_texts u l h i = ap texts_of_label (finds_in (λ k. k.name) u l h.distinct i)

-- what holds for absence alone, and for the texts of each label of a name, holds for the texts of
-- the name
pub texts_by : (P : List (List ℕ) → Type 0) (u : List Label) (name : List ℕ) → P ([] ∷ [])
    → ((l : Label) → IsIn u l → l.name ≡ name → P (texts_of_label (Some l)))
    → P (label_texts u name)
texts_by P u name absent declared = by (find (has_name name) u) refl
  where
    by : (o : Option Label) → find (has_name name) u ≡ o → P (texts_of_label o)
    by None e = absent
    by (Some l) e = let r = found_in (λ k. k.name) name u l e in declared l r.0 r.1

-- if no label has a name, the only text of the name is absence
pub unnamed_texts : (u : List Label) (name : List ℕ) → (Contains (names u) name → ⊥)
    → label_texts u name ≡ [] ∷ []
unnamed_texts u name fresh = ap texts_of_label (none_found u name fresh)

-- no label of a universe has the empty name, so the only text of that name is absence
pub some_names : (u : List Label) (name : List ℕ) → IsUniverse u → IsIn (names u) name
    → name ≢ []
some_names u name h i =
    let r = IsIn-unmap (λ l. l.name) u name i in
    subst (λ n. n ≢ []) r.2 ((AllByRecursion-at IsLabel u r.0 h.labels r.1).name)

pub nameless_texts : (u : List Label) → IsUniverse u → label_texts u [] ≡ [] ∷ []
nameless_texts u h =
    unnamed_texts u [] (λ there.
    some_names u [] h (IsIn-from_Contains (names u) [] there) refl)
