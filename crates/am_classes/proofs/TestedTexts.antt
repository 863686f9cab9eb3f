-- Texts that were tested by matchers: which of them are alike, and which are new.
use Rattle.std.proofs.Common.{◌≡◌, ℕ, Bool, true, false, cond, ◌||◌, List, [], ◌∷◌, ◌++◌, nat_eq}
use Rattle.std.proofs.Common.{Contains, HashSet, map, refl, sym, ap, ap₂, ◌∙◌, subst, inl, append_assoc}
use Rattle.std.specs.Cmp.Lexicographic.{nat_list_eq_equiv, pointwise}
use Rattle.std.specs.Global.{Vec}
use Rattle.std.specs.HashSet.{contains}
use Rattle.std.specs.List.{AllByRecursion, list_any}
use Rattle.std.proofs.lemmas.Bool.{both_ways}
use Rattle.std.proofs.lemmas.List.Folds.{list_any-append}
use Rattle.am_universe.proofs.DistinctLists.{all_push}
use Rattle.am_universe.proofs.ListLemmas.{IsIn, IsIn-left, IsIn-right}
use Rattle.am_universe.proofs.ListLemmas.{IsIn-from_Contains, Contains-from_IsIn}
use Rattle.am_universe.proofs.ListLemmas.{AllByRecursion-at, AllByRecursion-each}
use Rattle.am_labels.specs.Matcher.{Matcher}
use Rattle.am_labels.proofs.Passing.{any_in, in_any}
use Rattle.am_classes.specs.Alike.{HasAlikeIn}
use Rattle.am_classes.specs.Truths.{hits, texts_of, AreTested, AreNewIn, are_same}
use Rattle.am_classes.specs.declared.tested.Tested.{Tested}
use Rattle.am_classes.proofs.AlikeLemmas.{alike_itself, alike_is, is_alike, apart_pushed}

-- ---- The same hits.

-- the hits are those of a text
abbrev pub has_hits : List Matcher → Vec ℕ → List ℕ → Bool
has_hits ms found text = pointwise nat_eq (hits ms text) found.items

-- hits that are in a set are those of some text
abbrev pub AreSeen : {S : Type 0} → List Matcher → HashSet (Vec ℕ) S → List (List ℕ) → Type 0
AreSeen ms seen texts =
    (found : Vec ℕ) → contains are_same seen found ≡ list_any (has_hits ms found) texts

pub seen_first : (ms : List Matcher) (there : List Tested) (found : Vec ℕ) → AreTested ms there
    → list_any (are_same found) (map (λ t. t.hits) there)
    ≡ list_any (has_hits ms found) (texts_of there)
seen_first ms [] found h = refl
seen_first ms (t ∷ there) found h =
    ap₂ ◌||◌ (nat_list_eq_equiv.symm found.items t.hits.items
    ∙ ap (λ ks. pointwise nat_eq ks found.items) h.0) (seen_first ms there found h.1)

pub any_more : (new before : Bool) → cond new true before ≡ (before || (new || false))
any_more true true = refl
any_more true false = refl
any_more false true = refl
any_more false false = refl

module _ (ms : List Matcher) (texts : List (List ℕ)) (x : List ℕ) (own : Vec ℕ)
    (is : own.items ≡ hits ms x) where
  pub seen_more : (found : Vec ℕ) (before now : Bool)
      → before ≡ list_any (has_hits ms found) texts → now ≡ cond (are_same own found) true before
      → now ≡ list_any (has_hits ms found) (texts ++ x ∷ [])
  seen_more found before now was e =
      e ∙ (λ i. cond (pointwise nat_eq (is i) found.items) true (was i))
      ∙ any_more (has_hits ms found x) _ ∙ sym (list_any-append (has_hits ms found) texts (x ∷ []))

  pub alike_there : list_any (has_hits ms own) texts ≡ true → HasAlikeIn ms texts x
  alike_there some =
      let y = any_in (has_hits ms own) texts some in
      let same = ap (pointwise nat_eq (hits ms y.0)) (sym is) ∙ y.2 in
      (y.0, Contains-from_IsIn texts y.0 y.1, is_alike ms y.0 x same)

  pub none_alike : list_any (has_hits ms own) texts ≡ false → HasAlikeIn ms texts x → ⊥
  none_alike none one =
      both_ways (list_any (has_hits ms own) texts) none
      (in_any (has_hits ms own) texts one.0 (IsIn-from_Contains texts one.0 one.1)
      (ap (pointwise nat_eq (hits ms one.0)) is ∙ alike_is ms one.0 x one.2))

-- ---- One wanted text more.

-- a text that has one alike among some texts has one among more texts
pub alike_within : (ms : List Matcher) (xs ys : List (List ℕ)) (text : List ℕ)
    → ((x : List ℕ) → IsIn xs x → IsIn ys x) → HasAlikeIn ms xs text → HasAlikeIn ms ys text
alike_within ms xs ys text within one =
    (one.0, Contains-from_IsIn ys one.0 (within one.0 (IsIn-from_Contains xs one.0 one.1)), one.2)

module _ (ms : List Matcher) (there wanted texts : List (List ℕ)) (x : List ℕ)
    (h : AreNewIn ms there wanted texts) where
  from_more : AllByRecursion (Contains (wanted ++ x ∷ [])) texts
  from_more =
      AllByRecursion-each (Contains (wanted ++ x ∷ [])) texts (λ y i.
      Contains-from_IsIn (wanted ++ x ∷ []) y (IsIn-left wanted (x ∷ []) y
      (IsIn-from_Contains wanted y (AllByRecursion-at (Contains wanted) texts y h.from i))))

  -- it has one alike
  pub one_old : HasAlikeIn ms (there ++ texts) x → AreNewIn ms there (wanted ++ x ∷ []) texts
  one_old one = record {
    from = from_more;
    apart = h.apart;
    new = h.new;
    cover = all_push (HasAlikeIn ms (there ++ texts)) wanted x h.cover one;
  }

  -- it has none, and is new
  pub one_new : (HasAlikeIn ms (there ++ texts) x → ⊥)
      → AreNewIn ms there (wanted ++ x ∷ []) (texts ++ x ∷ [])
  one_new none =
      let more = there ++ (texts ++ x ∷ []) in
      record {
        from = all_push (Contains (wanted ++ x ∷ [])) texts x from_more
            (Contains-from_IsIn (wanted ++ x ∷ []) x (IsIn-right wanted (x ∷ []) x (inl refl)));
        apart = apart_pushed ms texts x h.apart (λ y i alike.
            none (y, Contains-from_IsIn (there ++ texts) y (IsIn-right there texts y i), alike));
        new = all_push (λ text. HasAlikeIn ms there text → ⊥) texts x h.new
            (λ one. none (alike_within ms there (there ++ texts) x
            (λ y i. IsIn-left there texts y i) one));
        cover = all_push (HasAlikeIn ms more) wanted x
            (AllByRecursion-each (HasAlikeIn ms more) wanted (λ y i.
            alike_within ms (there ++ texts) more y
            (λ z j. subst (λ (zs : List (List ℕ)). IsIn zs z) (append_assoc there texts (x ∷ []))
            (IsIn-left (there ++ texts) (x ∷ []) z j))
            (AllByRecursion-at (HasAlikeIn ms (there ++ texts)) wanted y h.cover i))) (
              x,
              Contains-from_IsIn more x
                  (IsIn-right there (texts ++ x ∷ []) x (IsIn-right texts (x ∷ []) x (inl refl))),
              alike_itself ms x,
            );
      }
