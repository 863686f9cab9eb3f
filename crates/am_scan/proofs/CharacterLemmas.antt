-- What tells characters apart, as it becomes more, and what patterns ask.
use Rattle.std.proofs.Common.{◌≡◌, inl, inr, ℕ, zero, suc, ◌-◌, ◌<◌, Bool, true, false, List, [], ◌∷◌, ◌++◌, Option, Some, None, slice_get, eqb, eq-eqb, refl, sym, ap, subst, ◌∙◌, arith, IsTrue, IfOk, Ok, Result}
use Rattle.std.specs.List.{AllByRecursion}
use Rattle.std.proofs.lemmas.Bool.{or_left, or_parts, or_right}
use Rattle.std.proofs.lemmas.List.Folds.{list_any-append}
use Rattle.regex_class.specs.Ranges.{in_ranges}
use Rattle.regex_hir.specs.Meaning.{cat_all, alt_all, optional, copies, up_to, at_least, repeat}
use Rattle.regex_hir.specs.Re.{Re, empty, literal, byte_in, char_in, look, cat, alt, group, plus}
use Rattle.am_scan.specs.declared.character_sets.CharacterSets.{CharacterSets}
use Rattle.am_scan.specs.Characters.{IsAlone, IsBlind, Narrows}
use Rattle.am_scan.specs.Closure.{contains}

pub all_map : {X : Type 0} (P Q : X → Type 0) (xs : List X) → ((x : X) → P x → Q x) → AllByRecursion P xs → AllByRecursion Q xs
all_map P Q [] f all = tt
all_map P Q (x ∷ xs) f all = (f x all.0, all_map P Q xs f all.1)

-- what follows if something is known
pub if_known : {E : Type 0} (r : Result Bool E) (P Q : Type 0) → IfOk r (λ known. IsTrue known → P) → (P → Q) → IfOk r (λ known. IsTrue known → Q)
if_known (Ok known) P Q h f = λ yes. f (h yes)
if_known r P Q h f = tt

module _ (s : CharacterSets) where
  -- a character of ASCII is alike to itself alone
  pub alone_ascii : (c : ℕ) → c < 128 → IsAlone s c
  alone_ascii c small d (inl (inl same)) = same
  alone_ascii c small d (inl (inr kind)) = absurd (omega (arith, small, kind.wide.0))
  alone_ascii c small d (inr (inl same)) = sym same
  alone_ascii c small d (inr (inr kind)) = absurd (omega (arith, small, kind.wide.1))

  -- so is one that stands by itself
  pub alone_single : (c : ℕ) → contains s.singles.items c ≡ true → IsAlone s c
  alone_single c there d (inl (inl same)) = same
  alone_single c there d (inl (inr kind)) = let no = kind.free.0 in absurd cc
  alone_single c there d (inr (inl same)) = sym same
  alone_single c there d (inr (inr kind)) = let no = kind.free.1 in absurd cc

  -- what a repetition asks
  blind_copies : (n : ℕ) (a b : Re) → IsBlind s a → IsBlind s b → IsBlind s (copies n a b)
  blind_copies zero a b one other = other
  blind_copies (suc n) a b one other = (one, blind_copies n a b one other)

  blind_optional : (greedy : Bool) (a : Re) → IsBlind s a → IsBlind s (optional greedy a)
  blind_optional true a blind = (blind, tt)
  blind_optional false a blind = (tt, blind)

  blind_up_to : (greedy : Bool) (n : ℕ) (a : Re) → IsBlind s a → IsBlind s (up_to greedy n a)
  blind_up_to greedy zero a blind = tt
  blind_up_to greedy (suc n) a blind = blind_optional greedy _ (blind, blind_up_to greedy n a blind)

  blind_at_least : (greedy : Bool) (n : ℕ) (a : Re) → IsBlind s a → IsBlind s (at_least greedy n a)
  blind_at_least greedy zero a blind = blind_optional greedy (plus greedy a) blind
  blind_at_least greedy (suc n) a blind = blind_copies n a (plus greedy a) blind blind

  pub blind_repeat : (min : ℕ) (max : Option ℕ) (greedy : Bool) (a : Re) → IsBlind s a → IsBlind s (repeat min max greedy a)
  unfolding repeat
  blind_repeat min None greedy a blind = blind_at_least greedy min a blind
  blind_repeat min (Some max) greedy a blind = blind_copies min a _ blind (blind_up_to greedy (max - min) a blind)

  -- what parts ask, one after another or as branches
  pub blind_cat_all : (res : List Re) → AllByRecursion (IsBlind s) res → IsBlind s (cat_all res)
  blind_cat_all [] blind = tt
  blind_cat_all (re ∷ res) blind = (blind.0, blind_cat_all res blind.1)

  pub blind_alt_all : (res : List Re) → AllByRecursion (IsBlind s) res → IsBlind s (alt_all res)
  unfolding in_ranges
  blind_alt_all [] blind = λ c yes. absurd cc
  blind_alt_all (re ∷ res) blind = (blind.0, blind_alt_all res blind.1)

module _ (s t : CharacterSets) where
  -- what is told apart by fewer sets is told apart by more
  pub narrows_single : (e : ℕ) → t.sets.items ≡ s.sets.items → t.singles.items ≡ s.singles.items ++ e ∷ [] → Narrows s t
  narrows_single e sets singles c d (inl same) = inl same
  narrows_single e sets singles c d (inr kind) = inr (record {
    wide = kind.wide;
    len = kind.len;
    same = λ k set at. kind.same k set (subst (λ xs. slice_get xs k ≡ Some set) (sym sets) at);
    free = (left c kind.free.0, left d kind.free.1);
  })
    where
      left : (f : ℕ) → contains t.singles.items f ≡ false → contains s.singles.items f ≡ false
      left f h = (or_parts _ _ (sym (list_any-append (λ m. eqb m f) s.singles.items (e ∷ [])) ∙ ap (λ xs. contains xs f) (sym singles) ∙ h)).0

  -- one that stands by itself is alike to itself alone
  pub alone_pushed : (c : ℕ) → t.singles.items ≡ s.singles.items ++ c ∷ [] → IsAlone t c
  alone_pushed c singles = alone_single t c (rw singles (list_any-append (λ m. eqb m c) s.singles.items (c ∷ []) ∙ or_right _ _ (or_left _ _ (eq-eqb c c refl))))

  -- what was alike to itself alone still is
  pub alone_narrowed : Narrows s t → (c : ℕ) → IsAlone s c → IsAlone t c
  alone_narrowed narrows c alone d (inl h) = alone d (inl (narrows c d h))
  alone_narrowed narrows c alone d (inr h) = alone d (inr (narrows d c h))

  -- and what asked nothing of alike characters still does not
  pub blind_narrowed : Narrows s t → (re : Re) → IsBlind s re → IsBlind t re
  blind_narrowed narrows empty blind = tt
  blind_narrowed narrows (literal bs) blind = (blind.0, blind.1, blind.2, all_map (IsAlone s) (IsAlone t) blind.0 (alone_narrowed narrows) blind.3)
  blind_narrowed narrows (byte_in rs) blind = blind
  blind_narrowed narrows (char_in rs) blind = λ c d h. blind c d (narrows c d h)
  blind_narrowed narrows (look l) blind = blind
  blind_narrowed narrows (cat a b) blind = (blind_narrowed narrows a blind.0, blind_narrowed narrows b blind.1)
  blind_narrowed narrows (alt a b) blind = (blind_narrowed narrows a blind.0, blind_narrowed narrows b blind.1)
  blind_narrowed narrows (group n a) blind = blind_narrowed narrows a blind
  blind_narrowed narrows (plus greedy a) blind = blind_narrowed narrows a blind
