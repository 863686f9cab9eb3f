-- Texts that a part of some matchers tells apart.
use Rattle.std.proofs.Common.{◌≡◌, ◌<◌, ◌⊎◌, ℕ, true, false, List, [], ◌∷◌, ◌++◌, Contains, IsTrue}
use Rattle.std.proofs.Common.{length, map, take, drop, string_bytes, String, sym, ap, ◌∙◌, subst, inl, inr, suc, zero}
use Rattle.std.proofs.Common.{Option, Some, None, IfSome, vec_len}
use Rattle.std.specs.List.{AllByRecursion}
use Rattle.std.specs.declared.alloc.Global.{Global}
use Rattle.am_universe.specs.declared.limits.TheConstants.{MAX_VALUES}
use Rattle.std.proofs.lemmas.List.{map-append, take-append-drop}
use Rattle.am_universe.proofs.ListLemmas.{IsIn, IsIn-left, IsIn-right, IsIn-from_Contains}
use Rattle.am_universe.proofs.ListLemmas.{Contains-from_IsIn, AllByRecursion-at, AllByRecursion-each}
use Rattle.am_universe.proofs.Members.{in_at}
use Rattle.am_labels.specs.Matcher.{Matcher}
use Rattle.am_scan.proofs.Places.{all_from_places}
use Rattle.am_classes.specs.declared.alphabet.Alphabet.{Alphabet}
use Rattle.am_classes.specs.declared.class_texts.ClassTexts.{ClassTexts}
use Rattle.am_classes.specs.declared.limits.TheConstants.{MAX_SAMPLE_NUMBERS}
use Rattle.am_classes.specs.Alphabet.{is_over, AreOver}
use Rattle.am_classes.specs.ClassTexts.{AreManyClasses, Names}
use Rattle.am_classes.specs.LabelTests.{IsTestsOf}
use Rattle.am_classes.specs.Named.{AreEachOnce, named_by, named_over}
use Rattle.am_classes.specs.Truths.{AreNewIn}
use Rattle.am_classes.proofs.AskedLemmas.{named_from}
use Rattle.am_classes.proofs.LimitLemmas.{apart_moved}
use Rattle.am_classes.proofs.OverLemmas.{string_over}

-- ---- Texts that are tried.

-- a text is over an alphabet, and named or short
abbrev pub IsTried : Alphabet → List Matcher → List ℕ → Type 0
IsTried a ms text =
    (is_over a text ≡ true) × (Names ms text ⊎ (length text < MAX_SAMPLE_NUMBERS))

pub named_tried : (a : Alphabet) (ms : List Matcher) (texts : List (List ℕ))
    → AreEachOnce (named_over a ms) texts → AllByRecursion (IsTried a ms) texts
named_tried a ms texts once =
    all_from_places (IsTried a ms) texts (λ k x at.
    let wanted = once.from k x at in
    let from = named_from a ms x (in_at (named_over a ms) wanted.0 x wanted.1) in (
      from.4,
      inl (
        from.0,
        Contains-from_IsIn ms from.0 from.1,
        Contains-from_IsIn (named_by from.0) x from.2,
      ),
    ))

pub short_tried : (a : Alphabet) (ms : List Matcher) (texts : List (List ℕ))
    → AllByRecursion (λ text. IsTrue (is_over a text) × (length text < MAX_SAMPLE_NUMBERS)) texts
    → AllByRecursion (IsTried a ms) texts
short_tried a ms [] all = tt
short_tried a ms (x ∷ texts) all = ((all.0.0, inr all.0.1), short_tried a ms texts all.1)

pub joined_tried : (P : List ℕ → Type 0) (n : ℕ) (texts more : List (String Global))
    → AllByRecursion P (map string_bytes texts) → AllByRecursion P (map string_bytes more)
    → AllByRecursion P (map string_bytes (take n texts ++ more))
joined_tried P zero texts more all also = also
joined_tried P (suc n) [] more all also = also
joined_tried P (suc n) (t ∷ texts) more all also = (all.0, joined_tried P n texts more all.1 also)

-- what is tried of texts in memory is over the alphabet, and tied to the matchers
pub tried_over : (a : Alphabet) (ms : List Matcher) (texts : List (String Global))
    → AllByRecursion (IsTried a ms) (map string_bytes texts) → AreOver a (map string_bytes texts)
tried_over a ms [] all = tt
tried_over a ms (t ∷ texts) all = (string_over a t all.0.0, tried_over a ms texts all.1)

pub tried_tied : (a : Alphabet) (ms : List Matcher) (texts : List (List ℕ))
    → AllByRecursion (IsTried a ms) texts
    → AllByRecursion (λ text. Names ms text ⊎ (length text < MAX_SAMPLE_NUMBERS)) texts
tried_tied a ms [] all = tt
tried_tied a ms (x ∷ texts) all = (all.0.1, tried_tied a ms texts all.1)

-- ---- All of the matchers.

-- a part of a slice is among it
whole_in : {X Y : Type 0} (f : X → Y) (xs : List X) (n : ℕ) (y : Y)
    → IsIn (map f (take n xs) ++ map f (drop n xs)) y → IsIn (map f xs) y
whole_in f xs n y =
    subst (λ ys. IsIn ys y)
    (sym (map-append f (take n xs) (drop n xs)) ∙ ap (map f) (take-append-drop n xs))

pub part_in : {X Y : Type 0} (f : X → Y) (xs : List X) (from n : ℕ) (y : Y)
    → IsIn (map f (take n (drop from xs))) y → IsIn (map f xs) y
part_in f xs from n y there =
    let rest = drop from xs in
    whole_in f xs from y (IsIn-right (map f (take from xs)) (map f rest) y
    (whole_in f rest n y (IsIn-left (map f (take n rest)) (map f (drop n rest)) y there)))

module _ (a : Alphabet) (ns ms : List Matcher) (to : (m : Matcher) → IsIn ns m → IsIn ms m) where
  pub names_whole : (text : List ℕ) → Names ns text → Names ms text
  names_whole text named =
      (named.0, Contains-from_IsIn ms named.0 (to named.0 (IsIn-from_Contains ns named.0 named.1)), named.2)

  pub many_whole : (c : ClassTexts) → AreManyClasses a ns c → AreManyClasses a ms c
  many_whole c many = record {
    not_all = many.not_all;
    many = many.many;
    over = many.over;
    apart = apart_moved a ns ms to (map string_bytes c.texts.items) many.apart;
    tied = AllByRecursion-each _ (map string_bytes c.texts.items) (λ x i.
        elim (AllByRecursion-at _ (map string_bytes c.texts.items) x many.tied i) [
          | inl named ↦ inl (names_whole x named)
          | inr short ↦ inr short
        ]);
    tests = (
      many.tests.0,
      many.tests.1,
      AllByRecursion-each (Contains ms) many.tests.0 (λ m i.
          Contains-from_IsIn ms m (to m (IsIn-from_Contains ns m
          (AllByRecursion-at (Contains ns) many.tests.0 m many.tests.2 i)))),
    );
  }

-- what is so of a value, if there is one
pub some_weaker : {X : Type 0} (P Q : X → Type 0) (o : Option X) → ((x : X) → P x → Q x)
    → IfSome o P → IfSome o Q
some_weaker P Q None to h = tt
some_weaker P Q (Some x) to h = to x h

-- ---- All texts that were tried.

-- of texts that were tried, those that are new are more than a label may have values
pub many_tried : (a : Alphabet) (ms : List Matcher) (c : ClassTexts) (wanted : List (List ℕ))
    → c.all ≡ false → MAX_VALUES < vec_len c.texts → AllByRecursion (IsTried a ms) wanted
    → AreNewIn ms [] wanted (map string_bytes c.texts.items) → IsTestsOf ms c.tests
    → AreManyClasses a ms c
many_tried a ms c wanted not_all many tried new is =
    let texts = map string_bytes c.texts.items in
    let kept : AllByRecursion (IsTried a ms) texts =
    AllByRecursion-each (IsTried a ms) texts (λ x i.
    AllByRecursion-at (IsTried a ms) wanted x tried
    (IsIn-from_Contains wanted x (AllByRecursion-at (Contains wanted) texts x new.from i))) in
    record {
      not_all = not_all;
      many = many;
      over = tried_over a ms c.texts.items kept;
      apart = new.apart;
      tied = tried_tied a ms texts kept;
      tests = (ms, is, AllByRecursion-each (Contains ms) ms (λ m i. Contains-from_IsIn ms m i));
    }
