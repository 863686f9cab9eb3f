-- Texts that stand for their classes: among others, for a label with the same matchers, and in a
-- universe.
use Rattle.std.proofs.Common.{◌≡◌, ◌⊎◌, ◌<◌, ◌≤◌, ℕ, zero, suc, Bor, List, [], ◌∷◌, ◌++◌, map, set}
use Rattle.std.proofs.Common.{Bool, true, false, not, length, string_bytes, Contains, arith}
use Rattle.std.proofs.Common.{Option, Some, None, refl, sym, ap, ◌∙◌, subst, inl, inr}
use Rattle.std.specs.Prelude.{slice_get, IsPermutation, IsTrue}
use Rattle.std.specs.List.{AllByRecursion, AllZip}
use Rattle.std.proofs.lemmas.List.Sorted.{Contains-permutation, IsPermutation-sym}
use Rattle.std.proofs.lemmas.Bool.{and_parts}
use Rattle.std.proofs.lemmas.Option.{same_Some}
use Rattle.am_universe.specs.LabelSet.{LabelMap}
use Rattle.am_universe.specs.Universe.{Label, IsLabel, IsUniverse}
use Rattle.am_universe.proofs.ListLemmas.{IsIn, IsIn-map, IsIn-from_Contains, Contains-from_IsIn}
use Rattle.am_universe.proofs.ListLemmas.{AllByRecursion-at, AllByRecursion-each}
use Rattle.am_universe.proofs.Members.{at_in, in_at}
use Rattle.am_labels.specs.declared.op.Op.{Op}
use Rattle.am_labels.specs.declared.op.Op.TheVariants.{Equal, NotEqual}
use Rattle.am_labels.specs.declared.op.Comparison.TheVariants.{Text}
use Rattle.am_labels.specs.Matcher.{Matcher, comparison, takes_pattern}
use Rattle.am_labels.specs.Space.{Space}
use Rattle.am_classes.specs.declared.alphabet.Alphabet.{Alphabet}
use Rattle.am_classes.specs.declared.limits.TheConstants.{MAX_SAMPLE_NUMBERS}
use Rattle.am_classes.specs.Alike.{AreApart, Covers}
use Rattle.am_classes.specs.Alphabet.{AreOver}
use Rattle.am_classes.specs.ClassTexts.{IsClassText, Names, others}
use Rattle.am_classes.specs.LabelTests.{IsTestsOf}
use Rattle.am_classes.specs.declared.class_texts.ClassTexts.{ClassTexts}
use Rattle.am_classes.specs.Named.{text_with, alternatives_with}
use Rattle.am_complete.specs.Complete.{about, HaveSameMatchers}
use Rattle.am_complete.specs.AskedLabel.{AskedLabel, IsAskedOf}
use Rattle.am_complete.specs.Covering.{standing_texts}
use Rattle.am_complete.specs.declared.allowed_names.AllowedNames.{AllowedNames}
use Rattle.am_complete.specs.Missing.{MissingTexts, IsWhole, IsMissingAt, AreMissing}
use Rattle.am_complete.specs.Missing.{texts_of_missing, missing_for, open_positions}
use Rattle.am_classes.specs.declared.tested.Tested.{Tested}
use Rattle.am_classes.specs.Truths.{texts_of}
use Rattle.am_complete.specs.Chosen.{IsChosen, AreChosenEach}
use Rattle.am_complete.specs.Representatives.{IsRepresentative, AreRepresentatives}
use Rattle.am_complete.specs.Representatives.{AddsRepresentatives, AreFoundTexts, GainsOnly}
use Rattle.am_complete.proofs.AskedLabels.{on_name}
use Rattle.am_complete.proofs.LabelTexts.{found_in}
use Rattle.am_complete.proofs.MadeUniverses.{all_elsewhere, all_joined}
use Rattle.am_complete.proofs.Pushed.{zip_right, in_pushed}
use Rattle.am_complete.proofs.SameMatchers.{alike_among, in_there}

-- What is so of texts, and of what is gained, is so of all.
pub all_gained : (P So : List ℕ → Type 0) (old new : List (List ℕ)) → AllByRecursion P old
    → ((x : List ℕ) → So x → P x) → GainsOnly So old new → AllByRecursion P new
all_gained P So old new all so gains =
    AllByRecursion-each P new (λ x i.
    elim (AllByRecursion-at (λ y. Contains old y ⊎ So y) new x gains i) [
      | inl there ↦ AllByRecursion-at P old x all (IsIn-from_Contains old x there)
      | inr gained ↦ so x gained
    ])

pub all_moved : {X : Type 0} (P : X → Type 0) (xs ys : List X) → IsPermutation xs ys
    → AllByRecursion P xs → AllByRecursion P ys
all_moved P xs ys moved all =
    AllByRecursion-each P ys (λ y i. AllByRecursion-at P xs y all (IsIn-from_Contains xs y
    (Contains-permutation ys xs y (IsPermutation-sym xs ys moved) (Contains-from_IsIn ys y i))))

pub none_gained : (So : List ℕ → Type 0) (texts : List (List ℕ)) → GainsOnly So texts texts
none_gained So texts = AllByRecursion-each _ texts (λ x i. inl (Contains-from_IsIn texts x i))

pub one_gained : (So : List ℕ → Type 0) (texts : List (List ℕ)) (text : List ℕ) → So text
    → GainsOnly So texts (texts ++ text ∷ [])
one_gained So texts text so =
    AllByRecursion-each _ (texts ++ text ∷ []) (λ x i. elim (in_pushed texts text x i) [
      | inl there ↦ inl (Contains-from_IsIn texts x there)
      | inr is ↦ inr (subst So is so)
    ])

pub more_gained : (So More : List ℕ → Type 0) (first old new : List (List ℕ))
    → GainsOnly So first old → ((x : List ℕ) → More x → So x) → GainsOnly More old new → GainsOnly So first new
more_gained So More first old new gains so =
    all_gained (λ x. Contains first x ⊎ So x) More old new gains (λ x more. inr (so x more))

-- A text that is counted again stays.
pub counted_again : (counted : List (Bor (List ℕ) × ℕ)) (place n : ℕ) (p : Bor (List ℕ) × ℕ)
    → slice_get counted place ≡ Some p
    → map (λ q. q.0.now) (set counted place (p.0, n)) ≡ map (λ q. q.0.now) counted
counted_again [] place n p at = absurd cc
counted_again (q ∷ counted) zero n p at =
    ap (λ r. r.0.now ∷ map (λ s. s.0.now) counted) (sym (same_Some q p at))
counted_again (q ∷ counted) (suc place) n p at =
    ap (λ rest. q.0.now ∷ rest) (counted_again counted place n p at)

-- What is chosen for texts is one of them, or a usual text.
pub chosen_gained : (So : List ℕ → Type 0) (usual ws : List Tested) (xs : List (List ℕ))
    → AreChosenEach usual ws xs → AllByRecursion So (texts_of usual)
    → GainsOnly So (texts_of ws) xs
chosen_gained So usual ws xs each all =
    AllByRecursion-each _ xs (λ x i.
    let at = at_in xs x i in
    let w = zip_right (IsChosen usual) ws xs at.0 x each at.1 in
    by w.0 x (in_at ws at.0 w.0 w.1) w.2)
  where
    by : (w : Tested) (x : List ℕ) → IsIn ws w → IsChosen usual w x
        → Contains (texts_of ws) x ⊎ So x
    by w x i (inl same) =
        inl (subst (Contains (texts_of ws)) (sym same) (Contains-from_IsIn (texts_of ws) (string_bytes w.text)
        (IsIn-map (λ t. string_bytes t.text) ws w i)))
    by w x i (inr r) =
        inr (subst So (sym r.2) (AllByRecursion-at So (texts_of usual) (string_bytes r.0.text) all
        (IsIn-map (λ t. string_bytes t.text) usual r.0 (IsIn-from_Contains usual r.0 r.1))))

-- The texts of classes are found texts.
pub are_found : (a : Alphabet) (alerts : List LabelMap) (l : AskedLabel) (known : ClassTexts)
    (ms : List Matcher) → ms ≡ l.matchers
    → (IsTrue known.all → Covers a ms (map string_bytes known.texts.items))
    → AreOver a (map string_bytes known.texts.items)
    → AreApart ms (map string_bytes known.texts.items)
    → AllByRecursion (λ text. IsClassText a ms text
    ⊎ ((known.all ≡ false) × (length text < MAX_SAMPLE_NUMBERS))) (map string_bytes known.texts.items)
    → ((ns : List Matcher) × IsTestsOf ns known.tests × AllByRecursion (Contains ms) ns
    × (IsTrue known.all → ns ≡ ms)) → AreFoundTexts a alerts l known
are_found a alerts l known ms is covers over apart tied tests =
    let texts = map string_bytes known.texts.items in
    record {
      classes = record {
        covers = λ whole. subst (λ ns. Covers a ns texts) is (covers whole);
        apart = subst (λ ns. AreApart ns texts) is apart;
        over = over;
      };
      represent = AllByRecursion-each _ texts (λ x i. elim (AllByRecursion-at _ texts x tied i) [
        | inl class ↦ inl (subst (λ ns. IsClassText a ns x) is class)
        | inr short ↦ inr (inr (ap not short.0, inl short.1))
      ]);
      tests = (
        tests.0,
        tests.1,
        subst (λ ns. AllByRecursion (Contains ns) tests.0) is tests.2,
        λ whole. tests.3 whole ∙ is,
      );
    }

-- A text that stands for its class does so to the same matchers, and if more may be tried.
has_there : (ns ms : List Matcher) (m : Matcher) → HaveSameMatchers ns ms → Contains ns m
    → Contains ms m
has_there ns ms m same h =
    Contains-from_IsIn ms m (in_there ns ms m same (IsIn-from_Contains ns m h))

names_among : (ns ms : List Matcher) (text : List ℕ) → HaveSameMatchers ns ms → Names ns text
    → Names ms text
names_among ns ms text same h =
    (h.0, has_there ns ms h.0 same h.1, h.2)

representative_among : (tries may_lack : Bool) (a : Alphabet) (alerts : List LabelMap)
    (name : List ℕ) (ns ms : List Matcher) (text : List ℕ) → HaveSameMatchers ns ms
    → (tries ≡ true → may_lack ≡ true) → IsRepresentative tries a alerts name ns text
    → IsRepresentative may_lack a alerts name ms text
representative_among tries may_lack a alerts name ns ms text same more h = elim h [
  | inl class ↦ inl (elim class [
    | inl named ↦ inl (names_among ns ms text same named)
    | inr rest ↦ inr (elim rest [
      | inl shortest ↦
          inl (λ x over alike. shortest x over (alike_among ns ms text x same.there alike))
      | inr other ↦
          inr (other.0, other.1, λ k below. names_among ns ms (others k) same (other.2 k below))
    ])
  ])
  | inr rest ↦ inr (elim rest [
    | inl usual ↦ inl usual
    | inr tried ↦ inr (
      more tried.0,
      elim tried.1 [
        | inl short ↦ inl short
        | inr part ↦ inr (part.0, has_there ns ms part.0 same part.1, part.2, part.3)
      ],
    )
  ])
]

-- The texts that a label lacks in a universe stand for their classes. All that a label lacks are
-- known if no label is open.
module _ (a : Alphabet) (allowed : AllowedNames) (s : Space) (alerts : List LabelMap)
    (asked : List AskedLabel) (missing : List MissingTexts)
    (zip : AreMissing a allowed s asked missing)
    (each : AllZip (AreRepresentatives a alerts) asked missing) where
  tries_if_open : (may_lack : Bool) (m : MissingTexts) → IsIn missing m
      → (may_lack ≡ false → open_positions missing ≡ []) → not m.all ≡ true → may_lack ≡ true
  tries_if_open true m i closed tries = refl
  tries_if_open false m i closed tries =
      let at = at_in missing m i in
      let covered = all_elsewhere missing at.0 m at.1 (λ h.
      IsIn-from_Contains [] at.0 (subst (λ ps. Contains ps at.0) (closed refl) h)) in
      let all = (and_parts m.all _ covered).0 in
      let fails = rw all at tries in absurd cc

  pub adds_representatives : (v : List Label) (ms : List Matcher) (may_lack : Bool) → IsUniverse v
      → AllByRecursion (IsWhole s missing) v → IsAskedOf asked ms
      → (may_lack ≡ false → open_positions missing ≡ [])
      → AddsRepresentatives may_lack a s alerts ms v
  adds_representatives v ms may_lack universe whole asks closed =
      AllByRecursion-each _ v (λ l i.
      let So : List ℕ → Type 0 = λ text. Contains (standing_texts s l.name) text
      ⊎ IsRepresentative may_lack a alerts l.name (about l.name ms) text in
      subst (AllByRecursion So) (sym (AllByRecursion-at (IsWhole s missing) v l whole i))
      (all_joined So (standing_texts s l.name) (texts_of_missing (missing_for missing l.name))
      (AllByRecursion-each So (standing_texts s l.name) (λ x j.
      inl (Contains-from_IsIn (standing_texts s l.name) x j)))
      (by l.name (AllByRecursion-at IsLabel v l universe.labels i).name
      (missing_for missing l.name) refl)))
    where
      by : (name : List ℕ) → (name ≡ [] → ⊥) → (o : Option MissingTexts)
          → missing_for missing name ≡ o
          → AllByRecursion (λ text. Contains (standing_texts s name) text
          ⊎ IsRepresentative may_lack a alerts name (about name ms) text) (texts_of_missing o)
      by name some None e = tt
      by name some (Some m) e =
          let found = found_in (λ k. k.name) name missing m e in
          let at = at_in missing m found.0 in
          let l = zip_right (IsMissingAt a allowed s) asked missing at.0 m zip at.1 in
          let named : l.0.name ≡ name = sym l.2.name ∙ found.1 in
          let same = on_name asked ms l.0 asks (in_at asked at.0 l.0 l.1)
          (λ empty. some (sym named ∙ empty)) in
          let k = zip_right (AreRepresentatives a alerts) asked missing at.0 m each at.1 in
          let is : k.0 ≡ l.0 = same_Some k.0 l.0 (sym k.1 ∙ l.1) in
          AllByRecursion-each _ m.texts (λ x i. inr
          (subst (λ n. IsRepresentative may_lack a alerts n (about n ms) x) named
          (representative_among (not m.all) may_lack a alerts l.0.name l.0.matchers
          (about l.0.name ms) x same (tries_if_open may_lack m found.0 closed)
          (subst (λ n. IsRepresentative (not m.all) a alerts n.name n.matchers x) is
          (AllByRecursion-at _ m.texts x k.2 i)))))

-- The texts that are tried for a label whose classes could not be computed: what a matcher names,
-- absence, and what is no longer than a pattern.
module _ (a : Alphabet) (alerts : List LabelMap) (name : List ℕ) (ms : List Matcher) (m : Matcher)
    (there : Contains ms m) where
  text_from : (op : Op) → takes_pattern op ≡ false → comparison op ≡ Text
  text_from Equal e = refl
  text_from NotEqual e = refl
  text_from op e = absurd cc

  pub named_represents : (x : List ℕ) → takes_pattern m.op ≡ false → x ≡ m.value
      → IsRepresentative true a alerts name ms x
  named_represents x text is =
      inl (inl (
        m,
        there,
        subst (λ so. Contains (text_with so m.value ++ alternatives_with so m.value) x)
            (sym (text_from m.op text)) (Contains-from_IsIn (m.value ∷ []) x (inl (sym is))),
      ))

  pub word_represents : (x : List ℕ) → takes_pattern m.op ≡ true → length x ≤ length m.value
      → IsRepresentative true a alerts name ms x
  word_represents x pattern short = inr (inr (refl, inr (m, there, pattern, short)))

pub absence_represents : (a : Alphabet) (alerts : List LabelMap) (name : List ℕ) (ms : List Matcher)
    (x : List ℕ) → x ≡ [] → IsRepresentative true a alerts name ms x
absence_represents a alerts name ms x is =
    inl (inr (inl (λ y over alike. omega (arith, ap length is))))
