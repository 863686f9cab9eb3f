-- Texts that a label needs beside what stands there.
use Rattle.std.proofs.Common.{◌≡◌, ◌≢◌, ◌<◌, ℕ, false, List, [], ◌∷◌, ◌++◌, length, Contains, ap}
use Rattle.std.proofs.Common.{◌∙◌, subst, arith}
use Rattle.std.specs.Prelude.{IsTrue}
use Rattle.std.specs.List.{AllByRecursion, filter}
use Rattle.std.proofs.lemmas.List.{append-nil}
use Rattle.std.proofs.lemmas.Grind.{common_steps}
use Rattle.am_universe.proofs.ListLemmas.{IsIn, IsIn-from_Contains}
use Rattle.am_universe.proofs.ListLemmas.{AllByRecursion-each, AllByRecursion-at}
use Rattle.am_labels.specs.Matcher.{Matcher}
use Rattle.am_classes.specs.Alphabet.{IsOver}
use Rattle.am_labels.specs.Space.{Space}
use Rattle.am_labels.proofs.Passing.{passes_from_kept, kept_from_passes}
use Rattle.am_classes.specs.declared.alphabet.Alphabet.{Alphabet}
use Rattle.am_classes.specs.Alike.{HasAlikeIn}
use Rattle.am_classes.specs.Limits.{MayBePastLimits}
use Rattle.am_complete.specs.Complete.{AreAmong, label_texts, may_have}
use Rattle.am_complete.specs.AskedLabel.{AskedLabel}
use Rattle.am_complete.specs.Covering.{AreClasses, ArePossible, AreNeeded, CoverPossible}
use Rattle.am_complete.specs.Covering.{standing_texts}
use Rattle.am_complete.specs.declared.allowed_names.AllowedNames.{AllowedNames}
use Rattle.am_complete.specs.AllowedNames.{may_declare}
use Rattle.am_complete.specs.Room.{NeedsText}
use Rattle.am_complete.specs.declared.label_state.Completeness.TheVariants as state_is
use Rattle.am_complete.specs.FoundState.{HasThoseOfLists, IsFoundAt}
use Rattle.am_complete.specs.Missing.{IsMissingAt, MissingTexts}
use Rattle.am_classes.specs.Truths.{AreNewIn}
use Rattle.am_complete.proofs.ApartTexts.{one_apart}
use Rattle.am_complete.proofs.LabelStates.{covered}
use Rattle.am_complete.proofs.LabelTexts.{has_name}
use Rattle.am_complete.proofs.PossibleTexts.{are_possible, cover_possible, same_possible}
use Rattle.am_complete.proofs.SameMatchers.{needed_among}
use Rattle.am_classes.proofs.TestedTexts.{alike_within}

-- ---- What stands in a space for a label.

-- each such text is one that the label has there
pub standing_within : (s : Space) (name x : List ℕ) → IsIn (standing_texts s name) x
    → IsIn (label_texts s.labels name) x
standing_within s name x = grind (arith, common_steps, has_name, passes_from_kept)

-- a text that the label may have, and that has one alike there, has one alike among these
pub alike_standing : (s : Space) (l : AskedLabel) (text : List ℕ)
    → HasThoseOfLists s.impossible l → IsTrue (may_have s.impossible l.name text)
    → HasAlikeIn l.matchers (label_texts s.labels l.name) text
    → HasAlikeIn l.matchers (standing_texts s l.name) text
alike_standing s l text lists possible =
    grind (arith, common_steps, has_name, kept_from_passes, same_possible)

-- ---- What is needed.

pub none_needed : (a : Alphabet) (s : Space) (name : List ℕ) (ms : List Matcher)
    → AreNeeded a s name ms []
none_needed a s name ms = grind (arith, common_steps)

-- what holds for each wanted text holds for those of them that are new
pub all_from : (P : List ℕ → Type 0) (texts kept : List (List ℕ)) → AllByRecursion P texts
    → AllByRecursion (Contains texts) kept → AllByRecursion P kept
all_from P texts kept all from =
    AllByRecursion-each P kept (λ x i.
    AllByRecursion-at P texts x all
    (IsIn-from_Contains texts x (AllByRecursion-at (Contains texts) kept x from i)))

-- the first of the texts that are needed
pub first_needed : (a : Alphabet) (s : Space) (l : AskedLabel) (texts : List (List ℕ))
    → AreNeeded a s l.name l.matchers texts → 0 < length texts → NeedsText a s l
first_needed a s l [] needed some = absurd (omega (arith, some))
first_needed a s l (t ∷ texts) needed some = grind (arith, common_steps, one_apart)

-- ---- What covers all.

pub cover_weaker : (a : Alphabet) (s : Space) (l : AskedLabel) (xs ys : List (List ℕ))
    → ((x : List ℕ) → IsIn xs x → IsIn ys x)
    → CoverPossible a s.impossible l.name l.matchers xs
    → CoverPossible a s.impossible l.name l.matchers ys
cover_weaker a s l xs ys within cover text valid possible =
    alike_within l.matchers xs ys text within (cover text valid possible)

-- ---- What a label lacks, of texts that stand for classes.

-- They are new to some of the matchers, or if they are all, to each matcher.
module _ (a : Alphabet) (allowed : AllowedNames) (s : Space) (l : AskedLabel) (m : MissingTexts) (found : List (List ℕ))
    (ns : List Matcher) (among : AreAmong ns l.matchers) (each : IsTrue m.all → ns ≡ l.matchers)
    (lists : HasThoseOfLists s.impossible l) (classes : AreClasses a l.matchers found m.all)
    (new : AreNewIn ns (standing_texts s l.name)
    (filter (may_have s.impossible l.name) found) m.texts) where
  abbrev wanted : List (List ℕ)
  wanted = filter (may_have s.impossible l.name) found

  possible : ArePossible a s.impossible l.name l.matchers wanted
  possible = are_possible a s.impossible l.name l.matchers found classes.over classes.apart

  cover : IsTrue m.all → CoverPossible a s.impossible l.name l.matchers wanted
  cover whole = cover_possible a s.impossible l found lists (classes.covers whole)

  pub is_missing : m.name ≡ l.name → l.name ≢ [] → m.named ≡ may_declare allowed l.name → length wanted ≡ m.count
      → (m.all ≡ false → MayBePastLimits a l.matchers) → IsMissingAt a allowed s l m
  is_missing name some named counted limits = record {
    name = name;
    some_name = some;
    named = named;
    needed = needed_among a s l.name ns l.matchers m.texts among (record {
      possible = record {
        over = all_from (IsOver a) wanted m.texts possible.over new.from;
        possible = all_from (λ x. IsTrue (may_have s.impossible l.name x)) wanted m.texts
            possible.possible new.from;
        apart = new.apart;
      };
      new = new.new;
    });
    cover = λ whole. covered a s.impossible l.name l.matchers (standing_texts s l.name ++ m.texts)
        wanted (cover whole) (subst (λ ms. AllByRecursion (HasAlikeIn ms (standing_texts s l.name ++ m.texts)) wanted)
        (each whole) new.cover);
    classes = λ whole. (wanted, record { cover = cover whole; possible = possible }, counted);
    limits = limits;
  }

-- ---- What is found where it is known what is missing.

module _ (a : Alphabet) (allowed : AllowedNames) (s : Space) (l : AskedLabel) (m : MissingTexts) (is : IsMissingAt a allowed s l m) where
  -- none is missing
  pub is_complete : IsTrue m.all → m.texts ≡ [] → IsFoundAt a s l (state_is.Complete m.count)
  is_complete whole none = (
    cover_weaker a s l (standing_texts s l.name) (label_texts s.labels l.name)
        (standing_within s l.name)
        (subst (CoverPossible a s.impossible l.name l.matchers)
        (ap (λ ts. standing_texts s l.name ++ ts) none ∙ append-nil (standing_texts s l.name))
        (is.cover whole)),
    is.classes whole,
  )

  -- one is
  pub lacks_one : (x : List ℕ) → HasThoseOfLists s.impossible l → IsIn m.texts x
      → IsOver a x × IsTrue (may_have s.impossible l.name x)
      × (HasAlikeIn l.matchers (label_texts s.labels l.name) x → ⊥)
  lacks_one x lists i = grind (arith, common_steps, AllByRecursion-at, alike_standing)
