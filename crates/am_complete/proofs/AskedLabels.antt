-- Labels that are asked about: their names, and the matchers on them.
use Rattle.std.proofs.Common.{◌≡◌, ◌≢◌, ℕ, List, [], ◌∷◌, Some, None, refl, sym, ◌∙◌, subst, inl}
use Rattle.std.proofs.Common.{inr}
use Rattle.std.specs.Prelude.{IsTrue}
use Rattle.std.specs.List.{find}
use Rattle.std.specs.Cmp.Lexicographic.{bytes_decides}
use Rattle.std.proofs.lemmas.Bool.{cases_Bool}
use Rattle.am_universe.specs.Text.{same_text}
use Rattle.am_universe.specs.Universe.{Label, IsUniverse, names}
use Rattle.am_universe.proofs.ListLemmas.{IsIn, IsIn-from_Contains, AllByRecursion-each}
use Rattle.am_universe.proofs.ListLemmas.{AllByRecursion-at}
use Rattle.am_universe.proofs.Members.{joined_in}
use Rattle.am_labels.specs.Matcher.{Matcher}
use Rattle.am_complete.specs.Complete.{about, asks_only_of, AreAmong, impossible_matchers}
use Rattle.am_complete.specs.Complete.{HaveSameMatchers}
use Rattle.am_complete.specs.AskedLabel.{AskedLabel, IsAskedOf}
use Rattle.am_complete.specs.FoundState.{HasThoseOfLists}
use Rattle.am_complete.specs.declared.allowed_names.AllowedNames.{AllowedNames}
use Rattle.am_complete.specs.declared.allowed_names.AllowedNames.TheVariants as allowed_are
use Rattle.am_complete.specs.AllowedNames.{may_declare, MayHaveLabel}
use Rattle.am_complete.proofs.Alike.{is_about, is_among}
use Rattle.am_complete.proofs.AmongMatchers.{among_by}
use Rattle.am_complete.proofs.CompleteUniverses.{named_by}
use Rattle.am_complete.proofs.LabelTexts.{finds_in, some_names}
use Rattle.am_complete.proofs.PossibleTexts.{all_pass}
use Rattle.am_complete.proofs.SameMatchers.{in_back}

-- a name that may be declared is not empty, and no more is that of a label that a universe may have
pub allowed_some : (allowed : AllowedNames) (name : List ℕ) → IsTrue (may_declare allowed name)
    → name ≢ []
allowed_some allowed_are.OfFiles [] h e = absurd (cc)
allowed_some allowed_are.Any [] h e = absurd (cc)
allowed_some allowed (c ∷ cs) h e = cc

pub named_some : (allowed : AllowedNames) (u : List Label) (name : List ℕ) → IsUniverse u
    → MayHaveLabel allowed u name → name ≢ []
named_some allowed u name is (inl there) =
    some_names u name is (IsIn-from_Contains (names u) name there)
named_some allowed u name is (inr may) = allowed_some allowed name may

pub none_on : (name : List ℕ) (ms : List Matcher) → ((m : Matcher) → IsIn ms m → m.name ≡ name → ⊥)
    → about name ms ≡ []
none_on name [] none = refl
none_on name (m ∷ ms) none = elim (cases_Bool (same_text m.name name)) [
  | inl same ↦ absurd (none m (inl refl) ((bytes_decides m.name name).0 same))
  | inr differs ↦ rw differs (none_on name ms (λ x i. none x (inr i)))
]

-- a label that is asked about has the same matchers as those that are on it
pub on_name : (asked : List AskedLabel) (ms : List Matcher) (l : AskedLabel) → IsAskedOf asked ms
    → IsIn asked l → l.name ≢ [] → HaveSameMatchers l.matchers (about l.name ms)
on_name asked ms l asks i some =
    AllByRecursion-at (λ x. x.name ≢ [] → HaveSameMatchers x.matchers (about x.name ms)) asked l
    asks.matchers i some

-- and the matchers of impossible lists that ask about it alone are among them
pub asked_for : (impossible : List (List Matcher)) (asked : List AskedLabel)
    (ms : List Matcher) (l : AskedLabel) → IsAskedOf asked ms
    → AreAmong (impossible_matchers impossible) ms → IsIn asked l → l.name ≢ []
    → HasThoseOfLists impossible l
asked_for impossible asked ms l asks among i some =
    AllByRecursion-each (λ list. IsTrue (asks_only_of l.name list) → AreAmong list l.matchers)
    impossible (λ list j alone.
    among_by list l.matchers (λ m k.
    let there = joined_in (λ xs. xs) impossible list m j k in
    in_back l.matchers (about l.name ms) m (on_name asked ms l asks i some)
    (is_about l.name ms m (is_among (impossible_matchers impossible) ms m among there)
    ((bytes_decides m.name l.name).0 (all_pass (λ n. same_text n.name l.name) list m alone k)))))

-- a name that is not asked about has no matcher on it
pub not_asked : (asked : List AskedLabel) (ms : List Matcher) (name : List ℕ)
    → IsAskedOf asked ms → find (λ l. same_text l.name name) asked ≡ None → name ≢ []
    → about name ms ≡ []
not_asked asked ms name asks none some =
    none_on name ms (λ m i e.
    let l = named_by asked ms m asks i (λ empty. some (sym e ∙ empty)) in
    let there : find (λ k. same_text k.name name) asked ≡ Some l.0 =
    subst (λ n. find (λ k. same_text k.name n) asked ≡ Some l.0) (l.2 ∙ e)
    (finds_in (λ k. k.name) asked l.0 asks.distinct l.1) in cc)
