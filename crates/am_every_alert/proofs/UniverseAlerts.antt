-- The label sets of a universe are label sets that an alert may have.
use Rattle.std.proofs.Common.{◌≡◌, ◌⊎◌, ℕ, zero, suc, List, [], ◌∷◌, Option, Some, None}
use Rattle.std.proofs.Common.{refl, sym, ◌∙◌, inl, inr, arith}
use Rattle.std.specs.Prelude.{option_and_then, slice_get, IfSome}
use Rattle.std.specs.Ordering.{nat_cmp}
use Rattle.std.specs.Cmp.Lexicographic.{slice_cmp, nat_list_cmp_total, bytes_decides}
use Rattle.std.specs.FinMap.{find, get-from_entries}
use Rattle.std.specs.List.{AllByRecursion}
use Rattle.std.proofs.lemmas.Bool.{cases_Bool}
use Rattle.std.proofs.lemmas.Grind.{common_steps}
use Rattle.am_universe.specs.Universe.{Label, Values, IsLabel, IsUniverse}
use Rattle.am_universe.specs.LabelSet.{with_label, label_pairs, value_at, label_set_of}
use Rattle.am_universe.proofs.LabelMapLemmas.{flips}
use Rattle.am_universe.proofs.LabelPairLemmas.{find_before}
use Rattle.am_universe.proofs.ListLemmas.{IsIn, AllByRecursion-at}
use Rattle.am_classes.specs.declared.alphabet.Alphabet.{Alphabet}
use Rattle.am_classes.specs.Alphabet.{IsOver}
use Rattle.am_complete.specs.Covering.{HasTextsOver}
use Rattle.am_every_alert.specs.EveryAlert.{IsAlert}

abbrev found : List ℕ → List (List ℕ × List ℕ) → Option (List ℕ)
found name pairs = find (slice_cmp nat_cmp) name pairs

-- a text that is found is that of the label in front, or is found among the other pairs
found_behind : (name label : List ℕ) (o : Option (List ℕ)) (pairs : List (List ℕ × List ℕ))
    (text : List ℕ) → found name (with_label label o pairs) ≡ Some text
    → ((label ≡ name) × (o ≡ Some text)) ⊎ (found name pairs ≡ Some text)
found_behind name label None pairs text e = inr e
found_behind name label (Some v) pairs text e =
    grind (arith, common_steps, cases_Bool, bytes_decides, flips, find_before)

-- the text of a label at a position is one of its values
value_there : (values : Values) (p : ℕ) (text : List ℕ)
    → option_and_then (λ v. v) (slice_get values p) ≡ Some text → IsIn values (Some text)
value_there [] p text e = absurd (cc)
value_there (v ∷ values) zero text e = inl e
value_there (v ∷ values) (suc p) text e = inr (value_there values p text e)

-- so a text of the label set of a choice is a value of the label of that name
from_label : (u : List Label) (c name text : List ℕ) → found name (label_pairs u c) ≡ Some text
    → (l : Label) × IsIn u l × (l.name ≡ name) × IsIn l.values (Some text)
from_label [] c name text e = absurd (cc)
from_label (l ∷ u) [] name text e = absurd (cc)
from_label (l ∷ u) (p ∷ c) name text e =
    elim (found_behind name l.name (value_at l p) (label_pairs u c) text e) [
      | inl own ↦ (l, inl refl, own.0, value_there l.values p text own.1)
      | inr later ↦ let r = from_label u c name text later in (r.0, inr r.1, r.2, r.3)
    ]

pub universe_alert : (a : Alphabet) (u : List Label) (c : List ℕ) → IsUniverse u
    → HasTextsOver a u → IsAlert a (label_set_of u c)
universe_alert a u c h texts name text e =
    let r = from_label u c name text
    (sym (get-from_entries nat_list_cmp_total (label_pairs u c) name) ∙ e) in
    let named = (AllByRecursion-at IsLabel u r.0 h.labels r.1).name in
    let values = AllByRecursion-at (λ l. AllByRecursion (λ v. IfSome v (IsOver a)) l.values) u r.0
    texts r.1 in (
      λ empty. named (r.2 ∙ empty),
      AllByRecursion-at (λ v. IfSome v (IsOver a)) r.0.values (Some text) values r.3,
    )
