-- A label can be added after the labels of a universe exactly if `any_label_fault` finds nothing, and
-- as one with a label name exactly if `label_fault` finds nothing.
use Rattle.std.proofs.Common.{◌≡◌, ◌≢◌, ◌↔◌, ℕ, ◌<◌, ◌≤◌, List, [], ◌∷◌, ◌++◌, length, Bool, true, false, ◌||◌, Option, Some, None, refl, sym, ap, subst, ◌∙◌, append_assoc, length-append, append-nil, cond, nat_le, arith}
use borrow.Author.Tests.{lt-leb}
use Rattle.std.proofs.lemmas.List.{map-append}
use Rattle.std.proofs.lemmas.Grind.{common_steps}
use Rattle.std.specs.Prelude.{IsTrue}
use Rattle.am_universe.specs.declared.limits.TheConstants.{MAX_LABELS, MAX_VALUES}
use Rattle.am_universe.specs.declared.kind.Kind.{Kind}
use Rattle.am_universe.specs.declared.kind.Kind.TheVariants as kinds
use Rattle.am_universe.specs.declared.label_fault.LabelFault.{LabelFault}
use Rattle.am_universe.specs.declared.label_fault.LabelPart.{LabelPart}
use Rattle.am_universe.specs.declared.label_fault.LabelPart.TheVariants as parts
use Rattle.std.specs.List.{AllByRecursion, IsDistinct, list_any}
use Rattle.am_universe.specs.Text.{same_text}
use Rattle.am_universe.proofs.DistinctLists.{all_push, all_pushed, distinct_none, distinct_push, distinct_pushed, distinct_front}
use Rattle.std.specs.Option.{option_or}
use Rattle.am_universe.specs.Universe.{Label, Values, IsLabel, IsUniverse, names, is_label_name, same_value, is_empty_text, name_fault, any_name_fault, count_fault, value_fault, values_fault, label_values_fault, named_label_fault, label_fault, any_label_fault, fault_at}

-- ---- Values.

-- What holds of values without a fault that follow the values before them.
pub record AreFine (before values : Values) : Type 0 where
  pub texts : AllByRecursion (λ v. is_empty_text v ≡ false) values
  pub distinct : IsDistinct same_value (before ++ values)

-- A value without a fault is not the empty text, and is not among the values before it.
value_fine : (before : Values) (value : Option (List ℕ)) → value_fault before value ≡ None → (is_empty_text value ≡ false) × (list_any (λ other. same_value other value) before ≡ false)
value_fine before value h = grind (arith, common_steps)

pub no_first : {A : Type 0} (a b : Option A) → option_or a b ≡ None → (a ≡ None) × (b ≡ None)
no_first None b h = (refl, h)
no_first (Some a) b h = cc

pub nothing_at : (part : LabelPart) (found : Option Kind) → fault_at part found ≡ None → found ≡ None
nothing_at part None h = refl
nothing_at part (Some kind) h = cc

values_fine : (before values : Values) → IsDistinct same_value before → values_fault before values ≡ None → AreFine before values
values_fine before [] d h = record { texts = tt; distinct = subst (IsDistinct same_value) (sym (append-nil before)) d }
values_fine before (value ∷ values) d h =
    let split = no_first (fault_at (parts.Value (length before)) (value_fault before value)) (values_fault (before ++ value ∷ []) values) h in
    let fine = value_fine before value (nothing_at (parts.Value (length before)) (value_fault before value) split.0) in
    let rest = values_fine (before ++ value ∷ []) values (distinct_push same_value before value d fine.1) split.1 in
    record { texts = (fine.0, rest.texts); distinct = subst (IsDistinct same_value) (append_assoc before (value ∷ []) values) rest.distinct }

fine_values : (before values : Values) → AreFine before values → values_fault before values ≡ None
fine_values before [] fine = refl
fine_values before (value ∷ values) fine =
    let longer = subst (IsDistinct same_value) (sym (append_assoc before (value ∷ []) values)) fine.distinct in
    let apart = (distinct_pushed same_value before value (distinct_front same_value (before ++ value ∷ []) values longer)).1 in
    let rest = fine_values (before ++ value ∷ []) values (record { texts = fine.texts.1; distinct = longer }) in
    let here : value_fault before value ≡ None = rw (fine.texts.0, apart) in
    rw (here, rest)

-- ---- A label.

count_fine : (n : ℕ) → count_fault n ≡ None → (0 < n) × (n ≤ MAX_VALUES)
count_fine n h = grind (arith, common_steps)

fine_count : (n : ℕ) → 0 < n → n ≤ MAX_VALUES → count_fault n ≡ None
fine_count n h k = grind (arith, common_steps)

abbrev has : List Label → List ℕ → Bool
has u name = list_any (λ l. same_text l.name name) u

any_name_fine : (u : List Label) (name : List ℕ) → any_name_fault u name ≡ None → (name ≢ []) × (has u name ≡ false)
any_name_fine u [] h = absurd cc
any_name_fine u (c ∷ cs) h = (λ e. cc, grind (arith, common_steps))

fine_any_name : (u : List Label) (name : List ℕ) → name ≢ [] → has u name ≡ false → any_name_fault u name ≡ None
fine_any_name u [] some free = absurd (some refl)
fine_any_name u (c ∷ cs) some free = rw free

-- A name has no fault as a label name exactly if it is one, and has no fault otherwise.
pub name_fine : (u : List Label) (name : List ℕ) → name_fault u name ≡ None → (is_label_name name ≡ true) × (any_name_fault u name ≡ None)
name_fine u [] h = absurd cc
name_fine u (c ∷ cs) h = grind (arith, common_steps)

pub fine_name : (u : List Label) (name : List ℕ) → is_label_name name ≡ true → any_name_fault u name ≡ None → name_fault u name ≡ None
fine_name u [] form free = absurd cc
fine_name u (c ∷ cs) form free = rw (form, free)

-- To look for a name among the names is to look for it among the labels.
has_names : (u : List Label) (name : List ℕ) → list_any (λ n. same_text n name) (names u) ≡ has u name
has_names [] name = refl
has_names (l ∷ u) name = ap (λ b. same_text l.name name || b) (has_names u name)

IsLabel-from_faults : (l : Label) → l.name ≢ [] → label_values_fault l.values ≡ None → IsLabel l
IsLabel-from_faults l some h =
    let split = no_first (fault_at parts.Values (count_fault (length l.values))) (values_fault [] l.values) h in
    let count = count_fine (length l.values) (nothing_at parts.Values (count_fault (length l.values)) split.0) in
    let values = values_fine [] l.values (distinct_none same_value) split.1 in
    record { name = some; some_value = count.0; at_most = count.1; texts = values.texts; distinct = values.distinct }

faults_from_IsLabel : (l : Label) → IsLabel l → label_values_fault l.values ≡ None
faults_from_IsLabel l h =
    let count : count_fault (length l.values) ≡ None = fine_count (length l.values) h.some_value h.at_most in
    let values : values_fault [] l.values ≡ None = fine_values [] l.values (record { texts = h.texts; distinct = h.distinct }) in
    rw (count, values)

-- Where there is no fault, there is none of the name and none of the values, and there is room.
pub no_part_at_fault : (of_name : Option Kind) (u : List Label) (values : Values) → named_label_fault of_name u values ≡ None → (length u < MAX_LABELS) × (of_name ≡ None) × (label_values_fault values ≡ None)
no_part_at_fault of_name u values fine =
    let full : (length u < MAX_LABELS) × (option_or (fault_at parts.Name of_name) (label_values_fault values) ≡ None) = grind (arith, common_steps) in
    let split = no_first (fault_at parts.Name of_name) (label_values_fault values) full.1 in
    (full.0, nothing_at parts.Name of_name split.0, split.1)

-- A label without a fault, with a label name, has none if its name may have any form.
pub checked_label : (u : List Label) (l : Label) → label_fault u l ≡ None → any_label_fault u l ≡ None
checked_label u l fine =
    let parts = no_part_at_fault (name_fault u l.name) u l.values fine in
    subst (λ of_name. named_label_fault of_name u l.values ≡ None) (parts.1 ∙ sym (name_fine u l.name parts.1).1) fine

pub added_is_universe : (u : List Label) (l : Label) → IsUniverse u → any_label_fault u l ≡ None → IsUniverse (u ++ l ∷ [])
added_is_universe u l h fine =
    let parts = no_part_at_fault (any_name_fault u l.name) u l.values fine in
    let name = any_name_fine u l.name parts.1 in
    record {
      at_most = omega (arith, length-append u (l ∷ []), parts.0);
      labels = all_push IsLabel u l h.labels (IsLabel-from_faults l name.0 parts.2);
      distinct = subst (IsDistinct same_text) (sym (map-append (λ (x : Label). x.name) u (l ∷ []))) (distinct_push same_text (names u) l.name h.distinct (has_names u l.name ∙ name.1));
    }

pub universe_was_added : (u : List Label) (l : Label) → IsUniverse (u ++ l ∷ []) → any_label_fault u l ≡ None
universe_was_added u l h =
    let label = (all_pushed IsLabel u l h.labels).1 in
    let apart = distinct_pushed same_text (names u) l.name (subst (IsDistinct same_text) (map-append (λ (x : Label). x.name) u (l ∷ [])) h.distinct) in
    let room : nat_le MAX_LABELS (length u) ≡ false = lt-leb MAX_LABELS (length u) (omega (arith, length-append u (l ∷ []), h.at_most)) in
    let name = fine_any_name u l.name label.name (sym (has_names u l.name) ∙ apart.1) in
    let values = faults_from_IsLabel l label in
    rw (room, name, values)

-- A label has no fault as one with a label name exactly if it has one, and has no fault otherwise.
pub named_fine : (u : List Label) (l : Label) → label_fault u l ≡ None → (any_label_fault u l ≡ None) × (is_label_name l.name ≡ true)
named_fine u l fine =
    let parts = no_part_at_fault (name_fault u l.name) u l.values fine in
    let name = name_fine u l.name parts.1 in
    let room : nat_le MAX_LABELS (length u) ≡ false = lt-leb MAX_LABELS (length u) parts.0 in
    (rw (room, name.1, parts.2), name.0)

pub fine_named : (u : List Label) (l : Label) → any_label_fault u l ≡ None → is_label_name l.name ≡ true → label_fault u l ≡ None
fine_named u l fine form =
    let parts = no_part_at_fault (any_name_fault u l.name) u l.values fine in
    let name = fine_name u l.name form parts.1 in
    let room : nat_le MAX_LABELS (length u) ≡ false = lt-leb MAX_LABELS (length u) parts.0 in
    rw (room, name, parts.2)

-- The labels are a universe, whether the label was pushed or not.
pub pushed_universe : (u : List Label) (l : Label) (pushed : Bool) → IsUniverse u → any_label_fault u l ≡ None → IsUniverse (cond pushed (u ++ l ∷ []) u)
pushed_universe u l true h fine = added_is_universe u l h fine
pushed_universe u l false h fine = h

-- ---- No fault of a label is that memory ran out.

any_name_kinds : (u : List Label) (name : List ℕ) → any_name_fault u name ≢ Some kinds.Memory
any_name_kinds u [] e = cc
any_name_kinds u (c ∷ cs) e = grind (arith, common_steps)

name_kinds : (u : List Label) (name : List ℕ) → name_fault u name ≢ Some kinds.Memory
name_kinds u [] e = cc
name_kinds u (c ∷ cs) e = grind (arith, common_steps, any_name_kinds u (c ∷ cs))

values_kinds : (before values : Values) (fault : LabelFault) → values_fault before values ≡ Some fault → fault.kind ≡ kinds.Memory → ⊥
values_kinds before [] fault e memory = cc
values_kinds before (value ∷ values) fault e memory = grind (arith, common_steps, values_kinds (before ++ value ∷ []) values)

pub none_of_memory : (of_name : Option Kind) (u : List Label) (values : Values) (fault : LabelFault) → of_name ≢ Some kinds.Memory → named_label_fault of_name u values ≡ Some fault → fault.kind ≡ kinds.Memory → named_label_fault of_name u values ≡ None
none_of_memory of_name u values fault kind e memory = grind (arith, common_steps, values_kinds)

-- ---- The law.

pub faults_are_exact : (u : List Label) (label : Label) → IsUniverse u → any_label_fault u label ≡ None ↔ IsUniverse (u ++ label ∷ [])
faults_are_exact u label h = (added_is_universe u label h, universe_was_added u label)

pub named_faults_are_exact : (u : List Label) (label : Label) → IsUniverse u → label_fault u label ≡ None ↔ (IsUniverse (u ++ label ∷ []) × IsTrue (is_label_name label.name))
named_faults_are_exact u label h = (
  λ fine. let both = named_fine u label fine in (added_is_universe u label h both.0, both.1),
  λ both. fine_named u label (universe_was_added u label both.0) both.1,
)
