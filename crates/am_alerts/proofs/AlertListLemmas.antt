-- Lists for all alerts, which begin empty.
use Rattle.std.proofs.Common.{◌≡◌, ◌<◌, ◌++◌, ◌∷◌, ℕ, List, [], map, take, drop, length, get_or, replicate, Bool, true, false, if◌then◌else◌, Some, sym, ap, ◌∙◌, arith, append_assoc}
use Rattle.std.specs.Prelude.{slice_get}
use Rattle.std.specs.Global.{Vec}
use Rattle.std.proofs.lemmas.List.{take_at, get_or-map, get_or-replicate, length-map, length-replicate}
use Rattle.std.proofs.lemmas.Option.{slice_get_within}
use Rattle.am_universe.specs.LabelSet.{LabelMap}
use Rattle.am_alerts.specs.AlertLabels.{flag}
use Rattle.am_alerts.specs.AlertLists.{list_at, AreLists, AddsToAll}

pub all_flags : (alerts : List LabelMap) (i : ℕ) (s : LabelMap) → slice_get alerts i ≡ Some s
    → flag (replicate (length alerts) true) i ≡ true
all_flags alerts i s at = get_or-replicate (length alerts) i true false (slice_get_within alerts i s at)

-- what was added to empty lists
pub all_lists : {X : Type 0} (alerts : List LabelMap) (more : LabelMap → List X) (start : Vec (Vec X))
    (after : List (Vec X)) (n : ℕ) → map (λ v. v.items) start.items ≡ replicate n []
    → n ≡ length alerts → length after ≡ length start.items → AddsToAll alerts more start.items after
    → AreLists alerts more (take start.len (after ++ drop (length after) start.items))
all_lists alerts more start after n empty count long adds =
    let whole = take_at after (drop (length after) start.items) start.len (omega (arith, long, start.ok.0)) in
    let counted : length start.items ≡ length alerts =
    sym (length-map start.items (λ v. v.items)) ∙ ap length empty ∙ length-replicate n [] ∙ count in (
      ap length whole ∙ long ∙ counted,
      λ i s at.
          let within : i < n = omega (arith, slice_get_within alerts i s at, count) in
          ap (λ lists. list_at lists i) whole ∙ adds i s at
          ∙ ap (λ (lists : List (List _)). get_or lists i [] ++ more s) empty
          ∙ ap (λ xs. xs ++ more s) (get_or-replicate n i [] [] within),
    )

-- an item that is added, and those that are left
pub added : {X : Type 0} (b : Bool) (x : X) (before after left : List X)
    → after ≡ (if b then before ++ x ∷ [] else before)
    → after ++ left ≡ before ++ (if b then x ∷ left else left)
added true x before after left e = ap (λ xs. xs ++ left) e ∙ append_assoc before (x ∷ []) left
added false x before after left e = ap (λ xs. xs ++ left) e

-- the list at a position that the code reads
pub list_read : {X : Type 0} (lists : List (Vec X)) (i : ℕ) (list : Vec X) → i < length lists
    → list ≡ get_or lists i list → list_at lists i ≡ list.items
list_read lists i list within is =
    get_or-map (λ v. v.items) lists i list [] within ∙ ap (λ v. v.items) (sym is)
