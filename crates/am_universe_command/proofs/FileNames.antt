-- Each label of a universe that is made for a file has a label name.
use Rattle.std.proofs.Common.{◌≡◌, ℕ, List, Option, Some, None, subst, inl, inr}
use Rattle.std.specs.Prelude.{IsTrue}
use Rattle.std.specs.List.{AllByRecursion}
use Rattle.am_universe.specs.Universe.{Label, HaveLabelNames, is_label_name, names}
use Rattle.am_universe.proofs.ListLemmas.{IsIn, IsIn-unmap, IsIn-from_Contains}
use Rattle.am_universe.proofs.ListLemmas.{AllByRecursion-at, AllByRecursion-each}
use Rattle.am_labels.specs.Space.{Space}
use Rattle.am_files.specs.Files.{SaysUniverseIfAny}
use Rattle.am_complete.specs.declared.allowed_names.AllowedNames.TheVariants as allowed_are
use Rattle.am_complete.specs.AllowedNames.{MayHaveLabel}

-- the space of a universe file, or of none, has label names
pub space_named : (file : Option (List ℕ)) (s : Space) → SaysUniverseIfAny file s
    → HaveLabelNames s.labels
space_named None s says = rw says tt
space_named (Some bytes) s says = says.3.named

-- and so has a universe that declares beside it only label names
pub names_kept : (u v : List Label) → HaveLabelNames u
    → AllByRecursion (λ l. MayHaveLabel allowed_are.OfFiles u l.name) v → HaveLabelNames v
names_kept u v named may =
    AllByRecursion-each (λ l. IsTrue (is_label_name l.name)) v (λ l i.
    by l.name (AllByRecursion-at (λ k. MayHaveLabel allowed_are.OfFiles u k.name) v l may i))
  where
    by : (name : List ℕ) → MayHaveLabel allowed_are.OfFiles u name → IsTrue (is_label_name name)
    by name (inl there) =
        let k = IsIn-unmap (λ l. l.name) u name (IsIn-from_Contains (names u) name there) in
        subst (λ n. IsTrue (is_label_name n)) k.2
        (AllByRecursion-at (λ l. IsTrue (is_label_name l.name)) u k.0 named k.1)
    by name (inr label_name) = label_name
