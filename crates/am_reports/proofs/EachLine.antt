-- One more thing in the lines about things.
use Rattle.std.proofs.Common.{◌≡◌, ◌+◌, ◌<◌, ◌≤◌, [], ◌∷◌, ℕ, List, ◌++◌, length, take, Some}
use Rattle.std.proofs.Common.{subst, sym, ◌∙◌, arith}
use Rattle.std.specs.List.{AllZip, flat_map, enumerate_from, zip}
use Rattle.std.proofs.lemmas.List.{take_more, take_all, flat_map_more}
use Rattle.std.proofs.lemmas.List.FromFn.{length-enumerate_from, get_or-enumerate_from}
use Rattle.std.proofs.lemmas.Option.{same_Some, get_or_from_slice_get, slice_get_within}
use Rattle.std.proofs.lemmas.Slice.Zip.{length-zip, get_or-zip}
use Rattle.std.specs.Prelude.{slice_get}
use Rattle.am_report_texts.specs.Line.{Line}
use Rattle.am_complete.proofs.Pushed.{zip_left}
use Rattle.am_reports.specs.LintLines.{each_lines}

pub zip_at : {X F : Type 0} (R : X → F → Type 0) (xs : List X) (found : List F) (i : ℕ) (x : X)
    (finding : F) → AllZip R xs found → slice_get xs i ≡ Some x → slice_get found i ≡ Some finding
    → R x finding
zip_at R xs found i x finding all at there =
    let other = zip_left R xs found i x all at in
    subst (R x) (same_Some other.0 finding (sym other.1 ∙ there)) other.2

pub zip_so : {X F : Type 0} (R Q : X → F → Type 0)
    → ((x : X) (finding : F) → R x finding → Q x finding)
    → (xs : List X) (found : List F) → AllZip R xs found → AllZip Q xs found
zip_so R Q each [] [] all = tt
zip_so R Q each [] (g ∷ found) all = absurd all
zip_so R Q each (x ∷ xs) [] all = absurd all
zip_so R Q each (x ∷ xs) (g ∷ found) all = (each x g all.0, zip_so R Q each xs found all.1)

module _ {X F : Type 0} (lines : ℕ → X → F → List Line) where
  -- the lines about the things before a position
  abbrev pub first_lines : ℕ → List X → List F → List Line
  first_lines i xs found =
      flat_map (λ e. lines e.0 e.1.0 e.1.1) (take i (enumerate_from 0 (zip xs found)))

  pub one_said : (i : ℕ) (xs : List X) (found : List F) (x : X) (finding : F)
      (before now next : List Line) → slice_get xs i ≡ Some x → slice_get found i ≡ Some finding
      → now ≡ before ++ first_lines i xs found → next ≡ now ++ lines i x finding
      → next ≡ before ++ first_lines (i + 1) xs found
  one_said i xs found x finding before now next at there so_far put =
      let within = slice_get_within xs i x at in
      let listed = slice_get_within found i finding there in
      let long : i < length (zip xs found) = omega (arith, length-zip xs found) in
      let same : 0 + i ≡ i = omega arith in
      rw (
        take_more (enumerate_from 0 (zip xs found)) i (i, (x, finding))
            (omega (arith, length-enumerate_from 0 (zip xs found))),
        get_or-enumerate_from 0 (zip xs found) i (i, (x, finding)) long,
        get_or-zip xs found i (x, finding) within listed,
        get_or_from_slice_get xs i x x at,
        get_or_from_slice_get found i finding finding there,
        same,
        ← flat_map_more,
        put,
        so_far,
      )

  pub all_said : (i : ℕ) (xs : List X) (found : List F) (before now : List Line)
      → length found ≤ i → now ≡ before ++ first_lines i xs found
      → now ≡ before ++ each_lines lines xs found
  all_said i xs found before now all so_far =
      rw (take_all i (enumerate_from 0 (zip xs found))
      (omega (arith, length-enumerate_from 0 (zip xs found), length-zip xs found))) at so_far
