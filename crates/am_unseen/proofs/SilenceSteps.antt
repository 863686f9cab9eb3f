-- The matchers of the silences that are left.
use Rattle.std.proofs.Common.{◌≡◌, ℕ, ◌+◌, List, ◌∷◌, ◌++◌, drop}
use Rattle.std.proofs.Common.{Some, fold, sym, ap, ◌∙◌, refl, false, true}
use Rattle.std.specs.Prelude.{slice_get}
use Rattle.std.specs.List.{flat_map, enumerate_from, filter}
use Rattle.am_universe.proofs.Members.{left_at}
use Rattle.am_labels.specs.Matcher.{Matcher}
use Rattle.am_list_files.specs.SilencesFile.{Silence}
use Rattle.am_eval.specs.World.{World}
use Rattle.am_eval.specs.Silencing.{is_over}
use Rattle.am_complete.specs.declared.origin.Origin.{Origin}
use Rattle.am_asked.specs.Placed.{placed_in_silence}
use Rattle.am_asked.proofs.PlacedSteps.{passed}
use Rattle.am_unseen.specs.Unseen.{is_left}

-- the matchers of the silences from a position on that are not over
abbrev pub left_from : World → ℕ → List (Origin × Matcher)
left_from w i =
    flat_map placed_in_silence (filter (is_left w) (enumerate_from i (drop i w.silences)))

with_first : (w : World) (i : ℕ) (silence : Silence) → slice_get w.silences i ≡ Some silence
    → left_from w i ≡ flat_map placed_in_silence
    (filter (is_left w) ((i, silence) ∷ enumerate_from (i + 1) (drop (i + 1) w.silences)))
with_first w i silence at =
    ap (λ left. flat_map placed_in_silence (filter (is_left w) (enumerate_from i left)))
    (left_at w.silences i silence at)

module _ {S : Type 0} (after : S → Origin × Matcher → S) where
  -- a silence that is over is skipped
  pub one_over : (w : World) (i : ℕ) (silence : Silence) (now whole : S)
      → slice_get w.silences i ≡ Some silence → is_over w.instant silence ≡ true
      → fold after now (left_from w i) ≡ whole → fold after now (left_from w (i + 1)) ≡ whole
  one_over w i silence now whole at over before =
      let same : left_from w i ≡ left_from w (i + 1) = with_first w i silence at ∙ rw over refl in
      ap (fold after now) (sym same) ∙ before

  -- and the matchers of one that is not over are visited
  pub one_left : (w : World) (i : ℕ) (silence : Silence) (now next whole : S)
      → slice_get w.silences i ≡ Some silence → is_over w.instant silence ≡ false
      → next ≡ fold after now (placed_in_silence (i, silence))
      → fold after now (left_from w i) ≡ whole → fold after next (left_from w (i + 1)) ≡ whole
  one_left w i silence now next whole at left step before =
      let same : left_from w i ≡ placed_in_silence (i, silence) ++ left_from w (i + 1) =
      with_first w i silence at ∙ rw left refl in
      passed after (placed_in_silence (i, silence)) (left_from w (i + 1)) now next whole step
      (ap (fold after now) (sym same) ∙ before)
