-- Silences one after another: what holds for those before a position, and for the one that is
-- there.
use Rattle.std.proofs.Common.{◌≡◌, ◌+◌, ℕ, List, [], ◌∷◌, ◌++◌, take, Some}
use Rattle.std.proofs.Common.{sym, ◌∙◌, subst, slice_get, Option}
use Rattle.std.specs.Prelude.{IsFalse}
use Rattle.std.specs.List.{AllZip}
use Rattle.std.proofs.lemmas.Slice.Zip.{all_zipped_more}
use Rattle.am_universe.specs.LabelSet.{LabelMap}
use Rattle.am_labels.specs.Space.{Space}
use Rattle.am_list_files.specs.SilencesFile.{Silence}
use Rattle.am_eval.specs.World.{World}
use Rattle.am_eval.specs.Silencing.{is_over}
use Rattle.am_classes.specs.declared.alphabet.Alphabet.{Alphabet}
use Rattle.am_complete.proofs.Pushed.{one_longer}
use Rattle.am_idle.specs.declared.silences.SilenceFinding.{SilenceFinding}
use Rattle.am_idle.specs.declared.silences.SilenceFinding.TheVariants as finding_is
use Rattle.am_idle.specs.Silences.{IsSilenceFinding}
use Rattle.am_idle.specs.KnownExtents.{IsSaidIfNotKnown}

-- ---- Lists.

-- what holds for two lists before a position, and at it, holds before the next position
pub zip_more : {A B : Type 0} (R : A → B → Type 0) (xs : List A) (i : ℕ) (x : A) (y : B)
    (ys zs : List B) → slice_get xs i ≡ Some x → zs ≡ ys ++ y ∷ [] → AllZip R (take i xs) ys
    → R x y → AllZip R (take (i + 1) xs) zs
zip_more R xs i x y ys zs at is all last =
    subst (AllZip R (take (i + 1) xs)) (sym is)
    (subst (λ (ws : List _). AllZip R ws (ys ++ y ∷ [])) (one_longer xs i x at)
    (all_zipped_more R (take i xs) ys x y all last))

-- ---- Silences.

-- two spaces are the same if neither declares a label and the same is impossible for both
pub same_space : (s t : Space) → s.labels ≡ [] → t.labels ≡ [] → s.impossible ≡ t.impossible
    → s ≡ t
same_space s t none other same = λ i. record { labels = (none ∙ sym other) i; impossible = same i }

-- what is said of a silence if it is not known what its matchers match
pub said_if_not_known : (a : Alphabet) (s : Space) (w : World) (alerts : Option (List LabelMap))
    (silence : Silence) (finding : SilenceFinding) → IsFalse (is_over w.instant silence)
    → IsSaidIfNotKnown a s silence.matchers finding
    → IsSilenceFinding a s w alerts silence (Some finding)
said_if_not_known a s w alerts silence finding_is.Idle lasts said = absurd said
said_if_not_known a s w alerts silence finding_is.All lasts said = absurd said
said_if_not_known a s w alerts silence finding_is.Unused lasts said = absurd said
said_if_not_known a s w alerts silence finding_is.Unproved lasts said = (lasts, said)
said_if_not_known a s w alerts silence (finding_is.Undecided evidence) lasts said = (lasts, said)
