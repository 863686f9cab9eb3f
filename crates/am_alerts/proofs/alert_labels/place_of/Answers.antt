use Rattle.std.proofs.Common.{◌≡◌, ◌++◌, ◌∷◌, [], ℕ, List, Bool, true, false, if◌then◌else◌, sym, ap, ◌∙◌, subst, arith}
use Rattle.std.specs.Borrow.{Bor}
use Rattle.std.specs.List.{list_any}
use Rattle.std.proofs.lemmas.List.{length_push, get_or_append_left}
use Rattle.std.proofs.lemmas.Option.{slice_get_within, get_or_from_slice_get}
use Rattle.std.specs.Prelude.{bytes_eq}
use Rattle.std.proofs.lemmas.Slice.Eq.{bytes_eq-Decides}
use Rattle.indexmap.specs.IndexSet.{insert_key}
use Rattle.am_alerts.specs.AlertLabels.{HasText}
use Rattle.am_alerts.proofs.alert_labels.place_of.Goals as goal

abbrev blank : Bor (List ℕ)
blank = record { ref_ptr = (0, 0); now = [] }

still : (texts : List (Bor (List ℕ))) (text : Bor (List ℕ)) (k : ℕ) (other : List ℕ)
    → HasText texts k other → HasText (texts ++ text ∷ []) k other
still texts text k other there = (
  omega (arith, length_push texts text, there.0),
  ap (λ (b : Bor (List ℕ)). b.now) (get_or_append_left texts (text ∷ []) blank k there.0) ∙ there.1,
)

-- a text that is inserted leaves each text in its place
grows : (eq : Bor (List ℕ) → Bor (List ℕ) → Bool) (old new : List (Bor (List ℕ))) (text : Bor (List ℕ))
    → new ≡ insert_key eq old text → (k : ℕ) (other : List ℕ) → HasText old k other → HasText new k other
grows eq old new text is k other there =
    subst (λ texts. HasText texts k other) (sym is) (by (list_any (eq text) old))
  where
    by : (b : Bool) → HasText (if b then old else old ++ text ∷ []) k other
    by true = there
    by false = still old text k other there

pub returns : goal.returns
returns c =
    let new = c.insert_full.new.self.keys in
    let stored = c.in_ok-place.ensures.stored in
    record {
      grows = grows (λ x y. bytes_eq x.now y.now) c.args.texts.now.keys new c.args.text c.in_ok-place.ensures.keys;
      place = (
        slice_get_within new c.in_ok-place.place stored.0 stored.1,
        ap (λ (b : Bor (List ℕ)). b.now) (get_or_from_slice_get new c.in_ok-place.place stored.0 blank stored.1)
            ∙ sym ((bytes_eq-Decides c.args.text.now stored.0.now).0 stored.2),
      );
    }
