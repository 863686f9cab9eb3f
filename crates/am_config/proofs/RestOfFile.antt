-- The fields of a file but one: what is left of a map without an entry.
use Rattle.std.proofs.Common.{◌≡◌, ℕ, List, [], ◌∷◌, Bool, true, false, cond, refl}
use Rattle.std.proofs.Common.{string_bytes, nat_cmp}
use Rattle.std.specs.BTreeMap.{is_at}
use Rattle.std.specs.Cmp.Lexicographic.{slice_cmp}
use Rattle.std.specs.Map.{remove_entry}
use Rattle.std.proofs.lemmas.Map.Text.{is_eq-slice_cmp}
use Rattle.serde_json.specs.Data.{member}
use Rattle.serde_json.specs.View.{view, members_view}
use Rattle.serde_json.proofs.Views.{Entry}
use Rattle.am_config.specs.WholeConfig.{without}

without_here : (is_first : Bool) (e : Entry) (left es : List Entry)
    → members_view (cond is_first es (e ∷ left))
    ≡ cond is_first (members_view es) (member (string_bytes e.0) (view e.1) (members_view left))
without_here true e left es = refl
without_here false e left es = refl

pub members_view-remove_entry : (key : List ℕ) (es : List Entry)
    → members_view (remove_entry (is_at (λ k. slice_cmp nat_cmp key (string_bytes k))) es)
    ≡ without key (members_view es)
members_view-remove_entry key [] = refl
members_view-remove_entry key (e ∷ es) =
    rw (is_eq-slice_cmp key (string_bytes e.0), ← members_view-remove_entry key es)
    (without_here _ e _ es)
