-- Which routes are entered, by some ends and one more.
use Rattle.std.proofs.Common.{◌≡◌, ◌||◌, ℕ, List, [], ◌∷◌, map, Bool, true, refl, sym, ap, ◌∙◌, inl, inr, arith}
use Rattle.std.specs.Global.{Vec}
use Rattle.std.specs.List.{list_any}
use Rattle.std.specs.Cmp.Lexicographic.{bytes_decides}
use Rattle.std.proofs.lemmas.Bool.{cases_Bool}
use Rattle.std.proofs.lemmas.Grind.{common_steps}
use Rattle.std.proofs.lemmas.List.{map_push}
use Rattle.std.proofs.lemmas.List.Folds.{list_any-append}
use Rattle.std.proofs.Math.Bool.{or-false}
use Rattle.indexmap.specs.IndexSet.{insert_key}
use Rattle.am_universe.specs.Text.{same_text}
use Rattle.am_universe.proofs.UniverseLemmas.{list_any-map}
use Rattle.am_labels.proofs.Passing.{any_in, in_any}
use Rattle.am_config.specs.Path.{leads_through}
use Rattle.am_firing.specs.Reach.{leads_to}

-- an end that is there already adds nothing
absorbed : (paths : List (List ℕ)) (path other : List ℕ) → list_any (same_text path) paths ≡ true
    → leads_to paths other ≡ (leads_to paths other || leads_through other path)
absorbed paths path other h =
    let r = any_in (same_text path) paths h in
    let is : path ≡ r.0 = (bytes_decides path r.0).0 r.2 in
    elim (cases_Bool (leads_through other path)) [
      | inl through ↦
          let some : leads_to paths other ≡ true =
          in_any (leads_through other) paths r.0 r.1 (ap (leads_through other) (sym is) ∙ through) in
          rw some refl
      | inr none ↦ rw none (grind (arith, common_steps, cases_Bool))
    ]

-- an end that is put into a set of them
pub end_inserted : (same : Vec ℕ → Vec ℕ → Bool)
    → ((x y : Vec ℕ) → same x y ≡ same_text x.items y.items) → (ends : List (Vec ℕ)) (end : Vec ℕ)
    (other : List ℕ) → leads_to (map (λ e. e.items) (insert_key same ends end)) other
    ≡ (leads_to (map (λ e. e.items) ends) other || leads_through other end.items)
end_inserted same is ends end other =
    let paths = map (λ (e : Vec ℕ). e.items) ends in
    let there : list_any (same end) ends ≡ list_any (same_text end.items) paths =
    (λ i. list_any (λ e. is end e i) ends)
    ∙ sym (list_any-map (same_text end.items) (λ (e : Vec ℕ). e.items) ends) in
    elim (cases_Bool (list_any (same end) ends)) [
      | inl old ↦ rw old (absorbed paths end.items other (sym there ∙ old))
      | inr new ↦
          rw new
          (ap (λ ps. leads_to ps other) (map_push (λ (e : Vec ℕ). e.items) ends end)
          ∙ list_any-append (leads_through other) paths (end.items ∷ [])
          ∙ ap (λ b. leads_to paths other || b) (or-false (leads_through other end.items)))
    ]
