-- A fact about each text of a map and what the map has for it: one entry more, and one fewer.
use Rattle.std.proofs.Common.{◌≡◌, ℕ, List, sym, subst, ap, ◌∙◌, cond}
use Rattle.std.proofs.Common.{Option, Some, None, inl, inr, Bor, bytes_eq}
use Rattle.std.specs.BTreeMap.{BTreeMap}
use Rattle.std.specs.Cmp.Lexicographic.{bytes_decides}
use Rattle.std.specs.Map.{update, lookup}
use Rattle.std.proofs.lemmas.Bool.{cases_Bool}
use Rattle.std.proofs.lemmas.Option.{same_Some}
use Rattle.am_unseen.specs.Search.{kept_at}

module _ {S : Type 0} (P : List ℕ → S → Type 0) where
  abbrev pub HoldsOf : BTreeMap (Bor (List ℕ)) S → Type 0
  HoldsOf kept = (text : List ℕ) (it : S) → kept_at kept text ≡ Some it → P text it

  module _ (before after : BTreeMap (Bor (List ℕ)) S) (name : List ℕ) (all : HoldsOf before) where
    pub one_more : (value : S) → P name value
        → ((q : List ℕ) → kept_at after q ≡ update bytes_eq (kept_at before) name (Some value) q)
        → HoldsOf after
    one_more value here put q found at = elim (cases_Bool (bytes_eq name q)) [
      | inl same ↦
          let is : name ≡ q = (bytes_decides name q).0 same in
          let there : kept_at after q ≡ Some value =
          put q ∙ ap (λ b. cond b (Some value) (kept_at before q)) same in
          let it : value ≡ found = sym (same_Some found value (sym at ∙ there)) in
          subst (λ text. P text found) is (subst (P name) it here)
      | inr other ↦
          let there : kept_at after q ≡ kept_at before q =
          put q ∙ ap (λ b. cond b (Some value) (kept_at before q)) other in
          all q found (sym there ∙ at)
    ]

    pub one_fewer : ((q : List ℕ) → kept_at after q ≡ update bytes_eq (kept_at before) name None q)
        → HoldsOf after
    one_fewer taken q found at = elim (cases_Bool (bytes_eq name q)) [
      | inl same ↦
          let none : kept_at after q ≡ None =
          taken q ∙ ap (λ b. cond b None (kept_at before q)) same in
          let nothing : None ≡ Some found = sym none ∙ at in absurd (cc)
      | inr other ↦
          let there : kept_at after q ≡ kept_at before q =
          taken q ∙ ap (λ b. cond b None (kept_at before q)) other in
          all q found (sym there ∙ at)
    ]

    pub as_before : after.entries ≡ before.entries → HoldsOf after
    as_before same q found at = all q found (ap (lookup _) (sym same) ∙ at)
