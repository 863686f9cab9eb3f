-- The values that label sets have for a label and the names that they have, set by set, and what the
-- code asks of a set of them.
use Rattle.std.proofs.Common.{◌≡◌, ℕ, ◌+◌, List, [], ◌∷◌, ◌++◌, refl, sym, ap, ◌∙◌, Bool}
use Rattle.std.proofs.Common.{Some, take, map, fold, length, Bor, arith, ◌≢◌, append-nil, append_assoc}
use Rattle.std.specs.Prelude.{slice_get}
use Rattle.std.specs.FinMap.{keys}
use Rattle.std.specs.List.{filter, flat_map, list_any}
use Rattle.std.proofs.lemmas.Bool.{cases_Bool}
use Rattle.std.proofs.lemmas.Grind.{common_steps}
use Rattle.std.proofs.lemmas.List.{map_push}
use Rattle.std.proofs.lemmas.List.Concat.{flat_map-append}
use Rattle.std.proofs.lemmas.List.Elements.{filter-append}
use Rattle.std.proofs.lemmas.List.Sums.{fold-append}
use Rattle.indexmap.specs.IndexSet.{insert_key}
use Rattle.am_universe.specs.LabelSet.{LabelMap, value_of}
use Rattle.am_universe.specs.Text.{same_text}
use Rattle.am_complete.specs.FoundState.{begins}
use Rattle.am_complete.proofs.Pushed.{one_longer}
use Rattle.am_report_texts.specs.EachOnce.{with_text}
use Rattle.am_unseen.specs.Unseen.{all_values}

-- ---- One more label set.

-- its values of a label
pub value_more : (start texts more : List (List ℕ)) (sets : List LabelMap) (a : LabelMap)
    (name : List ℕ) → more ≡ fold with_text texts (all_values (a ∷ []) name)
    → texts ≡ fold with_text start (all_values sets name)
    → more ≡ fold with_text start (all_values (sets ++ a ∷ []) name)
value_more start texts more sets a name put so_far =
    let one = all_values (a ∷ []) name in
    put ∙ ap (λ ts. fold with_text ts one) so_far
    ∙ sym (ap (λ vs. fold with_text start (filter begins vs))
    (map_push (λ b. value_of b name) sets a)
    ∙ ap (fold with_text start)
    (filter-append begins (map (λ b. value_of b name) sets) (value_of a name ∷ []))
    ∙ fold-append with_text start (all_values sets name) one)

-- its names
pub names_more : (start texts more : List (List ℕ)) (sets : List LabelMap) (a : LabelMap)
    → more ≡ fold with_text texts (keys a) → texts ≡ fold with_text start (flat_map keys sets)
    → more ≡ fold with_text start (flat_map keys (sets ++ a ∷ []))
names_more start texts more sets a put so_far =
    put ∙ ap (λ ts. fold with_text ts (keys a)) so_far
    ∙ sym (ap (fold with_text start)
    (flat_map-append keys sets (a ∷ []) ∙ ap (λ ks. flat_map keys sets ++ ks) (append-nil (keys a)))
    ∙ fold-append with_text start (flat_map keys sets) (keys a))

-- one more of the second of two lists
pub second_longer : (alerts rules : List LabelMap) (i : ℕ) (a : LabelMap)
    → slice_get rules i ≡ Some a
    → (alerts ++ take i rules) ++ a ∷ [] ≡ alerts ++ take (i + 1) rules
second_longer alerts rules i a at =
    append_assoc alerts (take i rules) (a ∷ []) ∙ ap (λ rs. alerts ++ rs) (one_longer rules i a at)

-- ---- A set.

-- whether a text of a set passes a test
pub passes_there : (test : Bor (List ℕ) → Bool) (p : List ℕ → Bool)
    → ((k : Bor (List ℕ)) → test k ≡ p k.now) → (keys : List (Bor (List ℕ)))
    → list_any test keys ≡ list_any p (map (λ t. t.now) keys)
passes_there test p same [] = refl
passes_there test p same (k ∷ keys) = rw (same k, passes_there test p same keys) refl

-- whether a set has a text
pub text_there : (test : Bor (List ℕ) → Bool) (text : List ℕ)
    → ((k : Bor (List ℕ)) → test k ≡ same_text text k.now) → (keys : List (Bor (List ℕ)))
    → list_any test keys ≡ list_any (same_text text) (map (λ t. t.now) keys)
text_there test text same keys = passes_there test (same_text text) same keys

module _ (eq : Bor (List ℕ) → Bor (List ℕ) → Bool)
    (same : (a b : Bor (List ℕ)) → eq a b ≡ same_text a.now b.now) where
  -- one more text
  pub texts_inserted : (keys : List (Bor (List ℕ))) (k : Bor (List ℕ))
      → map (λ t. t.now) (insert_key eq keys k) ≡ with_text (map (λ t. t.now) keys) k.now
  texts_inserted keys k = grind (
    arith,
    common_steps,
    cases_Bool,
    text_there (eq k) k.now (same k) keys,
    map_push (λ (t : Bor (List ℕ)). t.now) keys k,
  )

-- a set with some texts
pub some_texts : (texts : List (Bor (List ℕ))) → length texts ≢ 0 → map (λ t. t.now) texts ≢ []
some_texts [] some e = some refl
some_texts (t ∷ ts) some e = absurd (cc)
