-- A text written between quotes, run by run. The bytes from `start` to `i` stand for themselves, and
-- are written together.
use Rattle.std.proofs.Common.{◌≡◌, ℕ, ◌+◌, ◌-◌, ◌<◌, ◌≤◌, List, [], ◌∷◌, ◌++◌, length, get_or, take, drop, sym, ap, ◌∙◌, append_assoc, length-drop, arith}
use Rattle.std.proofs.lemmas.List.{take_more, get_or-drop, at_drop_more}
use Rattle.std.specs.List.{flat_map}
use Rattle.am_universe.specs.Text.{label_value_escape}

-- the bytes from `start` to `i`
abbrev pub run : ℕ → ℕ → List ℕ → List ℕ
run start i text = take (i - start) (drop start text)

run_more : (start i : ℕ) (text : List ℕ) → start ≤ i → i < length text → run start (i + 1) text ≡ run start i text ++ get_or text i 0 ∷ []
run_more start i text order h =
    let behind : i + 1 - start ≡ i - start + 1 = omega arith in
    let back : start + (i - start) ≡ i = omega arith in
    ap (λ n. take n (drop start text)) behind ∙ take_more (drop start text) (i - start) 0 (omega (arith, length-drop start text))
    ∙ ap (λ b. run start i text ++ b ∷ []) (get_or-drop start text (i - start) 0 ∙ ap (λ n. get_or text n 0) back)

-- the text with escapes is what is written, the run, and the bytes from `i` on
abbrev pub IsWhole : List ℕ → List ℕ → ℕ → ℕ → Type 0
IsWhole text done start i = flat_map label_value_escape text ≡ done ++ (run start i text ++ flat_map label_value_escape (drop i text))

module _ (text done : List ℕ) (start i : ℕ) (h : i < length text) (whole : IsWhole text done start i) where
  -- the escape of the next byte comes after the run
  pub then_escape : (escape : List ℕ) → escape ≡ label_value_escape (get_or text i 0)
      → flat_map label_value_escape text ≡ done ++ (run start i text ++ (escape ++ flat_map label_value_escape (drop (i + 1) text)))
  then_escape escape e =
      whole ∙ ap (λ t. done ++ (run start i text ++ t)) (at_drop_more (flat_map label_value_escape) text i 0 h ∙ ap (λ t. t ++ flat_map label_value_escape (drop (i + 1) text)) (sym e))

  -- after it, the next run is empty
  pub after_escape : (escape : List ℕ) (next : ℕ) → escape ≡ label_value_escape (get_or text i 0) → next ≡ i + 1 → IsWhole text (done ++ (run start i text ++ escape)) next (i + 1)
  after_escape escape next e is =
      let rest : List ℕ = flat_map label_value_escape (drop (i + 1) text) in
      let gone : i + 1 - next ≡ 0 = omega (arith, is) in
      then_escape escape e ∙ ap (λ t. done ++ t) (sym (append_assoc (run start i text) escape rest)) ∙ sym (append_assoc done (run start i text ++ escape) rest)
      ∙ ap (λ n. (done ++ (run start i text ++ escape)) ++ (take n (drop next text) ++ rest)) (sym gone)

  -- a byte that stands for itself makes the run longer
  pub plain_more : start ≤ i → label_value_escape (get_or text i 0) ≡ get_or text i 0 ∷ [] → IsWhole text done start (i + 1)
  plain_more order plain =
      let rest : List ℕ = flat_map label_value_escape (drop (i + 1) text) in
      then_escape (get_or text i 0 ∷ []) (sym plain) ∙ ap (λ t. done ++ t) (sym (append_assoc (run start i text) (get_or text i 0 ∷ []) rest))
      ∙ ap (λ t. done ++ (t ++ rest)) (sym (run_more start i text order h))
