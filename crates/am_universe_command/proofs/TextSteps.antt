-- The text with one more value, one more label, or one more list.
use Rattle.std.proofs.Common.{◌≡◌, ◌≤◌, ◌<◌, ◌+◌, ℕ, List, [], ◌∷◌, ◌++◌, length, take, Option, Some}
use Rattle.std.proofs.Common.{None, sym, ap, ◌∙◌, append_assoc, codes, slice_get, get_or, option_map}
use Rattle.std.proofs.Common.{ap₂, option_and_then, arith, ◌==◌, false, map, refl}
use Rattle.std.proofs.lemmas.List.{length-map}
use Rattle.std.proofs.lemmas.Option.{slice_get-map, slice_get-get_or, same_Some}
use Rattle.json.specs.Print.{quoted}
use Rattle.am_universe.specs.Universe.{Label, sizes, names}
use Rattle.am_universe.specs.LabelSet.{value_at}
use Rattle.am_report_texts.specs.Separated.{gap_before}
use Rattle.am_report_texts.proofs.PieceSteps.{item_here, one_pushed, row_closed}
use Rattle.am_universe_command.specs.UniverseText.{value_text, values_text, label_text, labels_text}
use Rattle.am_universe_command.specs.UniverseText.{lists_text, impossible_text}

-- ---- Values and labels.

-- what the code reads from a label
part_here : {Y : Type 0} (f : Label → Y) (u : List Label) (i : ℕ) (label : Label) (y : Y)
    → slice_get u i ≡ Some label → slice_get (map f u) i ≡ Some y → y ≡ f label
part_here f u i label y here there =
    same_Some y (f label) (sym there ∙ slice_get-map f u i ∙ ap (option_map f) here)

size_here : (u : List Label) (i n : ℕ) (label : Label) → slice_get u i ≡ Some label
    → slice_get (sizes u) i ≡ Some n → n ≡ length label.values
size_here u i n label = part_here (λ l. length l.values) u i label n

pub value_pushed : (u : List Label) (i n j : ℕ) (label : Label) (value : Option (List ℕ)) (old text gap gapped new : List ℕ)
    → slice_get u i ≡ Some label → slice_get (sizes u) i ≡ Some n → j < n
    → value ≡ option_and_then (λ l. value_at l j) (slice_get u i)
    → text ≡ old ++ values_text (take j label.values)
    → gap ≡ gap_before j (codes "") (codes ", ") → gapped ≡ text ++ gap → new ≡ gapped ++ value_text value
    → new ≡ old ++ values_text (take (j + 1) label.values)
value_pushed u i n j label value old text gap gapped new here sized below is so_far gap_is gap_put pushed =
    let vs = label.values in
    let v = get_or vs j None in
    let within : j < length vs = omega (arith, size_here u i n label here sized) in
    let at = slice_get-get_or vs j None within in
    let same : value ≡ v =
    is ∙ ap (option_and_then (λ l. value_at l j)) here ∙ ap (option_and_then (λ w. w)) at in
    one_pushed [] (codes ", ") value_text vs j v old text gap gapped new at so_far gap_is gap_put
    (pushed ∙ ap (λ w. gapped ++ value_text w) same)

pub values_pushed : (u : List Label) (i n j : ℕ) (label : Label) (old text : List ℕ)
    → slice_get u i ≡ Some label → slice_get (sizes u) i ≡ Some n → n ≤ j
    → text ≡ old ++ values_text (take j label.values) → text ≡ old ++ values_text label.values
values_pushed u i n j label old text here sized all =
    row_closed [] (codes ", ") value_text label.values j old text
    (omega (arith, size_here u i n label here sized))

pub label_pushed : (u : List Label) (i : ℕ) (label : Label) (name old a b c d e : List ℕ)
    → slice_get u i ≡ Some label → slice_get (names u) i ≡ Some name
    → a ≡ old ++ codes "{\"name\": " → b ≡ a ++ quoted name → c ≡ b ++ codes ", \"values\": ["
    → d ≡ c ++ values_text label.values → e ≡ d ++ codes "]}"
    → e ≡ old ++ label_text label
label_pushed u i label name old a b c d e here named first second third fourth fifth =
    fifth ∙ ap (λ l. l ++ codes "]}") (fourth ∙ ap (λ l. l ++ values_text label.values)
    (third ∙ ap (λ l. l ++ codes ", \"values\": [") (second
    ∙ ap₂ (λ l t. l ++ quoted t) first (part_here (λ l. l.name) u i label name here named))))
    ∙ simp append_assoc

pub one_label_pushed : (u : List Label) (i : ℕ) (front text gap gapped new : List ℕ) → i < length u
    → text ≡ front ++ labels_text (take i u) → gap ≡ gap_before i (codes "\n  ") (codes ",\n  ") → gapped ≡ text ++ gap
    → ((label : Label) → slice_get u i ≡ Some label → new ≡ gapped ++ label_text label)
    → new ≡ front ++ labels_text (take (i + 1) u)
one_label_pushed u i front text gap gapped new within so_far gap_is gap_put pushed =
    let none : Label = record { name = []; values = [] } in
    let label = get_or u i none in
    let at = slice_get-get_or u i none within in
    one_pushed (codes "\n  ") (codes ",\n  ") label_text u i label front text gap gapped new at
    so_far gap_is gap_put (pushed label at)

-- ---- Lists.

module _ {X : Type 0} (view : X → List ℕ) where
  pub one_list_pushed : (lists : List X) (i : ℕ) (list : X) (front text gap gapped new : List ℕ)
      → i < length lists → list ≡ get_or lists i list
      → text ≡ front ++ lists_text (take i (map view lists)) → gap ≡ gap_before i (codes "\n  ") (codes ",\n  ")
      → gapped ≡ text ++ gap → new ≡ gapped ++ quoted (view list)
      → new ≡ front ++ lists_text (take (i + 1) (map view lists))
  one_list_pushed lists i list front text gap gapped new within is so_far gap_is gap_put pushed =
      let at : slice_get (map view lists) i ≡ Some (view list) =
      slice_get-map view lists i ∙ ap (option_map view) (item_here lists i list within is) in
      one_pushed (codes "\n  ") (codes ",\n  ") quoted (map view lists) i (view list) front text
      gap gapped new at so_far gap_is gap_put pushed

  some_lists : (lists : List X) → false ≡ (length lists == 0) → impossible_text (map view lists)
      ≡ codes ", \"impossible\": [" ++ (lists_text (map view lists) ++ codes "\n]")
  some_lists [] some = absurd cc
  some_lists (list ∷ lists) some = refl

  pub lists_pushed : (lists : List X) (i : ℕ) (old front text new : List ℕ)
      → false ≡ (length lists == 0) → length lists ≤ i
      → front ≡ old ++ codes ", \"impossible\": ["
      → text ≡ front ++ lists_text (take i (map view lists)) → new ≡ text ++ codes "\n]"
      → new ≡ old ++ impossible_text (map view lists)
  lists_pushed lists i old front text new some all opened so_far closed =
      let whole = row_closed (codes "\n  ") (codes ",\n  ") quoted (map view lists) i front text
      (omega (arith, length-map lists view, all)) so_far in
      rw (closed, whole, opened, some_lists lists some) (simp append_assoc)
