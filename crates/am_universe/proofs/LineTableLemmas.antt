-- A table holds the pieces of a universe, and the pieces of a choice make its line.
use Rattle.std.proofs.Common.{◌≡◌, ℕ, zero, suc, ◌+◌, ◌<◌, ◌≤◌, List, [], ◌∷◌, ◌++◌, length, map, take, drop, get_or, Option, Some, None, option_and_then, slice_get, slice_index, ap, sym, ◌∙◌, refl, arith, add-one, append_assoc, append-nil, length-append}
use Rattle.std.proofs.lemmas.List.{length-map, map-append, get_or-map, take_more, take_all}
use Rattle.std.proofs.lemmas.Option.{slice_get-get_or, slice_get_within, get_or_from_slice_get}
use Rattle.std.specs.List.{AllByRecursion}
use Rattle.std.specs.Global.{Vec}
use Rattle.std.specs.Vec.{vec_len}
use Rattle.am_universe.specs.Universe.{Label, Values, sizes}
use Rattle.am_universe.specs.Choice.{IsWhole}
use Rattle.am_universe.specs.LabelSet.{value_at, with_label, label_pairs}
use Rattle.am_universe.specs.WrittenLabelSet.{pair_text, line}
use Rattle.am_universe.specs.LineTable.{piece_text, label_pieces, texts_of_pieces, HasPieces}
use Rattle.am_universe.proofs.UniverseLemmas.{no_label}
use Rattle.am_universe.proofs.LabelPairLemmas.{label_pairs-more}
use Rattle.am_universe.proofs.LabelValueLemmas.{value_in}
use Rattle.am_universe.proofs.WholeChoiceLemmas.{admitted_at}
use Rattle.am_universe.proofs.SetTextLemmas.{Pairs, joined, joined-cons, following, following-append, label_pairs-split}

-- The pieces that a choice picks from the first i labels, joined.
abbrev pub pieces_text : List Label → List ℕ → ℕ → List ℕ
pieces_text u c i = following (label_pairs (take i u) (take i c))

-- ---- The piece that a choice takes of a label.

pub same_count : (u : List Label) (labels : List (Vec (Vec ℕ))) → HasPieces u labels → length labels ≡ length u
same_count u labels h = sym (length-map labels texts_of_pieces) ∙ ap length h ∙ length-map u label_pieces

-- the table of one more label
pub label_more : (u : List Label) (labels : List (Vec (Vec ℕ))) (i : ℕ) (l : Label) (pieces : Vec (Vec ℕ)) → slice_get u i ≡ Some l → texts_of_pieces pieces ≡ label_pieces l → map texts_of_pieces labels ≡ map label_pieces (take i u)
    → map texts_of_pieces (labels ++ pieces ∷ []) ≡ map label_pieces (take (i + 1) u)
label_more u labels i l pieces at texts so_far =
    map-append texts_of_pieces labels (pieces ∷ []) ∙ ap (λ ls. ls ++ texts_of_pieces pieces ∷ []) so_far ∙ ap (λ t. map label_pieces (take i u) ++ t ∷ []) texts
    ∙ sym (map-append label_pieces (take i u) (l ∷ [])) ∙ ap (λ d. map label_pieces (take i u ++ d ∷ [])) (sym (get_or_from_slice_get u i l l at))
    ∙ ap (map label_pieces) (sym (take_more u i l (slice_get_within u i l at)))

-- The text that a label adds to the pieces before it.
piece_behind : (name : List ℕ) (value : Option (List ℕ)) → following (with_label name value []) ≡ piece_text name value
piece_behind name None = refl
piece_behind name (Some v) = ap (λ t. 44 ∷ t) (append-nil (pair_text (name, v)))

pieces_more : (u : List Label) (c : List ℕ) (i p : ℕ) (l : Label) → slice_get u i ≡ Some l → slice_get c i ≡ Some p → pieces_text u c (i + 1) ≡ pieces_text u c i ++ piece_text l.name (value_at l p)
pieces_more u c i p l at picked =
    let before : Pairs = label_pairs (take i u) (take i c) in
    rw add-one (ap following (label_pairs-more u c i l p at picked)) ∙ following-append before (with_label l.name (value_at l p) []) ∙ ap (λ t. following before ++ t) (piece_behind l.name (value_at l p))

module _ (u : List Label) (labels : List (Vec (Vec ℕ))) (c : List ℕ) (i p : ℕ) (pieces : Vec (Vec ℕ)) (h : HasPieces u labels) (whole : IsWhole (sizes u) c) (inside : i < length labels) (at : pieces ≡ get_or labels i pieces) (is : p ≡ slice_index c i) where
  abbrev label : Label
  label = get_or u i no_label

  within : i < length u
  within = omega (arith, inside, same_count u labels h)

  chosen : i < length c
  chosen = omega (arith, within, whole.1, length-map u (λ l. length l.values))

  row : texts_of_pieces pieces ≡ label_pieces label
  row =
      ap texts_of_pieces at ∙ sym (get_or-map texts_of_pieces labels i pieces [] inside)
      ∙ ap (λ t. get_or t i []) h ∙ get_or-map label_pieces u i no_label [] within

  count : length pieces.items ≡ length label.values
  count = sym (length-map pieces.items (λ piece. piece.items)) ∙ ap length row ∙ length-map label.values (piece_text label.name)

  pub has_piece : p < vec_len pieces
  has_piece = omega (arith, admitted_at (sizes u) c i whole.0 chosen, get_or-map (λ l. length l.values) u i no_label 0 within, count, is, pieces.ok.0)

  pub text_more : (piece : Vec ℕ) (text : List ℕ) → piece ≡ get_or pieces.items p piece → text ≡ piece.items → pieces_text u c i ++ text ≡ pieces_text u c (i + 1)
  text_more piece text here kept =
      let below : p < length label.values = omega (arith, has_piece, count, pieces.ok.0) in
      let text_is : text ≡ piece_text label.name (value_at label p) =
      kept ∙ ap (λ q. q.items) here ∙ sym (get_or-map (λ q. q.items) pieces.items p piece [] (omega (arith, below, count)))
      ∙ ap (λ t. get_or t p []) row ∙ get_or-map (piece_text label.name) label.values p None [] below ∙ ap (piece_text label.name) (sym (value_in label.values p below)) in
      let picked : slice_get c i ≡ Some p = slice_get-get_or c i 0 chosen ∙ ap Some (sym is) in
      ap (λ t. pieces_text u c i ++ t) text_is ∙ sym (pieces_more u c i p label (slice_get-get_or u i no_label within) picked)

-- ---- The line of a choice, and the pieces that it takes.

length_following : (ps : Pairs) → length (following ps) ≤ length (joined ps) + 1
length_following [] = omega arith
length_following (p ∷ ps) = omega (arith, ap length (joined-cons p ps))

length_joined : (ps : Pairs) → length (joined ps) ≤ length (following ps)
length_joined [] = omega arith
length_joined (p ∷ ps) = omega (arith, ap length (joined-cons p ps))

length_line : (u : List Label) (c : List ℕ) → length (line u c) ≡ length (joined (label_pairs u c)) + 3
length_line u c =
    let text : List ℕ = joined (label_pairs u c) in
    omega (arith, length-append (123 ∷ (text ++ 125 ∷ [])) (10 ∷ []), length-append text (125 ∷ []))

-- The pieces of the first labels together are no longer than the line.
pub pieces_fit : (u : List Label) (c : List ℕ) (i : ℕ) → length c ≡ length u → length (pieces_text u c i) ≤ length (line u c)
pieces_fit u c i whole =
    let before : Pairs = label_pairs (take i u) (take i c) in
    let later : Pairs = label_pairs (drop i u) (drop i c) in
    let split : following (label_pairs u c) ≡ following before ++ following later = ap following (label_pairs-split u c i whole) ∙ following-append before later in
    omega (arith, ap length split, length-append (following before) (following later), length_following (label_pairs u c), length_line u c)

all_pieces_text : (u : List Label) (c : List ℕ) (i : ℕ) → length c ≡ length u → i ≡ length u → pieces_text u c i ≡ following (label_pairs u c)
all_pieces_text u c i whole e =
    let all : take i u ≡ u = take_all i u (omega arith) in
    let all_chosen : take i c ≡ c = take_all i c (omega arith) in
    cc

pub line_fits : (u : List Label) (c : List ℕ) (i room : ℕ) → length c ≡ length u → i ≡ length u → 3 + length (pieces_text u c i) ≤ room → length (line u c) ≤ room
line_fits u c i room whole e fits = omega (arith, ap length (all_pieces_text u c i whole e), length_joined (label_pairs u c), length_line u c)

without_first : (ps : Pairs) → drop 1 (following ps) ≡ joined ps
without_first [] = refl
without_first (p ∷ ps) = sym (joined-cons p ps)

pub line_of_pieces : (u : List Label) (c : List ℕ) (i : ℕ) → length c ≡ length u → i ≡ length u → (123 ∷ drop 1 (pieces_text u c i)) ++ (125 ∷ 10 ∷ []) ≡ line u c
line_of_pieces u c i whole e =
    ap (λ t. (123 ∷ drop 1 t) ++ (125 ∷ 10 ∷ [])) (all_pieces_text u c i whole e) ∙ ap (λ t. (123 ∷ t) ++ (125 ∷ 10 ∷ [])) (without_first (label_pairs u c))
    ∙ sym (append_assoc (123 ∷ joined (label_pairs u c)) (125 ∷ []) (10 ∷ []))

-- ---- Room for the piece of one more label.

longest_of : (n : ℕ) (name : List ℕ) (values : Values) (pieces : List (Vec ℕ)) (p : ℕ) → AllByRecursion (λ piece. vec_len piece ≤ n) pieces → map (λ piece. piece.items) pieces ≡ map (piece_text name) values
    → length (piece_text name (option_and_then (λ v. v) (slice_get values p))) ≤ n
longest_of n name [] pieces p h e = omega arith
longest_of n name (v ∷ vs) [] p h e = absurd (cc)
longest_of n name (v ∷ vs) (q ∷ qs) zero h e =
    let same : q.items ≡ piece_text name v = cc in
    omega (arith, h.0, q.ok.0, ap length same)
longest_of n name (v ∷ vs) (q ∷ qs) (suc p) h e = longest_of n name vs qs p h.1 (cc)

pub room_more : (u : List Label) (c : List ℕ) (i n room : ℕ) (l : Label) (pieces : Vec (Vec ℕ)) → slice_get u i ≡ Some l → length c ≡ length u → texts_of_pieces pieces ≡ label_pieces l → AllByRecursion (λ piece. vec_len piece ≤ n) pieces.items
    → 3 + length (pieces_text u c i) ≤ room → 3 + length (pieces_text u c (i + 1)) ≤ room + n
room_more u c i n room l pieces at whole texts most fits =
    let p : ℕ = get_or c i 0 in
    let picked : slice_get c i ≡ Some p = slice_get-get_or c i 0 (omega (arith, slice_get_within u i l at, whole)) in
    let more = longest_of n l.name l.values pieces.items p most texts in
    omega (arith, fits, more, ap length (pieces_more u c i p l at picked), length-append (pieces_text u c i) (piece_text l.name (value_at l p)))
