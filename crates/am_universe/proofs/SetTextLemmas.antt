-- The text of a label set, label by label.
use Rattle.std.proofs.Common.{◌≡◌, ℕ, zero, suc, ◌+◌, ◌<◌, List, [], ◌∷◌, ◌++◌, length, map, take, drop, Some, None, slice_get, slice_index, option_and_then, ap, sym, ◌∙◌, refl, arith, add-one, append_assoc, append-nil}
use Rattle.std.specs.List.{join_with_byte}
use Rattle.std.proofs.lemmas.List.{take_all}
use Rattle.std.proofs.lemmas.Grind.{common_steps}
use Rattle.am_universe.specs.Universe.{Label, names}
use Rattle.am_universe.specs.LabelSet.{value_at, with_label, label_pairs}
use Rattle.am_universe.specs.WrittenLabelSet.{pair_text, pairs_text}
use Rattle.am_universe.proofs.LabelPairLemmas.{with_label-append, label_pairs-more, chosen, name_at}

-- ---- Pairs joined by commas.

abbrev pub Pairs : Type 0
Pairs = List (List ℕ × List ℕ)

-- The texts of the pairs, joined by commas.
abbrev pub joined : Pairs → List ℕ
joined pairs = join_with_byte 44 (map pair_text pairs)

-- The separator between these pairs and the next one; empty if there are no pairs.
abbrev pub separator : Pairs → List ℕ
separator [] = []
separator (p ∷ ps) = 44 ∷ []

-- The texts of pairs that follow another pair, each after a comma.
abbrev pub following : Pairs → List ℕ
following [] = []
following (p ∷ ps) = 44 ∷ (pair_text p ++ following ps)

pub joined-cons : (p : List ℕ × List ℕ) (ps : Pairs) → joined (p ∷ ps) ≡ pair_text p ++ following ps
joined-cons p [] = sym (append-nil (pair_text p))
joined-cons p (q ∷ ps) = ap (λ t. pair_text p ++ (44 ∷ t)) (joined-cons q ps)

pub following-append : (ps qs : Pairs) → following (ps ++ qs) ≡ following ps ++ following qs
following-append [] qs = refl
following-append (p ∷ ps) qs = ap (λ t. 44 ∷ (pair_text p ++ t)) (following-append ps qs) ∙ ap (λ t. 44 ∷ t) (sym (append_assoc (pair_text p) (following ps) (following qs)))

-- One pair, with others before and after it.
pub joined_through : (ps : Pairs) (p : List ℕ × List ℕ) (qs : Pairs) → joined (ps ++ p ∷ qs) ≡ joined ps ++ ((separator ps ++ pair_text p) ++ following qs)
joined_through [] p qs = joined-cons p qs
joined_through (o ∷ ps) p qs = grind (arith, common_steps, joined-cons, following-append)

-- One pair after others.
pub joined_more : (ps : Pairs) (p : List ℕ × List ℕ) → joined (ps ++ p ∷ []) ≡ joined ps ++ (separator ps ++ pair_text p)
joined_more ps p = joined_through ps p [] ∙ ap (λ t. joined ps ++ t) (append-nil (separator ps ++ pair_text p))

pub separator_behind : (ps : Pairs) (p : List ℕ × List ℕ) → 44 ∷ [] ≡ separator (ps ++ p ∷ [])
separator_behind [] p = refl
separator_behind (o ∷ ps) p = refl

-- ---- The pairs of a choice: those of the first i labels, the next one if its label has a text, and the others.

pub label_pairs-split : (u : List Label) (c : List ℕ) (i : ℕ) → length c ≡ length u → label_pairs u c ≡ label_pairs (take i u) (take i c) ++ label_pairs (drop i u) (drop i c)
label_pairs-split u c zero h = refl
label_pairs-split [] c (suc i) h = refl
label_pairs-split (l ∷ u) [] (suc i) h = absurd (omega arith)
label_pairs-split (l ∷ u) (p ∷ c) (suc i) h = ap (with_label l.name (value_at l p)) (label_pairs-split u c i (omega arith)) ∙ with_label-append l.name (value_at l p) _ _

pub next_pair : (u : List Label) (c : List ℕ) (i p : ℕ) (name text : List ℕ) → length c ≡ length u → i < length u → p ≡ slice_index c i → slice_get (names u) i ≡ Some name → Some text ≡ option_and_then (λ l. value_at l p) (slice_get u i)
    → label_pairs (take (i + 1) u) (take (i + 1) c) ≡ label_pairs (take i u) (take i c) ++ (name, text) ∷ []
next_pair u c i p name text whole k is named valued =
    let here = chosen u c i p (Some text) whole k is valued in
    rw add-one (label_pairs-more u c i here.label p here.at here.picked ∙ ap (λ v. label_pairs (take i u) (take i c) ++ with_label here.label.name v []) here.valued
    ∙ ap (λ n. label_pairs (take i u) (take i c) ++ (n, text) ∷ []) (name_at u i here.label name here.at named))

pub no_pair : (u : List Label) (c : List ℕ) (i p : ℕ) → length c ≡ length u → i < length u → p ≡ slice_index c i → None ≡ option_and_then (λ l. value_at l p) (slice_get u i)
    → label_pairs (take (i + 1) u) (take (i + 1) c) ≡ label_pairs (take i u) (take i c)
no_pair u c i p whole k is valued =
    let here = chosen u c i p None whole k is valued in
    rw add-one (label_pairs-more u c i here.label p here.at here.picked ∙ ap (λ v. label_pairs (take i u) (take i c) ++ with_label here.label.name v []) here.valued
    ∙ append-nil (label_pairs (take i u) (take i c)))

pub pair_among : (u : List Label) (c : List ℕ) (i p : ℕ) (name text : List ℕ) → length c ≡ length u → i < length u → p ≡ slice_index c i → slice_get (names u) i ≡ Some name → Some text ≡ option_and_then (λ l. value_at l p) (slice_get u i)
    → label_pairs u c ≡ label_pairs (take i u) (take i c) ++ (name, text) ∷ label_pairs (drop (i + 1) u) (drop (i + 1) c)
pair_among u c i p name text whole k is named valued =
    let later : Pairs = label_pairs (drop (i + 1) u) (drop (i + 1) c) in
    label_pairs-split u c (i + 1) whole ∙ ap (λ ps. ps ++ later) (next_pair u c i p name text whole k is named valued)
    ∙ append_assoc (label_pairs (take i u) (take i c)) ((name, text) ∷ []) later

-- ---- The text in braces: what is written, the next pair after its separator, and the rest.

pub set_through : (pairs ps : Pairs) (p : List ℕ × List ℕ) (qs : Pairs) (s : List ℕ) → pairs ≡ ps ++ p ∷ qs → s ≡ separator ps
    → (123 ∷ joined ps) ++ ((s ++ pair_text p) ++ (following qs ++ 125 ∷ [])) ≡ pairs_text pairs
set_through pairs ps p qs s are is = grind (arith, common_steps, joined_through)

pub set_more : (pairs ps : Pairs) (p : List ℕ × List ℕ) (s : List ℕ) → pairs ≡ ps ++ p ∷ [] → s ≡ separator ps → (123 ∷ joined ps) ++ (s ++ pair_text p) ≡ 123 ∷ joined pairs
set_more pairs ps p s are is = ap (λ t. 123 ∷ t) (ap (λ t. joined ps ++ (t ++ pair_text p)) is ∙ sym (joined_more ps p) ∙ ap joined (sym are))

pub set_end : (u : List Label) (c : List ℕ) (i : ℕ) → length c ≡ length u → i ≡ length u → (123 ∷ joined (label_pairs (take i u) (take i c))) ++ 125 ∷ [] ≡ pairs_text (label_pairs u c)
set_end u c i whole e =
    let all : take i u ≡ u = take_all i u (omega arith) in
    let all_chosen : take i c ≡ c = take_all i c (omega arith) in
    cc
