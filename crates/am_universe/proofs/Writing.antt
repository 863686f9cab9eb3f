-- Facts about texts that are written step by step.
use Rattle.std.proofs.Common.{◌≡◌, ℕ, ◌+◌, ◌-◌, ◌<◌, ◌≤◌, List, [], ◌∷◌, ◌++◌, length, get_or, take, drop, Result, Ok, Err, IsErr, refl, subst, sym, ap, ◌∙◌, append_assoc, append-nil, length-append, length-drop, arith}
use Rattle.std.proofs.Math.Seq.{drop-append_seam, take-add, take-append-add}
use Rattle.std.proofs.lemmas.List.{drop-drop, take-append-le, take_all, take-append-drop, take_more}
use Rattle.std.proofs.lemmas.Grind.{flat_map-append, take_at_read}
use Rattle.std.specs.List.{flat_map}
use Rattle.std.specs.Result.{IsErrAnd}
use Rattle.am_universe.specs.declared.kind.Kind.{Kind}
use Rattle.am_universe.specs.Sink.{GrowsByProperPrefix, Wrote, WroteInPart, Writes}

-- ---- A text in pieces, one for each item of a list, between a head and a tail. The invariant of a
-- loop says that the head and the pieces of the first items are written.

pub pieces_split : {X : Type 0} (f : X → List ℕ) (xs : List X) (i : ℕ) → flat_map f (take i xs) ++ flat_map f (drop i xs) ≡ flat_map f xs
pieces_split f xs i = sym (flat_map-append f (take i xs) (drop i xs)) ∙ ap (flat_map f) (take-append-drop i xs)

pub pieces_more : {X : Type 0} (head : List ℕ) (f : X → List ℕ) (xs : List X) (i : ℕ) (d : X) → i < length xs
    → (head ++ flat_map f (take i xs)) ++ f (get_or xs i d) ≡ head ++ flat_map f (take (i + 1) xs)
pieces_more head f xs i d h =
    append_assoc head (flat_map f (take i xs)) (f (get_or xs i d)) ∙ ap (λ t. head ++ t) (ap (λ t. flat_map f (take i xs) ++ t) (sym (append-nil (f (get_or xs i d))))
    ∙ sym (flat_map-append f (take i xs) (get_or xs i d ∷ [])) ∙ ap (flat_map f) (sym (take_more xs i d h)))

pub pieces_end : {X : Type 0} (head : List ℕ) (f : X → List ℕ) (xs : List X) (tail : List ℕ) (i : ℕ) → length xs ≤ i → (head ++ flat_map f (take i xs)) ++ tail ≡ head ++ (flat_map f xs ++ tail)
pieces_end head f xs tail i h = append_assoc head (flat_map f (take i xs)) tail ∙ ap (λ t. head ++ (flat_map f t ++ tail)) (take_all i xs h)

-- What was written, the piece at which the writing stopped, and the rest are the whole text.
pub pieces_through : {X : Type 0} (head : List ℕ) (f : X → List ℕ) (xs : List X) (tail : List ℕ) (i : ℕ) (d : X) → i < length xs
    → (head ++ flat_map f (take i xs)) ++ (f (get_or xs i d) ++ (flat_map f (drop (i + 1) xs) ++ tail)) ≡ head ++ (flat_map f xs ++ tail)
pieces_through head f xs tail i d h =
    let later : List ℕ = flat_map f (drop (i + 1) xs) in
    sym (append_assoc (head ++ flat_map f (take i xs)) (f (get_or xs i d)) (later ++ tail)) ∙ ap (λ t. t ++ (later ++ tail)) (pieces_more head f xs i d h)
    ∙ append_assoc head (flat_map f (take (i + 1) xs)) (later ++ tail) ∙ ap (λ t. head ++ t) (sym (append_assoc (flat_map f (take (i + 1) xs)) later tail) ∙ ap (λ t. t ++ tail) (pieces_split f xs (i + 1)))

-- ---- A text of which some bytes at the front are written.

-- The part of a text from i on, as `&text[i..]` returns it.
rest_from : (i : ℕ) (text : List ℕ) → take (length text - i) (drop i text) ≡ drop i text
rest_from i text = take_all (length text - i) (drop i text) (omega (arith, length-drop i text))

-- n more bytes after the first i.
pub more_taken : (start now later text : List ℕ) (i n : ℕ) → now ≡ start ++ take i text → later ≡ now ++ take n (take (length text - i) (drop i text)) → later ≡ start ++ take (i + n) text
more_taken start now later text i n before more =
    more ∙ ap (λ t. now ++ take n t) (rest_from i text) ∙ ap (λ t. t ++ take n (drop i text)) before ∙ append_assoc start (take i text) (take n (drop i text)) ∙ ap (λ t. start ++ t) (sym (take-add i n text))

-- ---- A proper prefix of a text, if the text goes on after it or was begun before it.

pub dropped_pieces : (a b text : List ℕ) → drop (length (a ++ b)) text ≡ drop (length b) (drop (length a) text)
dropped_pieces a b text = simp (length-append, drop-drop)

grows_on : (old new a b : List ℕ) → GrowsByProperPrefix old new a → GrowsByProperPrefix old new (a ++ b)
unfolding GrowsByProperPrefix
grows_on old new a b (count, proper, grows) =
    (count, omega (arith, length-append a b), grows ∙ ap (λ t. old ++ t) (sym (take-append-le count a b (omega arith))))

grows_behind : (old new a b : List ℕ) → GrowsByProperPrefix (old ++ a) new b → GrowsByProperPrefix old new (a ++ b)
unfolding GrowsByProperPrefix
grows_behind old new a b (count, proper, grows) = (
  length a + count,
  omega (arith, length-append a b),
  grows ∙ append_assoc old a (take count b) ∙ ap (λ t. old ++ t) (sym (take-append-add a b count)),
)

pub taken_in_part : (old text : List ℕ) (count : ℕ) → count < length text → GrowsByProperPrefix old (old ++ take count text) text
unfolding GrowsByProperPrefix
taken_in_part old text count proper = (count, proper, refl)

-- Every text that `again` leaves the same was cut off: only a proper prefix of it was written.
-- `again` takes the known pieces off the front of a text, and puts them back.
unfoldable pub IsCut : List ℕ → List ℕ → (List ℕ → List ℕ) → Type 0
IsCut old new again = (text : List ℕ) → again text ≡ text → GrowsByProperPrefix old new text

-- `grind` matches the first part of each conclusion with what is known of the piece that was cut
-- off, and of the pieces before it.
module _ (old new : List ℕ) where
  pub cut_piece : (a : List ℕ) → GrowsByProperPrefix old new a → GrowsByProperPrefix old new a × (IsCut old new (λ text. a) × IsCut old new (λ text. a ++ drop (length a) text))
  unfolding IsCut
  cut_piece a p = (p, ((λ text is. subst (GrowsByProperPrefix old new) is p), λ text is. subst (GrowsByProperPrefix old new) is (grows_on old new a _ p)))

  pub cut_behind : (a : List ℕ) (again : List ℕ → List ℕ) → IsCut (old ++ a) new again → IsCut (old ++ a) new again × IsCut old new (λ text. a ++ again (drop (length a) text))
  unfolding IsCut
  cut_behind a again p = (
    p,
    λ text is.
        let rest : List ℕ = again (drop (length a) text) in
        let same : drop (length a) text ≡ rest = ap (drop (length a)) (sym is) ∙ drop-append_seam a rest in
        subst (GrowsByProperPrefix old new) is (grows_behind old new a rest (p rest (sym (ap again same)))),
  )

  pub cut_off : (again : List ℕ → List ℕ) → IsCut old new again → IsCut old new again × ((text : List ℕ) → again text ≡ text → GrowsByProperPrefix old new text)
  unfolding IsCut
  cut_off again p = (p, p)

-- A list, split at the item that a loop reads.
pub around_read : {X : Type 0} (xs : List X) (i : ℕ) (d : X) → i < length xs → (get_or xs i d ≡ get_or xs i d) × (xs ≡ take i xs ++ (get_or xs i d ∷ drop (i + 1) xs))
around_read xs i d h = (refl, sym (take-append-drop (i + 1) xs) ∙ ap (λ t. t ++ drop (i + 1) xs) (take_more xs i d h) ∙ append_assoc (take i xs) (get_or xs i d ∷ []) (drop (i + 1) xs))

pub ruleset steps = (append_assoc, append-nil, flat_map-append, take_all, take_at_read, around_read, more_taken, taken_in_part, drop-append_seam, dropped_pieces, cut_piece, cut_behind, cut_off)

-- ---- One write after another. Calls that write a, b and c in turn write a text that is defined
-- as `a ++ (b ++ c)`: `first ⟩ second ⟩ third`, or, if the second failed,
-- `first ⟩ fails _ answer second`.

infixr 20 ◌⟩◌
module _ {S : Type 0} {taken : S → List ℕ} {failures : S → ℕ} where
  -- The empty text is written by doing nothing.
  pub wrote_nothing : {s : S} → Wrote taken failures s s []
  wrote_nothing {s} = record { all = sym (append-nil (taken s)); none_failed = refl }

  pub wrote_then : {s m e : S} {a b : List ℕ} → Wrote taken failures s m a → Wrote taken failures m e b → Wrote taken failures s e (a ++ b)
  wrote_then {s} {m} {e} {a} {b} v w = record {
    all = w.all ∙ ap (λ t. t ++ b) v.all ∙ append_assoc (taken s) a b;
    none_failed = w.none_failed ∙ v.none_failed;
  }

  pub wrote_as : {s e : S} {a b : List ℕ} → a ≡ b → Wrote taken failures s e a → Wrote taken failures s e b
  wrote_as {s} same w = record { all = w.all ∙ ap (λ t. taken s ++ t) same; none_failed = w.none_failed }

  -- A write that failed, after one that did not.
  pub stopped_then : {s m e : S} {a b : List ℕ} → Wrote taken failures s m a → WroteInPart taken failures m e b → WroteInPart taken failures s e (a ++ b)
  stopped_then {s} {m} {e} {a} {b} v w = record {
    part = grows_behind _ _ a b (rw v.all at w.part);
    one_failed = w.one_failed ∙ ap (λ n. n + 1) v.none_failed;
  }

  -- A failed write of a text is also one of any text that begins with it.
  pub stopped_on : {s e : S} {a : List ℕ} (b : List ℕ) → WroteInPart taken failures s e a → WroteInPart taken failures s e (a ++ b)
  stopped_on b w = record { part = grows_on _ _ _ b w.part; one_failed = w.one_failed }

  -- A write after one that did not fail.
  pub ◌⟩◌ : {T : Type 0} {s m e : S} {a b : List ℕ} {r : Result T Kind} → Wrote taken failures s m a → Writes taken failures m e b r → Writes taken failures s e (a ++ b) r
  ◌⟩◌ {r = Ok t} v w = record { ok = wrote_then v w.ok; err = tt }
  ◌⟩◌ {r = Err k} v w = record { ok = tt; err = (w.err.0, stopped_then v w.err.1) }

  -- A write that failed at a `?`, before the rest of the text.
  pub fails : {T U : Type 0} {s e : S} {a : List ℕ} (b : List ℕ) {kind : Kind} {r : Result T Kind} → IsErr r × IsErrAnd r (λ k. k ≡ kind) → Writes {T = U} taken failures s e a (Err kind) → Writes taken failures s e (a ++ b) r
  fails b {r = Ok t} h w = absurd h.1
  fails b {r = Err k} h w = record { ok = tt; err = (h.1 ∙ w.err.0, stopped_on b w.err.1) }

  -- All of the text was written, whatever the type of the answer.
  pub ends : {T : Type 0} {s e : S} {a : List ℕ} (t : T) → Wrote taken failures s e a → Writes {T = T} taken failures s e a (Ok t)
  ends t w = record { ok = w; err = tt }

  pub writes_as : {T : Type 0} {s e : S} {a b : List ℕ} {r : Result T Kind} → a ≡ b → Writes taken failures s e a r → Writes taken failures s e b r
  writes_as {T} {s} {e} {r = r} same w = subst (λ (t : List ℕ). Writes {T = T} taken failures s e t r) same w
