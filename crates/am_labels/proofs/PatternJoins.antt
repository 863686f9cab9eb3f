-- Every pattern is a join of one list of pieces, and it is in the profile exactly if none of them is
-- refused.
use Rattle.std.proofs.Common.{◌≡◌, ◌↔◌, refl, sym, ◌∙◌, ap, subst, ℕ, zero, suc, List, [], ◌∷◌}
use Rattle.std.proofs.Common.{◌-◌, ◌<◌, ◌≤◌, length, take, drop, get_or, Bool, true, false, not}
use Rattle.std.proofs.Common.{◌&&◌, ◌||◌, IsTrue, arith}
use Rattle.std.specs.List.{list_any}
use Rattle.std.proofs.lemmas.Bool.{not-true}
use Rattle.std.proofs.lemmas.List.{take_all}
use Rattle.am_labels.specs.declared.pattern_profile.ClassContext.{ClassContext}
use Rattle.am_labels.specs.declared.pattern_profile.ClassContext.TheVariants.{OutsideClass}
use Rattle.am_labels.specs.declared.pattern_profile.Piece.{Piece}
use Rattle.am_labels.specs.PatternProfile.{first_piece, is_refused, AreJoined, IsJoinOf, IsInProfile}
use Rattle.am_labels.specs.PatternProfile.{pieces_behind, has_no_refused_piece, in_profile}

-- The pieces of a text are joined to what is behind some bytes of it.
joined_behind : (n : ℕ) (context : ClassContext) (t : List ℕ)
    → AreJoined context (drop n t) (pieces_behind n context t)
unfolding pieces_behind
joined_behind zero context [] = tt
joined_behind (suc n) context [] = tt
joined_behind (suc n) context (c ∷ t) = joined_behind n context t
joined_behind zero context (c ∷ t) =
    let piece = first_piece context c t in (refl, joined_behind piece.more piece.next t)

pub each_is_join : (pattern : List ℕ) → (pieces : List Piece) × IsJoinOf pattern pieces
each_is_join pattern =
    (pieces_behind 0 OutsideClass pattern, joined_behind 0 OutsideClass pattern)

same_pieces : (context : ClassContext) (t : List ℕ) (a b : List Piece) → AreJoined context t a
    → AreJoined context t b → a ≡ b
same_pieces context [] [] [] s r = refl
same_pieces context (c ∷ t) (p ∷ a) (q ∷ b) s r =
    let first : p ≡ q = sym s.0 ∙ r.0 in
    let rest : a ≡ b =
    same_pieces p.next (drop p.more t) a b s.1
    (subst (λ (x : Piece). AreJoined x.next (drop x.more t) b) (sym first) r.1) in
    λ i. first i ∷ rest i
same_pieces context [] (p ∷ a) b s r = absurd s
same_pieces context [] a (q ∷ b) s r = absurd r
same_pieces context (c ∷ t) [] b s r = absurd s
same_pieces context (c ∷ t) a [] s r = absurd r

pub one_join : (pattern : List ℕ) (a b : List Piece) → IsJoinOf pattern a → IsJoinOf pattern b
    → a ≡ b
one_join pattern a b j k = same_pieces OutsideClass pattern a b j k

pub profile_is_decided : (pattern : List ℕ) → IsInProfile pattern ↔ IsTrue (in_profile pattern)
unfolding has_no_refused_piece
profile_is_decided pattern =
    let pieces : List Piece = pieces_behind 0 OutsideClass pattern in
    let joined : IsJoinOf pattern pieces = joined_behind 0 OutsideClass pattern in (
      λ p.
          ap (λ (ps : List Piece). not (list_any is_refused ps))
          (one_join pattern pieces p.pieces joined p.is_join) ∙ ap not p.none_refused,
      λ t. record { pieces = pieces; is_join = joined; none_refused = not-true _ t },
    )

-- ---- How a text is cut.

-- What is behind some bytes is cut as a text of its own.
pieces_behind-drop : (n : ℕ) (context : ClassContext) (t : List ℕ)
    → pieces_behind n context t ≡ pieces_behind 0 context (drop n t)
unfolding pieces_behind
pieces_behind-drop zero context t = refl
pieces_behind-drop (suc n) context [] = refl
pieces_behind-drop (suc n) context (c ∷ t) = pieces_behind-drop n context t

not_either : (a b : Bool) → not (a || b) ≡ (not a && not b)
not_either true b = refl
not_either false b = refl

pub cut_first : (context : ClassContext) (t : List ℕ) (piece : Piece) → 1 ≤ length t
    → piece ≡ first_piece context (get_or t 0 0) (take (length t - 1) (drop 1 t))
    → has_no_refused_piece context t
    ≡ (not piece.is_refused && has_no_refused_piece piece.next (drop piece.more (drop 1 t)))
unfolding has_no_refused_piece pieces_behind
cut_first context [] piece some is = absurd (omega arith)
cut_first context (c ∷ t) piece some is =
    let first = first_piece context c t in
    let same : piece ≡ first =
    is ∙ ap (first_piece context c) (take_all (length (c ∷ t) - 1) t (omega arith)) in
    rw same (not_either first.is_refused _
    ∙ ap (λ (ps : List Piece). not first.is_refused && not (list_any is_refused ps))
    (pieces_behind-drop first.more first.next t))

pub none_left : (context : ClassContext) (t : List ℕ) → length t < 1
    → has_no_refused_piece context t ≡ true
unfolding has_no_refused_piece pieces_behind
none_left context [] none = refl
none_left context (c ∷ t) none = absurd (omega arith)
