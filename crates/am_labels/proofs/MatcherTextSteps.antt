-- The steps of reading a piece, and what each means for the whole piece.
use Rattle.std.proofs.Common.{◌≡◌, refl, inl, inr, ℕ, List, Option, Some}
use Rattle.am_universe.specs.declared.kind.Kind.{Kind}
use Rattle.am_labels.specs.declared.op.Op.{Op}
use Rattle.am_labels.specs.MatcherText.{unescaped_text}
use Rattle.am_labels.specs.MatcherReading.{IsReadFailure, ◌>>=◌, read_piece, read_name}
use Rattle.am_labels.specs.MatcherReading.{read_operator, read_body, without_leading_blanks}
use Rattle.am_labels.specs.MatcherReading.{without_trailing_blanks}

pub fails_then : {A B : Type 0} (kind : Kind) (o : Option A) (f : A → Option B)
    → IsReadFailure kind o → IsReadFailure kind (o >>= f)
fails_then kind o f (inl memory) = inl memory
fails_then kind o f (inr none) = inr (none.0, rw none.1 refl)

module _ (piece t : List ℕ) (begun : t ≡ without_leading_blanks piece) where
  pub no_name : (kind : Kind) → IsReadFailure kind (read_name t)
      → IsReadFailure kind (read_piece piece)
  unfolding read_piece
  no_name kind h = rw (← begun) (fails_then kind (read_name t) _ h)

  module _ (name rest u : List ℕ) (named : read_name t ≡ Some (name, rest))
      (next : u ≡ without_leading_blanks rest) where
    pub no_operator : (kind : Kind) → IsReadFailure kind (read_operator u)
        → IsReadFailure kind (read_piece piece)
    unfolding read_piece
    no_operator kind h =
        rw (← begun, named, ← next) (fails_then kind (read_operator u) _ h)

    module _ (op : Op) (after raw : List ℕ) (asked : read_operator u ≡ Some (op, after))
        (cut : raw ≡ without_trailing_blanks (without_leading_blanks after)) where
      pub no_body : (kind : Kind) → IsReadFailure kind (read_body raw)
          → IsReadFailure kind (read_piece piece)
      unfolding read_piece
      no_body kind h =
          rw (← begun, named, ← next, asked, ← cut) (fails_then kind (read_body raw) _ h)

      pub whole_piece : (body : List ℕ) → read_body raw ≡ Some body → read_piece piece
          ≡ Some (record { name = name; op = op; value = unescaped_text body })
      unfolding read_piece
      whole_piece body h = rw (← begun, named, ← next, asked, ← cut, h) refl
