-- How positions are stored: at the front of `MAX_POSITIONS` cells. The other cells are 0.
use Rattle.std.specs.Prelude.{◌≡◌, ℕ, ◌≤◌, ◌-◌, List, ◌++◌, length, take, drop, replicate}
use Rattle.std.proofs.Common.{arith, length-take-le, take-append-drop}
use Rattle.am_universe.specs.declared.positions.Positions.TheInside.{Inside}
use Rattle.am_universe.specs.declared.limits.TheConstants.{MAX_POSITIONS}

-- The positions that are stored.
abbrev pub view_of : Inside → List ℕ
view_of a = take a.len a.positions

-- The one way in which positions are stored.
abbrev pub stored_form : List ℕ → Inside
stored_form c =
    record { positions = c ++ replicate (MAX_POSITIONS - length c) 0; len = length c }

-- There are `MAX_POSITIONS` cells, and no more positions than that. The cells after the positions
-- are 0.
pub record IsStored (a : Inside) : Type 0 where
  pub cells : length a.positions ≡ MAX_POSITIONS
  pub within : a.len ≤ MAX_POSITIONS
  pub zeros : drop a.len a.positions ≡ replicate (MAX_POSITIONS - a.len) 0

-- Storing the positions that a stored form holds gives that form again.
pub stored_again : (a : Inside) → IsStored a → stored_form (view_of a) ≡ a
stored_again a h =
    let count = length-take-le a.len a.positions (omega (arith, h.cells, h.within)) in
    let padded : (stored_form (view_of a)).positions ≡ a.positions =
    rw (count, ← h.zeros) (take-append-drop a.len a.positions) in
    λ i. record { positions = padded i; len = count i }
