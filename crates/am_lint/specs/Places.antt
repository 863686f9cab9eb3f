-- How routes stand relative to each other in the tree, by their paths. `leads_through` says whether
-- a route is on the way to another.
use Rattle.std.specs.Prelude.{ℕ, ◌+◌, List, [], ◌∷◌, length, Bool, false, ◌&&◌, ◌==◌, nat_lt}
use Rattle.am_config.specs.Path.{leads_through}

-- The route at the second path is an earlier sibling of the route at the first, or of a route on
-- the way to it.
-- Source: own choice.
-- Example: for `/2/1` this is true of `/0`, `/1` and `/2/0`, and false of `/`, `/2`, `/2/2` and
-- `/1/0`.
abbrev pub stands_before : List ℕ → List ℕ → Bool
stands_before path [] = false
stands_before [] (q ∷ other) = false
stands_before (p ∷ path) (q ∷ []) = nat_lt q p
stands_before (p ∷ path) (q ∷ r ∷ other) = p == q && stands_before path (r ∷ other)

-- The route at the second path is a child of the route at the first.
-- Source: own choice.
-- Example: for `/2` this is true of `/2/0`, and false of `/2`, `/2/0/1` and `/1`.
abbrev pub is_child_of : List ℕ → List ℕ → Bool
is_child_of path other = length other == length path + 1 && leads_through path other
