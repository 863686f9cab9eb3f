-- The steps that lead to each state of a compiled pattern.
use Rattle.std.specs.Prelude.{◌≡◌, ℕ, zero, suc, ◌<◌, Bool, false, ◌&&◌, ◌||◌, ◌==◌, List, []}
use Rattle.std.specs.Prelude.{length, map, filter, Option, Some, None, slice_get, slice_index_or}
use Rattle.std.specs.Global.{Vec}
use Rattle.std.specs.List.{list_any}
use Rattle.am_scan.specs.declared.arrivals.Arrival.{Arrival}
use Rattle.am_scan.specs.declared.column.Column.{Column}
use Rattle.am_scan.specs.Closure.{contains}

-- The elements of the list at a position of some lists, if there is one.
abbrev pub items_of : {X : Type 0} → Option (Vec X) → List X
items_of None = []
items_of (Some v) = v.items

abbrev pub items_at : {X : Type 0} → List (Vec X) → ℕ → List X
items_at lists k = items_of (slice_get lists k)

-- The states that the steps of a class come from.
abbrev pub froms : ℕ → List Arrival → List ℕ
froms class arrivals = map (λ a. a.from) (filter (λ a. class == a.class) arrivals)

-- A step from one state to another is in the column at a position.
abbrev pub has_edge : Option Column → ℕ → ℕ → Bool
has_edge None q r = false
has_edge (Some column) q r = list_any (λ e. r == e.to && e.from == q) column.edges.items

-- The steps to each state are those of the columns. The class of a step is the position of its
-- column.
-- Source: own choice; the term is that of graphs, whose edges are listed by where they lead.
-- Example: for the pattern `db`, the step from before `d` leads to the state before `b`.
abbrev pub AreArrivals : List Column → List (Vec Arrival) → Type 0
AreArrivals columns arrivals =
    (r k q : ℕ) → r < length arrivals
    → contains (froms k (items_at arrivals r)) q ≡ has_edge (slice_get columns k) q r

-- From a state, a byte of a class leads to an accepted state among the first ones.
abbrev pub sources_below : ℕ → List (Vec Arrival) → List Bool → ℕ → ℕ → Bool
sources_below zero arrivals accepted class q = false
sources_below (suc r) arrivals accepted class q =
    sources_below r arrivals accepted class q
    || (contains (froms class (items_at arrivals r)) q && slice_index_or accepted r false)
