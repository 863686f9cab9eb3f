-- The places of faults of memory and of writing. (This project's own.)
use Rattle.std.specs.Prelude.{◌≡◌, ℕ, List, []}
use Rattle.am_universe.specs.declared.kind.Kind.{Kind}
use Rattle.am_universe.specs.declared.kind.Kind.TheVariants as kinds
use Rattle.am_universe.specs.declared.place.Place.{Place}
use Rattle.am_universe.specs.declared.place.Place.TheVariants as places

-- A fault is at a place that its kind allows: a fault of memory at `Memory`, and a fault of writing
-- at `Output`, both with the empty pointer.
-- Source: own choice.
-- Example: there is no fault of the kind `Memory` at the place `Config`.
pub record IsPlaced (kind : Kind) (place : Place) (pointer : List ℕ) : Type 0 where
  pub memory : kind ≡ kinds.Memory → (place ≡ places.Memory) × (pointer ≡ [])
  pub write : kind ≡ kinds.Write → (place ≡ places.Output) × (pointer ≡ [])
