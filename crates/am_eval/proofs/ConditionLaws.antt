-- A simple part of a question is true exactly if its condition is. And two alerts, each in a world,
-- have the same properties if both are silenced or neither is, and both are inhibited or neither
-- is.
use Rattle.std.proofs.Common.{◌≡◌, Bool, true, false, ◌&&◌, ◌||◌, refl, arith}
use Rattle.std.proofs.lemmas.Grind.{common_steps}
use Rattle.am_universe.specs.LabelSet.{LabelMap}
use Rattle.am_eval.specs.World.{World}
use Rattle.am_eval.specs.declared.property.Property.TheVariants.{Silenced, Inhibited}
use Rattle.am_eval.specs.declared.property.Property.{Property}
use Rattle.am_eval.specs.Silencing.{is_silenced}
use Rattle.am_eval.specs.Inhibition.{is_inhibited}
use Rattle.am_eval.specs.Question.{Simple, has_property, holds_of}
use Rattle.am_eval.specs.Conditions.{literal_holds, some_way_holds, conditions_of}
use Rattle.am_eval.proofs.RouteConditions.{route_condition, receiver_condition}
use Rattle.am_eval.proofs.HidingConditions.{silenced_condition, inhibited_condition}

one_list : (b : Bool) → b ≡ ((b && true) || false)
one_list true = refl
one_list false = refl

pub exactly : (w : World) (s : LabelMap) (simple : Simple)
    → holds_of w simple s ≡ some_way_holds (literal_holds s) (conditions_of w simple)
exactly w s simple =
    grind (arith, common_steps, silenced_condition, inhibited_condition, receiver_condition, route_condition, one_list)

pub same_property : (w v : World) (s t : LabelMap) (property : Property)
    → is_silenced w s ≡ is_silenced v t → is_inhibited w s ≡ is_inhibited v t
    → has_property w property s ≡ has_property v property t
same_property w v s t Silenced silenced inhibited = silenced
same_property w v s t Inhibited silenced inhibited = inhibited
same_property w v s t _ silenced inhibited = refl
