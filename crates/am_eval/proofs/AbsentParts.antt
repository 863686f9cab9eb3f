-- No alert ends at a route that the configuration does not have, or goes to such a receiver.
use Rattle.std.proofs.Common.{◌≡◌, ◌≤◌, ◌<◌, ℕ, zero, suc, List, [], ◌∷◌, ◌++◌, length}
use Rattle.std.proofs.Common.{Some, None, true, refl, sym, ◌∙◌, arith}
use Rattle.std.specs.Prelude.{slice_get, IsTrue, IsFalse, nat_lt}
use Rattle.std.proofs.lemmas.Bool.{and_parts, false_from_ne_true, ltb-true}
use Rattle.std.proofs.lemmas.Option.{option_and_then_some, same_Some}
use Rattle.std.proofs.lemmas.Grind.{common_steps}
use Rattle.am_universe.specs.LabelSet.{LabelMap}
use Rattle.am_config.specs.ConfigFile.{RouteTree, Routes, route, no_routes, next_route, receiver_of}
use Rattle.am_config.specs.ConfigFile.{IsConfig, has_receivers_below}
use Rattle.am_config.specs.ConfigFile.{have_receivers_below}
use Rattle.am_config.specs.Path.{list_of, route_at}
use Rattle.am_eval.specs.World.{World}
use Rattle.am_eval.specs.declared.reach.Reach.{Reach}
use Rattle.am_eval.specs.declared.reach.Reach.TheVariants.{Ends, Enters}
use Rattle.am_eval.specs.Question.{Receiver, Route, holds_of}
use Rattle.am_eval.proofs.EndLaws.{at_routes, exactly, itself}
use Rattle.am_eval.proofs.SimpleParts.{ends_there, goes_there}

-- if there is a route at a path, there is one at each prefix of the path
on_the_way : (path below : List ℕ) (t u : RouteTree) → route_at t (path ++ below) ≡ Some u
    → (v : RouteTree) × (route_at t path ≡ Some v)
on_the_way [] below t u e = (t, refl)
on_the_way (p ∷ path) below t u e = grind (arith, common_steps, option_and_then_some, on_the_way path below)

no_way_there : (w : World) (s : LabelMap) (path : List ℕ) → route_at w.config.root path ≡ None
    → IsTrue (holds_of w (Route Enters path) s) → ⊥
no_way_there w s path none h =
    let b = (exactly w s path).0 h in
    let m = at_routes w.config s (path ++ b.0) ((ends_there w s (path ++ b.0)).0 b.1) in
    let r = on_the_way path b.0 w.config.root m.0 m.1 in
    let e : None ≡ Some r.0 = sym none ∙ r.1 in
    cc

pub no_route_there : (w : World) (s : LabelMap) (reach : Reach) (path : List ℕ)
    → route_at w.config.root path ≡ None → IsFalse (holds_of w (Route reach path) s)
no_route_there w s Ends path none =
    false_from_ne_true (holds_of w (Route Ends path) s)
    (λ h. no_way_there w s path none (itself w s path h))
no_route_there w s Enters path none =
    false_from_ne_true (holds_of w (Route Enters path) s) (no_way_there w s path none)

-- ---- Receivers.

among_children : (n : ℕ) (ts : Routes) (p : ℕ) (t : RouteTree) → have_receivers_below n ts ≡ true
    → slice_get (list_of ts) p ≡ Some t → has_receivers_below n t ≡ true
among_children n no_routes p t h e = absurd (cc)
among_children n (next_route u ts) zero t h e = grind (arith, common_steps, and_parts)
among_children n (next_route u ts) (suc p) t h e =
    among_children n ts p t (and_parts (has_receivers_below n u) (have_receivers_below n ts) h).1 e

pub receiver_below : (n : ℕ) (path : List ℕ) (t u : RouteTree) → has_receivers_below n t ≡ true
    → route_at t path ≡ Some u → receiver_of u < n
receiver_below n [] (route settings children) u h e = grind (arith, common_steps, and_parts, same_Some, ltb-true)
receiver_below n (p ∷ path) (route settings children) u h e =
    let later = (and_parts (nat_lt settings.receiver n) (have_receivers_below n children) h).1 in
    option_and_then_some (λ child. route_at child path) (slice_get (list_of children) p) u e
    (λ child is further.
    receiver_below n path child u (among_children n children p child later is) further)

pub no_receiver_there : (w : World) (s : LabelMap) (receiver : ℕ) → IsConfig w.config
    → length w.config.receivers ≤ receiver → IsFalse (holds_of w (Receiver receiver) s)
no_receiver_there w s receiver sound beyond =
    grind (arith, common_steps, false_from_ne_true, goes_there, receiver_below)
