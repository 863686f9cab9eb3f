-- What makes a question true: a joined question depends on its parts, and a simple part on what it
-- asks for.
use Rattle.std.proofs.Common.{◌≡◌, ◌↔◌, ℕ, List, [], ◌∷◌, Bool, true, false, Contains, arith}
use Rattle.std.proofs.Common.{Option, Some, None, refl, sym, subst, ◌⊎◌, inl, inr}
use Rattle.std.specs.Prelude.{IsTrue, option_map, ◌==◌, not, ◌||◌}
use Rattle.std.specs.List.{filter_map, list_any, AllByRecursion}
use Rattle.std.specs.Cmp.Lexicographic.{bytes_decides}
use Rattle.std.proofs.lemmas.Bool.{eqb-true, eq-eqb, false≢true}
use Rattle.std.proofs.lemmas.Map.Views.{Contains-from_any}
use Rattle.std.proofs.lemmas.Option.{same_Some}
use Rattle.std.proofs.lemmas.Grind.{common_steps}
use Rattle.am_universe.specs.LabelSet.{LabelMap}
use Rattle.am_universe.specs.Text.{same_text}
use Rattle.am_universe.proofs.ListLemmas.{IsIn, IsIn-from_Contains, Contains-from_IsIn}
use Rattle.am_labels.specs.Matcher.{Matcher, condition_holds}
use Rattle.am_config.specs.ConfigFile.{Configuration, RouteTree, Rule, receiver_of}
use Rattle.am_config.specs.Path.{route_at}
use Rattle.am_eval.specs.World.{World}
use Rattle.am_eval.specs.Routing.{ends, receivers, receiver_at}
use Rattle.am_eval.specs.Inhibition.{inhibits}
use Rattle.am_eval.specs.declared.property.Property.TheVariants.{Inhibited}
use Rattle.am_eval.specs.declared.reach.Reach.TheVariants.{Ends}
use Rattle.am_eval.specs.Question.{Is, Route, Braces, holds_of}
use Rattle.am_eval.proofs.ListTests.{all_exactly, some_passes, passes_among}

-- ---- The tests are what they stand for.

pub end_from_test : (path : List ℕ) (all : List (List ℕ))
    → IsTrue (list_any (λ end. same_text end path) all) → Contains all path
end_from_test =
    Contains-from_any {eq = λ x y. same_text y x} (λ x y e. sym ((bytes_decides y x).0 e))

pub test_from_end : (path : List ℕ) (all : List (List ℕ)) → Contains all path
    → IsTrue (list_any (λ end. same_text end path) all)
test_from_end path all h =
    passes_among (λ end. same_text end path) all path h ((bytes_decides path path).1 refl)

pub receipt_from_test : (receiver : ℕ) (all : List ℕ)
    → IsTrue (list_any (λ other. other == receiver) all) → Contains all receiver
receipt_from_test = Contains-from_any {eq = λ x y. y == x} (λ x y e. sym (eqb-true y x e))

pub test_from_receipt : (receiver : ℕ) (all : List ℕ) → Contains all receiver
    → IsTrue (list_any (λ other. other == receiver) all)
test_from_receipt receiver all h =
    passes_among (λ other. other == receiver) all receiver h (eq-eqb receiver receiver refl)

-- ---- The receivers of an alert are those of the routes at which it ends.

mapped_from : {X Y : Type 0} (f : X → Option Y) (xs : List X) (y : Y) → IsIn (filter_map f xs) y
    → (x : X) × IsIn xs x × (f x ≡ Some y)
mapped_from f [] y h = absurd h
mapped_from f (x ∷ xs) y h = grind (arith, common_steps, mapped_from f xs y)

mapped_in : {X Y : Type 0} (f : X → Option Y) (xs : List X) (x : X) (y : Y) → IsIn xs x
    → f x ≡ Some y → IsIn (filter_map f xs) y
mapped_in f [] x y h e = absurd h
mapped_in f (z ∷ xs) x y h e = grind (arith, common_steps, mapped_in f xs x y)

pub receiver_there : (receiver : ℕ) (o : Option RouteTree)
    → option_map receiver_of o ≡ Some receiver
    → (t : RouteTree) × (o ≡ Some t) × (receiver_of t ≡ receiver)
receiver_there receiver None e = absurd (cc)
receiver_there receiver (Some t) e = (t, refl, same_Some (receiver_of t) receiver e)

pub end_of_receiver : (s : LabelMap) (c : Configuration) (receiver : ℕ)
    → Contains (receivers s c) receiver
    → (path : List ℕ) × (t : RouteTree) × Contains (ends s c) path
    × (route_at c.root path ≡ Some t) × (receiver_of t ≡ receiver)
end_of_receiver s c receiver h =
    let r = mapped_from (receiver_at c) (ends s c) receiver
    (IsIn-from_Contains (receivers s c) receiver h) in
    let t = receiver_there receiver (route_at c.root r.0) r.2 in
    (r.0, t.0, Contains-from_IsIn (ends s c) r.0 r.1, t.1, t.2)

pub receiver_of_end : (s : LabelMap) (c : Configuration) (path : List ℕ) (t : RouteTree)
    → Contains (ends s c) path → route_at c.root path ≡ Some t
    → Contains (receivers s c) (receiver_of t)
receiver_of_end s c path t h at =
    let is : receiver_at c path ≡ Some (receiver_of t) = rw at refl in
    Contains-from_IsIn (receivers s c) (receiver_of t)
    (mapped_in (receiver_at c) (ends s c) path (receiver_of t)
    (IsIn-from_Contains (ends s c) path h) is)

-- ---- Joined questions.

pub not_true : (b : Bool) → IsTrue (not b) ↔ (IsTrue b → ⊥)
not_true true = (λ e h. false≢true e, λ none. absurd (none refl))
not_true false = (λ e h. false≢true h, λ none. refl)

pub or_true : (a b : Bool) → IsTrue (a || b) ↔ (IsTrue a ⊎ IsTrue b)
or_true true b = (λ e. inl refl, λ h. refl)
or_true false b = (λ e. inr e, λ h. elim h [ inl e ↦ absurd (false≢true e) | inr e ↦ e ])

-- ---- Simple parts.

pub goes_there : (s : LabelMap) (c : Configuration) (receiver : ℕ)
    → IsTrue (list_any (λ other. other == receiver) (receivers s c))
    ↔ ((path : List ℕ) × (t : RouteTree) × Contains (ends s c) path
    × (route_at c.root path ≡ Some t) × (receiver_of t ≡ receiver))
goes_there s c receiver = (
  λ e. end_of_receiver s c receiver (receipt_from_test receiver (receivers s c) e),
  λ h.
      test_from_receipt receiver (receivers s c)
      (subst (λ (n : ℕ). Contains (receivers s c) n) h.4 (receiver_of_end s c h.0 h.1 h.2 h.3)),
)

pub ends_there : (w : World) (s : LabelMap) (path : List ℕ)
    → IsTrue (holds_of w (Route Ends path) s) ↔ Contains (ends s w.config) path
ends_there w s path =
    (end_from_test path (ends s w.config), test_from_end path (ends s w.config))

pub some_inhibits : (w : World) (s : LabelMap)
    → IsTrue (holds_of w (Is Inhibited) s)
    ↔ ((rule : Rule) × (firing : LabelMap) × Contains w.config.rules rule
    × Contains w.alerts firing × IsTrue (inhibits rule firing s))
some_inhibits w s =
    let by_rule = λ (rule : Rule). list_any (λ a. inhibits rule a s) w.alerts in (
      λ e.
          let rule = some_passes by_rule w.config.rules e in
          let firing = some_passes (λ a. inhibits rule.0 a s) w.alerts rule.2 in
          (rule.0, firing.0, rule.1, firing.1, firing.2),
      λ h.
          passes_among by_rule w.config.rules h.0 h.2
          (passes_among (λ a. inhibits h.0 a s) w.alerts h.1 h.3 h.4),
    )

pub braces_hold : (w : World) (s : LabelMap) (ms : List Matcher)
    → IsTrue (holds_of w (Braces ms) s) ↔ AllByRecursion (λ m. IsTrue (condition_holds s m)) ms
braces_hold w s = all_exactly (condition_holds s) _ (λ m. (λ e. e, λ e. e))
