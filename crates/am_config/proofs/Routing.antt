-- Routes: reading one reads its own fields and then its children.
use Rattle.std.proofs.Common.{◌≡◌, ◌≢◌, ℕ, suc, ◌+◌, ◌-◌, List, [], ◌∷◌, ◌++◌, Ok}
use Rattle.std.proofs.Common.{refl, sym, arith, inl}
use Rattle.std.specs.Prelude.{codes}
use Rattle.serde_json.specs.Data.{Data}
use Rattle.am_universe.specs.declared.kind.Kind.TheVariants as kinds
use Rattle.am_json.specs.declared.read_error.ReadError.{ReadError}
use Rattle.am_json.specs.Pointer.{refusal_here, to_field}
use Rattle.am_json.specs.Reading.{Reading, ◌>>=◌, accept, reading_within}
use Rattle.am_json.specs.Reading.{read_items}
use Rattle.am_json.specs.Reading.{IsRefusalOrMemory, Fails}
use Rattle.am_config.specs.ConfigFile.{Parent, RouteTree, route, routes_of, route_count}
use Rattle.am_config.specs.ConfigFile.{routes_count}
use Rattle.am_config.specs.ConfigForm.{RouteFields, route_fields_form, route_form}
use Rattle.am_config.specs.ConfigForm.{next_child_form}
use Rattle.am_json.proofs.Readings.{Leads, leads-refl, leads_on, fails_led, fails_first}
use Rattle.am_json.proofs.Readings.{fails_refused}

abbrev children_of : List (List ℕ) → ℕ → ℕ → RouteFields → Reading (List RouteTree)
children_of names left before fields =
    reading_within (to_field (codes "routes"))
    (read_items (next_child_form names left fields.settings (before + 1))
    [] fields.items)

abbrev behind_fields : List (List ℕ) → ℕ → ℕ → RouteFields → Reading RouteTree
behind_fields names left before fields =
    children_of names left before fields
    >>= λ children. accept (route fields.settings (routes_of children))

route_leads : (names : List (List ℕ)) (levels left : ℕ) (parent : Parent) (before : ℕ) (d : Data)
    → levels ≡ suc left
    → Leads (route_fields_form names parent before d >>= behind_fields names left before)
    (route_form names levels parent before d)
unfolding route_form
route_leads names levels left parent before d is =
    rw is (leads-refl (route_fields_form names parent before d >>= behind_fields names left before))

is_suc : (levels : ℕ) → levels ≢ 0 → levels ≡ suc (levels - 1)
is_suc levels h = omega arith

-- if no level is left, the route is refused
pub too_deep : (names : List (List ℕ)) (levels : ℕ) (parent : Parent) (before : ℕ) (d : Data)
    (e : ReadError) → levels ≡ 0 → IsRefusalOrMemory e (refusal_here kinds.Limit)
    → Fails e (route_form names levels parent before d)
unfolding route_form
too_deep names levels parent before d e is tells =
    fails_refused e (route_form names levels parent before d) (refusal_here kinds.Limit) tells
    (rw is (inl refl))

pub fields_fail : (names : List (List ℕ)) (levels : ℕ) (parent : Parent) (before : ℕ) (d : Data)
    (e : ReadError) → levels ≢ 0 → Fails e (route_fields_form names parent before d)
    → Fails e (route_form names levels parent before d)
fields_fail names levels parent before d e some fails =
    fails_led e (route_fields_form names parent before d
    >>= behind_fields names (levels - 1) before) (route_form names levels parent before d)
    (route_leads names levels (levels - 1) parent before d (is_suc levels some))
    (fails_first e (route_fields_form names parent before d)
    (behind_fields names (levels - 1) before) fails)

children_lead : (names : List (List ℕ)) (levels : ℕ) (parent : Parent) (before : ℕ) (d : Data)
    (fields : RouteFields) → levels ≢ 0
    → (route_fields_form names parent before d).result ≡ Ok fields
    → Leads (behind_fields names (levels - 1) before fields)
    (route_form names levels parent before d)
children_lead names levels parent before d fields some gives =
    leads_on (route_fields_form names parent before d) (behind_fields names (levels - 1) before)
    fields (route_form names levels parent before d) gives
    (route_leads names levels (levels - 1) parent before d (is_suc levels some))

pub children_fail : (names : List (List ℕ)) (levels : ℕ) (parent : Parent) (before : ℕ) (d : Data)
    (fields : RouteFields) (e : ReadError) → levels ≢ 0
    → (route_fields_form names parent before d).result ≡ Ok fields
    → Fails e (children_of names (levels - 1) before fields)
    → Fails e (route_form names levels parent before d)
children_fail names levels parent before d fields e some gives fails =
    fails_led e (behind_fields names (levels - 1) before fields)
    (route_form names levels parent before d)
    (children_lead names levels parent before d fields some gives)
    (fails_first e (children_of names (levels - 1) before fields)
    (λ children. accept (route fields.settings (routes_of children))) fails)

pub children_give : (names : List (List ℕ)) (levels : ℕ) (parent : Parent) (before : ℕ) (d : Data)
    (fields : RouteFields) (children : List RouteTree) → levels ≢ 0
    → (route_fields_form names parent before d).result ≡ Ok fields
    → (children_of names (levels - 1) before fields).result ≡ Ok children
    → (route_form names levels parent before d).result ≡ Ok
    (route fields.settings (routes_of children))
children_give names levels parent before d fields children some gives all =
    let l = leads_on (children_of names (levels - 1) before fields)
    (λ cs. accept (route fields.settings (routes_of cs))) children
    (route_form names levels parent before d) all
    (children_lead names levels parent before d fields some gives) in
    sym l.result

pub count_push : (ts : List RouteTree) (t : RouteTree)
    → routes_count (routes_of (ts ++ t ∷ [])) ≡ routes_count (routes_of ts) + route_count t
count_push [] t = omega arith
count_push (s ∷ ts) t = omega (arith, count_push ts t)
