-- What holds of the ends of every alert.
use Rattle.std.proofs.Common.{◌≡◌, ◌≢◌, ◌↔◌, inl, inr, ℕ, suc, List, [], ◌∷◌, ◌++◌, length}
use Rattle.std.proofs.Common.{Option, Some, true, refl, sym, ap, subst, ◌∙◌, take, drop, Contains}
use Rattle.std.specs.Prelude.{IsTrue}
use Rattle.std.specs.List.{filter_map}
use Rattle.std.specs.Cmp.Lexicographic.{bytes_decides}
use Rattle.std.proofs.Math.Seq.{take-append_seam}
use Rattle.std.proofs.lemmas.List.{append-nil, nil_from_length, take-append-drop}
use Rattle.am_universe.specs.LabelSet.{LabelMap}
use Rattle.am_universe.proofs.ListLemmas.{IsIn, Contains-from_IsIn}
use Rattle.am_labels.specs.Matcher.{all_hold}
use Rattle.am_config.specs.ConfigFile.{RouteTree, matchers_of, receiver_of, Configuration, IsConfig}
use Rattle.am_config.specs.Path.{route_at, leads_through}
use Rattle.am_eval.specs.World.{World}
use Rattle.am_eval.specs.Routing.{ends, receiver_at, receivers, MatchesAt, EndsThere}
use Rattle.am_eval.specs.declared.reach.Reach.TheVariants.{Ends, Enters}
use Rattle.am_eval.specs.Question.{Route, holds_of}
use Rattle.am_eval.proofs.FlatEnds.{ends_exactly, matched_ends}
use Rattle.am_eval.proofs.ListTests.{some_passes, passes_among}
use Rattle.am_eval.proofs.SimpleParts.{end_from_test, test_from_end}

-- ---- Lists.

count_some : {X Y : Type 0} (f : X → Option Y) (xs : List X)
    → ((x : X) → IsIn xs x → (y : Y) × (f x ≡ Some y))
    → length (filter_map f xs) ≡ length xs
count_some f [] each = refl
count_some f (x ∷ xs) each =
    let here = each x (inl refl) in
    rw here.1 (ap suc (count_some f xs (λ y h. each y (inr h))))

begins : (path below : List ℕ) → leads_through path (path ++ below) ≡ true
begins path below =
    (bytes_decides path (take (length path) (path ++ below))).1 (sym (take-append_seam path below))

goes_on_from : (path end : List ℕ) → leads_through path end ≡ true
    → path ++ drop (length path) end ≡ end
goes_on_from path end e =
    let first : path ≡ take (length path) end =
    (bytes_decides path (take (length path) end)).0 e in
    ap (λ front. front ++ drop (length path) end) first ∙ take-append-drop (length path) end

-- ---- The laws.

-- an alert matches each route at which it ends
route_matches : (s : LabelMap) (t : RouteTree) (path : List ℕ) → EndsThere s t path
    → (u : RouteTree) × (route_at t path ≡ Some u) × IsTrue (all_hold s (matchers_of u))
route_matches s t [] h = (t, refl, h.0)
route_matches s t (p ∷ path) h =
    let r = route_matches s h.1 path h.4 in (r.0, rw h.2 r.1, r.2)

pub at_routes : (c : Configuration) (s : LabelMap) (path : List ℕ) → Contains (ends s c) path
    → MatchesAt s c path
at_routes c s path h = route_matches s c.root path ((ends_exactly s c.root path).0 h)

pub somewhere : (c : Configuration) (s : LabelMap) → IsConfig c → ends s c ≢ []
somewhere c s sound =
    matched_ends s c.root
    (ap (all_hold s) (nil_from_length (matchers_of c.root) sound.root_unmatched))

pub one_receiver_an_end : (c : Configuration) (s : LabelMap)
    → length (receivers s c) ≡ length (ends s c)
one_receiver_an_end c s =
    count_some (receiver_at c) (ends s c) (λ path h.
    let at = at_routes c s path (Contains-from_IsIn (ends s c) path h) in
    (receiver_of at.0, rw at.1 refl))

pub exactly : (w : World) (s : LabelMap) (path : List ℕ)
    → (IsTrue (holds_of w (Route Enters path) s)
    ↔ ((below : List ℕ) × IsTrue (holds_of w (Route Ends (path ++ below)) s)))
exactly w s path =
    let all = ends s w.config in (
      λ h.
          let end = some_passes (leads_through path) all h in
          let below = drop (length path) end.0 in (
            below,
            test_from_end (path ++ below) all
                (subst (λ x. Contains all x) (sym (goes_on_from path end.0 end.2)) end.1),
          ),
      λ h.
          passes_among (leads_through path) all (path ++ h.0) (end_from_test (path ++ h.0) all h.1)
          (begins path h.0),
    )

pub itself : (w : World) (s : LabelMap) (path : List ℕ)
    → IsTrue (holds_of w (Route Ends path) s) → IsTrue (holds_of w (Route Enters path) s)
itself w s path h = (exactly w s path).1 ([], rw (append-nil path) h)
