-- The literals of a part, as they are added one after another.
use Rattle.std.proofs.Common.{◌≡◌, ◌+◌, ℕ, List, [], ◌∷◌, ◌++◌, Some, refl, sym, ap, ◌∙◌}
use Rattle.std.proofs.Common.{slice_get, append_assoc, append-nil, Bool, true, false}
use Rattle.std.proofs.Common.{cond, take, map}
use Rattle.std.specs.List.{filter}
use Rattle.std.proofs.lemmas.List.{map-append}
use Rattle.std.proofs.lemmas.List.Elements.{filter-append}
use Rattle.am_universe.proofs.DistinctLists.{all_push}
use Rattle.am_complete.proofs.Pushed.{one_longer}
use Rattle.am_first_sets.specs.declared.candidate.Candidate.{Candidate}
use Rattle.am_lint.specs.declared.literals.Part.{Part}
use Rattle.am_lint.specs.declared.table.TableRoute.{TableRoute}
use Rattle.am_lint.specs.Literals.{is_wanted, has_route, path_if_any, path_of, IsAbout, AddsPart}

-- ---- What passes a test, with one more item.

kept_one : {X Y : Type 0} (f : X → Y) (x : X) (b : Bool)
    → map f (cond b (x ∷ []) []) ≡ cond b (f x ∷ []) []
kept_one f x true = refl
kept_one f x false = refl

pub kept_more : {X Y : Type 0} (test : X → Bool) (f : X → Y) (xs : List X) (i : ℕ) (x : X)
    → slice_get xs i ≡ Some x
    → map f (filter test (take (i + 1) xs))
    ≡ map f (filter test (take i xs)) ++ cond (test x) (f x ∷ []) []
kept_more test f xs i x at =
    ap (λ ys. map f (filter test ys)) (sym (one_longer xs i x at))
    ∙ ap (map f) (filter-append test (take i xs) (x ∷ []))
    ∙ map-append f (filter test (take i xs)) (cond (test x) (x ∷ []) [])
    ∙ ap (λ ys. map f (filter test (take i xs)) ++ ys) (kept_one f x (test x))

-- ---- The literals of a part.

module _ (routes : List TableRoute) (part : Part) (path : List ℕ) where
  pub nothing_yet : (old : List Candidate) → AddsPart routes part path [] old old
  nothing_yet old =
      record { more = []; adds = sym (append-nil old); each = tt; paths = refl }

  pub one_passed : (n : ℕ) (route : TableRoute) (old new : List Candidate)
      → AddsPart routes part path (take n routes) old new → slice_get routes n ≡ Some route
      → has_route part path route ≡ false
      → AddsPart routes part path (take (n + 1) routes) old new
  one_passed n route old new so at hasnt = record {
    more = so.more;
    adds = so.adds;
    each = so.each;
    paths = so.paths
        ∙ sym (kept_more (has_route part path) (λ r. r.path) routes n route at
        ∙ rw hasnt (append-nil _));
  }

  pub one_taken : (n : ℕ) (route : TableRoute) (k : Candidate) (old before after : List Candidate)
      → AddsPart routes part path (take n routes) old before → slice_get routes n ≡ Some route
      → has_route part path route ≡ true → k.tag ≡ n → k.cube.now ≡ route.cube
      → k.wanted ≡ is_wanted part → k.named ≡ true → after ≡ before ++ k ∷ []
      → AddsPart routes part path (take (n + 1) routes) old after
  one_taken n route k old before after so at has tag cube wanted named is =
      let there : slice_get routes k.tag ≡ Some route = ap (slice_get routes) tag ∙ at in
      record {
        more = so.more ++ k ∷ [];
        adds = is ∙ ap (λ ks. ks ++ k ∷ []) so.adds ∙ append_assoc old so.more (k ∷ []);
        each = all_push (IsAbout routes part path) so.more k so.each
            (route, there, has, cube, wanted, named);
        paths = map-append (path_of routes) so.more (k ∷ [])
            ∙ ap (λ q. map (path_of routes) so.more ++ q ∷ []) (ap path_if_any there)
            ∙ ap (λ qs. qs ++ route.path ∷ []) so.paths
            ∙ sym (kept_more (has_route part path) (λ r. r.path) routes n route at
            ∙ ap (λ b. map (λ (r : TableRoute). r.path)
            (filter (has_route part path) (take n routes)) ++ cond b (route.path ∷ []) []) has);
      }
