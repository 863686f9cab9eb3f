-- One more route in the walk of all alerts, at one alert.
use Rattle.std.proofs.Common.{◌≡◌, ℕ, ◌+◌, List, [], ◌∷◌, ◌++◌, map, Bool, true, false, not, ◌&&◌, if◌then◌else◌}
use Rattle.std.proofs.Common.{refl, sym, ap, ◌∙◌, append_assoc, append-nil}
use Rattle.std.specs.List.{flat_map}
use Rattle.std.proofs.lemmas.Bool.{false≢true}
use Rattle.std.proofs.lemmas.List.{map-append}
use Rattle.am_universe.specs.LabelSet.{LabelMap}
use Rattle.am_labels.specs.Matcher.{all_hold}
use Rattle.am_config.specs.ConfigFile.{RouteTree, route, routes_of, matchers_of, continues_of, children_of}
use Rattle.am_config.proofs.RouteLists.{paths_below}
use Rattle.am_eval.specs.Routing.{ends_at, children_seen, ends_tried, or_own_path, is_last, Child, tried}
use Rattle.am_eval.proofs.ChildEnds.{ends_from}
use Rattle.am_alerts.specs.AlertLists.{ends_nowhere}

-- ---- At a route.

ends_seen : (s : LabelMap) (t : RouteTree)
    → ends_at s t ≡ (if all_hold s (matchers_of t) then or_own_path (ends_tried (children_seen s 0 (children_of t))) else [])
ends_seen s (route settings children) = refl

own_path : (path : List ℕ) (among h matched own : Bool) (below before between after : List (List ℕ))
    → matched ≡ (among && h) → own ≡ (matched && ends_nowhere below)
    → between ≡ before ++ (if matched then map (λ b. path ++ b) below else [])
    → after ≡ (if own then between ++ path ∷ [] else between)
    → after ≡ before ++ (if among then map (λ b. path ++ b) (if h then or_own_path below else []) else [])
own_path path false h matched own below before between after e f adds pushed =
    pushed ∙ ap (λ b. if b then between ++ path ∷ [] else between) (f ∙ ap (λ b. b && ends_nowhere below) e)
    ∙ adds ∙ ap (λ b. before ++ (if b then map (λ b. path ++ b) below else [])) e
own_path path true false matched own below before between after e f adds pushed =
    pushed ∙ ap (λ b. if b then between ++ path ∷ [] else between) (f ∙ ap (λ b. b && ends_nowhere below) e)
    ∙ adds ∙ ap (λ b. before ++ (if b then map (λ b. path ++ b) below else [])) e
own_path path true true matched own [] before between after e f adds pushed =
    pushed ∙ ap (λ b. if b then between ++ path ∷ [] else between) (f ∙ ap (λ b. b && true) e)
    ∙ ap (λ xs. xs ++ path ∷ []) (adds ∙ ap (λ b. before ++ (if b then [] else [])) e ∙ append-nil before)
    ∙ ap (λ p. before ++ p ∷ []) (sym (append-nil path))
own_path path true true matched own (end ∷ ends) before between after e f adds pushed =
    pushed ∙ ap (λ b. if b then between ++ path ∷ [] else between) (f ∙ ap (λ b. b && false) e)
    ∙ adds ∙ ap (λ b. before ++ (if b then map (λ b. path ++ b) (end ∷ ends) else [])) e

-- the ends of an alert at a route, and its own path if it has no ends below
pub ends_here : (s : LabelMap) (t : RouteTree) (path : List ℕ) (among matched own : Bool)
    (before between after : List (List ℕ)) → matched ≡ (among && all_hold s (matchers_of t))
    → own ≡ (matched && ends_nowhere (ends_tried (children_seen s 0 (children_of t))))
    → between ≡ before ++ (if matched then map (λ b. path ++ b) (ends_tried (children_seen s 0 (children_of t))) else [])
    → after ≡ (if own then between ++ path ∷ [] else between)
    → after ≡ before ++ (if among then map (λ b. path ++ b) (ends_at s t) else [])
ends_here s t path among matched own before between after e f adds pushed =
    own_path path among (all_hold s (matchers_of t)) matched own _ before between after e f adds pushed
    ∙ ap (λ ends. before ++ (if among then map (λ b. path ++ b) ends else [])) (sym (ends_seen s t))

-- ---- At a child.

unmatched : (s : LabelMap) (t : RouteTree) → all_hold s (matchers_of t) ≡ false → ends_at s t ≡ []
unmatched s t e =
    ends_seen s t ∙ ap (λ b. if b then or_own_path (ends_tried (children_seen s 0 (children_of t))) else []) e

some_own : (paths : List (List ℕ)) → ends_nowhere (or_own_path paths) ≡ false
some_own [] = refl
some_own (path ∷ paths) = refl

some_ends : (s : LabelMap) (t : RouteTree) → all_hold s (matchers_of t) ≡ true → ends_nowhere (ends_at s t) ≡ false
some_ends s t e =
    ap ends_nowhere (ends_seen s t
    ∙ ap (λ b. if b then or_own_path (ends_tried (children_seen s 0 (children_of t))) else []) e)
    ∙ some_own (ends_tried (children_seen s 0 (children_of t)))

unless : (b : Bool) (cs : List Child) → flat_map (λ c. c.ends) (if b then [] else cs) ≡ (if b then [] else flat_map (λ c. c.ends) cs)
unless true cs = refl
unless false cs = refl

-- the ends at the next child, and then those at the children after it
next_ends : (s : LabelMap) (k : ℕ) (t : RouteTree) (ts : List RouteTree)
    → ends_from s k (t ∷ ts)
    ≡ map (λ b. k ∷ b) (ends_at s t) ++ (if is_last s t then [] else ends_from s (k + 1) ts)
next_ends s k t ts =
    ap (λ ends. map (λ b. k ∷ b) (ends_at s t) ++ ends)
    (unless (is_last s t) (tried (children_seen s (k + 1) (routes_of ts))))

-- what an alert that is left finds among children, and what another does
abbrev pub if_left : Bool → List ℕ → List (List ℕ) → List (List ℕ)
if_left left path ends = if left then map (λ b. path ++ b) ends else []

abbrev pub nowhere_if_left : Bool → List (List ℕ) → Bool
nowhere_if_left left ends = if left then ends_nowhere ends else true

found : (path : List ℕ) (k : ℕ) (left h goes matched next : Bool) (here later before after : List (List ℕ))
    → (h ≡ false → here ≡ []) → matched ≡ (left && h)
    → next ≡ (if goes then left else (left && not matched))
    → after ≡ before ++ if_left left (path ++ k ∷ []) here
    → after ++ if_left next path later
    ≡ before ++ if_left left path (map (λ b. k ∷ b) here ++ (if h && not goes then [] else later))
found path k false h true matched next here later before after none e f adds =
    ap (λ b. after ++ if_left b path later) f ∙ append-nil after ∙ adds
found path k false h false matched next here later before after none e f adds =
    ap (λ b. after ++ if_left b path later) f ∙ append-nil after ∙ adds
found path k true false goes matched next here later before after none e f adds =
    ap (λ b. after ++ if_left b path later) (f ∙ ap (λ m. if goes then true else (true && not m)) e ∙ always goes)
    ∙ ap (λ xs. xs ++ map (λ b. path ++ b) later)
    (adds ∙ ap (λ xs. before ++ map (λ b. (path ++ k ∷ []) ++ b) xs) (none refl) ∙ append-nil before)
    ∙ ap (λ xs. before ++ map (λ b. path ++ b) (map (λ b. k ∷ b) xs ++ later)) (sym (none refl))
  where
    always : (b : Bool) → (if b then true else true) ≡ true
    always true = refl
    always false = refl
found path k true true true matched next here later before after none e f adds =
    ap (λ b. after ++ if_left b path later) f ∙ ap (λ xs. xs ++ map (λ b. path ++ b) later) adds
    ∙ append_assoc before (map (λ b. (path ++ k ∷ []) ++ b) here) (map (λ b. path ++ b) later)
    ∙ ap (λ xs. before ++ (xs ++ map (λ b. path ++ b) later)) (paths_below path k here)
    ∙ ap (λ xs. before ++ xs) (sym (map-append (λ b. path ++ b) (map (λ b. k ∷ b) here) later))
found path k true true false matched next here later before after none e f adds =
    ap (λ b. after ++ if_left b path later) (f ∙ ap (λ m. true && not m) e) ∙ append-nil after ∙ adds
    ∙ ap (λ xs. before ++ xs) (paths_below path k here)
    ∙ ap (λ xs. before ++ map (λ b. path ++ b) xs) (sym (append-nil (map (λ b. k ∷ b) here)))

and_true : (b : Bool) → (b && true) ≡ b
and_true true = refl
and_true false = refl

nothing : (b x : Bool) → ((b && false) && x) ≡ (b && false)
nothing true x = refl
nothing false x = refl

nowhere : (k : ℕ) (left h goes matched next : Bool) (here later : List (List ℕ)) (was is : Bool)
    → (h ≡ false → here ≡ []) → (h ≡ true → ends_nowhere here ≡ false) → matched ≡ (left && h)
    → next ≡ (if goes then left else (left && not matched)) → is ≡ (was && not matched)
    → (is && nowhere_if_left next later)
    ≡ (was && nowhere_if_left left (map (λ b. k ∷ b) here ++ (if h && not goes then [] else later)))
nowhere k false h true matched next here later was is none some e f g =
    (λ j. (g ∙ ap (λ m. was && not m) e) j && nowhere_if_left (f j) later) ∙ and_true (was && true)
nowhere k false h false matched next here later was is none some e f g =
    (λ j. (g ∙ ap (λ m. was && not m) e) j && nowhere_if_left (f j) later) ∙ and_true (was && true)
nowhere k true false true matched next here later was is none some e f g =
    (λ j. (g ∙ ap (λ m. was && not m) e ∙ and_true was) j && nowhere_if_left (f j) later)
    ∙ ap (λ xs. was && ends_nowhere (map (λ b. k ∷ b) xs ++ later)) (sym (none refl))
nowhere k true false false matched next here later was is none some e f g =
    (λ j. (g ∙ ap (λ m. was && not m) e ∙ and_true was) j
    && nowhere_if_left ((f ∙ ap (λ m. true && not m) e) j) later)
    ∙ ap (λ xs. was && ends_nowhere (map (λ b. k ∷ b) xs ++ later)) (sym (none refl))
nowhere k true true goes matched next [] later was is none some e f g =
    absurd (false≢true (sym (some refl)))
nowhere k true true goes matched next (end ∷ ends) later was is none some e f g =
    ap (λ b. b && nowhere_if_left next later) (g ∙ ap (λ m. was && not m) e) ∙ nothing was _

module _ (s : LabelMap) (k : ℕ) (t : RouteTree) (ts all : List RouteTree) (left matched next : Bool) where
  pub child_ends : (path : List ℕ) (before after : List (List ℕ)) → all ≡ t ∷ ts
      → matched ≡ (left && all_hold s (matchers_of t))
      → next ≡ (if continues_of t then left else (left && not matched))
      → after ≡ before ++ if_left left (path ++ k ∷ []) (ends_at s t)
      → after ++ if_left next path (ends_from s (k + 1) ts) ≡ before ++ if_left left path (ends_from s k all)
  child_ends path before after is e f adds =
      found path k left (all_hold s (matchers_of t)) (continues_of t) matched next (ends_at s t)
      (ends_from s (k + 1) ts) before after (unmatched s t) e f adds
      ∙ ap (λ ends. before ++ if_left left path ends) (sym (next_ends s k t ts) ∙ ap (ends_from s k) (sym is))

  pub child_nowhere : (was is : Bool) → all ≡ t ∷ ts → matched ≡ (left && all_hold s (matchers_of t))
      → next ≡ (if continues_of t then left else (left && not matched)) → is ≡ (was && not matched)
      → (is && nowhere_if_left next (ends_from s (k + 1) ts))
      ≡ (was && nowhere_if_left left (ends_from s k all))
  child_nowhere was is same e f g =
      nowhere k left (all_hold s (matchers_of t)) (continues_of t) matched next (ends_at s t)
      (ends_from s (k + 1) ts) was is (unmatched s t) (some_ends s t) e f g
      ∙ ap (λ ends. was && nowhere_if_left left ends) (sym (next_ends s k t ts) ∙ ap (ends_from s k) (sym same))
