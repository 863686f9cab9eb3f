-- When a universe or a space is complete: if it has texts alike to some that cover all, and for
-- matchers that are among others for which it is complete.
use Rattle.std.proofs.Common.{◌≡◌, ◌≢◌, ℕ, List, [], ◌∷◌, ◌++◌, refl, ap}
use Rattle.std.proofs.Common.{Contains}
use Rattle.std.specs.List.{AllByRecursion}
use Rattle.am_universe.specs.Universe.{Label, IsUniverse}
use Rattle.am_universe.proofs.ListLemmas.{IsIn, IsIn-from_Contains, IsIn-left, IsIn-right}
use Rattle.am_universe.proofs.ListLemmas.{AllByRecursion-at}
use Rattle.am_universe.proofs.Members.{joined_in}
use Rattle.am_labels.specs.Matcher.{Matcher}
use Rattle.am_labels.specs.Space.{Space}
use Rattle.am_config.specs.ConfigFile.{Configuration}
use Rattle.am_eval.specs.Question.{Question}
use Rattle.am_eval.specs.World.{World}
use Rattle.am_classes.specs.declared.alphabet.Alphabet.{Alphabet}
use Rattle.am_classes.specs.Alike.{Covers}
use Rattle.am_complete.specs.Complete.{about, HasAlike, IsCompleteAt, IsComplete, AreAmong}
use Rattle.am_complete.specs.Complete.{may_have, label_texts, IsSpaceCompleteAt, IsSpaceComplete}
use Rattle.am_complete.specs.Complete.{impossible_matchers}
use Rattle.am_asked.specs.Asked.{route_matchers, world_matchers, question_matchers}
use Rattle.am_asked.specs.Asked.{questions_matchers}
use Rattle.am_complete.proofs.Alike.{is_about, about_is, is_among}
use Rattle.am_complete.proofs.AmongMatchers.{among_by, first_among, last_among, among_through}
use Rattle.am_complete.proofs.CompleteUniverses.{complete_without_matchers, by_names}
use Rattle.am_complete.proofs.CompleteUniverses.{space_complete_without_matchers}
use Rattle.am_complete.proofs.LabelStates.{covered}
use Rattle.am_complete.proofs.SameMatchers.{has_alike_among}
use Rattle.am_every_alert.specs.Deciding.{deciding_matchers, coverage_matchers}

-- ---- By texts that cover all.

pub complete_by_cover : (a : Alphabet) (u : List Label) (ms : List Matcher) (name : List ℕ)
    (texts : List (List ℕ)) → Covers a (about name ms) texts
    → AllByRecursion (λ x. HasAlike u ms name x) texts → IsCompleteAt a u ms name
complete_by_cover a u ms name texts covers each text valid =
    covered a [] name (about name ms) (label_texts u name) texts (λ t is possible. covers t is) each
    text valid refl

-- ---- For fewer matchers.

-- if matchers are among others, those on one label are among the others on that label
about_among : (name : List ℕ) (ns ms : List Matcher) → AreAmong ns ms
    → AreAmong (about name ns) (about name ms)
about_among name ns ms among =
    among_by (about name ns) (about name ms) (λ m i.
    let r = about_is name ns m i in is_about name ms m (is_among ns ms m among r.0) r.1)

pub complete_at_for_some : (a : Alphabet) (u : List Label) (ns ms : List Matcher)
    (name : List ℕ) → AreAmong ns ms → IsCompleteAt a u ms name → IsCompleteAt a u ns name
complete_at_for_some a u ns ms name among complete text valid =
    has_alike_among (about name ns) (about name ms) (label_texts u name) text
    (about_among name ns ms among) (complete text valid)

pub complete_for_some : (a : Alphabet) (u : List Label) (ns ms : List Matcher) → AreAmong ns ms
    → IsComplete a u ms → IsComplete a u ns
complete_for_some a u ns ms among complete name named =
    complete_at_for_some a u ns ms name among (complete name named)

-- ---- By the names that matchers ask of.

abbrev IsCompleteOn : Alphabet → List Label → List Matcher → Matcher → Type 0
IsCompleteOn a u ms m = m.name ≢ [] → IsCompleteAt a u ms m.name

pub complete_by_names : (a : Alphabet) (u : List Label) (ms : List Matcher) → IsUniverse u
    → AllByRecursion (IsCompleteOn a u ms) ms → IsComplete a u ms
complete_by_names a u ms h each =
    by_names (IsCompleteAt a u ms) ms (λ name none. complete_without_matchers a u ms name h none)
    (λ m i. AllByRecursion-at (IsCompleteOn a u ms) ms m each i)

-- ---- Spaces.

-- a space is complete if its universe is; and if nothing is impossible, its universe is complete if
-- the space is
pub complete_space : (a : Alphabet) (s : Space) (ms : List Matcher) → IsComplete a s.labels ms
    → IsSpaceComplete a s ms
complete_space a s ms complete name some text valid possible = complete name some text valid

pub complete_universe : (a : Alphabet) (s : Space) (ms : List Matcher) → s.impossible ≡ []
    → IsSpaceComplete a s ms → IsComplete a s.labels ms
complete_universe a s ms none complete name some text valid =
    complete name some text valid (ap (λ lists. may_have lists name text) none)

pub space_complete_for_some : (a : Alphabet) (s : Space) (ns ms : List Matcher) → AreAmong ns ms
    → IsSpaceComplete a s ms → IsSpaceComplete a s ns
space_complete_for_some a s ns ms among complete name some text valid possible =
    has_alike_among (about name ns) (about name ms) (label_texts s.labels name) text
    (about_among name ns ms among) (complete name some text valid possible)

pub space_complete_by_names : (a : Alphabet) (s : Space) (ms : List Matcher)
    → IsUniverse s.labels
    → AllByRecursion (λ m. m.name ≢ [] → IsSpaceCompleteAt a s ms m.name) ms
    → IsSpaceComplete a s ms
space_complete_by_names a s ms h each =
    by_names (IsSpaceCompleteAt a s ms) ms
    (λ name none. space_complete_without_matchers a s ms name h none)
    (λ m i. AllByRecursion-at (λ n. n.name ≢ [] → IsSpaceCompleteAt a s ms n.name) ms m each i)

-- ---- What is complete for a world and for questions is so for parts of their matchers.

pub both_among : (ks ns ms : List Matcher) → AreAmong ks ms → AreAmong ns ms
    → AreAmong (ks ++ ns) ms
both_among [] ns ms h k = k
both_among (m ∷ ks) ns ms h k = (h.0, both_among ks ns ms h.1 k)

complete_for : (a : Alphabet) (s : Space) (ns ms asked : List Matcher)
    → AreAmong ns (ms ++ (asked ++ impossible_matchers s.impossible))
    → IsSpaceComplete a s (ms ++ (asked ++ impossible_matchers s.impossible))
    → IsSpaceComplete a s (deciding_matchers s ns)
complete_for a s ns ms asked among =
    let lists = impossible_matchers s.impossible in
    let all = ms ++ (asked ++ lists) in
    space_complete_for_some a s (ns ++ lists) all
    (both_among ns lists all among
    (among_through lists (asked ++ lists) all (last_among asked lists)
    (last_among ms (asked ++ lists))))

pub complete_for_world : (a : Alphabet) (s : Space) (w : World) (questions : List Question)
    → IsSpaceComplete a s
    (world_matchers w ++ (questions_matchers questions ++ impossible_matchers s.impossible))
    → IsSpaceComplete a s (coverage_matchers s w.config)
complete_for_world a s w questions =
    let routes = route_matchers w.config.root in
    let world = world_matchers w in
    complete_for a s routes world (questions_matchers questions)
    (among_through routes world _ (first_among routes _) (first_among world _))

pub complete_for_routes_alone : (a : Alphabet) (s : Space) (c : Configuration)
    (questions : List Question)
    → IsSpaceComplete a s (route_matchers c.root
    ++ (questions_matchers questions ++ impossible_matchers s.impossible))
    → IsSpaceComplete a s (coverage_matchers s c)
complete_for_routes_alone a s c questions =
    let routes = route_matchers c.root in
    complete_for a s routes routes (questions_matchers questions) (first_among routes _)

pub complete_for_question : (a : Alphabet) (s : Space) (ms : List Matcher)
    (questions : List Question) (q : Question) → Contains questions q
    → IsSpaceComplete a s
    (ms ++ (questions_matchers questions ++ impossible_matchers s.impossible))
    → IsSpaceComplete a s (deciding_matchers s (ms ++ question_matchers q))
complete_for_question a s ms questions q there =
    let asked = questions_matchers questions in
    let others = asked ++ impossible_matchers s.impossible in
    let one = question_matchers q in
    let in_asked = λ (m : Matcher) (i : IsIn one m).
    joined_in question_matchers questions q m (IsIn-from_Contains questions q there) i in
    complete_for a s (ms ++ one) ms asked
    (both_among ms one (ms ++ others) (first_among ms others)
    (among_by one (ms ++ others) (λ m i.
    IsIn-right ms others m (IsIn-left asked _ m (in_asked m i)))))

-- if nothing is impossible
pub complete_without_lists : (a : Alphabet) (u : List Label) (c : Configuration)
    (ms : List Matcher) → AreAmong (route_matchers c.root) ms → IsComplete a u ms
    → IsComplete a u (coverage_matchers (record { labels = u; impossible = [] }) c)
complete_without_lists a u c ms among complete =
    complete_for_some a u (route_matchers c.root ++ []) ms
    (both_among (route_matchers c.root) [] ms among tt) complete

-- ---- What the laws say.

pub ruleset space_parts = (complete_space, complete_universe, space_complete_for_some)

pub ruleset parts_among = (first_among, last_among, among_through, both_among)
