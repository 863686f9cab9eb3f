-- Label sets that meet the same of the matchers that decide are treated alike.
use Rattle.std.proofs.Common.{◌≡◌, ℕ, ◌+◌, List, [], ◌∷◌, ◌++◌, map, Bool, cond, not, refl}
use Rattle.std.proofs.Common.{sym, ap, ◌∙◌, inl, inr}
use Rattle.std.specs.Prelude.{◌&&◌, ◌||◌, ◌==◌}
use Rattle.std.specs.List.{flat_map, filter, filter_map, list_any}
use Rattle.std.proofs.lemmas.Bool.{cases_Bool}
use Rattle.am_universe.specs.LabelSet.{LabelMap}
use Rattle.am_universe.proofs.ListLemmas.{IsIn, AllByRecursion-each, AllByRecursion-at}
use Rattle.am_universe.proofs.Members.{joined_in}
use Rattle.am_labels.specs.Matcher.{Matcher, condition_holds, all_hold}
use Rattle.am_labels.specs.Space.{is_possible}
use Rattle.am_labels.proofs.Passing.{kept_from_passes}
use Rattle.am_list_files.specs.SilencesFile.{Silence}
use Rattle.am_config.specs.ConfigFile.{RouteTree, Routes, route, no_routes, next_route, matchers_of}
use Rattle.am_config.specs.ConfigFile.{continues_of, Configuration, Rule}
use Rattle.am_eval.specs.Inhibition.{have_equal, inhibits, is_inhibited}
use Rattle.am_eval.specs.Routing.{ends_tried, or_own_path, ends_at, children_seen, ends, receivers}
use Rattle.am_eval.specs.Routing.{receiver_at}
use Rattle.am_eval.specs.Silencing.{is_active, hides, is_silenced}
use Rattle.am_eval.specs.World.{World}
use Rattle.am_eval.specs.Tree.{Part, Not, And, Or}
use Rattle.am_eval.specs.declared.property.Property.TheVariants.{Silenced, Inhibited}
use Rattle.am_eval.specs.Question.{Question, Simple, Is, Receiver, Route, Braces, reaches}
use Rattle.am_eval.specs.Question.{holds_of, satisfies}
use Rattle.am_asked.specs.Asked.{simple_matchers, question_matchers}
use Rattle.am_eval.proofs.HidingConditions.{same_values}
use Rattle.am_every_alert.specs.EveryAlert.{MeetsTheSame, AreTreatedAlike}
use Rattle.am_every_alert.specs.Deciding.{AsksWhatHides}
use Rattle.am_complete.specs.Complete.{AreAmong, impossible_matchers}
use Rattle.am_asked.specs.Asked.{route_matchers, routes_matchers, rule_matchers}
use Rattle.am_asked.specs.Asked.{equal_to_alert, equal_matchers, silence_matchers}
use Rattle.am_asked.specs.Asked.{world_matchers}
use Rattle.am_complete.proofs.Alike.{is_among}

module _ (s t : LabelMap) where
  abbrev IsMetAlike : Matcher → Type 0
  IsMetAlike m = condition_holds s m ≡ condition_holds t m

  -- ---- Parts of the matchers.

  pub met_of_some : (ns ms : List Matcher) → AreAmong ns ms → MeetsTheSame ms s t
      → MeetsTheSame ns s t
  met_of_some ns ms among h =
      AllByRecursion-each IsMetAlike ns
      (λ m i. AllByRecursion-at IsMetAlike ms m h (is_among ns ms m among i))

  pub front_met : (ms ns : List Matcher) → MeetsTheSame (ms ++ ns) s t → MeetsTheSame ms s t
  front_met [] ns h = tt
  front_met (m ∷ ms) ns h = (h.0, front_met ms ns h.1)

  pub rest_met : (ms ns : List Matcher) → MeetsTheSame (ms ++ ns) s t → MeetsTheSame ns s t
  rest_met [] ns h = h
  rest_met (m ∷ ms) ns h = rest_met ms ns h.1

  pub all_alike : (ms : List Matcher) → MeetsTheSame ms s t → all_hold s ms ≡ all_hold t ms
  all_alike [] h = refl
  all_alike (m ∷ ms) h = λ i. h.0 i && all_alike ms h.1 i

  -- ---- Routes.

  pub own_alike : (r : RouteTree) → MeetsTheSame (route_matchers r) s t
      → all_hold s (matchers_of r) ≡ all_hold t (matchers_of r)
  own_alike (route settings children) h =
      all_alike settings.matchers (front_met settings.matchers (routes_matchers children) h)

  mutual
    ends_alike : (r : RouteTree) → MeetsTheSame (route_matchers r) s t
        → ends_at s r ≡ ends_at t r
    ends_alike (route settings children) h =
        let own = own_alike (route settings children) h in
        let below = children_alike children 0
        (rest_met settings.matchers (routes_matchers children) h) in
        λ i. cond (own i) (or_own_path (ends_tried (below i))) []

    children_alike : (rs : Routes) (position : ℕ) → MeetsTheSame (routes_matchers rs) s t
        → children_seen s position rs ≡ children_seen t position rs
    children_alike no_routes position h = refl
    children_alike (next_route r rs) position h =
        let first = front_met (route_matchers r) (routes_matchers rs) h in
        let own = own_alike r first in
        let below = ends_alike r first in
        let later = children_alike rs (position + 1)
        (rest_met (route_matchers r) (routes_matchers rs) h) in
        λ i. record {
          matches = own i;
          continues = continues_of r;
          ends = map (λ path. position ∷ path) (below i);
        } ∷ later i

  pub same_ends : (c : Configuration) → MeetsTheSame (route_matchers c.root) s t
      → ends s c ≡ ends t c
  same_ends c h = ends_alike c.root h

  pub same_receivers : (c : Configuration) → MeetsTheSame (route_matchers c.root) s t
      → receivers s c ≡ receivers t c
  same_receivers c h = ap (filter_map (receiver_at c)) (same_ends c h)

  -- ---- Silences and impossible lists.

  -- what is met alike of the matchers of all items is met alike of those of each
  each_met : {X : Type 0} (asked : X → List Matcher) (xs : List X) (x : X) → IsIn xs x
      → MeetsTheSame (flat_map asked xs) s t → MeetsTheSame (asked x) s t
  each_met asked xs x there h =
      AllByRecursion-each IsMetAlike (asked x) (λ m i.
      AllByRecursion-at IsMetAlike (flat_map asked xs) m h (joined_in asked xs x m there i))

  any_alike : {X : Type 0} (f g : X → Bool) (xs : List X)
      → ((x : X) → IsIn xs x → f x ≡ g x) → list_any f xs ≡ list_any g xs
  any_alike f g [] each = refl
  any_alike f g (x ∷ xs) each =
      λ i. each x (inl refl) i || any_alike f g xs (λ y later. each y (inr later)) i

  pub same_silenced : (w : World) → MeetsTheSame (silence_matchers w.silences) s t
      → is_silenced w s ≡ is_silenced w t
  same_silenced w h =
      any_alike (hides w s) (hides w t) w.silences (λ silence there i.
      is_active w.instant silence
      && all_alike silence.matchers
      (each_met (λ (x : Silence). x.matchers) w.silences silence there h) i)

  pub same_possible : (lists : List (List Matcher))
      → MeetsTheSame (impossible_matchers lists) s t
      → is_possible lists s ≡ is_possible lists t
  same_possible lists h =
      ap not (any_alike (all_hold s) (all_hold t) lists (λ ms there.
      all_alike ms (each_met (λ (x : List Matcher). x) lists ms there h)))

  -- ---- Inhibition rules.

  equal_alike : (names : List (List ℕ)) (firing : LabelMap)
      → MeetsTheSame (equal_to_alert names firing) s t
      → have_equal names firing s ≡ have_equal names firing t
  equal_alike names firing h =
      sym (same_values firing s names) ∙ all_alike (equal_to_alert names firing) h
      ∙ same_values firing t names

  inhibits_alike : (rule : Rule) (firing : LabelMap) → MeetsTheSame rule.source s t
      → MeetsTheSame rule.target s t → MeetsTheSame (equal_to_alert rule.equal firing) s t
      → inhibits rule firing s ≡ inhibits rule firing t
  inhibits_alike rule firing source target equal =
      let on_source = all_alike rule.source source in
      let on_target = all_alike rule.target target in
      let values = equal_alike rule.equal firing equal in
      λ i. all_hold firing rule.source && on_target i && values i
      && not ((all_hold firing rule.source && all_hold firing rule.target)
      && (on_source i && on_target i))

  abbrev fires : Rule → LabelMap → Bool
  fires rule firing = all_hold firing rule.source

  rules_alike : (rules : List Rule) (alerts : List LabelMap)
      → MeetsTheSame (rule_matchers rules) s t
      → MeetsTheSame (equal_matchers rules alerts) s t
      → list_any (λ rule. list_any (λ a. inhibits rule a s) alerts) rules
      ≡ list_any (λ rule. list_any (λ a. inhibits rule a t) alerts) rules
  rules_alike rules alerts sides equal = any_alike _ _ rules (λ rule there.
      let own = each_met (λ (r : Rule). r.source ++ r.target) rules rule there sides in
      let asked = each_met
      (λ (r : Rule). flat_map (equal_to_alert r.equal) (filter (fires r) alerts)) rules rule there
      equal in
      any_alike (λ a. inhibits rule a s) (λ a. inhibits rule a t) alerts (λ a among.
      elim (cases_Bool (fires rule a)) [
        | inl fired ↦
            inhibits_alike rule a (front_met rule.source rule.target own)
            (rest_met rule.source rule.target own)
            (each_met (equal_to_alert rule.equal) (filter (fires rule) alerts) a
            (kept_from_passes (fires rule) alerts a among fired) asked)
        | inr not_fired ↦ rw not_fired refl
      ]))

  pub same_inhibited : (w : World) → MeetsTheSame (rule_matchers w.config.rules) s t
      → MeetsTheSame (equal_matchers w.config.rules w.alerts) s t
      → is_inhibited w s ≡ is_inhibited w t
  same_inhibited w sides equal = rules_alike w.config.rules w.alerts sides equal

  -- ---- A world.

  pub treated_alike : (w : World) → MeetsTheSame (world_matchers w) s t → AreTreatedAlike w s t
  treated_alike w h =
      let routes = route_matchers w.config.root in
      let sides = rule_matchers w.config.rules in
      let equal = equal_matchers w.config.rules w.alerts in
      let silences = silence_matchers w.silences in
      let on_routes = front_met routes (sides ++ (equal ++ silences)) h in
      let others = rest_met routes (sides ++ (equal ++ silences)) h in
      let more = rest_met sides (equal ++ silences) others in
      record {
        same_ends = same_ends w.config on_routes;
        same_receivers = same_receivers w.config on_routes;
        same_silenced = same_silenced w (rest_met equal silences more);
        same_inhibited = same_inhibited w (front_met sides (equal ++ silences) others)
            (front_met equal silences more);
      }

  -- ---- Questions.

  module _ (w : World) (routes : MeetsTheSame (route_matchers w.config.root) s t) where
    part_alike : (simple : Simple) → (AsksWhatHides (Part simple) → AreTreatedAlike w s t)
        → MeetsTheSame (simple_matchers simple) s t → holds_of w simple s ≡ holds_of w simple t
    part_alike (Is Silenced) treated h = (treated tt).same_silenced
    part_alike (Is Inhibited) treated h = (treated tt).same_inhibited
    part_alike (Is _) treated h = refl
    part_alike (Receiver receiver) treated h =
        ap (list_any (λ other. other == receiver)) (same_receivers w.config routes)
    part_alike (Route reach path) treated h =
        ap (list_any (reaches reach path)) (same_ends w.config routes)
    part_alike (Braces matchers) treated h = all_alike matchers h

    pub same_truth : (q : Question) → (AsksWhatHides q → AreTreatedAlike w s t)
        → MeetsTheSame (question_matchers q) s t → satisfies w q s ≡ satisfies w q t
    same_truth (Part simple) treated h = part_alike simple treated h
    same_truth (Not q) treated h = ap not (same_truth q treated h)
    same_truth (And q r) treated h =
        let first = front_met (question_matchers q) (question_matchers r) h in
        let second = rest_met (question_matchers q) (question_matchers r) h in
        λ i. same_truth q (λ asks. treated (inl asks)) first i
        && same_truth r (λ asks. treated (inr asks)) second i
    same_truth (Or q r) treated h =
        let first = front_met (question_matchers q) (question_matchers r) h in
        let second = rest_met (question_matchers q) (question_matchers r) h in
        λ i. same_truth q (λ asks. treated (inl asks)) first i
        || same_truth r (λ asks. treated (inr asks)) second i

-- ---- All of it.

pub ruleset alike = (
  met_of_some,
  same_ends,
  same_receivers,
  same_silenced,
  same_inhibited,
  same_possible,
  treated_alike,
)
