use Rattle.std.proofs.Common.{◌≡◌, ℕ, ◌<◌, ◌+◌, [], ◌∷◌, Some, None, slice_get, length, inl, inr, refl, ap, subst, sym, ◌∙◌, arith}
use Rattle.std.specs.List.{IsDistinct}
use Rattle.std.proofs.lemmas.Bool.{cases_lt}
use Rattle.std.proofs.lemmas.Option.{slice_get_within, same_Some}
use Rattle.std.proofs.lemmas.Grind.{common_steps}
use Rattle.indexmap.specs.IndexSet.{insert_all, insert_key}
use Rattle.indexmap.proofs.CallerLemmas.{Drains-YieldsInOrder}
use Rattle.am_universe.proofs.Members.{at_in, in_at}
use Rattle.am_classes.specs.State.{FollowsLabel}
use Rattle.am_classes.specs.Exploration.{AreShortFirst, LeadsOn}
use Rattle.am_classes.specs.Candidates.{AreShortest, Represents}
use Rattle.am_scan.proofs.Places.{get_within, grows_within, grown_back}
use Rattle.am_classes.proofs.CandidateLemmas.{represents_kept, represented}
use Rattle.am_classes.proofs.ExplorationLemmas.{each_more, has_kept, leads_kept, short_more}
use Rattle.am_classes.proofs.ListedStates.{AreListedToo, is_same, listed_all, many_listed}
use Rattle.am_classes.proofs.exploration.explored.Goals as goal
use Rattle.am_classes.proofs.exploration.explored.Goals.{After-add, In_ok-extend}

-- the state of the empty text is listed alone at first
pub loop-at-init : goal.loop-at-init
loop-at-init c =
    let q = c.args.questions.now in
    let first = c.in_ok-end.field-0 in
    let none : c.new-listed.result.keys ≡ [] = c.new-listed.ensures.empty in
    let keys : c.insert.new.self.keys ≡ first ∷ [] = c.in_ok-insert.ensures.keys ∙ ap (λ ks. insert_key is_same ks first) none in
    let empty : first.text.items ≡ [] = c.in_ok-end.ensures.empty in
    let short : AreShortFirst 0 c.insert.new.self.keys =
    short_more 0 [] c.insert.new.self.keys first keys (record { order = λ i j x y at also below. absurd cc; most = λ k x at. absurd cc }) (ap length empty) in
    record {
      within = omega arith;
      most = omega (arith, ap length keys);
      own = each_more (λ x. FollowsLabel q x.state x.text.items) [] c.insert.new.self.keys first keys (λ k x at. absurd cc) c.in_ok-end.ensures.follows;
      order = λ item next. record { order = short.order; most = λ k x at. omega (arith, short.most k x at) };
      first = (0, first, rw keys refl, subst (FollowsLabel q first.state) empty c.in_ok-end.ensures.follows, omega (arith, ap length empty));
      done = λ k item below at. absurd (omega arith);
      seen = λ found. grind (arith, common_steps);
      distinct = grind (arith, common_steps);
      shortest = grind (arith, common_steps);
    }

pub add-requires-clause-follows : goal.add-requires-clause-follows
add-requires-clause-follows c = c.loop-at.invariant.own c.loop-at.at c.in-Some.item.now (sym c.in-Some.ensures.key)

pub returns-in_default-clause-all : goal.returns-in_default-clause-all
returns-in_default-clause-all c = λ _.
    let listed = c.loop-at.listed.keys in
    let done = c.loop-at.invariant.done in record {
      distinct = c.loop-at.invariant.distinct;
      all = λ text over unnamed.
          elim (represented c.args.questions.now listed c.loop-at.at c.loop-at.items.items c.requires
          (record { first = c.loop-at.invariant.first; leads = λ k byte item below at. (done k item below at).0 byte })
          (λ k item below at. (done k item below at).1) text over unnamed) [
            | inl has ↦ has
            | inr more ↦ (
                let there = get_within listed c.loop-at.at (omega (arith, more.2, slice_get_within listed more.0 more.1 more.3)) in
                let none : None ≡ slice_get listed c.loop-at.at = c.in_default.ensures.key in
                absurd cc)
          ];
    }

-- each text that is shorter than the one at hand has a candidate, so that what is added is shortest
shortest : (c : After-add) → AreShortest c.args.questions.now c.add.new.candidates.items
shortest c =
    let listed = c.loop-at.listed.keys in
    let this = c.in-Some.item.now in
    let here : slice_get listed c.loop-at.at ≡ Some this = sym c.in-Some.ensures.key in
    let done = c.loop-at.invariant.done in
    c.add.ensures.shortest c.loop-at.invariant.shortest
    (λ text over unnamed short.
    elim (represented c.args.questions.now listed c.loop-at.at c.loop-at.items.items c.requires
    (record { first = c.loop-at.invariant.first; leads = λ k byte item below at. (done k item below at).0 byte })
    (λ k item below at. (done k item below at).1) text over unnamed) [
      | inl has ↦ has
      | inr more ↦ absurd (omega (arith, short, more.4, (c.loop-at.invariant.order this here).order c.loop-at.at more.0 this more.1 here more.3 more.2))
    ])

pub returns-then-len-room-clause-shortest : goal.returns-then-len-room-clause-shortest
returns-then-len-room-clause-shortest c = shortest (goal.at.returns-then-len-room-clause-shortest c).After-add

-- the states to which bytes lead are listed too
listed_too : (c : In_ok-extend) → AreListedToo c.args.questions.now (length c.in-Some.item.now.text.items + 1)
    c.loop-at.listed.keys c.in_ok-nexts.nexts.items c.extend.new.self.keys
listed_too c =
    let q = c.args.questions.now in
    let this = c.in-Some.item.now in
    let nexts = c.in_ok-nexts.nexts.items in
    let ran = c.in_ok-extend.ensures.ran in
    let all : ran.1 ≡ nexts = Drains-YieldsInOrder _ _ ran.0 ran.1 ran.2.3 ran.4 ∙ ran.2.0 in
    let keys : c.extend.new.self.keys ≡ insert_all is_same c.loop-at.listed.keys nexts = ran.3.0 ∙ ap (insert_all is_same c.loop-at.listed.keys) all in
    subst (AreListedToo q (length this.text.items + 1) c.loop-at.listed.keys nexts) (sym keys)
    (listed_all q (length this.text.items + 1) c.loop-at.listed.keys nexts c.loop-at.invariant.own
    (c.loop-at.invariant.order this (sym c.in-Some.ensures.key))
    (λ x is. let at = at_in nexts x is in (c.in_ok-nexts.ensures.own at.0 x at.1, c.in_ok-nexts.ensures.same at.0 x at.1)))

pub returns-then-len-gt-MAX_STATES-clause-none : goal.returns-then-len-gt-MAX_STATES-clause-none
returns-then-len-gt-MAX_STATES-clause-none c =
    let at = goal.at.returns-then-len-gt-MAX_STATES-clause-none c in
    let distinct : IsDistinct is_same c.extend.new.self.keys = c.len-in-loop-at.ensures.unique in
    many_listed c.args.questions.now c.extend.new.self.keys (listed_too at.In_ok-extend).own distinct
    (omega (arith, c.if-len-gt-MAX_STATES.true, c.len-in-loop-at.ensures.len))

pub loop-at-preserved : goal.loop-at-preserved
loop-at-preserved c =
    let q = c.args.questions.now in
    let old = c.loop-at.listed.keys in
    let new = c.extend.new.self.keys in
    let items = c.add.new.candidates.items in
    let at = c.loop-at.at in
    let this = c.in-Some.item.now in
    let nexts = c.in_ok-nexts.nexts.items in
    let here : slice_get old at ≡ Some this = sym c.in-Some.ensures.key in
    let too = listed_too (goal.at.loop-at-preserved c).In_ok-extend in
    let grows = too.grows in
    let inside = slice_get_within old at this here in
    let longer = grows_within old new at grows inside in
    record {
      within = omega (arith, longer);
      most = omega (arith, c.if-len-gt-MAX_STATES.false, c.len-in-loop-at.ensures.len);
      own = too.own;
      order = λ item next.
          let after = too.short.order at (at + 1) this item (grows at this here) next (omega arith) in
          record { order = too.short.order; most = λ k x there. omega (arith, after, too.short.most k x there) };
      first = has_kept q old new 0 [] grows c.loop-at.invariant.first;
      done = λ k item below there.
          let before = grown_back old new k item grows (omega (arith, inside, below)) there in
          elim (cases_lt k at) [
            | inl earlier ↦
                let did = c.loop-at.invariant.done k item earlier before in (
                  λ byte small. leads_kept q old new item byte grows (did.0 byte small),
                  represents_kept q c.loop-at.items.items items item.state c.add.ensures.grows did.1,
                )
            | inr now ↦
                let same : k ≡ at = omega arith in
                let is : this ≡ item = same_Some this item (sym here ∙ subst (λ i. slice_get old i ≡ Some item) same before) in
                subst (λ x. ((byte : ℕ) → byte < 256 → LeadsOn q new x byte) × Represents q items x.state) is (
                  λ byte small text tail follows has.
                      let there = c.in_ok-nexts.ensures.leads byte small text tail follows has in
                      too.serves there.1 (in_at nexts there.0 there.1 there.2) (byte ∷ text) there.3,
                  c.in_ok-add.ensures.added,
                )
          ];
      seen = c.in_ok-add.ensures.seen;
      distinct = c.add.ensures.distinct;
      shortest = shortest (goal.at.loop-at-preserved c).After-add;
    }
