use Rattle.std.proofs.Common.{◌≡◌, Some, slice_get, length, string_bytes, inl, inr, sym, ap, ◌∙◌, subst, arith}
use Rattle.std.specs.HashSet.{contains}
use Rattle.std.specs.List.{list_any}
use Rattle.std.specs.Str.{IsUtf8}
use Rattle.std.proofs.lemmas.Bool.{cases_lt, not-false, not-true, true≢false, OnFalse_at}
use Rattle.std.proofs.lemmas.List.Elements.{same_from_all_zip}
use Rattle.am_classes.specs.declared.candidate.Candidate.{Candidate}
use Rattle.am_classes.specs.declared.tail.Tail.TheVariants.{Whole}
use Rattle.am_classes.specs.Automata.{found_by}
use Rattle.am_classes.specs.State.{FollowsLabel, IsNamed}
use Rattle.am_classes.proofs.OverLemmas.{followed_over}
use Rattle.am_classes.proofs.WholeTexts.{followed_utf8}
use Rattle.am_classes.specs.Candidates.{AreApartCandidates, IsCandidate, IsShortestFound, HasFound}
use Rattle.am_classes.specs.Truths.{are_same}
use Rattle.am_scan.proofs.Places.{get_last, grows_pushed}
use Rattle.am_classes.proofs.TailLemmas.{whole_from}
use Rattle.am_classes.proofs.CandidateLemmas.{apart_pushed}
use Rattle.am_classes.proofs.ExplorationLemmas.{each_more}
use Rattle.am_classes.proofs.FoundLemmas.{found_more, has_from_seen, seen_from_has}
use Rattle.am_classes.proofs.candidates.add.Goals as goal
use Rattle.am_classes.proofs.candidates.add.Goals.{After-push}

-- a text with a whole tail is in UTF-8
pub unreachable-requires : goal.unreachable-requires
unreachable-requires c =
    let item = c.args.item.now in
    let whole = whole_from item.state.tail (sym c.is_whole.ensures ∙ c.if-not-is_whole.false) in
    c.in_default.ensures.cases.0 (subst IsUtf8 (sym c.as_slice.ensures.value)
    (followed_utf8 c.args.questions.now item.state item.text.items c.requires.follows whole))

pub returns-then-not-is_new-clause-added : goal.returns-then-not-is_new-clause-added
returns-then-not-is_new-clause-added c =
    let q = c.args.questions.now in
    let own = c.in_ok-copy.copy in
    let same : own.items ≡ c.in_ok-found.found.items =
    same_from_all_zip _ c.in_ok-found.found.items own.items c.in_ok-copy.ensures.cases.0 (λ x y same. same) in
    let some = sym (c.requires.seen own) ∙ not-false _ (sym c.in_ok-is_new.ensures.added ∙ c.if-not-is_new.true) in
    let has = has_from_seen c.args.candidates.now.items own some in
    λ text follows whole unnamed. (
      has.0,
      has.1,
      has.2,
      has.3 ∙ same ∙ c.in_ok-found.ensures text follows (followed_utf8 q c.args.item.now.state text follows whole),
    )

pub returns-then-not-is_new-clause-seen : goal.returns-then-not-is_new-clause-seen
returns-then-not-is_new-clause-seen c = λ found.
    ap (list_any _) (OnFalse_at c.if-not-is_new.true c.in_ok-is_new.ensures.unchanged) ∙ c.requires.seen found

pub returns-clause-seen : goal.returns-clause-seen
returns-clause-seen c = λ found.
    let candidates = c.args.candidates.now.items in
    let own = c.in_ok-copy.copy in
    let x : Candidate = record { text = c.in_ok-text.text; found = c.in_ok-found.found } in
    let same : own.items ≡ x.found.items =
    same_from_all_zip _ x.found.items own.items c.in_ok-copy.ensures.cases.0 (λ x y same. same) in
    subst (λ cs. contains are_same c.insert.new.self found ≡ list_any (λ c. are_same c.found found) cs)
    (sym c.in_ok-push.ensures.items)
    (found_more candidates found x own _ _ same (c.requires.seen found) (c.in_ok-is_new.ensures.updates.0 found))

-- the new candidate has the text of the state, and no candidate is found by the same patterns
bytes : (c : After-push) → string_bytes c.in_ok-text.text ≡ c.args.item.now.text.items
bytes c = c.in_ok-text.ensures.ok ∙ c.in-Ok.ensures.cases.0 ∙ c.as_slice.ensures.value

new : (c : After-push) → HasFound c.args.candidates.now.items c.in_ok-found.found.items → ⊥
new c = λ has.
    let own = c.in_ok-copy.copy in
    let same : own.items ≡ c.in_ok-found.found.items =
    same_from_all_zip _ c.in_ok-found.found.items own.items c.in_ok-copy.ensures.cases.0 (λ x y same. same) in
    let none = sym (c.requires.seen own) ∙ not-true _ (sym c.in_ok-is_new.ensures.added ∙ c.if-not-is_new.false) in
    let yes = seen_from_has c.args.candidates.now.items own (has.0, has.1, has.2, has.3 ∙ sym same) in
    true≢false (sym yes ∙ none)

pub returns-clause-distinct : goal.returns-clause-distinct
returns-clause-distinct c =
    let q = c.args.questions.now in
    let x : Candidate = record { text = c.in_ok-text.text; found = c.in_ok-found.found } in
    let here = (goal.at.returns-clause-distinct c).After-push in
    let bytes = bytes here in
    let whole : c.args.item.now.state.tail ≡ Whole = whole_from c.args.item.now.state.tail (sym c.is_whole.ensures ∙ c.if-not-is_whole.false) in
    let own : IsCandidate q x = record {
      found = c.in_ok-found.ensures c.args.item.now.text.items c.requires.follows
          (followed_utf8 q c.args.item.now.state c.args.item.now.text.items c.requires.follows whole) ∙ ap (found_by q.automata.items) (sym bytes);
      unnamed = λ named.
          let named' = (c.names_followed.ensures c.args.item.now.text.items c.requires.follows).1 (subst (IsNamed q) bytes named) in
          let missed = c.if-names_followed.false in
          absurd cc;
      over = followed_over q c.args.item.now.state c.in_ok-text.text
          (subst (FollowsLabel q c.args.item.now.state) (sym bytes) c.requires.follows);
    } in
    subst (AreApartCandidates q) (sym c.in_ok-push.ensures.items) (apart_pushed q c.args.candidates.now.items x c.requires.distinct own (new here))

pub returns-clause-shortest : goal.returns-clause-shortest
returns-clause-shortest c = λ old shorter.
    let q = c.args.questions.now in
    let here = (goal.at.returns-clause-shortest c).After-push in
    each_more (IsShortestFound q) c.args.candidates.now.items c.push.new.self.items _ c.in_ok-push.ensures.items old
    (λ text over unnamed same. elim (cases_lt (length text) (length c.args.item.now.text.items)) [
      | inl short ↦
          let has = shorter text over unnamed short in
          absurd (new here (has.0, has.1, has.2, has.3 ∙ same))
      | inr long ↦ omega (arith, long, ap length (bytes here))
    ])

pub returns-clause-grows : goal.returns-clause-grows
returns-clause-grows c =
    grows_pushed c.args.candidates.now.items c.push.new.self.items _ c.in_ok-push.ensures.items

pub returns-clause-added : goal.returns-clause-added
returns-clause-added c =
    let x : Candidate = record { text = c.in_ok-text.text; found = c.in_ok-found.found } in
    λ text follows whole unnamed. (
      length c.args.candidates.now.items,
      x,
      subst (λ cs. slice_get cs (length c.args.candidates.now.items) ≡ Some x) (sym c.in_ok-push.ensures.items) (get_last c.args.candidates.now.items x),
      c.in_ok-found.ensures text follows (followed_utf8 c.args.questions.now c.args.item.now.state text follows whole),
    )
