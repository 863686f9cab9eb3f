-- Candidates: with one more, and for all texts.
use Rattle.std.proofs.Common.{◌≡◌, ◌<◌, ◌≤◌, ◌⊎◌, ℕ, length, refl, List, [], ◌∷◌, ◌++◌, Option, Some, None, IfSome, slice_get, string_bytes, inl, inr, subst, sym, ap, ◌∙◌, arith}
use Rattle.std.proofs.lemmas.Bool.{cases_lt}
use Rattle.std.proofs.lemmas.Option.{same_Some}
use Rattle.am_classes.specs.declared.questions.Questions.{Questions}
use Rattle.am_classes.specs.declared.label_state.LabelState.{LabelState}
use Rattle.am_classes.specs.declared.reached_state.ReachedState.{ReachedState}
use Rattle.am_classes.specs.declared.candidate.Candidate.{Candidate}
use Rattle.am_classes.specs.declared.candidates.CandidateTexts.{CandidateTexts}
use Rattle.am_classes.specs.declared.tail.Tail.TheVariants.{Whole}
use Rattle.am_classes.specs.Automata.{found_by}
use Rattle.am_classes.specs.Alphabet.{IsOver}
use Rattle.am_scan.specs.Sight.{is_scanned}
use Rattle.am_classes.specs.Enough.{AreEnough}
use Rattle.am_classes.specs.State.{IsNamed, named_texts, patterns_of}
use Rattle.am_classes.specs.Exploration.{IsClosed}
use Rattle.am_classes.specs.Candidates.{IsCandidate, HasFound, HasCandidate, AreApartCandidates, Represents, AreCandidates}
use Rattle.am_classes.specs.Candidates.{AreShortest, AreTied}
use Rattle.am_scan.specs.Automaton.{Grows}
use Rattle.am_scan.proofs.Places.{get_pushed}
use Rattle.am_classes.proofs.Utf8Lemmas.{utf8_whole}
use Rattle.am_classes.proofs.WholeTexts.{over_utf8}
use Rattle.am_classes.proofs.ClassLemmas.{found_from_patterns}
use Rattle.am_classes.proofs.ExplorationLemmas.{reached}

-- Candidates that represent a state still do so with more candidates.
pub represents_kept : (q : Questions) (old new : List Candidate) (state : LabelState)
    → Grows old new → Represents q old state → Represents q new state
represents_kept q old new state grows represents = λ text follows whole unnamed.
    let has = represents text follows whole unnamed in (has.0, has.1, grows has.0 has.1 has.2, has.3)

-- Candidates stay apart with one more, if none of them is found by the same patterns.
pub apart_pushed : (q : Questions) (old : List Candidate) (x : Candidate) → AreApartCandidates q old
    → IsCandidate q x → (HasFound old x.found.items → ⊥) → AreApartCandidates q (old ++ x ∷ [])
apart_pushed q old x h own new = record {
  own = λ k y at. elim (get_pushed old x y k at) [
    | inl before ↦ h.own k y before
    | inr here ↦ subst (IsCandidate q) here.1 own
  ];
  apart = λ i j y z at also same. elim (get_pushed old x y i at) [
    | inl a ↦ elim (get_pushed old x z j also) [
      | inl b ↦ h.apart i j y z a b same
      | inr b ↦ absurd (new (i, y, a, same ∙ ap (λ w. w.found.items) (sym b.1)))
    ]
    | inr a ↦ elim (get_pushed old x z j also) [
      | inl b ↦ absurd (new (j, z, b, sym same ∙ ap (λ w. w.found.items) (sym a.1)))
      | inr b ↦ a.0 ∙ sym b.0
    ]
  ];
}

candidate_again : (q : Questions) (cs : List Candidate) (x text : List ℕ)
    → found_by q.automata.items x ≡ found_by q.automata.items text → HasCandidate q cs x
    → HasCandidate q cs text
candidate_again q cs x text same has = (has.0, has.1, has.2, has.3 ∙ same)

-- If states before a position lead on and are represented, each text has a candidate, or is at least
-- as long as the text beside a state at or behind that position.
pub represented : (q : Questions) (listed : List ReachedState) (at : ℕ) (cs : List Candidate)
    → AreEnough q.alphabet (named_texts q) (patterns_of q) q.bytes → IsClosed q listed at
    → ((k : ℕ) (item : ReachedState) → k < at → slice_get listed k ≡ Some item → Represents q cs item.state)
    → (text : List ℕ) → IsOver q.alphabet text → (IsNamed q text → ⊥)
    → HasCandidate q cs text
    ⊎ ((k : ℕ) × (item : ReachedState) × (at ≤ k) × (slice_get listed k ≡ Some item)
    × (length item.text.items ≤ length text))
represented q listed at cs enough closed represents text over unnamed =
    let x = enough text over in
    let whole = utf8_whole (is_scanned q.bytes) x.0 (over_utf8 q.alphabet x.0 x.1) x.2 in
    let here = reached q listed at closed x.0 Whole whole in
    let short : length here.1.text.items ≤ length text = omega (arith, here.3, x.3.len) in
    elim here.4 [
      | inr behind ↦ inr (here.0, here.1, behind, here.2, short)
      | inl follows ↦ elim (cases_lt here.0 at) [
        | inr behind ↦ inr (here.0, here.1, behind, here.2, short)
        | inl below ↦ inl (candidate_again q cs x.0 text (found_from_patterns q x.0 text x.3.found)
            (represents here.0 here.1 below here.2 x.0 follows
            (same_Some here.1.state.tail Whole (sym follows.tail ∙ whole))
            (λ named. unnamed (subst (IsNamed q) (x.3.same named.0 x.0 named.1 (inl refl)) named))))
      ]
    ]

-- If there is no pattern, one text that is not named stands for all such texts.
pub one_candidate : (q : Questions) (cs : List Candidate) (x : Candidate) → cs ≡ x ∷ []
    → q.automata.items ≡ [] → x.found.items ≡ [] → (IsNamed q (string_bytes x.text) → ⊥)
    → IsOver q.alphabet (string_bytes x.text) → AreCandidates q cs
one_candidate q cs x is none_asked found unnamed over =
    let none : (text : List ℕ) → x.found.items ≡ found_by q.automata.items text = λ text. found ∙ sym (ap (λ xs. found_by xs text) none_asked) in
    let all : AreCandidates q (x ∷ []) = record {
      distinct = apart_pushed q [] x (record { own = λ k y at. cc; apart = λ i j y z at also same. cc })
          (record { found = none (string_bytes x.text); unnamed = unnamed; over = over }) (λ has. let at = has.2 in cc);
      all = λ text over missed. (0, x, refl, none text);
    } in
    subst (AreCandidates q) (sym is) all

-- Shortest candidates are tied.
pub tied_if_some : (q : Questions) (found : Option CandidateTexts)
    → IfSome found (λ cs. AreShortest q cs.items.items)
    → IfSome found (λ cs. AreTied q cs.items.items)
tied_if_some q None h = tt
tied_if_some q (Some cs) shortest = λ k c at. inr (shortest k c at)
