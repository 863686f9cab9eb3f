-- What keeps the classes of some matchers from being computed.
use Rattle.std.proofs.Common.{◌≡◌, ◌<◌, ℕ, true, List, IsSome, length, inl, inr, subst, sym, ◌∙◌}
use Rattle.std.proofs.lemmas.List.{length-map}
use Rattle.am_universe.proofs.ListLemmas.{IsIn, IsIn-from_Contains, Contains-from_IsIn}
use Rattle.am_universe.proofs.ListLemmas.{AllByRecursion-at, AllByRecursion-each}
use Rattle.am_universe.proofs.Members.{at_in, in_at}
use Rattle.am_labels.specs.Matcher.{Matcher}
use Rattle.am_labels.specs.Wildcards.{is_wildcards, wildcards_state}
use Rattle.am_scan.specs.declared.pattern_automaton.PatternAutomaton.{PatternAutomaton}
use Rattle.am_scan.specs.Automaton.{number_of, pattern_of}
use Rattle.am_scan.specs.Sight.{is_scanned}
use Rattle.am_scan.proofs.Places.{contains_from_get, map_same}
use Rattle.am_classes.specs.declared.alphabet.Alphabet.{Alphabet}
use Rattle.am_classes.specs.declared.questions.Questions.{Questions}
use Rattle.am_classes.specs.Alike.{AreApart, HasOtherPattern}
use Rattle.am_classes.specs.Asked.{AreAsked}
use Rattle.am_classes.specs.Automata.{MayLackAutomaton}
use Rattle.am_classes.specs.Exploration.{HasManyLabelStates}
use Rattle.am_classes.specs.Limits.{HaveManyStates, HaveTooManyStates, HaveWildcardsAlone, MayBePastLimits}
use Rattle.am_classes.specs.Named.{AreEachOnce, named_over, other_patterns}
use Rattle.am_classes.specs.Alphabet.{has_byte}
use Rattle.am_classes.specs.State.{named_texts, patterns_of}
use Rattle.am_classes.specs.Utf8.{tail_of, tail_with}
use Rattle.am_classes.proofs.TailLemmas.{tail_more}
use Rattle.am_classes.proofs.AskedLemmas.{has_other, named_from, named_in}
use Rattle.am_classes.proofs.AskedLemmas.{other_from, other_in}
use Rattle.am_classes.proofs.AutomataLemmas.{get_under}

-- A pattern that may have no automaton is one of the wanted ones.
pub lacking_wanted : (wanted patterns : List (List ℕ)) → AreEachOnce wanted patterns
    → MayLackAutomaton patterns → MayLackAutomaton wanted
lacking_wanted wanted patterns once lacks =
    let at = at_in patterns lacks.0 (IsIn-from_Contains patterns lacks.0 lacks.1) in
    let from = once.from at.0 lacks.0 at.1 in
    (lacks.0, contains_from_get wanted lacks.0 from.0 from.1, lacks.2)

pub refused_automaton : (a : Alphabet) (ms : List Matcher) → MayLackAutomaton (other_patterns ms)
    → HasOtherPattern ms × (HaveWildcardsAlone ms → HaveTooManyStates a ms)
refused_automaton a ms lacks =
    let there = IsIn-from_Contains (other_patterns ms) lacks.0 lacks.1 in
    let m = other_from ms lacks.0 there in (
      (m.0, Contains-from_IsIn ms m.0 m.1, m.2),
      λ alone. inl (lacks.0, lacks.1, lacks.2 (AllByRecursion-at _ (other_patterns ms) lacks.0 alone there)),
    )

by_state : (a : PatternAutomaton) → is_wildcards (pattern_of a) ≡ true → (x y : List ℕ)
    → wildcards_state (pattern_of a) x ≡ wildcards_state (pattern_of a) y
    → number_of a x ≡ number_of a y
unfolding pattern_of number_of
by_state a = a.by_state

pub refused_exploration : (ms : List Matcher) (q : Questions) → AreAsked ms q
    → 0 < length q.automata.items → HasManyLabelStates q
    → HasOtherPattern ms × (HaveWildcardsAlone ms → HaveTooManyStates q.alphabet ms)
refused_exploration ms q asked some many =
    let wider : (x : List ℕ) → IsSome (tail_with (is_scanned q.bytes) x) → tail_of q.alphabet x ≡ tail_with (is_scanned q.bytes) x =
    tail_more (is_scanned q.bytes) (has_byte q.alphabet) (λ b small. q.own b) in (
      has_other ms (patterns_of q) asked.patterns (rw (length-map q.automata.items pattern_of) some),
      λ alone. inr (record {
        named = named_texts q;
        patterns = patterns_of q;
        ends = many.0;
        each_named = asked.texts;
        each_pattern = asked.patterns;
        many = many.1;
        over = AllByRecursion-each _ many.0 (λ x i.
            subst IsSome (sym (wider x (AllByRecursion-at _ many.0 x many.2 i))) (AllByRecursion-at _ many.0 x many.2 i));
        apart = λ i j x y at also same. many.3 i j x y at also
            (sym (wider x (AllByRecursion-at _ many.0 x many.2 (in_at many.0 i x at))) ∙ same.0
            ∙ wider y (AllByRecursion-at _ many.0 y many.2 (in_at many.0 j y also))) same.1
            (map_same (λ a. number_of a x) (λ a. number_of a y) q.automata.items (λ k a here.
            let p = get_under pattern_of q.automata.items k a here in
            let wanted = asked.patterns.from k (pattern_of a) p in
            let fine = AllByRecursion-at _ (other_patterns ms) (pattern_of a) alone (in_at (other_patterns ms) wanted.0 (pattern_of a) wanted.1) in
            by_state a fine x y (AllByRecursion-at _ (patterns_of q) (pattern_of a) same.2 (in_at (patterns_of q) k (pattern_of a) p))));
      }),
    )

-- ---- Matchers that are the same, in any order.

moved_once : (wanted other texts : List (List ℕ)) → ((x : List ℕ) → IsIn wanted x → IsIn other x)
    → ((x : List ℕ) → IsIn other x → IsIn wanted x) → AreEachOnce wanted texts
    → AreEachOnce other texts
moved_once wanted other texts to back h = record {
  each = λ k x at. let there = at_in wanted x (back x (in_at other k x at)) in h.each there.0 x there.1;
  from = λ j x at. let there = h.from j x at in at_in other x (to x (in_at wanted there.0 x there.1));
  once = h.once;
}

module _ (a : Alphabet) (ns ms : List Matcher) (to : (m : Matcher) → IsIn ns m → IsIn ms m) where
  named_moved : (x : List ℕ) → IsIn (named_over a ns) x → IsIn (named_over a ms) x
  named_moved x there =
      let m = named_from a ns x there in
      named_in a ms m.0 x (to m.0 m.1) m.2 m.4

  pattern_moved : (p : List ℕ) → IsIn (other_patterns ns) p → IsIn (other_patterns ms) p
  pattern_moved p there =
      let m = other_from ns p there in
      subst (IsIn (other_patterns ms)) m.3 (other_in ms m.0 (to m.0 m.1) m.2)

  pub apart_moved : (texts : List (List ℕ)) → AreApart ns texts → AreApart ms texts
  apart_moved texts apart = λ i j x y at also alike.
      apart i j x y at also (AllByRecursion-each _ ns (λ m there. AllByRecursion-at _ ms m alike (to m there)))

many_moved : (a : Alphabet) (ns ms : List Matcher) → ((m : Matcher) → IsIn ns m → IsIn ms m)
    → ((m : Matcher) → IsIn ms m → IsIn ns m) → HaveManyStates a ns → HaveManyStates a ms
many_moved a ns ms to back h = record {
  named = h.named;
  patterns = h.patterns;
  ends = h.ends;
  each_named = moved_once (named_over a ns) (named_over a ms) h.named (named_moved a ns ms to) (named_moved a ms ns back) h.each_named;
  each_pattern = moved_once (other_patterns ns) (other_patterns ms) h.patterns (pattern_moved a ns ms to) (pattern_moved a ms ns back) h.each_pattern;
  many = h.many;
  over = h.over;
  apart = h.apart;
}

pub same_limits : (a : Alphabet) (ns ms : List Matcher) → ((m : Matcher) → IsIn ns m → IsIn ms m)
    → ((m : Matcher) → IsIn ms m → IsIn ns m) → MayBePastLimits a ns → MayBePastLimits a ms
same_limits a ns ms to back h =
    let m = h.pattern in
    let there = IsIn-from_Contains ns m.0 m.1 in
    record {
      pattern = (m.0, Contains-from_IsIn ms m.0 (to m.0 there), m.2);
      past = λ alone.
          let fine : HaveWildcardsAlone ns = AllByRecursion-each _ (other_patterns ns) (λ p here.
          AllByRecursion-at _ (other_patterns ms) p alone (pattern_moved a ns ms to p here)) in
          elim (h.past fine) [
            | inl (inl large) ↦ inl (inl (large.0, Contains-from_IsIn (other_patterns ms) large.0 (pattern_moved a ns ms to large.0 (IsIn-from_Contains (other_patterns ns) large.0 large.1)), large.2))
            | inl (inr many) ↦ inl (inr (many_moved a ns ms to back many))
            | inr many ↦ inr (many.0, many.1, many.2, apart_moved a ns ms to many.0 many.3)
          ];
    }
