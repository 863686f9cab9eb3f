-- What states say about texts.
use Rattle.std.proofs.Common.{Result, Ok, Vec, IfOk, ◌≡◌, ℕ, false, List, subst, arith}
use Rattle.std.proofs.Common.{◌∷◌, sym, ◌∙◌}
use Rattle.std.specs.declared.alloc.Global.{Global}
use Rattle.am_scan.specs.declared.pattern_automaton.PatternAutomaton.{PatternAutomaton}
use Rattle.std.specs.List.{list_any}
use Rattle.std.specs.Str.{IsUtf8}
use Rattle.std.proofs.lemmas.Grind.{common_steps}
use Rattle.am_scan.specs.Automaton.{scanned_bytes}
use Rattle.am_scan.specs.Sight.{is_scanned, IsScanned}
use Rattle.am_scan.proofs.Places.{all_from_places}
use Rattle.am_classes.specs.Fronts.{ends_with}
use Rattle.am_classes.specs.Utf8.{text_step}
use Rattle.am_classes.specs.Automata.{AreScanned, MakeSame, found_by}
use Rattle.am_classes.specs.Live.{live_of}
use Rattle.am_classes.specs.declared.questions.Questions.{Questions}
use Rattle.am_classes.specs.declared.live.LivePattern.{LivePattern}
use Rattle.am_classes.specs.declared.label_state.LabelState.{LabelState}
use Rattle.am_classes.specs.State.{FollowsLabel, named_texts}
use Rattle.am_classes.proofs.FrontLemmas.{none_before}
use Rattle.am_classes.proofs.LiveLemmas.{same_live}
use Rattle.am_classes.proofs.TailLemmas.{bytes_of_tail}

-- The automata read the texts that a state follows.
scanned_of_followed : (q : Questions) (state : LabelState) (text : List ℕ)
    → FollowsLabel q state text → AreScanned q.automata.items text
scanned_of_followed q state text follows =
    let may = is_scanned q.bytes in
    all_from_places (λ a. IsScanned (scanned_bytes a) text) q.automata.items (λ k a at.
    subst (λ bytes. IsScanned bytes text) (sym (q.fit k a at))
    (bytes_of_tail may may (λ b small yes. yes) text state.tail follows.tail))

-- What is found by live patterns says which patterns find a text that has these live patterns.
pub found_of_live : {E : Type 0} (q : Questions) (state : LabelState)
    (automata : List PatternAutomaton) (live : List LivePattern) (r : Result (Vec ℕ Global) E)
    → automata ≡ q.automata.items → live ≡ state.live.items
    → IfOk r (λ answers. (text : List ℕ) → live ≡ live_of automata text
    → AreScanned automata text → IsUtf8 text → answers.items ≡ found_by automata text)
    → IfOk r (λ answers. (text : List ℕ) → FollowsLabel q state text → IsUtf8 text
    → answers.items ≡ found_by q.automata.items text)
found_of_live q state automata live (Ok answers) s t h = λ text follows utf8.
    grind (arith, common_steps, scanned_of_followed)
found_of_live q state automata live r s t h = tt

-- A state that follows a text with a byte before it also follows it with another byte, if the tail
-- and the patterns treat both alike, and no named text goes on with either.
pub follows_again : (q : Questions) (state next : LabelState) (text : List ℕ) (one other : ℕ)
    → text_step (is_scanned q.bytes) state.tail one ≡ text_step (is_scanned q.bytes) state.tail other
    → list_any (λ f. ends_with one f.now) state.fronts.items ≡ false
    → list_any (λ f. ends_with other f.now) state.fronts.items ≡ false
    → MakeSame q.automata.items one other → FollowsLabel q state text
    → FollowsLabel q next (one ∷ text) → FollowsLabel q next (other ∷ text)
follows_again q state next text one other tails none none_other alike follows before =
    let step = rw follows.tail at before.tail in
    record {
      tail = rw follows.tail (sym tails ∙ step);
      fronts = before.fronts ∙ none_before one state.fronts.items (named_texts q) text follows.fronts none
          ∙ sym (none_before other state.fronts.items (named_texts q) text follows.fronts none_other);
      live = before.live ∙ same_live 0 q.automata.items _ _ (alike text);
    }
