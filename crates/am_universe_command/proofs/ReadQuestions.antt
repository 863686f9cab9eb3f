-- Questions that are read one after another.
use Rattle.std.proofs.Common.{◌≡◌, ◌+◌, ◌<◌, ℕ, zero, suc, List, [], ◌∷◌, ◌++◌, length, map, take}
use Rattle.std.proofs.Common.{Some, refl, sym, subst, slice_get, get_or, codes, decimal, arith, Bor}
use Rattle.std.specs.List.{AllByRecursion}
use Rattle.std.proofs.lemmas.Slice.Zip.{all_zipped_more}
use Rattle.am_json.specs.Pointer.{Refusal}
use Rattle.am_config.specs.ConfigFile.{Configuration}
use Rattle.am_eval.specs.Question.{Question}
use Rattle.am_questions.specs.QuestionText.{ReadsQuestion, QuestionRefusedFor}
use Rattle.am_complete.proofs.Pushed.{one_longer}
use Rattle.am_universe_command.specs.UniverseInputs.{ReadsQuestions, QuestionsRefusedFor}

-- the text at a position
pub text_there : (texts : List (Bor (List ℕ))) (i : ℕ) (d : Bor (List ℕ)) → i < length texts
    → slice_get (map (λ text. text.now) texts) i ≡ Some (get_or texts i d).now
text_there [] i d lt = absurd (omega (arith, lt))
text_there (text ∷ texts) zero d lt = refl
text_there (text ∷ texts) (suc i) d lt = text_there texts i d (omega (arith, lt))

-- one more question
pub read_more : (c : Configuration) (texts : List (List ℕ)) (i : ℕ) (text : List ℕ)
    (questions next : List Question) (question : Question)
    → slice_get texts i ≡ Some text → ReadsQuestions c (take i texts) questions
    → ReadsQuestion c text question → next ≡ questions ++ question ∷ []
    → ReadsQuestions c (take (i + 1) texts) next
read_more c texts i text questions next question at so reads is =
    subst (λ (qs : List Question). ReadsQuestions c (take (i + 1) texts) qs) (sym is)
    (subst (λ (ts : List (List ℕ)). ReadsQuestions c ts (questions ++ question ∷ []))
    (one_longer texts i text at)
    (all_zipped_more (ReadsQuestion c) (take i texts) questions text question so reads))

-- each of the texts so far is a question
are_questions : (c : Configuration) (texts : List (List ℕ)) (questions : List Question)
    → ReadsQuestions c texts questions
    → AllByRecursion (λ t. (question : Question) × ReadsQuestion c t question) texts
are_questions c [] [] so = tt
are_questions c [] (q ∷ qs) so = absurd so
are_questions c (t ∷ ts) [] so = absurd so
are_questions c (t ∷ ts) (q ∷ qs) so = ((q, so.0), are_questions c ts qs so.1)

pub refused_next : (c : Configuration) (texts : List (List ℕ)) (i : ℕ) (text : List ℕ)
    (questions : List Question) (r : Refusal) → slice_get texts i ≡ Some text
    → ReadsQuestions c (take i texts) questions → QuestionRefusedFor c text r.kind
    → r.pointer ≡ codes "/" ++ decimal i → QuestionsRefusedFor c texts r
refused_next c texts i text questions r at so refused pointer = record {
  position = i;
  text = text;
  there = at;
  before = are_questions c (take i texts) questions so;
  refused = refused;
  pointer = pointer;
}
