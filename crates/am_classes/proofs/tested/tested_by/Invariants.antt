use Rattle.std.proofs.Common.{◌≡◌, ◌∷◌, ◌++◌, [], ℕ, List, if◌then◌else◌}
use Rattle.am_labels.specs.Pattern.{finds}
use Rattle.am_classes.specs.Truths.{AreHits, texts_of}
use Rattle.am_classes.proofs.tested.tested_by.Given as goal

abbrev pub invariant-loop-text : goal.invariant-loop-text
invariant-loop-text l = record {
  same : l.finder ≡ l.fn.finder;
  texts : texts_of l.all.items ≡ texts_of l.yielded;
  hits : (hits : List ℕ → List ℕ) → AreHits hits l.yielded
      → AreHits (λ text. hits text ++ (if finds l.fn.finder text then l.fn.place ∷ [] else []))
      l.all.items;
}
