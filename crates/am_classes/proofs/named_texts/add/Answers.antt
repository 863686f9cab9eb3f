use Rattle.std.proofs.Common.{◌++◌, ◌∷◌, [], refl, sym, subst, map}
use Rattle.am_classes.specs.Named.{AreEachOnce}
use Rattle.am_classes.proofs.AskedLemmas.{once_inserted}
use Rattle.am_classes.proofs.named_texts.add.Goals as goal

pub returns : goal.returns
returns c = λ wanted h.
    subst (λ ks. AreEachOnce (wanted ++ c.args.text.now ∷ []) (map (λ t. t.now) ks))
    (sym c.in_ok-insert.ensures.keys)
    (once_inserted _ (λ x y. refl) wanted c.args.texts.now.keys c.args.text h)
