use Rattle.std.proofs.Common.{false, map, string_bytes, List, sym, ap, subst}
use Rattle.std.specs.List.{AllByRecursion}
use Rattle.am_labels.specs.Matcher.{Matcher}
use Rattle.am_classes.specs.Alphabet.{IsOver, AreOver}
use Rattle.am_classes.specs.LabelTests.{IsTestsOf}
use Rattle.am_classes.specs.Truths.{texts_of}
use Rattle.am_complete.specs.Complete.{AreAmong}
use Rattle.am_complete.proofs.NeededTexts.{all_from}
use Rattle.am_complete.proofs.SameMatchers.{apart_among}
use Rattle.am_complete.proofs.found_texts.found_texts.Goals as goal

pub returns-clause-found : goal.returns-clause-found
returns-clause-found c =
    let a = c.args.alphabet in
    let ms = c.args.label.now.matchers in
    let ns : List Matcher = map (λ m. m.now) c.in_ok-matchers.matchers.items in
    let tried = c.in_ok-tried.tried.items in
    let found = map string_bytes c.in_ok-texts-2.texts.items in
    let is = subst (λ ks. IsTestsOf ks c.in_ok-tests.tests) (ap (map (λ m. m.now)) c.as_slice.ensures.value)
    c.in_ok-tests.ensures in
    let new = c.in_ok-texts-2.ensures ns (rw c.new.ensures.items tt) (c.in_ok-tried.ensures.tested ns is) in
    let among : AreAmong ns ms = subst (AreAmong ns) c.matchers.ensures.matchers c.in_ok-matchers.ensures in
    record {
      classes = c.put_in_order.ensures.classes a ms false (record {
        covers = λ all. absurd (cc);
        apart = apart_among ns ms found among new.apart;
        over = all_from (IsOver a) (texts_of tried) found
            (subst (AreOver a) (sym c.in_ok-tried.ensures.texts) c.in_ok-texts.ensures.over) new.from;
      });
      represent = all_from _ found _ (all_from _ (texts_of tried) found
          (subst (AllByRecursion _) (sym c.in_ok-tried.ensures.texts) c.in_ok-texts.ensures.representatives) new.from)
          c.put_in_order.ensures.from;
      tests = (ns, is, among, λ yes. absurd cc);
    }
