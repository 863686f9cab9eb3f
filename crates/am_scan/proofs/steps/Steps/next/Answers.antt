-- A sort keeps the states of a list.
use Rattle.std.proofs.Common.{◌≡◌, ◌∙◌, ℕ, ap, refl, sym, eqb, arith}
use Rattle.std.specs.Global.{Vec}
use Rattle.std.proofs.lemmas.Bool.{ltb-true, ltb-false}
use Rattle.std.proofs.lemmas.Option.{slice_get_past}
use Rattle.std.proofs.lemmas.List.{with_items_is}
use Rattle.std.proofs.lemmas.List.Elements.{same_from_all_zip}
use Rattle.std.proofs.lemmas.List.Sorted.{list_any-IsPermutation}
use Rattle.am_scan.specs.Closure.{contains}
use Rattle.am_scan.specs.Arrivals.{items_at, items_of}
use Rattle.am_scan.proofs.ArrivalLemmas.{at_read}
use Rattle.am_scan.proofs.steps.Steps.next.Goals as goal
use Rattle.am_scan.proofs.steps.Steps.next.Goals.{in-Some+in_ok-reads-in-Some, in-None}

pub returns : goal.returns
returns c =
    let reads = c.match-get.reads in
    let sorted = c.sort_unstable.new.self in
    let copied : reads.items ≡ items_at c.args.self.now.reads.items c.args.class =
    elim c.match-get.branch [
      | in-Some+in_ok-reads-in-Some w ↦
          (let found = rw c.deref.ensures.value at w.in-Some.ensures.lookup in
          ap (λ (v : Vec ℕ). v.items) w.reads-is ∙ same_from_all_zip _ w.in-Some.reads.now.items w.in_ok-reads-in-Some.reads.items w.in_ok-reads-in-Some.ensures.cases.0 (λ x y same. same)
          ∙ sym (at_read c.args.self.now.reads.items c.args.class w.in-Some.reads.now (ltb-true _ _ (sym found.0)) found.1))
      | in-None w ↦
          (let past = rw c.deref.ensures.value at w.in-None.ensures.lookup in
          ap (λ (v : Vec ℕ). v.items) w.reads-is ∙ w.new-reads.ensures.items ∙ sym (ap items_of (slice_get_past c.args.self.now.reads.items c.args.class (ltb-false _ _ (sym past.0)))))
    ] in
    record {
      first = refl;
      starts_is = refl;
      reads = λ q.
          ap (λ xs. contains xs q) (with_items_is reads sorted (omega (arith, c.sort_unstable.ensures.len, c.as_mut_slice.ensures.len)))
          ∙ sym (list_any-IsPermutation (λ m. eqb m q) c.as_mut_slice.result.now sorted c.sort_unstable.ensures.permutation)
          ∙ ap (λ xs. contains xs q) (c.as_mut_slice.ensures.value ∙ copied);
      later = refl;
    }
