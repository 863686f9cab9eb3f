use Rattle.std.proofs.Common.{◌++◌, [], rules, refl, sym, ap, ◌∙◌, arith, append-nil}
use Rattle.std.proofs.lemmas.List.{drop_all}
use Rattle.std.specs.List.{flat_map}
use Rattle.am_universe.specs.Text.{label_value_escape}
use Rattle.am_universe.proofs.Writing.{◌⟩◌, wrote_nothing, wrote_then, fails, writes_as}
use Rattle.am_universe.proofs.QuotedTextLemmas.{run, then_escape, after_escape, plain_more}
use Rattle.am_universe.proofs.write.write_escaped.Goals as goal
use Rattle.am_universe.proofs.write.write_escaped.Goals.{in-Some+in_ok-put_all+in_ok-put_all-2, in_default}

pub loop-i-init : goal.loop-i-init
loop-i-init g c = record { done = []; order = omega arith; written = wrote_nothing; whole = refl }

pub returns-in_err-put_all : goal.returns-in_err-put_all
returns-in_err-put_all g c =
    let l = c.loop-i.invariant in
    writes_as (sym l.whole) (l.written ⟩ fails _ c.from_residual.ensures c.in_err-put_all.ensures.written)

pub returns-in_err-put_all-2 : goal.returns-in_err-put_all-2
returns-in_err-put_all-2 g c =
    let l = c.loop-i.invariant in
    writes_as (sym (then_escape c.args.bytes.now l.done _ _ (search rules) l.whole _ (search rules)))
    (l.written ⟩ c.in_ok-put_all.ensures.written.ok ⟩ fails _ c.from_residual-in_err-put_all-2.ensures c.in_err-put_all-2.ensures.written)

pub loop-i-preserved : goal.loop-i-preserved
loop-i-preserved g c =
    let l = c.loop-i.invariant in
    elim c.match-escape_of.branch [
      | in-Some+in_ok-put_all+in_ok-put_all-2 w ↦ record {
        done = l.done ++ (run c.loop-i.start c.loop-i.i c.args.bytes.now ++ w.in-Some.escape.now);
        order = omega arith;
        written = simp w.out-is (wrote_then l.written (wrote_then w.in_ok-put_all.ensures.written.ok w.in_ok-put_all-2.ensures.written.ok));
        whole = after_escape c.args.bytes.now l.done _ _ (omega arith) l.whole _ _ (search rules) w.start-is;
      }
      | in_default w ↦ record {
        done = l.done;
        order = omega arith;
        written = simp w.out-is l.written;
        whole = simp w.start-is (plain_more c.args.bytes.now l.done _ _ (omega arith) l.whole l.order (search rules));
      }
    ]

pub returns : goal.returns
returns g c =
    let l = c.loop-i.invariant in
    let text = c.args.bytes.now in
    let none = ap (flat_map label_value_escape) (drop_all c.loop-i.i text (omega arith)) in
    let end = ap (λ n. l.done ++ run c.loop-i.start n text) (omega arith) in
    writes_as (sym (l.whole ∙ ap (λ t. l.done ++ (run c.loop-i.start c.loop-i.i text ++ t)) none ∙ ap (λ t. l.done ++ t) (append-nil _) ∙ end)) (l.written ⟩ c.put_all-2.ensures.written)
