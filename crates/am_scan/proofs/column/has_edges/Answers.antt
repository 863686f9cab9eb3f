-- One more state, and all of them.
use Rattle.std.proofs.Common.{◌≡◌, ℕ, ◌<◌, List, [], ◌∷◌, ◌++◌, length, get_or, vec_len, sym, ap, ap₂, ◌∙◌, arith}
use Rattle.std.proofs.Math.Numerals.{add-one}
use Rattle.std.proofs.lemmas.Bool.{eqb-true}
use Rattle.std.proofs.lemmas.List.{take_more, take_all, append-nil}
use Rattle.regex_nfa.specs.States.{next_on}
use Rattle.am_scan.specs.declared.column.Edge.{Edge}
use Rattle.am_scan.specs.Column.{edge_from, first_edges}
use Rattle.am_scan.proofs.column.has_edges.Goals as goal
use Rattle.am_scan.proofs.column.has_edges.Goals.{in-Some+else-seen-edges+else-edge-q+else-edge-to, in_default}

-- a step from one state to another
abbrev step : ℕ → ℕ → Edge
step from to = record { from = from; to = to }

pub loop-q-preserved : goal.loop-q-preserved
loop-q-preserved c =
    let nfa = c.args.nfa.now in
    let q = c.loop-q.q in
    let edges = c.args.edges.now in
    let next = c.next_on.ensures.is ∙ ap (λ state. next_on nfa.transitions.items state c.args.byte) c.state.ensures.is in
    elim c.match-next_on.branch [
      | in-Some+else-seen-edges+else-edge-q+else-edge-to w ↦
          let below : c.loop-q.seen < length edges = omega (arith, c.loop-q.invariant.inside, w.if-seen-edges.false) in
          let edge : get_or edges c.loop-q.seen (step 0 0) ≡ step q w.in-Some.to = ap₂ step w.if-edge-q.false w.if-edge-to.false in
          record {
            inside = omega (arith, below, w.seen-is);
            same =
                rw (w.seen-is, add-one q)
                (take_more edges c.loop-q.seen (step 0 0) below
                ∙ ap₂ (λ (first : List Edge) last. first ++ last ∷ []) c.loop-q.invariant.same edge
                ∙ ap (λ to. first_edges nfa c.args.byte q ++ edge_from q to) (sym w.in-Some.is ∙ next));
          }
      | in_default w ↦
          record {
            inside = omega (arith, c.loop-q.invariant.inside, w.seen-is);
            same =
                rw (w.seen-is, add-one q)
                (c.loop-q.invariant.same ∙ sym (append-nil _)
                ∙ ap (λ to. first_edges nfa c.args.byte q ++ edge_from q to) (sym w.in_default.is ∙ next));
          }
    ]

pub returns : goal.returns
returns c = λ same.
    let nfa = c.args.nfa.now in
    let edges = c.args.edges.now in
    let count : c.loop-q.seen ≡ length edges = eqb-true _ _ same in
    let all : c.loop-q.q ≡ vec_len nfa.states = omega (arith, c.loop-q-test.false, c.loop-q.auto.q-end, c.len-q-end.ensures) in
    sym (take_all c.loop-q.seen edges (omega (arith, count))) ∙ c.loop-q.invariant.same ∙ ap (first_edges nfa c.args.byte) all
