-- The next literal is named, or it is not.
use Rattle.std.proofs.Common.{◌≡◌, length, Some, refl, sym, ap, ◌∙◌, ◌++◌, ◌∷◌, [], List, ℕ}
use Rattle.std.proofs.Common.{slice_get, append-nil}
use Rattle.std.proofs.lemmas.Option.{slice_get_read}
use Rattle.am_first_sets.specs.declared.candidate.Candidate.{Candidate}
use Rattle.am_lint.specs.Literals.{path_of}
use Rattle.am_lint.proofs.LiteralLemmas.{kept_more}
use Rattle.am_lint.proofs.arrival.named_routes.Goals as goal
use Rattle.am_lint.proofs.arrival.named_routes.Goals.{then-literal+in_ok-push, else-literal}

pub loop-literal-preserved : goal.loop-literal-preserved
loop-literal-preserved c =
    let routes = c.args.table.now.routes.items in
    let ks = c.args.literals.now in
    let i = c.loop-literal.literal-index in
    let k = c.literal-item.result in
    let at : slice_get ks i ≡ Some k =
    slice_get_read ks (length ks) i k refl c.loop-literal-test.true c.literal-item.is in
    let more = kept_more (λ (l : Candidate). l.named) (path_of routes) ks i k at in
    elim c.if-literal.branch [
      | then-literal+in_ok-push w ↦
          ap (λ v. v.items) w.routes-is ∙ w.in_ok-push.ensures.items
          ∙ ap (λ (r : List ℕ). c.loop-literal.routes.items ++ r ∷ []) w.path_at.ensures.path
          ∙ ap (λ (xs : List (List ℕ)). xs ++ path_of routes k ∷ []) c.loop-literal.invariant
          ∙ sym (more ∙ rw w.if-literal.true refl)
      | else-literal w ↦
          ap (λ v. v.items) w.routes-is ∙ c.loop-literal.invariant
          ∙ sym (more ∙ rw w.if-literal.false (append-nil _))
    ]
