-- One more pair of a literal and a matcher.
use Rattle.std.proofs.Common.{◌≡◌, ◌++◌, ◌∷◌, [], List, length, take, cond, Bor, refl, ap, sym, ◌∙◌}
use Rattle.std.proofs.Common.{rules, append-nil}
use Rattle.std.specs.Iterator.Adapters.{zip_first, zip_second}
use Rattle.std.specs.Slice.Iter.{iter_rest}
use Rattle.std.proofs.lemmas.List.{length_push}
use Rattle.std.proofs.lemmas.Option.{slice_get_read}
use Rattle.std.proofs.lemmas.Slice.Zip.{zip_turn, zip_end}
use Rattle.am_labels.specs.Matcher.{Matcher}
use Rattle.am_first_sets.specs.declared.candidate.Candidate.{Candidate}
use Rattle.am_route_alerts.specs.declared.matcher_cubes.KnownMatcher.{KnownMatcher}
use Rattle.am_route_alerts.proofs.ShortenedLemmas.{kept_of, kept_more, kept_all}
use Rattle.am_route_alerts.proofs.shortened.named_matchers.Goals.{In-Some}
use Rattle.am_route_alerts.proofs.shortened.named_matchers.Goals as goal

abbrev so_far : In-Some → List (Bor Candidate × Bor KnownMatcher) → List (Bor Matcher)
so_far c seen =
    kept_of (take (length seen) c.args.literals.now) (take (length seen) c.args.matchers.now)

more : (c : In-Some) (kept : List (Bor Matcher))
    → kept ≡ c.loop-literal.kept.items
    ++ cond c.in-Some.literal.now.named (c.in-Some.known.now.matcher ∷ []) []
    → kept ≡ so_far c (c.loop-literal.yielded ++ (c.in-Some.literal, c.in-Some.known) ∷ [])
more c kept is =
    let ks = c.args.literals.now in
    let ms = c.args.matchers.now in
    let seen = c.loop-literal.yielded in
    let n = length seen in
    let k = c.in-Some.literal.now in
    let known = c.in-Some.known.now in
    let first : iter_rest (zip_first c.into_iter-literal-iterator.result) ≡ ks = search rules in
    let second : iter_rest (zip_second c.into_iter-literal-iterator.result) ≡ ms = search rules in
    let turn =
    zip_turn ks ms seen c.into_iter-literal-iterator.result c.loop-literal.literal-iterator
    c.next.new.self c.next.result first second c.loop-literal.yielded_by
    (c.in-Some.literal, c.in-Some.known) c.in-Some.is c.next.ensures.steps in
    let here =
    kept_more ks ms n k known (slice_get_read ks (length ks) n k refl turn.0 (turn.2 k))
    (slice_get_read ms (length ms) n known refl turn.1 (turn.3 known)) in
    is ∙ ap (λ xs. xs ++ cond k.named (known.matcher ∷ []) []) c.loop-literal.invariant ∙ sym here
    ∙ ap (λ m. kept_of (take m ks) (take m ms))
    (sym (length_push seen (c.in-Some.literal, c.in-Some.known)))

pub loop-literal-preserved-in-Continue-1 : goal.loop-literal-preserved-in-Continue-1
loop-literal-preserved-in-Continue-1 c =
    more (goal.at.loop-literal-preserved-in-Continue-1 c).In-Some c.push.new.self.items
    (c.in_ok-push.ensures.items
    ∙ ap (λ b. c.loop-literal.kept.items ++ cond b (c.in-Some.known.now.matcher ∷ []) [])
    (sym c.if-literal.true))

pub loop-literal-preserved : goal.loop-literal-preserved
loop-literal-preserved c =
    more (goal.at.loop-literal-preserved c).In-Some c.loop-literal.kept.items
    (sym (append-nil c.loop-literal.kept.items)
    ∙ ap (λ b. c.loop-literal.kept.items ++ cond b (c.in-Some.known.now.matcher ∷ []) [])
    (sym c.if-literal.false))

pub returns : goal.returns
returns c =
    let ks = c.args.literals.now in
    let ms = c.args.matchers.now in
    let seen = c.loop-literal.yielded in
    let first : iter_rest (zip_first c.into_iter-literal-iterator.result) ≡ ks = search rules in
    let second : iter_rest (zip_second c.into_iter-literal-iterator.result) ≡ ms = search rules in
    let end =
    zip_end ks ms seen c.into_iter-literal-iterator.result c.loop-literal.literal-iterator
    c.next.new.self c.next.result first second c.loop-literal.yielded_by c.in-None.is
    c.next.ensures.steps in
    c.loop-literal.invariant ∙ kept_all ks ms (length seen) end
