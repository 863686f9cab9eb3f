-- A name is new, or it was mentioned before.
use Rattle.std.proofs.Common.{◌≡◌, List, Bor, ℕ, map, refl, sym, ap, ◌∙◌, true, false}
use Rattle.std.specs.List.{list_any}
use Rattle.std.proofs.lemmas.Bool.{not-true, not-false}
use Rattle.am_universe.specs.Text.{same_text}
use Rattle.am_report_texts.specs.EachOnce.{with_text}
use Rattle.am_unseen.specs.Search.{Mentions, mentioned, texts_of}
use Rattle.am_unseen.specs.UnseenNames.{Mention}
use Rattle.am_unseen.proofs.FirstMentions.{new_name, known_name}
use Rattle.am_unseen.proofs.SeenValues.{text_there, texts_inserted}
use Rattle.am_unseen.proofs.mentions.Mentions.add.Goals as goal

pub returns-in_ok-push : goal.returns-in_ok-push
returns-in_ok-push c =
    let keys = c.self.inside.names.keys in
    let m : Mention = (c.args.origin.now, c.args.name.now) in
    let s : Mentions = record { names = texts_of c.self.inside.names; firsts = c.self.inside.firsts.items } in
    let named : texts_of c.insert.new.self ≡ with_text s.names m.1 =
    ap (map (λ (t : Bor (List ℕ)). t.now)) c.in_ok-insert.ensures.keys
    ∙ texts_inserted _ (λ x y. refl) keys c.args.name in
    let new : list_any (same_text m.1) s.names ≡ false =
    sym (text_there _ m.1 (λ k. refl) keys)
    ∙ not-true _ (sym c.in_ok-insert.ensures.added ∙ c.if-branch.true) in
    new_name s m (texts_of c.insert.new.self) c.push.new.self.items named new c.in_ok-push.ensures.items
    ∙ ap (λ s. mentioned s m) c.self.view_is

pub returns-else-branch : goal.returns-else-branch
returns-else-branch c =
    let keys = c.self.inside.names.keys in
    let m : Mention = (c.args.origin.now, c.args.name.now) in
    let s : Mentions = record { names = texts_of c.self.inside.names; firsts = c.self.inside.firsts.items } in
    let named : texts_of c.insert.new.self ≡ with_text s.names m.1 =
    ap (map (λ (t : Bor (List ℕ)). t.now)) c.in_ok-insert.ensures.keys
    ∙ texts_inserted _ (λ x y. refl) keys c.args.name in
    let there : list_any (same_text m.1) s.names ≡ true =
    sym (text_there _ m.1 (λ k. refl) keys)
    ∙ not-false _ (sym c.in_ok-insert.ensures.added ∙ c.if-branch.false) in
    known_name s m (texts_of c.insert.new.self) s.firsts named there refl
    ∙ ap (λ s. mentioned s m) c.self.view_is
