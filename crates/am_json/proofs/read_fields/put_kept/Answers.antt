use Rattle.std.proofs.Common.{◌≡◌, false, string_bytes, ap, arith, ◌∙◌, rules}
use Rattle.serde_json.specs.Data.{put}
use Rattle.serde_json.specs.View.{view, members_view}
use Rattle.serde_json.proofs.Views.{members_view-insert_entry}
use Rattle.am_json.specs.Kept.{is_nothing}
use Rattle.am_json.proofs.read_fields.put_kept.Goals as goal

pub returns-in_ok-insert : goal.returns-in_ok-insert
returns-in_ok-insert c =
    let copied : string_bytes c.in_ok-key.key ≡ c.args.key.now = search rules in
    let old = c.args.found.now.entries in
    let inserted : members_view c.insert.new.self.entries
    ≡ put c.args.key.now (view c.args.member) (members_view old) =
    ap members_view c.in_ok-insert.ensures.entries
    ∙ members_view-insert_entry old c.in_ok-key.key c.args.member
    ∙ ap (λ name. put name (view c.args.member) (members_view old)) copied in
    let kept : is_nothing c.args.keep ≡ false = grind arith in
    rw kept (record { ok = inserted })
