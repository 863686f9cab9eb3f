use Rattle.std.proofs.Common.{◌≡◌, List, [], ap, rules, string_bytes}
use Rattle.std.proofs.lemmas.Result.{err_from_is_err_and}
use Rattle.serde_json.specs.View.{view, members_view}
use Rattle.serde_json.proofs.Views.{Entry}
use Rattle.am_json.specs.Json.{member_list}
use Rattle.am_json.proofs.Items.{goes_on, ends, is_done}
use Rattle.am_json.proofs.each_item.read_each_member.Goals as goal

pub returns-in_err-all : goal.returns-in_err-all
returns-in_err-all g c = record {
  reading = λ reading gives.
      let l = c.loop-name in
      let p = err_from_is_err_and c.from_residual.result c.from_residual.ensures.1 in
      let read = gives l.all c.as_str.result c.in-Some.value c.read.result c.read.ensures in
      rw (p.1, p.2) (ends reading c.in_err-all.field-0.0 l.all
      (member_list (members_view l.name-iterator))
      (string_bytes c.in-Some.name.now, view c.in-Some.value.now)
      (member_list (members_view c.next.new.self)) _
      (ap (λ (es : List Entry). member_list (members_view es)) c.in-Some.ensures.steps)
      (rw (c.as_str.ensures.value, c.in_err-all.was) at read) (l.invariant reading gives));
}

pub loop-name-preserved : goal.loop-name-preserved
loop-name-preserved g c = λ reading gives.
    let l = c.loop-name in
    let read = gives l.all c.as_str.result c.in-Some.value c.read.result c.read.ensures in
    goes_on reading l.all c.in_ok-all.all (member_list (members_view l.name-iterator))
    (string_bytes c.in-Some.name.now, view c.in-Some.value.now)
    (member_list (members_view c.next.new.self)) _
    (ap (λ (es : List Entry). member_list (members_view es)) c.in-Some.ensures.steps)
    (rw (c.as_str.ensures.value, c.in_ok-all.was) at read) (l.invariant reading gives)

pub returns : goal.returns
returns g c = record {
  reading = λ reading gives.
      let none : c.loop-name.name-iterator ≡ [] = search rules in
      is_done reading c.loop-name.all (member_list (members_view c.loop-name.name-iterator)) _
      (ap (λ (es : List Entry). member_list (members_view es)) none)
      (c.loop-name.invariant reading gives);
}
