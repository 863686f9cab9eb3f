use Rattle.std.proofs.Common.{◌≡◌, ◌<◌, ◌-◌, [], ◌∷◌, length, None, Some, inr, refl, ap, ap₂, ◌∙◌, arith}
use Rattle.std.proofs.Common.{rules}
use Rattle.std.proofs.lemmas.Result.{IfOk-weaker}
use Rattle.json.specs.Token.{Token}
use Rattle.json.specs.Json.{parse_map, after_end_array, read_key, value}
use Rattle.json.specs.Reads.{token_of}
use Rattle.json.proofs.Grammar.{value_is, read_key-shorter}
use Rattle.serde_json.specs.Data.{null, boolean, number, string, array, object, put}
use Rattle.serde_json.specs.Data.{no_items, no_members}
use Rattle.serde_json.specs.Read.{of_json, converted, number_of}
use Rattle.serde_json.specs.View.{view, number_view, members_view}
use Rattle.serde_json.specs.declared.value.Value.{the_lemmas}
use Rattle.am_json.proofs.Converted.{first_array, first_object, item_read, item_refused}
use Rattle.am_json.proofs.Converted.{items_over, member_read, member_refused, key_refused}
use Rattle.am_json.proofs.Converted.{members_over}
use Rattle.am_json.proofs.KeptMembers.{put_ascends}
use Rattle.am_json.proofs.ReadTokens.{passed_on, refused, kept_whole}
use Rattle.am_json.proofs.ReadTokens.{array_kept, object_kept, add_item, items_then, items_moved}
use Rattle.am_json.proofs.ReadTokens.{none_before, none_behind, none_kept, item_kept, no_member_kept, member_kept}
use Rattle.am_json.proofs.read_fields.+read.Goals.{read_value-in_default-via-in-BeginArray+else-depth-gt0}
use Rattle.am_json.proofs.read_fields.+read.Goals.{read_value-in_default-via-in-BeginObject+else-depth-gt0-2}
use Rattle.am_json.proofs.read_fields.+read.Goals.{read_value-in_default-via-in_default}
use Rattle.am_json.proofs.read_fields.+read.Goals as goal

pub read_value-returns-in_err-text-clause-err : goal.read_value-returns-in_err-text-clause-err
read_value-returns-in_err-text-clause-err t c =
    let empty : c.args.reader.now ≡ [] = grind arith in
    let none = ap (converted of_json) (ap (value c.args.depth) empty ∙ value_is c.args.depth []) in
    refused c.from_residual.result c.in_err-text.field-0.0 _ c.from_residual.ensures.1
    (grind arith) none

pub read_value-returns-in_err-ok_or-in-Number-clause-err :
    goal.read_value-returns-in_err-ok_or-in-Number-clause-err
read_value-returns-in_err-ok_or-in-Number-clause-err t c =
    let is : c.args.reader.now ≡ Token.number c.in-Number.text.now ∷ c.next.new.self =
    grind arith in
    let out : number_of c.in-Number.text.now ≡ None = grind arith in
    let none : converted of_json (value c.args.depth c.args.reader.now) ≡ None =
    ap (converted of_json) (ap (value c.args.depth) is ∙ value_is c.args.depth _) ∙ rw out in
    refused c.from_residual-in_err-ok_or-in-Number.result c.in_err-ok_or-in-Number.field-0.0 _
    c.from_residual-in_err-ok_or-in-Number.ensures.1 (grind arith) none

pub read_value-returns-in_err-read_items-in-BeginArray-clause-err :
    goal.read_value-returns-in_err-read_items-in-BeginArray-clause-err
read_value-returns-in_err-read_items-in-BeginArray-clause-err t c =
    let is : c.args.reader.now ≡ Token.begin_array ∷ c.next.new.self = grind arith in
    let opened =
    first_array c.args.depth c.args.reader.now c.next.new.self is c.if-depth-gt0.true in
    passed_on c.from_residual-in_err-read_items-in-BeginArray.result _ _ _
    c.from_residual-in_err-read_items-in-BeginArray.ensures.1
    c.in_err-read_items-in-BeginArray.ensures.err
    (λ none. opened ∙ ap (parse_map array) none)

pub read_value-returns-in_err-read_members-in-BeginObject-clause-err :
    goal.read_value-returns-in_err-read_members-in-BeginObject-clause-err
read_value-returns-in_err-read_members-in-BeginObject-clause-err t c =
    let is : c.args.reader.now ≡ Token.begin_object ∷ c.next.new.self = grind arith in
    let opened =
    first_object c.args.depth c.args.reader.now c.next.new.self is c.if-depth-gt0-2.true in
    passed_on c.from_residual-in_err-read_members-in-BeginObject.result _ _ _
    c.from_residual-in_err-read_members-in-BeginObject.ensures.1
    c.in_err-read_members-in-BeginObject.ensures.err
    (λ none. opened ∙ ap (parse_map object) none)

pub read_value-returns-in-String-clause-ok : goal.read_value-returns-in-String-clause-ok
read_value-returns-in-String-clause-ok t c =
    let is : c.args.reader.now ≡ Token.string c.in-String.text.now ∷ c.next.new.self =
    grind arith in
    let read : converted of_json (value c.args.depth c.args.reader.now)
    ≡ Some (string c.in-String.text.now, c.next.new.self) =
    ap (converted of_json) (ap (value c.args.depth) is ∙ value_is c.args.depth _) in
    IfOk-weaker c.string_of.result _ _ (λ v kept. (string c.in-String.text.now, read, kept))
    c.string_of.ensures.ok

pub read_value-returns-in_ok-ok_or-in-Number-clause-ok :
    goal.read_value-returns-in_ok-ok_or-in-Number-clause-ok
read_value-returns-in_ok-ok_or-in-Number-clause-ok t c =
    let is : c.args.reader.now ≡ Token.number c.in-Number.text.now ∷ c.next.new.self =
    grind arith in
    let x = c.in_ok-ok_or-in-Number.field-0 in
    let in_range : number_of c.in-Number.text.now ≡ Some (number_view x) = grind arith in
    let read : converted of_json (value c.args.depth c.args.reader.now)
    ≡ Some (number (number_view x), c.next.new.self) =
    ap (converted of_json) (ap (value c.args.depth) is ∙ value_is c.args.depth _)
    ∙ rw in_range in
    (number (number_view x), read, kept_whole c.args.keep _ _ refl (search (rules, the_lemmas)))

pub read_value-returns-in-Bool-clause-ok : goal.read_value-returns-in-Bool-clause-ok
read_value-returns-in-Bool-clause-ok t c =
    let is : c.args.reader.now ≡ Token.boolean c.in-Bool.truth ∷ c.next.new.self =
    grind arith in
    let read : converted of_json (value c.args.depth c.args.reader.now)
    ≡ Some (boolean c.in-Bool.truth, c.next.new.self) =
    ap (converted of_json) (ap (value c.args.depth) is ∙ value_is c.args.depth _) in
    (boolean c.in-Bool.truth, read, kept_whole c.args.keep _ _ refl (search (rules, the_lemmas)))

pub read_value-returns-in-Null-clause-ok : goal.read_value-returns-in-Null-clause-ok
read_value-returns-in-Null-clause-ok t c =
    let is : c.args.reader.now ≡ Token.null ∷ c.next.new.self = grind arith in
    let read : converted of_json (value c.args.depth c.args.reader.now)
    ≡ Some (null, c.next.new.self) =
    ap (converted of_json) (ap (value c.args.depth) is ∙ value_is c.args.depth _) in
    (null, read, kept_whole c.args.keep _ _ refl (search (rules, the_lemmas)))

pub read_value-returns-in_ok-read_items-in-BeginArray-clause-ok :
    goal.read_value-returns-in_ok-read_items-in-BeginArray-clause-ok
read_value-returns-in_ok-read_items-in-BeginArray-clause-ok t c =
    let is : c.args.reader.now ≡ Token.begin_array ∷ c.next.new.self = grind arith in
    let opened =
    first_array c.args.depth c.args.reader.now c.next.new.self is c.if-depth-gt0.true in
    let found = c.in_ok-read_items-in-BeginArray in
    let (whole, read, kept) = found.ensures.ok in (
      array whole,
      opened ∙ ap (parse_map array) read,
      array_kept c.args.keep whole found.field-0 kept,
    )

pub read_value-returns-in_ok-read_members-in-BeginObject-clause-ok :
    goal.read_value-returns-in_ok-read_members-in-BeginObject-clause-ok
read_value-returns-in_ok-read_members-in-BeginObject-clause-ok t c =
    let is : c.args.reader.now ≡ Token.begin_object ∷ c.next.new.self = grind arith in
    let opened =
    first_object c.args.depth c.args.reader.now c.next.new.self is c.if-depth-gt0-2.true in
    let found = c.in_ok-read_members-in-BeginObject in
    let (whole, read, kept) = found.ensures.ok in (
      object whole,
      opened ∙ ap (parse_map object) read,
      object_kept c.args.keep whole found.field-0 kept,
    )

pub read_value-returns-in_default-clause-err : goal.read_value-returns-in_default-clause-err
unfolding value
read_value-returns-in_default-clause-err t c =
    let first : c.args.reader.now ≡ token_of c.in_ok-text.field-0 ∷ c.next.new.self = grind arith in
    let none : converted of_json (value c.args.depth c.args.reader.now) ≡ None =
    elim c.in_default.branch [
      | read_value-in_default-via-in-BeginArray+else-depth-gt0 w ↦
          let flat : c.args.depth ≡ 0 = omega (arith, w.if-depth-gt0.false) in
          ap (converted of_json) (ap₂ value flat
          (first ∙ ap (λ k. token_of k ∷ c.next.new.self) w.in-BeginArray.is))
      | read_value-in_default-via-in-BeginObject+else-depth-gt0-2 w ↦
          let flat : c.args.depth ≡ 0 = omega (arith, w.if-depth-gt0-2.false) in
          ap (converted of_json) (ap₂ value flat
          (first ∙ ap (λ k. token_of k ∷ c.next.new.self) w.in-BeginObject.is))
      | read_value-in_default-via-in_default w ↦
          let out : value c.args.depth c.args.reader.now ≡ None =
          rw (value_is c.args.depth c.args.reader.now, first) (grind (arith, w.in_default)) in
          ap (converted of_json) out
    ] in
    inr (refl, none)

pub read_items-loop-alloc-init : goal.read_items-loop-alloc-init
read_items-loop-alloc-init t c = record {
  turns = length c.args.reader.now;
  enough = omega arith;
  before = no_items;
  read = none_before _;
  kept = none_kept c.args.keep c.new-found.result.items c.new-found.ensures.items;
  shorter = omega arith;
}

pub read_items-returns-in_err-item-clause-err : goal.read_items-returns-in_err-item-clause-err
read_items-returns-in_err-item-clause-err t c =
    let p = value c.args.depth in
    let l = c.loop-alloc in
    let i = l.invariant in
    let going : (after_end_array l.reader ≡ None) × (c.take_end_array.new.self ≡ l.reader) =
    grind arith in
    passed_on c.from_residual.result _ _ _ c.from_residual.ensures.1
    (rw going.1 at c.in_err-item.ensures.err)
    (λ none. i.read ∙ ap (parse_map (items_then i.before))
    (item_refused p i.turns l.reader going.0 none))

pub read_items-loop-alloc-preserved : goal.read_items-loop-alloc-preserved
read_items-loop-alloc-preserved t c =
    let p = value c.args.depth in
    let l = c.loop-alloc in
    let i = l.invariant in
    let going : (after_end_array l.reader ≡ None) × (c.take_end_array.new.self ≡ l.reader) =
    grind arith in
    let r = c.read_value.new.reader in
    let done = c.in_ok-item.ensures in
    let less : length r < length l.reader = rw (← going.1) done.shorter in
    let (d, read, kept) = done.ok in
    let turn =
    item_read p i.turns l.reader r d (omega (arith, i.enough)) going.0 (rw (← going.1) read) in
    record {
      turns = i.turns - 1;
      enough = omega (arith, i.enough);
      before = add_item i.before d;
      read = i.read ∙ ap (parse_map (items_then i.before)) turn ∙ items_moved i.before d _;
      kept = rw c.in_ok-push_kept.ensures.ok
          (item_kept c.args.keep l.found.items c.in_ok-item.item i.before d i.kept
          (rw c.of_item.ensures at kept));
      shorter = omega (arith, i.shorter);
    }

pub read_items-returns-clause-ok : goal.read_items-returns-clause-ok
read_items-returns-clause-ok t c =
    let p = value c.args.depth in
    let l = c.loop-alloc in
    let i = l.invariant in
    let r = c.take_end_array.new.self in (
      i.before,
      i.read
          ∙ ap (parse_map (items_then i.before)) (items_over p i.turns l.reader r i.enough (grind arith))
          ∙ ap (λ ds. Some (ds, r)) (none_behind i.before),
      i.kept,
    )

pub read_members-loop-found-init : goal.read_members-loop-found-init
read_members-loop-found-init t c = record {
  turns = length c.args.reader.now;
  enough = omega arith;
  before = no_members;
  read = refl;
  ascend = tt;
  kept = no_member_kept c.args.keep c.new-found.result.entries c.new-found.ensures.empty;
  shorter = omega arith;
}

pub read_members-returns-in_err-key-clause-err : goal.read_members-returns-in_err-key-clause-err
read_members-returns-in_err-key-clause-err t c =
    let l = c.loop-found in
    let i = l.invariant in
    let p = value c.args.depth in
    let none : read_key l.reader ≡ None = grind arith in
    refused c.from_residual.result c.in_err-key.field-0.0 _ c.from_residual.ensures.1 (grind arith)
    (i.read ∙ key_refused p i.before i.turns l.reader none)

pub read_members-returns-in_err-member-clause-err :
    goal.read_members-returns-in_err-member-clause-err
read_members-returns-in_err-member-clause-err t c =
    let p = value c.args.depth in
    let l = c.loop-found in
    let i = l.invariant in
    let k = c.in-Some.key.now in
    let s = c.next_key.new.self in
    let named : read_key l.reader ≡ Some (Some k, s) = grind arith in
    passed_on c.from_residual-in_err-member.result _ _ _ c.from_residual-in_err-member.ensures.1
    c.in_err-member.ensures.err
    (λ none. i.read ∙ member_refused p i.before i.turns k l.reader s named none)

pub read_members-loop-found-preserved : goal.read_members-loop-found-preserved
read_members-loop-found-preserved t c =
    let p = value c.args.depth in
    let l = c.loop-found in
    let i = l.invariant in
    let k = c.in-Some.key.now in
    let s = c.next_key.new.self in
    let named : read_key l.reader ≡ Some (Some k, s) = grind arith in
    let r = c.read_value.new.reader in
    let done = c.in_ok-member.ensures in
    let less = read_key-shorter l.reader (Some k) s named in
    let lesser = done.shorter in
    let (d, read, kept) = done.ok in
    record {
      turns = i.turns - 1;
      enough = omega (arith, i.enough);
      before = put k d i.before;
      read = i.read
          ∙ member_read p i.before i.turns k l.reader s r d (omega (arith, i.enough)) named read;
      ascend = put_ascends k d i.before i.ascend;
      kept = rw (c.in_ok-put_kept.ensures.ok, c.of_member-inner.ensures)
          (member_kept c.args.keep k d (view c.in_ok-member.member) i.before
          (members_view l.found.entries) i.ascend i.kept (rw c.of_member-inner.ensures at kept));
      shorter = omega (arith, i.shorter);
    }

pub read_members-returns-clause-ok : goal.read_members-returns-clause-ok
read_members-returns-clause-ok t c =
    let p = value c.args.depth in
    let l = c.loop-found in
    let i = l.invariant in
    let r = c.next_key.new.self in (
      i.before,
      i.read ∙ members_over p i.before i.turns l.reader r i.enough (grind arith),
      i.kept,
    )
