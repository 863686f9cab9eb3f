use Rattle.std.proofs.Common.{◌≡◌, true, false, map, string_bytes}
use Rattle.serde_json.specs.View.{view}
use Rattle.am_json.specs.Json.{is_unknown}
use Rattle.am_json.proofs.Keys.{is_first, is_passed, still_ascends}
use Rattle.am_json.proofs.parts.unknown_field.Goals as goal

pub returns-then-is_unknown : goal.returns-then-is_unknown
returns-then-is_unknown c =
    let l = c.loop-key in
    let known = map (λ name. name.now) c.args.known.now in
    let unknown : is_unknown known (string_bytes c.in-Some.key.now) (view c.in-Some.value.now)
    ≡ true = rw (← c.as_str.ensures.value, ← c.is_unknown.ensures) c.if-is_unknown.true in
    rw c.as_str-then-is_unknown.ensures.value
    (is_first known l.key-iterator (c.in-Some.key.now, c.in-Some.value.now) c.next.new.self _
    c.in-Some.ensures.steps l.invariant.ascends l.invariant.same unknown)

pub loop-key-preserved : goal.loop-key-preserved
loop-key-preserved c =
    let l = c.loop-key in
    let known = map (λ name. name.now) c.args.known.now in
    let passed : is_unknown known (string_bytes c.in-Some.key.now) (view c.in-Some.value.now)
    ≡ false = rw (← c.as_str.ensures.value, ← c.is_unknown.ensures) c.if-is_unknown.false in
    record {
      same = is_passed known l.key-iterator (c.in-Some.key.now, c.in-Some.value.now) c.next.new.self
          _ c.in-Some.ensures.steps l.invariant.same passed;
      ascends =
          still_ascends l.key-iterator (c.in-Some.key.now, c.in-Some.value.now) c.next.new.self
          c.in-Some.ensures.steps l.invariant.ascends;
    }
