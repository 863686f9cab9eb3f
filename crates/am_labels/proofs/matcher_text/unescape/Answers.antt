use Rattle.std.proofs.Common.{arith, None, Some, string_bytes, rules}
use Rattle.std.proofs.lemmas.Str.Pattern.{split_parts}
use Rattle.am_labels.proofs.MatcherTextCuts.{told_on, told_all}
use Rattle.am_labels.proofs.matcher_text.unescape.Goals as goal

pub loop-plain-preserved : goal.loop-plain-preserved
loop-plain-preserved c =
    let rest = c.loop-plain.rest.now in
    let escape = c.read_escape-character in
    let parts = split_parts 92 rest (Some (c.in-Some.plain, c.in-Some.behind))
    c.in-Some.ensures.cases (omega arith) in (
      search rules,
      rw (c.in_ok-push.ensures.bytes, c.in_ok-push.ensures.ascii escape.ensures.ascii, c.in_ok-push_str.ensures.bytes)
          (told_on (string_bytes c.loop-plain.value) rest _ c.loop-plain.invariant.1 c.in-Some.plain.now
          c.in-Some.behind.now escape.result.1.now escape.result.0 parts.0 parts.1 escape.ensures.value),
    )

pub returns : goal.returns
returns c =
    let rest = c.loop-plain.rest.now in
    let none = split_parts 92 rest None c.in_default.ensures.cases (omega arith) in
    rw c.in_ok-push_str-2.ensures.bytes
    (told_all (string_bytes c.loop-plain.value) rest _ c.loop-plain.invariant.1 none)
