use Rattle.std.proofs.Common.{◌≡◌, ℕ, ◌+◌, ◌*◌, ◌≤◌, length}
use Rattle.json.specs.Json.{items, members, value, parse_map}
use Rattle.serde_json.specs.Data.{Items, Members, no_members}
use Rattle.serde_json.specs.Read.{of_items, of_members, converted}
use Rattle.serde_json.specs.View.{items_view, members_view}
use Rattle.am_json.specs.Kept.{AreItemsKept, AreMembersKept}
use Rattle.am_json.proofs.KeptMembers.{Ascend}
use Rattle.am_json.proofs.ReadTokens.{items_then}
use Rattle.am_json.proofs.read_fields.+read.Given as goal

abbrev pub decreases-read_value : goal.decreases-read_value
decreases-read_value l = 2 * l.depth

abbrev pub decreases-read_items : goal.decreases-read_items
decreases-read_items l = 2 * l.depth + 1

abbrev pub decreases-read_members : goal.decreases-read_members
decreases-read_members l = 2 * l.depth + 1

-- all items are those read so far, and those that at most `turns` more turns read
abbrev pub invariant-read_items-loop-alloc : goal.invariant-read_items-loop-alloc
invariant-read_items-loop-alloc l = record {
  turns : ℕ;
  enough : length l.reader ≤ turns;
  before : Items;
  read : converted of_items (items (value l.depth) (length l.initial.reader) l.initial.reader)
      ≡ parse_map (items_then before) (converted of_items (items (value l.depth) turns l.reader));
  kept : AreItemsKept l.keep before (items_view l.found.items);
  shorter : length l.reader ≤ length l.initial.reader;
}

abbrev pub decreases-read_items-loop-alloc : goal.decreases-read_items-loop-alloc
decreases-read_items-loop-alloc l = length l.reader

abbrev pub invariant-read_members-loop-found : goal.invariant-read_members-loop-found
invariant-read_members-loop-found l = record {
  turns : ℕ;
  enough : length l.reader ≤ turns;
  before : Members;
  read : converted (λ ms. of_members ms no_members)
      (members (value l.depth) (length l.initial.reader) l.initial.reader)
      ≡ converted (λ ms. of_members ms before) (members (value l.depth) turns l.reader);
  ascend : Ascend before;
  kept : AreMembersKept l.keep before (members_view l.found.entries);
  shorter : length l.reader ≤ length l.initial.reader;
}

abbrev pub decreases-read_members-loop-found : goal.decreases-read_members-loop-found
decreases-read_members-loop-found l = length l.reader
