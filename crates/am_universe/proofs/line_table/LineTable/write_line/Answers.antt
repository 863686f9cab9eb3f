-- Each turn adds the piece of one more label.
use Rattle.std.proofs.Common.{◌≡◌, ◌+◌, ◌<◌, length, ap, ◌∙◌, ◌∷◌, [], ◌++◌, drop, subst, arith, length-append}
use Rattle.std.proofs.lemmas.List.{length-map}
use Rattle.am_universe.specs.LineTable.{IsLineTable}
use Rattle.am_universe.proofs.Writing.{writes_as}
use Rattle.am_universe.proofs.LineTableLemmas.{pieces_text, same_count, has_piece, text_more, pieces_fit, line_of_pieces}
use Rattle.am_universe.proofs.line_table.LineTable.write_line.Goals as goal

pub loop-i-init : goal.loop-i-init
loop-i-init g c =
    let labels = c.self.inside.labels in
    record {
      count = omega (arith, c.len-i-end.ensures, labels.ok.0, same_count c.self.inside.universe.value labels.items c.self.invariant.pieces, ap length c.self.view_is);
      same = c.self.view_is;
      table = subst (λ u. IsLineTable u labels.items c.clear.new.self) c.self.view_is
          (record { pieces = c.self.invariant.pieces; room = λ d whole. omega (arith, c.self.invariant.room d whole, c.clear.ensures.capacity) });
      text = c.clear.ensures.items;
    }

pub index-requires-in-loop-i : goal.index-requires-in-loop-i
index-requires-in-loop-i g c =
    let labels = c.loop-i.self-inside.labels in
    let inside : c.loop-i.i < length labels.items = omega (arith, c.loop-i-test.true, c.loop-i.invariant.count, same_count c.args.self.now labels.items c.loop-i.invariant.table.pieces) in
    has_piece c.args.self.now labels.items c.args.choice.now c.loop-i.i _ c.index.result.now c.loop-i.invariant.table.pieces c.requires inside c.index.ensures (c.from.ensures ∙ c.get.ensures.position)

pub add_within_room-requires : goal.add_within_room-requires
add_within_room-requires g c =
    let u = c.args.self.now in
    let chosen = c.args.choice.now in
    let labels = c.loop-i.self-inside.labels in
    let line = c.loop-i.self-inside.line in
    let piece = c.as_slice-piece.result.now in
    let whole : length chosen ≡ length u = c.requires.1 ∙ length-map _ _ in
    let inside : c.loop-i.i < length labels.items = omega (arith, c.loop-i-test.true, c.loop-i.invariant.count, same_count c.args.self.now labels.items c.loop-i.invariant.table.pieces) in
    let more = text_more u labels.items chosen c.loop-i.i _ c.index.result.now c.loop-i.invariant.table.pieces c.requires inside c.index.ensures (c.from.ensures ∙ c.get.ensures.position)
    c.index-in-loop-i.result.now piece c.index-in-loop-i.ensures c.as_slice-piece.ensures.value in
    let count = length-append (pieces_text u chosen c.loop-i.i) piece in
    omega (arith, line.ok.0, ap length c.loop-i.invariant.text, count, ap length more, pieces_fit u chosen (c.loop-i.i + 1) whole, c.loop-i.invariant.table.room chosen whole)

pub loop-i-preserved : goal.loop-i-preserved
loop-i-preserved g c =
    let u = c.args.self.now in
    let labels = c.loop-i.self-inside.labels in
    let inside : c.loop-i.i < length labels.items = omega (arith, c.loop-i-test.true, c.loop-i.invariant.count, same_count c.args.self.now labels.items c.loop-i.invariant.table.pieces) in
    let piece = c.as_slice-piece.result.now in
    let more = text_more u labels.items c.args.choice.now c.loop-i.i _ c.index.result.now c.loop-i.invariant.table.pieces c.requires inside c.index.ensures (c.from.ensures ∙ c.get.ensures.position)
    c.index-in-loop-i.result.now piece c.index-in-loop-i.ensures c.as_slice-piece.ensures.value in
    record {
      count = c.loop-i.invariant.count;
      same = c.loop-i.invariant.same;
      table = record {
        pieces = c.loop-i.invariant.table.pieces;
        room = λ d whole. omega (arith, c.loop-i.invariant.table.room d whole, c.add_within_room.ensures.capacity);
      };
      text = c.add_within_room.ensures.items ∙ ap (λ t. t ++ piece) c.loop-i.invariant.text ∙ more;
    }

pub add_within_room-requires-2 : goal.add_within_room-requires-2
add_within_room-requires-2 g c =
    let u = c.args.self.now in
    let chosen = c.args.choice.now in
    let labels = c.loop-i.self-inside.labels in
    let whole : length chosen ≡ length u = c.requires.1 ∙ length-map _ _ in
    let all : c.loop-i.i ≡ length u = omega (arith, c.loop-i-test.false, c.loop-i.invariant.count) in
    let text = c.open_brace.ensures.items ∙ ap (λ t. 123 ∷ drop 1 t) c.loop-i.invariant.text in
    let count = length-append (123 ∷ drop 1 (pieces_text u chosen c.loop-i.i)) (125 ∷ 10 ∷ []) in
    omega (arith, c.open_brace.new.line.ok.0, ap length text, count, ap length (line_of_pieces u chosen c.loop-i.i whole all), c.loop-i.invariant.table.room chosen whole, c.open_brace.ensures.capacity)

pub returns-clause-written : goal.returns-clause-written
returns-clause-written g c =
    let u = c.args.self.now in
    let labels = c.loop-i.self-inside.labels in
    let whole : length c.args.choice.now ≡ length u = c.requires.1 ∙ length-map _ _ in
    let all : c.loop-i.i ≡ length u = omega (arith, c.loop-i-test.false, c.loop-i.invariant.count) in
    let opened = c.open_brace.ensures.items ∙ ap (λ t. 123 ∷ drop 1 t) c.loop-i.invariant.text in
    let text = c.as_slice.ensures.value ∙ c.add_within_room-2.ensures.items ∙ ap (λ t. t ++ (125 ∷ 10 ∷ [])) opened ∙ line_of_pieces u c.args.choice.now c.loop-i.i whole all in
    writes_as text c.put_all.ensures.written
