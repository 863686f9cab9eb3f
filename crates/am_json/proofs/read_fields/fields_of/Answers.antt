use Rattle.std.proofs.Common.{◌≡◌, [], Some, inr, refl, sym, ap, rules}
use Rattle.json.specs.Json.{value}
use Rattle.json.specs.Lex.{tokens}
use Rattle.serde_json.specs.Read.{read}
use Rattle.am_json.proofs.Converted.{whole_read}
use Rattle.am_json.proofs.Values.{json_of_text, json_of_none}
use Rattle.am_json.proofs.read_fields.fields_of.Goals as goal

pub returns-in_default-clause-err : goal.returns-in_default-clause-err
returns-in_default-clause-err c =
    inr (refl, json_of_none c.args.bytes.now (λ text. absurd (c.in_default.ensures text)))

pub returns-clause-ok : goal.returns-clause-ok
returns-clause-ok c =
    let bytes = c.args.bytes.now in
    let (d, found, kept) = c.in_ok-value.ensures.ok in
    let none : c.read_value.new.reader ≡ [] = search rules in
    let whole : read bytes ≡ Some d =
    whole_read (value 127 (tokens bytes)) d
    (rw (c.in_ok-reader.ensures.ok, c.in-Ok.ensures.0, none) at found) in
    rw (json_of_text bytes d c.in-Ok.ensures.1 whole) (ap Some (sym kept))
