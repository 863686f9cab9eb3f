use Rattle.std.proofs.Common.{◌≡◌, ◌<◌, ◌++◌, ◌∷◌, [], inl, inr, length, map, sym, ap, ◌∙◌, arith, string_bytes}
use Rattle.std.proofs.lemmas.Bool.{cases_eq}
use Rattle.std.proofs.lemmas.List.{length_push, map-append, length-map, get_or_push, get_or_append_left}
use Rattle.std.proofs.lemmas.Option.{unwrap_or-slice_get}
use Rattle.am_alerts.specs.SilenceIds.{name_at, called}
use Rattle.am_alerts.proofs.silence_ids.SilenceIds.names.Goals as goal

pub loop-silence-preserved : goal.loop-silence-preserved
loop-silence-preserved c =
    let old = map string_bytes c.loop-silence.names.items in
    let name = string_bytes c.in_ok-name_of.field-0 in
    let silence = c.loop-silence.silence in
    let count : length old ≡ silence =
    length-map c.loop-silence.names.items string_bytes ∙ c.loop-silence.invariant.count in
    let items = ap (map string_bytes) c.in_ok-push.ensures.items
    ∙ map-append string_bytes c.loop-silence.names.items (c.in_ok-name_of.field-0 ∷ []) in
    record {
      count = omega (
        arith,
        ap length c.in_ok-push.ensures.items,
        length_push c.loop-silence.names.items c.in_ok-name_of.field-0,
        c.loop-silence.invariant.count,
      );
      named = λ i below. ap (λ names. name_at names i) items ∙ unwrap_or-slice_get (old ++ name ∷ []) i []
          ∙ (elim (cases_eq i silence) [
            | inl here ↦ get_or_push old name [] i (count ∙ sym here) ∙ c.in_ok-name_of.ensures
                ∙ ap (called c.args.self.now) (sym here)
            | inr apart ↦
                let within : i < length old = omega (arith, below, apart, count) in
                get_or_append_left old (name ∷ []) [] i within ∙ sym (unwrap_or-slice_get old i [])
                ∙ c.loop-silence.invariant.named i (omega (arith, within, count))
          ]);
    }
