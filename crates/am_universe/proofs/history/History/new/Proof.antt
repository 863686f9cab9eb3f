-- `new` makes a value without bytes, whose ghost field is the empty list.
use Rattle.std.proofs.Common.{[], ◌∷◌, refl}
use Rattle.std.proofs.raw_atomic.Walks.{proved}
use mir.Syntax.{a_type}
use mir.Val.{Val, vstruct, vcons, vnil}
use mir.MapTy.{inst_fn}
use base.Fml.{Fml}
use types.Kit.{‵, raw, ◌⊛◌, ◌$◌, ◌∵◌, !, qed, use0, keep, split, suffices, move, join, done}
use types.Run.{no_more, and_then, returns, enter}
use types.Part.{agg}
use types.ByLocal.{alloc_all, pass_all, free_all, look_at, get, sets}
use denote.Param.{layouts}
use denote.RattleType.{owns}
use denote.Shadow.{makes_shadow}
use denote.Signature.{type_at}
use denote.Steps.{nothing}
use denote.Triple.Entry.{alive}
use denote.Triple.Walked.{says, ends_at}
use Rattle.am_universe.specs.contracts.history.History.new as f
use Rattle.am_universe.specs.contracts.history.History.new.Key.{name as key}
use Rattle.am_universe.proofs.history.History.new.Statement.{statement}
use Rattle.am_universe.proofs.history.History.new.Code as code

pub new_spec : {M : Type 1} → statement M
new_spec 𝓤 𝓛 𝓜 𝓡 wired Y laws =
    let c = f.clauses Y 𝓛 𝓜.mem 𝓡.returns in
    proved 𝓛 (f.ended Y) tt c 𝓜 𝓡 tt
    (key (layouts (a_type ∷ []) (Y, tt))) (inst_fn (layouts (a_type ∷ []) (Y, tt)) code.function) (code.unfolded 𝓤 𝓛.H 𝓜 𝓡 wired (Y, tt))
    (λ κs. tt) (λ κs. tt) (λ κs qs bounds a g are.
    let v : Val = vstruct (vcons (vstruct vnil) vnil) in
    let O : Fml = (type_at (f.signature Y).result κs).own_val (record { of = record {}; items = [] }) (v ∷ []) in
    qed 𝓛 ((raw (alive 𝓛 (f.signature Y) κs qs) ⊛ ‵ (owns [] tt tt)) ∷ raw ((c κs a).requires g) ∷ []) ∵ split ! $ keep ! (0 ∷ []) $
    enter ! _ _ _ _ _ $ alloc_all ! (λ l. pass_all ! refl tt $
    sets ! (agg ! (no_more !)) refl (tt, tt) $ sets ! (agg ! (and_then ! (get ! refl) (no_more !))) refl (tt, (tt, tt)) $
    returns ! (look_at ! 0 refl) $ free_all ! refl $
    suffices ! _ (ends_at 𝓛 (f.ended Y) tt c ((κs, qs, bounds, a, tt), g) v (record { of = record {}; items = [] }) tt tt) $ says ! refl $
    use0 𝓛 (‵ O) (makes_shadow 𝓛 O ((λ vss. (tt, ((λ uss. (tt, tt)), tt))), tt) (((vstruct vnil ∷ [], tt), (refl, ((tt, (refl, tt)), tt))), tt)) $
    nothing ! $ join ! $ move ! (1 ∷ 0 ∷ []) $ join ! $ done !))
