-- `followed_by` makes a value without bytes, whose ghost field is the two lists joined.
use Rattle.std.proofs.Common.{List, [], ◌∷◌, ◌++◌, refl}
use Rattle.std.proofs.raw_atomic.Walks.{proved}
use mir.Syntax.{a_type, named}
use mir.Val.{Val, vstruct, vcons, vnil}
use mir.MapTy.{inst_fn}
use base.Fml.{Fml}
use types.Kit.{‵, raw, ◌⊛◌, ◌$◌, ◌∵◌, !, qed, use0, keep, split, suffices, move, join, fjoin, done}
use types.Run.{no_more, and_then, returns, enter}
use types.Part.{agg}
use types.ByLocal.{alloc_all, pass_all, free_all, look_at, get, sets}
use denote.Builtin.{RefOf, SliceRefOf}
use denote.Exit.{yes}
use denote.Param.{layouts}
use denote.RattleType.{owns}
use denote.Ref.{shr_vals, shr_Tells}
use denote.Shadow.{makes_shadow}
use denote.Signature.{plain, type_at, types_at}
use denote.Slice.{shr_slice_vals, shr_slice_Tells}
use denote.Steps.{nothing}
use denote.Triple.Entry.{alive}
use denote.Triple.Walked.{Stays, says, stay_dropped, Goes-dropped, ends_at}
use Rattle.am_universe.specs.contracts.history.History as T
use Rattle.am_universe.specs.contracts.history.History.followed_by as f
use Rattle.am_universe.specs.contracts.history.History.followed_by.Key.{name as key}
use Rattle.am_universe.proofs.history.History.followed_by.Statement.{statement}
use Rattle.am_universe.proofs.history.History.followed_by.Code as code

pub followed_by_spec : {M : Type 1} → statement M
followed_by_spec 𝓤 𝓛 𝓜 𝓡 wired Y laws =
    let c = f.clauses Y 𝓛 𝓜.mem 𝓡.returns in
    let stayed : Stays (f.ended Y).signature.params (f.ended Y).kept = (stay_dropped _ yes, (stay_dropped _ yes, tt)) in
    proved 𝓛 (f.ended Y) stayed c 𝓜 𝓡 (Goes-dropped 𝓛 3 (RefOf (0 ∷ []) tt (plain (λ _. T.the_row (f.T-row Y))) (λ _. tt)) yes (λ κs x w. refl), (Goes-dropped 𝓛 3 (SliceRefOf (1 ∷ []) tt (plain (λ _. f.T-row Y)) (λ _. tt)) yes (λ κs x w. refl), tt))
    (key (layouts (a_type ∷ []) (Y, tt))) (inst_fn (layouts (a_type ∷ []) (Y, tt)) code.function) (code.unfolded 𝓤 𝓛.H 𝓜 𝓡 wired (Y, tt))
    (λ κs. (shr_vals, (shr_slice_vals, tt))) (λ κs. (shr_Tells (named 0) κs.0 (T.the_row (f.T-row Y)), (shr_slice_Tells (named 1) κs.1.0 (f.T-row Y), tt))) (λ κs qs bounds a g are.
    let v : Val = vstruct (vcons (vstruct vnil) vnil) in
    let O : Fml = (type_at (f.signature Y).result κs).own_val (record { of = record {}; items = a.0.now.items ++ a.1.0.now }) (v ∷ []) in
    let passed : List Val × (List Val × Unit {0}) = (shr_vals a.0, (shr_slice_vals a.1.0, tt)) in
    qed 𝓛 ((raw (alive 𝓛 (f.signature Y) κs qs) ⊛ ‵ (owns (types_at (f.signature Y).params κs) a passed)) ∷ raw ((c κs a).requires g) ∷ []) ∵ split ! $ keep ! (0 ∷ []) $
    enter ! _ _ _ _ _ $ alloc_all ! (λ l. pass_all ! refl ((tt, tt), ((tt, (tt, (record { fits = are.1.0.0.1.0 }, tt))), tt)) $
    sets ! (agg ! (no_more !)) refl (tt, tt) $ sets ! (agg ! (and_then ! (get ! refl) (no_more !))) refl (tt, (tt, tt)) $
    returns ! (look_at ! 0 refl) $ free_all ! refl $
    suffices ! _ (ends_at 𝓛 (f.ended Y) stayed c ((κs, qs, bounds, a, passed), g) v (record { of = record {}; items = a.0.now.items ++ a.1.0.now }) (tt, (tt, tt)) (tt, (tt, tt))) $ says ! refl $
    use0 𝓛 (‵ O) (makes_shadow 𝓛 O ((λ vss. (tt, ((λ uss. (tt, tt)), tt))), tt) (((vstruct vnil ∷ [], tt), (refl, ((tt, (refl, tt)), tt))), tt)) $
    nothing ! $ nothing ! $ fjoin ! $ nothing ! $ fjoin ! $ join ! $ move ! (1 ∷ 0 ∷ []) $ join ! $ done !))
