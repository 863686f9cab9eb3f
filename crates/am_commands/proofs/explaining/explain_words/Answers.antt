-- What was read is accepted, and what was found about it is what is written.
use Rattle.std.proofs.Common.{◌≡◌, ℕ, List, [], ◌∷◌, map, inl, refl}
use Rattle.am_universe.specs.LabelSet.{LabelMap}
use Rattle.am_json.specs.Reading.{refusal_of}
use Rattle.am_config.specs.ConfigFile.{Configuration}
use Rattle.am_config.specs.ConfigView.{config_view}
use Rattle.am_eval.specs.World.{World}
use Rattle.am_eval.specs.Routing.{ends}
use Rattle.am_eval.specs.Silencing.{silencers}
use Rattle.am_eval.specs.Inhibition.{inhibitors}
use Rattle.am_commands.specs.Explanation.{explanation_text, explain_promise}
use Rattle.am_files.specs.Faults.{set_stage}
use Rattle.am_files.specs.AcceptedWorld.{world_stages}
use Rattle.am_files.proofs.FirstFaults.{first_of_more, first_behind_world}
use Rattle.am_files.proofs.Promises.{refused, written, nothing_told}
use Rattle.am_commands.proofs.explaining.explain_words.Goals as goal

-- the text of what was found
text_of_found : (w : World) (s : LabelMap) (config : Configuration) (paths : List (List ℕ))
    (silences : List ℕ) (pairs : List (ℕ × ℕ)) → config ≡ w.config → paths ≡ ends s w.config
    → silences ≡ silencers w s → pairs ≡ inhibitors w s
    → explanation_text config s paths silences pairs
    ≡ explanation_text w.config s (ends s w.config) (silencers w s) (inhibitors w s)
text_of_found w s config paths silences pairs c e i p = λ k.
    explanation_text (c k) s (e k) (i k) (p k)

pub returns-in_err-world : goal.returns-in_err-world
returns-in_err-world g c =
    let fault = c.in_err-world.field-0.0 in
    let files = c.args.files.now in
    let words : List (List ℕ) = map (λ word. word.now) c.args.words.now in
    record {
      kept = refused (explain_promise files words) fault c.from_residual.result refl c.from_residual.ensures.1
          (λ remembered. first_of_more (world_stages files) (set_stage words ∷ [])
          fault.place (refusal_of fault) (c.in_err-world.ensures.first remembered));
    }

pub returns-in_err-set : goal.returns-in_err-set
returns-in_err-set g c =
    let fault = c.in_err-set.field-0.0 in
    let files = c.args.files.now in
    let words : List (List ℕ) = map (λ word. word.now) c.args.words.now in
    record {
      kept = refused (explain_promise files words) fault c.from_residual-in_err-set.result refl
          c.from_residual-in_err-set.ensures.1
          (λ remembered. first_behind_world files c.in_ok-world.world (set_stage words ∷ []) fault.place
          (refusal_of fault) c.in_ok-world.ensures.accepts
          (inl (c.in_err-set.ensures.refused remembered)));
    }

pub returns : goal.returns
returns g c =
    let words : List (List ℕ) = map (λ word. word.now) c.args.words.now in
    record {
      kept = written (explain_promise c.args.files.now words) tt _ c.write_explanation-written.result
          c.answer_of_write.result
          (record {
            world = c.in_ok-world.world;
            set = c.in_ok-set.set;
            accepts = c.in_ok-world.ensures.accepts;
            spelled = c.in_ok-set.ensures.spelled;
            explanation = text_of_found c.in_ok-world.world c.in_ok-set.set
                (config_view c.config.result.now) _ _ _ c.config.ensures.config c.in-Ok.ensures.ends
                c.in-Ok.ensures.silencers c.in-Ok.ensures.inhibitors;
          })
          (nothing_told c.write_explanation-written.result) c.write_explanation-written.ensures.written
          c.answer_of_write.ensures.answer;
    }
