-- The stage of the first fault of making a universe, or of checking one.
use Rattle.std.proofs.Common.{ℕ, ◌∷◌, List, inl, inr, sym, subst}
use Rattle.am_universe.specs.declared.place.Place.{Place}
use Rattle.am_universe.proofs.ListLemmas.{IsIn}
use Rattle.am_labels.specs.Space.{Space}
use Rattle.am_json.specs.Pointer.{Refusal}
use Rattle.am_files.specs.Faults.{IsFirstFaultOfCall, later_stages}
use Rattle.am_files.specs.Files.{config_of}
use Rattle.am_eval.specs.Question.{Question}
use Rattle.am_eval.specs.World.{World}
use Rattle.am_files.proofs.FirstFaults.{first_behind_timeless, refused_later}
use Rattle.am_asked.specs.OriginPointer.{matcher_places}
use Rattle.am_asked.proofs.MatcherPlaces.{origin_in}
use Rattle.am_universe_command.specs.declared.universe_form.UniverseForm.{UniverseForm}
use Rattle.am_universe_command.specs.UniverseInputs.{UniverseInputs, AcceptsUniverseInputs}
use Rattle.am_universe_command.specs.UniverseInputs.{HasListsIfAny, questions_stage}
use Rattle.am_universe_command.specs.Universes.{IsMakingRefusal, RefusesMaking, universe_promise}

making_in : (form : UniverseForm) (s : Space) (lists : List (List ℕ)) (w : World)
    (questions : List Question) (place : Place) (r : Refusal)
    → IsMakingRefusal form s lists w questions place r → IsIn matcher_places place
making_in form s lists w questions place r (inl full) = inl (sym full.0)
making_in form s lists w questions place r (inr (inl unproved)) =
    subst (IsIn matcher_places) (sym unproved.1.2) (origin_in unproved.1.0.first)
making_in form s lists w questions place r (inr (inr long)) = inl (sym long.stands)

-- no universe file is made
pub making_refused : (inputs : UniverseInputs) (form : UniverseForm) (s : Space)
    (lists : List (List ℕ)) (w : World) (questions : List Question) (place : Place) (r : Refusal)
    → AcceptsUniverseInputs inputs s w questions → HasListsIfAny inputs.universe lists
    → IsMakingRefusal form s lists w questions place r
    → IsFirstFaultOfCall (universe_promise inputs form).stages place r
making_refused inputs form s lists w questions place r accepts has refused =
    let later = later_stages matcher_places (RefusesMaking inputs form) in
    inr (
      (s, accepts.says_universe),
      first_behind_timeless inputs.files w
          (questions_stage (config_of inputs.files.config) inputs.questions ∷ later) place r
          accepts.accepts_files
          (inr (
            (w.config, accepts.accepts_files.says_config, questions, accepts.reads),
            refused_later (RefusesMaking inputs form) place r
                (s, lists, w, questions, accepts, has, refused)
                matcher_places (making_in form s lists w questions place r refused),
          )),
    )
