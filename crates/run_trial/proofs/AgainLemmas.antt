-- Devices on which a run is underway stand at its opening in another run, whose outside has named no message yet.
use Rattle.std.proofs.Common.{◌≡◌, ◌⊎◌, ℕ, Bool, false, List, [], ◌∷◌, ◌++◌, inl, inr, refl, subst, sym, ⊎_elim}
use Rattle.std.specs.Prelude.{Contains, flat_map}
use Rattle.std.proofs.lemmas.List.Elements.{All-nil}
use Rattle.mailcore.specs.declared.side.Side.{Side}
use Rattle.mailcore.specs.declared.side.Side.TheVariants.{Far, Near}
use Rattle.rules.specs.declared.options.Options.{Options}
use Rattle.rules.specs.declared.plan.Plan.{Plan}
use Rattle.rules.specs.declared.plan.Step.{Step}
use Rattle.rules.specs.World.{World, store}
use Rattle.sync_state.specs.declared.version.Version.{Version}
use Rattle.sync_state.specs.declared.journal.Logged.{Logged}
use Rattle.law_outcome.specs.Steps.{Rises}
use Rattle.law_outcome.specs.CommitLaws.{results_of}
use Rattle.outside.specs.Devices.{Device, Named, box}
use Rattle.run_states.specs.Conditions.{IsOver, IsPending}
use Rattle.run_states.specs.Moments.{Midway, Stands}
use Rattle.run_states.specs.Openings.{Opening, Unplanned}
use Rattle.run_states.specs.Plans.{NamedBy, names_of}
use Rattle.maildir.specs.Gains.{nobody}
use Rattle.run_trial.specs.Laws.{StandAgain}
use Rattle.run_trial.specs.Memory.{Interrupted}
use Rattle.run_trial.specs.Openings.{StandsAt}

-- with no message named
abbrev forgetful : Device → Device
forgetful d = record d { named = [] }

none_named : (earlier : List Named) (steps : List Step) → earlier ≡ [] → NamedBy earlier steps []
none_named earlier steps none = record { since = []; now = sym none; each = All-nil (λ n. Contains (flat_map names_of steps) n) }

module _ (ours : List ℕ → Bool) (alone : Bool) (earlier : List Named) (none : earlier ≡ []) (w : World) (options : Options) where
  midway : (version : Version) (plan : Plan) (log : List Logged) (is_torn : Bool) (results : List Logged) (is_half : Bool) (d : Device)
      → Midway ours alone earlier w options version plan log is_torn results is_half d → Midway ours alone earlier w options version plan log is_torn results is_half (forgetful d)
  midway version plan log is_torn results is_half d m = record {
    planned = m.planned;
    files = m.files;
    fit = m.fit;
    validity = same_validity;
    rises = same_rise;
    boxes = m.boxes;
    named = none_named earlier plan.steps none;
    nobody = m.nobody;
  }
    where
      same_validity : (side : Side) → (box (forgetful d) side).validity ≡ (store w side).validity
      same_validity Far = m.validity Far
      same_validity Near = m.validity Near

      same_rise : (side : Side) → Rises side (store w side).next plan.steps (results_of results) (box (forgetful d) side).next
      same_rise Far = m.rises Far
      same_rise Near = m.rises Near

  stands : (version : Version) (plan : Plan) (log : List Logged) (is_torn : Bool) (d : Device) → Stands ours alone earlier w options version plan log is_torn d
      → Stands ours alone earlier w options version plan log is_torn (forgetful d)
  stands version plan log is_torn d (inl k) = inl (k.0, midway version plan log is_torn log k.0 d k.1)
  stands version plan log is_torn d (inr k) = inr (k.0, midway version plan log is_torn (log ++ k.0 ∷ []) false d k.1)

unplanned : {ours : List ℕ → Bool} {alone : Bool} (opening : Opening ours alone) (d : Device) → opening.named ≡ [] → Unplanned opening d → Unplanned opening (forgetful d)
unplanned opening d none u = record {
  pending = u.pending;
  idle = u.idle;
  files = u.files;
  chosen = u.chosen;
  below = u.below;
  grows = u.grows;
  named = sym none;
  unlisted = u.unlisted;
}

pending : {ours : List ℕ → Bool} {alone : Bool} (opening : Opening ours alone) (d : Device) → opening.named ≡ [] → IsPending opening d → IsPending opening (forgetful d)
pending {ours} {alone} opening d none p =
    let at = p.holds in
    record {
      world = p.world;
      listed = p.listed;
      grows = p.grows;
      waited = p.waited;
      admitted = p.admitted;
      below = p.below;
      within = p.within;
      holds = record {
        version = at.version;
        plan = at.plan;
        log = at.log;
        is_torn = at.is_torn;
        stands = stands ours alone opening.named none p.world opening.options at.version at.plan at.log at.is_torn d at.stands;
      };
    }

pub stand_again : StandAgain
stand_again ours alone opening d none room (inl u) = inl (record { called = refl; at_opening = record { room = room; open_run = inl (unplanned opening d none u) } })
stand_again ours alone opening d none room (inr (inl p)) = inl (record { called = refl; at_opening = record { room = room; open_run = inr (pending opening d none p) } })
stand_again ours alone opening d none room (inr (inr over)) = inr over

-- where the first run was interrupted
pub stands_interrupted : (opening : Opening nobody.ours nobody.alone) (options : Options) (left d : Device) → Interrupted opening options left d → StandsAt opening options d ⊎ IsOver opening left
stands_interrupted opening options left d i =
    ⊎_elim (λ at. inl (subst (λ (o : Options). StandsAt opening o d) i.called (subst (StandsAt opening opening.called) (sym i.forgotten) at))) (λ over. inr over)
    (stand_again nobody.ours nobody.alone opening left i.unnamed i.room i.underway)
