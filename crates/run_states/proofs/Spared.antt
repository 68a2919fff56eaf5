-- What no step of a plan names is spared by the calls of its run.
use Rattle.std.proofs.Common.{◌≡◌, ◌≢◌, ◌⊎◌, ℕ, Bool, List, [], ◌∷◌, ◌++◌, All, inl, inr, length, refl, sym, ◌∙◌, ap, subst, arith, append_assoc, length-append}
use Rattle.std.specs.Prelude.{Contains, flat_map}
use Rattle.std.proofs.lemmas.List.Elements.{All-contains, All-weaker, Contains-append_left}
use Rattle.mailcore.specs.declared.side.Side.{Side}
use Rattle.mailcore.specs.Stores.{Waiting}
use Rattle.rules.specs.declared.options.Options.{Options}
use Rattle.rules.specs.declared.plan.Plan.{Plan}
use Rattle.rules.specs.declared.plan.Step.{Step}
use Rattle.rules.specs.World.{World, scene_of}
use Rattle.rules.proofs.Walks.{All-from_contains}
use Rattle.planner.specs.Listed.{marks_of}
use Rattle.planner.specs.Written.{all_steps}
use Rattle.outside.specs.Devices.{Device, Named}
use Rattle.outside.specs.Sparing.{AreOthers, IsAdmitted, Spares}
use Rattle.run_states.specs.Conditions.{IsPending, SparesOthers, Underway}
use Rattle.run_states.specs.Moments.{Stands}
use Rattle.run_states.specs.Openings.{Opening, Unplanned}
use Rattle.run_states.specs.Plans.{IsPlanned, LeavesOthers, NamedBy, names_of}
use Rattle.run_states.proofs.Ends.{marks_are}

-- ---- what was named since

cancel : (xs ys zs : List Named) → xs ++ zs ≡ ys ++ zs → xs ≡ ys
cancel [] [] zs e = refl
cancel [] (y ∷ ys) zs e =
    let l = ap (λ (ns : List Named). length ns) e in
    let k = length-append {A = Named} ys zs in
    absurd (omega (arith, l, k))
cancel (x ∷ xs) [] zs e =
    let l = ap (λ (ns : List Named). length ns) e in
    let k = length-append {A = Named} xs zs in
    absurd (omega (arith, l, k))
cancel (x ∷ xs) (y ∷ ys) zs e =
    let first : x ≡ y = cc in
    let rest : xs ++ zs ≡ ys ++ zs = cc in
    let same = cancel xs ys zs rest in
    cc

-- what was named since the opening: what was named by then, and what was named since then
pub since_is : (earlier before : List Named) (steps : List Step) (d d' : Device) → d.named ≡ before ++ earlier → (by : NamedBy earlier steps d'.named) (s : Spares d d') → s.since ++ before ≡ by.since
since_is earlier before steps d d' here by s =
    cancel (s.since ++ before) by.since earlier (append_assoc s.since before earlier ∙ ap (λ (ns : List Named). s.since ++ ns) (sym here) ∙ sym s.named ∙ by.now)

others_within : (names since : List Named) → All (λ n. Contains names n) since → (side : Side) (uid : ℕ) → AreOthers names side uid → AreOthers since side uid
others_within names since h side uid others =
    All-weaker (λ (n : Named). Contains names n) (λ (n : Named). n.side ≡ side → n.uid ≢ uid) (λ n c. All-contains (λ (x : Named). x.side ≡ side → x.uid ≢ uid) names n others c) since h

pub leaves_others : (earlier before : List Named) (steps : List Step) (d d' : Device) → d.named ≡ before ++ earlier → NamedBy earlier steps d'.named → Spares d d' → LeavesOthers steps d d'
leaves_others earlier before steps d d' here by s = record {
  messages = λ side m there others. s.messages side m there (others_within names s.since of_steps side m.uid others);
  waiting = λ f there. by_file f (s.waiting f there);
}
  where
    names : List Named
    names = flat_map names_of steps

    all_of : All (λ n. Contains names n) (s.since ++ before)
    all_of = subst (λ (ns : List Named). All (λ n. Contains names n) ns) (sym (since_is earlier before steps d d' here by s)) by.each

    of_steps : All (λ n. Contains names n) s.since
    of_steps = All-from_contains (λ n. Contains names n) s.since (λ n c. All-contains (λ n. Contains names n) (s.since ++ before) n all_of (Contains-append_left s.since before n c))

    by_file : (f : Waiting) → Contains d'.near.waiting f ⊎ IsAdmitted s.since f d' → Contains d'.near.waiting f ⊎ IsAdmitted names f d'
    by_file f (inl k) = inl k
    by_file f (inr k) = inr (record { uid = k.uid; stays = λ others. k.stays (others_within names s.since of_steps Rattle.mailcore.specs.declared.side.Side.TheVariants.Near k.uid others) })

-- ---- where a run stands

stands_named : (ours : List ℕ → Bool) (alone : Bool) {earlier : List Named} (w : World) (options : Options) (version : Rattle.sync_state.specs.declared.version.Version.Version) (plan : Plan) (log : List Rattle.sync_state.specs.declared.journal.Logged.Logged) (torn : Bool) (d : Device) → Stands ours alone earlier w options version plan log torn d → NamedBy earlier plan.steps d.named
stands_named ours alone w options version plan log torn d (inl k) = let at = k.1 in at.named
stands_named ours alone w options version plan log torn d (inr k) = let at = k.1 in at.named

pub pending_named : {ours : List ℕ → Bool} {alone : Bool} (opening : Opening ours alone) (d : Device) → IsPending opening d → (before : List Named) × (d.named ≡ before ++ opening.named)
pending_named {ours} {alone} opening d p =
    let h = p.holds in
    let by = stands_named ours alone p.world opening.options h.version h.plan h.log h.is_torn d h.stands in
    (by.since, by.now)

pub open_named : {ours : List ℕ → Bool} {alone : Bool} (opening : Opening ours alone) (d : Device) → Unplanned opening d ⊎ IsPending opening d → (before : List Named) × (d.named ≡ before ++ opening.named)
open_named opening d (inl u) = ([], u.named)
open_named opening d (inr p) = pending_named opening d p

pub underway_named : {ours : List ℕ → Bool} {alone : Bool} (opening : Opening ours alone) (d : Device) → Underway opening d → (before : List Named) × (d.named ≡ before ++ opening.named)
underway_named opening d (inl u) = ([], u.named)
underway_named opening d (inr (inl p)) = pending_named opening d p
underway_named opening d (inr (inr o)) = let h = o.holds in let by = h.alike.named in (by.since, by.now)

-- the steps of the plan of a world are those that its rules call for
pub named_by_plan : (ours : List ℕ → Bool) (w : World) (options : Options) (plan : Plan) (earlier named : List Named) → IsPlanned ours w options plan → NamedBy earlier (all_steps (scene_of w options) (marks_of plan.steps)) named → NamedBy earlier plan.steps named
named_by_plan ours w options plan earlier named p by =
    let same : all_steps (scene_of w options) (marks_of plan.steps) ≡ plan.steps = ap (λ (ms : List (List ℕ)). all_steps (scene_of w options) ms) (marks_are ours w options plan p) ∙ sym p.is_plan.steps in
    subst (λ (steps : List Step). NamedBy earlier steps named) same by

pub spares_others : {ours : List ℕ → Bool} {alone : Bool} (opening : Opening ours alone) (d d' : Device) → (before : List Named) × (d.named ≡ before ++ opening.named) → Spares d d' → SparesOthers opening d d'
spares_others opening d d' named s over =
    let x = over.holds in
    leaves_others opening.named named.0 (all_steps (scene_of over.world opening.options) x.marks) d d' named.1 x.alike.named s
