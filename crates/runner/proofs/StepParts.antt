-- Parts that perform steps: which step a refusal is reported of.
use Rattle.std.proofs.Common.{◌≡◌, ◌∙◌, ℕ, Bool, List, Option, Some, None, Result, refl, sym, subst}
use Rattle.rand_core.specs.Stream.{Stream}
use Rattle.rules.specs.declared.options.Options.{Options}
use Rattle.book.specs.declared.book.Pending.{Pending}
use Rattle.book.specs.declared.book.Pending.TheVariants.{Missing, Useless, Planned}
use Rattle.outside.specs.Calls.{Seen}
use Rattle.outside.specs.Devices.{Device}
use Rattle.outside.specs.Opened.{Opened}
use Rattle.rules.specs.Outcome.{count_new}
use Rattle.rules.specs.World.{scene_of}
use Rattle.run_states.specs.Openings.{Opening, Since}
use Rattle.runner.specs.declared.fault.RunFault.{RunFault}
use Rattle.runner.specs.Before.{IsShown}
use Rattle.runner.specs.Answers.{HasRepeats}
use Rattle.runner.specs.Faults.{IsNextOf, Reasons, RefusedAt, ReportsRefused, or_refused}
use Rattle.runner.specs.Going.{HasUntorn, IsUntorn, number_at}
use Rattle.runner.specs.Parts.{InStep, Left, Never, Part, PartOr, Passed, StepPart}
use Rattle.runner.proofs.PartCalls.{AreReasons, left_after, left_reported, part_after, part_reported, part_weaker}

-- ---- one step

-- from a condition that leads to that of the part
step_reported : (number : ℕ) (opened : Option Opened) (h a b : Type 0) (d : Device) → (h → b → a) → AreReasons (InStep number opened h a d) (InStep number opened h b d)
step_reported number opened h a b d f = record { changed = λ side n. n; keywords = λ n. n; repeats = λ n. n; beyond = λ n. n; greatest = λ n. n; unread = λ e n. n; refused = λ step k. (k.0, λ honest at. k.1 honest (f honest at)) }

pub step_left_after : (number : ℕ) (opened : Option Opened) (h0 h1 : Type 0) (a b underway : Device → Type 0) (m : ℕ) (f : RunFault) (s0 s1 s2 : Seen) → (h1 → h0) → Passed h0 a b m s0 s1 → Left (InStep number opened h1 (b s1.device) s2.device) h1 b underway f s1 s2 → Left (InStep number opened h1 (a s0.device) s2.device) h1 a underway f s0 s2
step_left_after number opened h0 h1 a b underway m f s0 s1 s2 honest p q =
    left_after h0 h1 a b underway m f s0 s1 s2 honest p (left_reported _ _ h1 b underway f s1 s2 (step_reported number opened h1 (b s1.device) (a s0.device) s2.device (λ h at. p.reaches (honest h) at)) q)

pub step_after : {T : Type 0} (number : ℕ) (opened : Option Opened) (h0 h1 : Type 0) (a b underway : Device → Type 0) (copies : T → ℕ) (reaches : T → Device → Type 0) (s0 s1 s2 : Seen) (r : Result T RunFault) → (h1 → h0) → Passed h0 a b 0 s0 s1 → StepPart number opened h1 b underway copies reaches s1 s2 r → StepPart number opened h1 a underway copies reaches s0 s2 r
step_after number opened h0 h1 a b underway copies reaches s0 s1 s2 r honest p q =
    part_after _ h0 h1 a b underway copies reaches s0 s1 s2 r honest p (part_reported _ _ h1 b underway copies reaches s1 s2 r (step_reported number opened h1 (b s1.device) (a s0.device) s2.device (λ h at. p.reaches (honest h) at)) q)

pub step_weaker : {T : Type 0} (number : ℕ) (opened : Option Opened) (h : Type 0) (a a' underway : Device → Type 0) (copies : T → ℕ) (reaches reaches' : T → Device → Type 0) (s0 s1 : Seen) (r : Result T RunFault) → ((d : Device) → a' d → a d) → ((x : T) (d : Device) → reaches x d → reaches' x d) → StepPart number opened h a underway copies reaches s0 s1 r → StepPart number opened h a' underway copies reaches' s0 s1 r
step_weaker number opened h a a' underway copies reaches reaches' s0 s1 r f g p =
    part_weaker _ h a a' underway copies reaches reaches' s0 s1 r f g (part_reported _ _ h a underway copies reaches s0 s1 r (step_reported number opened h (a s0.device) (a' s0.device) s1.device (λ honest at. f s0.device at)) p)

-- ---- steps of a plan

-- the next step of the plan that is pending
next_of_plan : (opened : Option Opened) (step : ℕ) → HasUntorn opened → step ≡ number_at opened → IsNextOf opened step
next_of_plan None step u is = absurd u
next_of_plan (Some o) step u is = of_pending o.pending u is
  where
    of_pending : (p : Pending) → IsUntorn p → step ≡ number_at (Some (record o { pending = p })) → IsNextOf (Some (record o { pending = p })) step
    of_pending Missing u is = absurd u
    of_pending Useless u is = absurd u
    of_pending (Planned written) u is = record { journal = written.journal; pending = refl; next = is }

pub next_reported : (number : ℕ) (opened now : Option Opened) (h a d : _) → HasUntorn opened → number ≡ number_at opened → now ≡ opened → AreReasons (InStep number opened h a d) (or_refused (ReportsRefused now h a d) Never)
next_reported number opened now h a d untorn is same = record { changed = λ side n. n; keywords = λ n. n; repeats = λ n. n; beyond = λ n. n; greatest = λ n. n; unread = λ e n. n; refused = λ step k. (subst (λ (o : Option Opened). IsNextOf o step) (sym same) (next_of_plan opened step untorn (k.0 ∙ is)), λ honest at. subst (λ (x : ℕ). RefusedAt x d) (sym (k.0 ∙ is)) (k.1 honest at)) }

-- from a condition that leads to that of the part
pub refused_from : (now : Option Opened) (h a b : Type 0) (d : Device) → (h → b → a) → (step : ℕ) → ReportsRefused now h a d step → ReportsRefused now h b d step
refused_from now h a b d f step t = (t.0, λ honest at. t.1 honest (f honest at))

-- a part that performs no step, for its own reasons
pub unrefused_reported : (r : ℕ → Type 0) (c : Reasons) → ((step : ℕ) → c.refused step → ⊥) → AreReasons c (or_refused r c)
unrefused_reported r c n = record { changed = λ side k. k; keywords = λ n. n; repeats = λ k. k; beyond = λ k. k; greatest = λ n. n; unread = λ e k. k; refused = λ step t. absurd (n step t) }

-- one that performs steps alone
pub steps_reported : (r : ℕ → Type 0) (c : Reasons) → ((step : ℕ) → r step → c.refused step) → AreReasons (or_refused r Never) c
steps_reported r c f = record { changed = λ side n. absurd n; keywords = λ n. absurd n; repeats = λ n. absurd n; beyond = λ n. absurd n; greatest = λ n. absurd n; unread = λ e n. absurd n; refused = f }

never_reported : (c : Reasons) → AreReasons Never c
never_reported c = record { changed = λ side n. absurd n; keywords = λ n. absurd n; repeats = λ n. absurd n; beyond = λ n. absurd n; greatest = λ n. absurd n; unread = λ e n. absurd n; refused = λ step n. absurd n }

pub left_never : {c : Reasons} (h : Type 0) (a underway : Device → Type 0) (f : RunFault) (s0 s1 : Seen) → Left Never h a underway f s0 s1 → Left c h a underway f s0 s1
left_never {c} h a underway f s0 s1 l = left_reported Never c h a underway f s0 s1 (never_reported c) l

pub part_never : {T : Type 0} (c : Reasons) (h : Type 0) (a underway : Device → Type 0) (copies : T → ℕ) (reaches : T → Device → Type 0) (s0 s1 : Seen) (r : Result T RunFault) → Part h a underway copies reaches s0 s1 r → PartOr c h a underway copies reaches s0 s1 r
part_never c h a underway copies reaches s0 s1 r p = part_reported Never c h a underway copies reaches s0 s1 r (never_reported c) p

-- marks repeat also where another condition leads to this one
pub repeats_from : {ours : List ℕ → Bool} {alone : Bool} (opening : Opening ours alone) (now : Option Opened) (honest from start : Type 0) (options : Options) (stream : Stream) → (honest → start → from) → HasRepeats opening now honest from options stream → HasRepeats opening now honest start options stream
repeats_from opening now honest from start options stream leads k = record { count = k.count; repeats = k.repeats; wanted = λ h at. k.wanted h (leads h at) }

-- and for another opening, where both are one
pub repeats_by : {ours : List ℕ → Bool} {alone : Bool} (x y : Opening ours alone) (now : Option Opened) (honest from start : Type 0) (options : Options) (stream : Stream) → (honest → start → from × (x ≡ y)) → HasRepeats x now honest from options stream → HasRepeats y now honest start options stream
repeats_by {ours} {alone} x y now honest from start options stream leads k = record {
  count = k.count;
  repeats = k.repeats;
  wanted = λ h at. let l = leads h at in subst (λ (o : Opening ours alone). Since o (λ w. IsShown now w × (k.count ≡ count_new (scene_of w options)))) l.1 (k.wanted h l.0);
}
