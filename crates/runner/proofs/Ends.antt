-- How several attempts end, by the last of them.
use Rattle.std.proofs.Common.{◌≡◌, ◌<◌, ◌+◌, ◌⊎◌, ℕ, All, Bool, List, [], ◌∷◌, ◌++◌, Option, sym, subst}
use Rattle.std.proofs.lemmas.List.Elements.{All-append, All-cons, All-contains, All-nil, All-weaker}
use Rattle.rand_core.specs.Stream.{Stream}
use Rattle.mailcore.specs.declared.keywords.Keyword.{Keyword}
use Rattle.mailcore.specs.declared.side.Side.{Side}
use Rattle.rules.specs.declared.options.Options.{Options}
use Rattle.rules.proofs.Walks.{All-from_contains}
use Rattle.book.specs.Books.{Holds}
use Rattle.outside.specs.Calls.{Seen}
use Rattle.outside.specs.Devices.{Device, Named}
use Rattle.outside.specs.GoingOn.{GoesOn}
use Rattle.outside.specs.Opened.{Opened}
use Rattle.outside.proofs.GoingOn.{goes_after}
use Rattle.run_states.specs.Conditions.{IsOver, IsPending, Underway}
use Rattle.run_states.specs.Openings.{Opening, Unplanned}
use Rattle.run_states.proofs.Spared.{open_named, underway_named}
use Rattle.runner.specs.declared.fault.RunFault.{RunFault}
use Rattle.runner.specs.declared.fault.RunFault.TheVariants as run
use Rattle.runner.specs.declared.pass.Settled.{Settled}
use Rattle.runner.specs.Answers.{as_read}
use Rattle.runner.specs.Attempts.{AnswersAt, AtOpening, ChangedLast, GoesOnOver, KeptLast, began_on}
use Rattle.runner.specs.ChangedMaps.{ReportsOtherMap}
use Rattle.runner.specs.Faults.{IsCaused, Reasons}
use Rattle.runner.specs.Finding.{FindsAt}
use Rattle.runner.specs.Naming.{NamesAt, OthersStand}
use Rattle.runner.specs.Parts.{Left}
use Rattle.runner.specs.Results.{Report}
use Rattle.runner.specs.Settled.{IsSettled}
use Rattle.runner.specs.Validities.{IsKept, ReportsChanged}
use Rattle.runner.proofs.Naming.{HasSpared, others_stand}
use Rattle.runner.proofs.Passes.{over_alike}
use Rattle.runner.proofs.Readings.{underway_files}
use Rattle.runner.proofs.Reopening.{LastAttemptAt}

-- each device since has gone on to this one
goes_from : (since : List Device) (start now : Device) → GoesOnOver since start now → All (λ d. GoesOn d now) (since ++ start ∷ [])
goes_from [] start now on = All-cons (λ d. GoesOn d now) start [] on (All-nil (λ d. GoesOn d now))
goes_from (d ∷ since) start now on =
    All-cons (λ x. GoesOn x now) d (since ++ start ∷ []) on.1
    (All-weaker (λ x. GoesOn x d) (λ x. GoesOn x now) (λ x before. goes_after x d now before on.1) (since ++ start ∷ []) (goes_from since start d on.0))

others_spared : {ours : List ℕ → Bool} {alone : Bool} (opening : Opening ours alone) (since : List Device) (start now : Device) → Unplanned opening start ⊎ IsPending opening start → All (Underway opening) since → GoesOnOver since start now
    → All (λ d. HasSpared opening d now) (since ++ start ∷ [])
others_spared opening since start now first each on =
    let N : Device → Type 0 = λ d. (before : List Named) × (d.named ≡ before ++ opening.named) in
    let named = All-append N since (start ∷ []) (All-weaker (Underway opening) N (λ d u. underway_named opening d u) since each) (All-cons N start [] (open_named opening start first) (All-nil N)) in
    let goes = goes_from since start now on in
    All-from_contains (λ d. HasSpared opening d now) (since ++ start ∷ []) (λ d c.
    let k = All-contains (λ x. GoesOn x now) (since ++ start ∷ []) d goes c in
    (All-contains N (since ++ start ∷ []) d named c, k.spares))

module _ {ours : List ℕ → Bool} {alone : Bool} (opening : Opening ours alone) (start s1 s2 : Seen) (stream drawn : Stream) where
  -- with an answer
  pub settled_so : (now : Option Opened) (options : Options) (settled : Settled) → AtOpening opening start.device → LastAttemptAt opening settled.stops start s1 s2 stream drawn → IsOver opening s2.device
      → AnswersAt (opening.world.state.run + 1) options settled.last s1.device drawn → Report opening now settled.last s2.device → FindsAt ours s1.device settled.last → NamesAt opening settled.last s1.device s2.device → IsSettled opening now options stream settled start s2
  settled_so now options settled at b over answers reported found named = record {
    over = over;
    alike = λ nobody sound. over_alike opening s2.device nobody sound over;
    began = b.began;
    answers = subst (λ (d : Device). AnswersAt (opening.world.state.run + 1) options settled.last d b.began.drawn) (sym b.at)
        (subst (λ (s : Stream). AnswersAt (opening.world.state.run + 1) options settled.last s1.device s) (sym b.by) answers);
    reported = reported;
    found = subst (λ (d : Device). FindsAt ours d settled.last) (sym b.at) found;
    named = subst (λ (d : Device). NamesAt opening settled.last d s2.device) (sym b.at) named;
    others = λ s p held.
        let names = named s p (subst (λ (d : Device). Holds d.files s p) b.at held) in
        All-weaker (λ d. HasSpared opening d s2.device) (λ d. OthersStand opening (as_read s p) settled.last d s2.device) (λ d k. others_stand opening (as_read s p) settled.last s1.device d s2.device names k) (b.began.reopens.since ++ start.device ∷ [])
        (others_spared opening b.began.reopens.since start.device s2.device at.open_run b.began.each b.began.goes_on);
  }

  -- since a UIDVALIDITY has changed
  pub changed_last : {reasons : Reasons} (h : Type 0) (a u : Device → Type 0) (n tries : ℕ) (side : Side) (f : RunFault) → LastAttemptAt opening n start s1 s2 stream drawn → n < tries → f ≡ run.ValidityChanged side → h
      → Left reasons h a u f s1 s2 → (reasons.changed side → ReportsChanged h alone s1.device s2.device side) → ChangedLast opening tries side start s2 stream
  changed_last {reasons} h a u n tries side f b few is honest l states =
      let reported : ReportsChanged h alone s1.device s2.device side = states (subst (λ (x : RunFault). IsCaused reasons x s1 s2) is l.caused) in
      let began = began_on b.began.reopens.since start.device in
      let here : ReportsChanged h alone began s2.device side = subst (λ (d : Device). ReportsChanged h alone d s2.device side) (sym b.at) reported in
      let held = underway_files opening began b.began.underway in
      record {
        earlier = n;
        few = few;
        began = b.began;
        changed = λ s p at. (here honest s p at).0;
        kept = (here honest held.0 held.1.0 held.1.1).1;
      }

  -- since the map of keywords has
  pub kept_last : {reasons : Reasons} (h : Type 0) (a u : Device → Type 0) (n tries : ℕ) (now : Option Opened) (keywords : List Keyword) (f : RunFault) → LastAttemptAt opening n start s1 s2 stream drawn → n < tries → f ≡ run.KeywordsChanged → h
      → Left reasons h a u f s1 s2 → (reasons.keywords → ReportsOtherMap now h alone keywords s1.device s2.device) → KeptLast opening tries start s2 stream
  kept_last {reasons} h a u n tries now keywords f b few is honest l states =
      let reported : ReportsOtherMap now h alone keywords s1.device s2.device = states (subst (λ (x : RunFault). IsCaused reasons x s1 s2) is l.caused) in
      record { earlier = n; few = few; began = b.began; kept = subst (λ (d : Device). IsKept alone d s2.device) (sym b.at) (reported.1 honest).1 }
