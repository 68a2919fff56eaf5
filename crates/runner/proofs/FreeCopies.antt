-- The UID of a copy that was just made is not taken.
use Rattle.std.proofs.Common.{◌≡◌, ◌≤◌, ◌<◌, ◌+◌, ◌||◌, ◌&&◌, ◌==◌, ℕ, Bool, true, false, cond, List, [], ◌∷◌, ◌++◌, length, Option, Some, refl, sym, ap, ◌∙◌, subst, arith}
use Rattle.std.specs.Prelude.{All, Contains}
use Rattle.std.specs.List.{list_any}
use Rattle.std.proofs.lemmas.Bool.{both_ways}
use Rattle.std.proofs.lemmas.Bool.Decides.{nat_tests}
use Rattle.std.proofs.lemmas.List.Elements.{All-head, All-tail, All-contains}
use Rattle.mailcore.specs.declared.side.Side.{Side}
use Rattle.mailcore.specs.declared.side.Side.TheVariants.{Far, Near}
use Rattle.mailcore.specs.declared.side.Direction.{Direction}
use Rattle.mailcore.specs.declared.mailbox.Message.{Message}
use Rattle.mailcore.specs.Rise.{Rise}
use Rattle.mailcore.specs.Sides.{source, target}
use Rattle.rules.specs.declared.entry.Entry.{Entry}
use Rattle.rules.specs.declared.plan.Plan.{Plan}
use Rattle.rules.specs.declared.plan.Step.{Step}
use Rattle.rules.specs.declared.plan.Step.TheVariants as step
use Rattle.rules.specs.Entries.{uid_of}
use Rattle.rules.specs.PlanEntries.{is_named}
use Rattle.rules.specs.World.{World, IsInOrder, NamesBelow, store, scene_of}
use Rattle.rules.proofs.Walks.{Contains-first, Contains-rest}
use Rattle.rules.proofs.WorldLemmas.{store_is}
use Rattle.planner.specs.Written.{all_steps}
use Rattle.sync_state.specs.declared.version.Version.{Version}
use Rattle.sync_state.specs.declared.journal.Logged.{Logged}
use Rattle.sync_state.specs.declared.journal.Logged.TheVariants.{Copied, Done, Void}
use Rattle.book.specs.Agreement.{Copy, copies_of, is_side, is_source_of}
use Rattle.book.specs.BookLogs.{at_step, is_free, is_free_for}
use Rattle.law_outcome.specs.Steps.{given, is_side as is_that}
use Rattle.law_outcome.specs.CommitLaws.{results_of}
use Rattle.run_states.specs.Moments.{Midway}
use Rattle.run_states.specs.Plans.{next_of}
use Rattle.outside.specs.Devices.{Device, Named, box}
use Rattle.law_outcome.proofs.Copying.{uid_given-new}
use Rattle.law_outcome.proofs.Fold.{given-more}
use Rattle.run_states.proofs.NextSteps.{result_is, result_less, results_more}
use Rattle.run_states.proofs.Sources.{source_of}
use Rattle.rules.specs.declared.options.Options.{Options}

-- ---- no entry names it

none_named : (entries : List Entry) (side : Side) (uid next : ℕ) → next ≤ uid → All (λ e. uid_of side e < next) entries → is_named entries side uid ≡ false
none_named [] side uid next le h = refl
none_named (e ∷ entries) side uid next le h =
    let less : uid_of side e < next = All-head (λ e. uid_of side e < next) e entries h in
    let other : (uid_of side e == uid) ≡ false = grind (arith, nat_tests) in
    rw other (none_named entries side uid next le (All-tail (λ e. uid_of side e < next) e entries h))

names_below : (w : World) → NamesBelow w → (side : Side) → All (λ e. uid_of side e < (store w side).next) w.state.entries
names_below w b Far = b.far
names_below w b Near = b.near

-- ---- no new message has it

-- each step copies a message of a side below the next one
abbrev SourcesBelow : World → List Step → Type 0
SourcesBelow w [] = Unit {0}
SourcesBelow w (step.New d u flags mark ∷ steps) = (u < (store w (source d)).next) × SourcesBelow w steps
SourcesBelow w (step.Gone d f n ∷ steps) = SourcesBelow w steps
SourcesBelow w (step.Flags d f n set cleared ∷ steps) = SourcesBelow w steps
SourcesBelow w (step.Expunge side u ∷ steps) = SourcesBelow w steps

sources_from : (w : World) (steps : List Step) → ((d : Direction) (u flags : ℕ) (mark : List ℕ) → Contains steps (step.New d u flags mark) → u < (store w (source d)).next) → SourcesBelow w steps
sources_from w [] f = tt
sources_from w (step.New d u flags mark ∷ steps) f = (f d u flags mark (Contains-first _ steps), sources_from w steps (λ d' u' flags' mark' c. f d' u' flags' mark' (Contains-rest _ _ steps c)))
sources_from w (step.Gone d a n ∷ steps) f = sources_from w steps (λ d' u' flags' mark' c. f d' u' flags' mark' (Contains-rest _ _ steps c))
sources_from w (step.Flags d a n set cleared ∷ steps) f = sources_from w steps (λ d' u' flags' mark' c. f d' u' flags' mark' (Contains-rest _ _ steps c))
sources_from w (step.Expunge side u ∷ steps) f = sources_from w steps (λ d' u' flags' mark' c. f d' u' flags' mark' (Contains-rest _ _ steps c))

plan_sources : (w : World) (options : Options) (marks : List (List ℕ)) → IsInOrder w → SourcesBelow w (all_steps (scene_of w options) marks)
plan_sources w options marks sound = sources_from w (all_steps (scene_of w options) marks) (λ d u flags mark c.
    let k = source_of w options marks d u flags mark c in
    let less = All-contains (λ (m : Message). m.uid < (store w (source d)).next) (store w (source d)).messages k.message (store_is w sound (source d)).below k.is_there in
    let same = k.same in
    omega arith)

other_source : (a b : Side) (u uid next : ℕ) → (is_side a b ≡ true → u < next) → next ≤ uid → (is_side a b && u == uid) ≡ false
other_source a b u uid next f le = by_side (is_side a b) f
  where
    by_side : (t : Bool) → (t ≡ true → u < next) → (t && u == uid) ≡ false
    by_side false f = refl
    by_side true f = let less = f refl in grind (arith, nat_tests)

same_side : (w : World) (a b : Side) → is_side a b ≡ true → (store w a).next ≡ (store w b).next
same_side w Far Far e = refl
same_side w Far Near e = absurd (both_ways false refl e)
same_side w Near Far e = absurd (both_ways false refl e)
same_side w Near Near e = refl

no_source : (w : World) (side : Side) (uid : ℕ) (steps : List Step) → (store w side).next ≤ uid → SourcesBelow w steps → list_any (is_source_of side uid) steps ≡ false
no_source w side uid [] le h = refl
no_source w side uid (step.New d u flags mark ∷ steps) le h =
    let less = h.0 in
    rw (other_source (source d) side u uid (store w side).next (λ e. let same = same_side w (source d) side e in omega arith) le) (no_source w side uid steps le h.1)
no_source w side uid (step.Gone d a n ∷ steps) le h = no_source w side uid steps le h
no_source w side uid (step.Flags d a n set cleared ∷ steps) le h = no_source w side uid steps le h
no_source w side uid (step.Expunge at u ∷ steps) le h = no_source w side uid steps le h

-- ---- no earlier copy has it

-- numbers that rise up to a bound are below it
abbrev AllBelow : ℕ → List ℕ → Type 0
AllBelow bound [] = Unit {0}
AllBelow bound (u ∷ us) = (u < bound) × AllBelow bound us

below_last : (least : ℕ) (us : List ℕ) (u bound : ℕ) → Rise least (us ++ u ∷ []) bound → (least ≤ u) × AllBelow u us
below_last least [] u bound h = (h.0, tt)
below_last least (v ∷ us) u bound h = let k = below_last (v + 1) us u bound h.1 in let a = k.0 in let b = h.0 in (omega arith, (omega arith, k.1))

no_copy : (side : Side) (uid : ℕ) (steps : List Step) (log : List Logged) → AllBelow uid (given side steps (results_of log)) → list_any (λ (c : Copy). is_side c.0 side && c.1 == uid) (copies_of steps log) ≡ false
no_copy side uid [] log h = refl
no_copy side uid (s ∷ steps) [] h = refl
no_copy side uid (step.New d u flags mark ∷ steps) (Copied copy ∷ log) h = by_side (target d) side (λ b k. no_copy b uid steps log k) h
  where
    by_side : (a b : Side) → ((k : Side) → AllBelow uid (given k steps (results_of log)) → list_any (λ (c : Copy). is_side c.0 k && c.1 == uid) (copies_of steps log) ≡ false) → AllBelow uid (cond (is_that a b) (copy ∷ []) [] ++ given b steps (results_of log)) → (((is_side a b && copy == uid)) || list_any (λ (c : Copy). is_side c.0 b && c.1 == uid) (copies_of steps log)) ≡ false
    by_side Far Far f h = let less = h.0 in let other : (copy == uid) ≡ false = grind (arith, nat_tests) in rw other (f Far h.1)
    by_side Far Near f h = f Near h
    by_side Near Far f h = f Far h
    by_side Near Near f h = let less = h.0 in let other : (copy == uid) ≡ false = grind (arith, nat_tests) in rw other (f Near h.1)
no_copy side uid (step.New d u flags mark ∷ steps) (Done ∷ log) h = no_copy side uid steps log h
no_copy side uid (step.New d u flags mark ∷ steps) (Void ∷ log) h = no_copy side uid steps log h
no_copy side uid (step.Gone d a n ∷ steps) (r ∷ log) h = no_copy side uid steps log h
no_copy side uid (step.Flags d a n set cleared ∷ steps) (r ∷ log) h = no_copy side uid steps log h
no_copy side uid (step.Expunge at u ∷ steps) (r ∷ log) h = no_copy side uid steps log h

-- ---- so it is free

at_next : (passes : Step → Bool) (steps : List Step) (log : List Logged) → ((s : Step) → next_of steps log ≡ Some s → passes s ≡ true) → at_step passes steps (length log) ≡ true
at_next passes [] log f = refl
at_next passes (s ∷ steps) [] f = f s refl
at_next passes (s ∷ steps) (r ∷ log) f = at_next passes steps log f

module _ (ours : List ℕ → Bool) (alone : Bool) {earlier : List Named} (w : World) (options : Options) (version : Version) (plan : Plan) (log : List Logged) (sound : IsInOrder w) (below : NamesBelow w) where
  free_next : (logged : Logged) (d : Device) → Midway ours alone earlier w options version plan log false (log ++ logged ∷ []) false d → (s : Step) → next_of plan.steps log ≡ Some s → is_free_for w.state.entries (record { plan = plan; log = log }) s logged ≡ true
  free_next (Copied copy) d at (step.New dir uid flags mark) is =
      let p = at.planned in
      let side : Side = target dir in
      let gives : given side plan.steps (results_of (log ++ Copied copy ∷ [])) ≡ given side plan.steps (results_of log) ++ copy ∷ [] =
      ap (λ (rs : List (Option ℕ)). given side plan.steps rs) (results_more log (Copied copy))
      ∙ given-more side plan.steps (results_of log) (step.New dir uid flags mark) (Some copy) (result_less plan.steps log _ is) (result_is plan.steps log _ is)
      ∙ ap (λ (us : List ℕ). given side plan.steps (results_of log) ++ us) (uid_given-new dir uid flags mark copy) in
      let last = below_last (store w side).next (given side plan.steps (results_of log)) copy (box d side).next (subst (λ (us : List ℕ). Rise (store w side).next us (box d side).next) gives (at.rises side)) in
      let named = none_named w.state.entries side copy (store w side).next last.0 (names_below w below side) in
      let source_is = no_source w side copy plan.steps last.0 (subst (λ (steps : List Step). SourcesBelow w steps) (sym p.is_plan.steps) (plan_sources w options p.marks sound)) in
      let copied = no_copy side copy plan.steps log last.1 in
      rw (named, source_is, copied) refl
  free_next (Copied copy) d at (step.Gone dir a n) is = refl
  free_next (Copied copy) d at (step.Flags dir a n set cleared) is = refl
  free_next (Copied copy) d at (step.Expunge side u) is = refl
  free_next Done d at (step.New dir uid flags mark) is = refl
  free_next Done d at (step.Gone dir a n) is = refl
  free_next Done d at (step.Flags dir a n set cleared) is = refl
  free_next Done d at (step.Expunge side u) is = refl
  free_next Void d at (step.New dir uid flags mark) is = refl
  free_next Void d at (step.Gone dir a n) is = refl
  free_next Void d at (step.Flags dir a n set cleared) is = refl
  free_next Void d at (step.Expunge side u) is = refl

  pub copy_is_free : (logged : Logged) (d : Device) → Midway ours alone earlier w options version plan log false (log ++ logged ∷ []) false d → is_free w.state.entries (record { plan = plan; log = log }) logged ≡ true
  copy_is_free logged d at = at_next (λ s. is_free_for w.state.entries (record { plan = plan; log = log }) s logged) plan.steps log (free_next logged d at)
