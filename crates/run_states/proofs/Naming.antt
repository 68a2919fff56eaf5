-- The message that a step of a plan is to change or to remove was there when the plan was made.
use Rattle.std.proofs.Common.{inl, inr, ◌≡◌, ◌<◌, ℕ, List, [], ◌∷◌, Some, sym, subst}
use Rattle.std.specs.Prelude.{All, Contains, flat_map}
use Rattle.std.proofs.lemmas.List.Elements.{All-append, All-contains, All-cons, All-head, All-nil, All-tail, Contains-append_left, Contains-append_right}
use Rattle.mailcore.specs.declared.listing.Item.{Item}
use Rattle.mailcore.specs.declared.mailbox.Message.{Message}
use Rattle.mailcore.specs.declared.side.Side.{Side}
use Rattle.mailcore.specs.declared.side.Side.TheVariants.{Far, Near}
use Rattle.mailcore.specs.declared.side.Direction.{Direction}
use Rattle.mailcore.specs.declared.side.Direction.TheVariants.{Pull, Push}
use Rattle.mailcore.specs.Sides.{target}
use Rattle.rules.specs.declared.entry.Entry.{Entry}
use Rattle.rules.specs.declared.entry.ListedPair.{ListedPair}
use Rattle.rules.specs.declared.options.Options.{Options}
use Rattle.rules.specs.declared.plan.Step.{Step}
use Rattle.rules.specs.declared.plan.Step.TheVariants as step
use Rattle.rules.specs.Called.{pair_of}
use Rattle.rules.specs.Entries.{uid_of}
use Rattle.rules.specs.Outcome.{news}
use Rattle.rules.specs.Scene.{Scene, items}
use Rattle.rules.specs.World.{World, IsInOrder, NamesBelow, scene_of, store}
use Rattle.rules.proofs.LookUps.{full_found}
use Rattle.rules.proofs.Walks.{All-filter_map, All-from_contains, Contains-cases, Contains-none}
use Rattle.rules.proofs.WorldLemmas.{store_is}
use Rattle.planner.specs.Written.{all_steps, expunge_step, expunge_steps, flags_step, flags_steps, gone_step, gone_steps}
use Rattle.planner.proofs.Following.{expunge_given, flags_given, flags_step_of, gone_given, new_steps_all, pair_far, pair_near}
use Rattle.sync_state.specs.declared.journal.Logged.{Logged}
use Rattle.outside.specs.Devices.{Named}
use Rattle.run_states.specs.Plans.{NamedBy, names_of, next_of}
use Rattle.run_states.proofs.NextSteps.{next_contained}
use Rattle.run_states.proofs.Sources.{of_item}

module _ (w : World) (options : Options) (order : IsInOrder w) (below : NamesBelow w) where
  abbrev IsBefore : Named → Type 0
  IsBefore n = n.uid < (store w n.side).next

  abbrev AreBefore : Step → Type 0
  AreBefore s = All IsBefore (names_of s)

  abbrev scene : Scene
  scene = scene_of w options

  alone : (side : Side) (uid : ℕ) → uid < (store w side).next → All IsBefore (record { side = side; uid = uid } ∷ [])
  alone side uid before = All-cons IsBefore (record { side = side; uid = uid }) [] before (All-nil IsBefore)

  -- what an entry names
  entry_before : (side : Side) (e : Entry) → Contains w.state.entries e → uid_of side e < (store w side).next
  entry_before Far e c = All-contains (λ (x : Entry). uid_of Far x < w.far.next) w.state.entries e below.far c
  entry_before Near e c = All-contains (λ (x : Entry). uid_of Near x < w.near.next) w.state.entries e below.near c

  -- what is listed
  message_before : (side : Side) (m : Message) → Contains (store w side).messages m → m.uid < (store w side).next
  message_before side m c = All-contains (λ (x : Message). x.uid < (store w side).next) (store w side).messages m (store_is w order side).below c

  item_before : (side : Side) (i : Item) → Contains (items scene side) i → i.uid < (store w side).next
  item_before Far i c = let m = of_item w options Pull i c in subst (λ (x : Item). x.uid < w.far.next) m.2 (message_before Far m.0 m.1)
  item_before Near i c = let m = of_item w options Push i c in subst (λ (x : Item). x.uid < w.near.next) m.2 (message_before Near m.0 m.1)

  -- ---- each kind of step

  gone_before : (d : Direction) (e : Entry) → Contains w.state.entries e → AreBefore (step.Gone d (uid_of Far e) (uid_of Near e))
  gone_before Pull e c = alone Near (uid_of Near e) (entry_before Near e c)
  gone_before Push e c = alone Far (uid_of Far e) (entry_before Far e c)

  flags_before : (d : Direction) (e : Entry) (p : ListedPair) → Contains w.state.entries e → pair_of scene e ≡ Some p → AreBefore (flags_step_of d p)
  flags_before Pull e p c is = alone Near p.near (subst (λ (x : ℕ). x < w.near.next) (pair_near scene e p is) (entry_before Near e c))
  flags_before Push e p c is = alone Far p.far (subst (λ (x : ℕ). x < w.far.next) (pair_far scene e p is) (entry_before Far e c))

  gones : (d : Direction) → All AreBefore (gone_steps scene d)
  gones d = All-filter_map AreBefore (gone_step scene d) (items scene (target d))
      (λ i c st h. let g = gone_given scene d i st h in let f = full_found scene (target d) i.uid g.0 g.1 in subst AreBefore g.3 (gone_before d g.0 f.0))

  flags : (d : Direction) → All AreBefore (flags_steps scene d)
  flags d = All-filter_map AreBefore (flags_step scene d) scene.entries
      (λ e c st h. let g = flags_given scene d e st h in subst AreBefore g.4 (flags_before d e g.0 c g.2))

  expunges : (side : Side) → All AreBefore (expunge_steps scene side)
  expunges side = All-filter_map AreBefore (expunge_step scene side) (items scene side)
      (λ i c st h. subst AreBefore (expunge_given scene side i st h).1 (alone side i.uid (item_before side i c)))

  pub steps_before : (marks : List (List ℕ)) → All AreBefore (all_steps scene marks)
  steps_before marks =
      All-append AreBefore _ _ (All-append AreBefore _ _ (All-append AreBefore _ _ (All-append AreBefore _ _ (All-append AreBefore _ _ (All-append AreBefore _ _
      (All-append AreBefore _ _ (new_steps_all AreBefore Pull (news scene Pull) _ (λ i c m. All-nil IsBefore)) (new_steps_all AreBefore Push (news scene Push) _ (λ i c m. All-nil IsBefore)))
      (gones Pull)) (gones Push)) (flags Pull)) (flags Push)) (expunges Far)) (expunges Near)

  -- so is each that is named by some step
  pub all_before : (marks : List (List ℕ)) → All IsBefore (flat_map names_of (all_steps scene marks))
  all_before marks = each_step (all_steps scene marks) (steps_before marks)
    where
      each_step : (steps : List Step) → All AreBefore steps → All IsBefore (flat_map names_of steps)
      each_step [] h = All-nil IsBefore
      each_step (s ∷ steps) h = All-append IsBefore (names_of s) (flat_map names_of steps) (All-head AreBefore s steps h) (each_step steps (All-tail AreBefore s steps h))

-- ---- what calls have named

-- the names of a step are among those of all
named_in : (steps : List Step) (s : Step) → Contains steps s → All (λ n. Contains (flat_map names_of steps) n) (names_of s)
named_in steps s c = All-from_contains (λ n. Contains (flat_map names_of steps) n) (names_of s) (λ n k. at steps c n k)
  where
    at : (steps : List Step) → Contains steps s → (n : Named) → Contains (names_of s) n → Contains (flat_map names_of steps) n
    at [] c n k = absurd (Contains-none s c)
    at (t ∷ steps) c n k = elim (Contains-cases t s steps c) [
      | inl same ↦ Contains-append_left (names_of t) (flat_map names_of steps) n (subst (λ (x : Step). Contains (names_of x) n) (sym same) k)
      | inr rest ↦ Contains-append_right (names_of t) (flat_map names_of steps) n (at steps rest n k)
    ]

-- so are those of the step that is next
pub named_next : (steps : List Step) (log : List Logged) (s : Step) → next_of steps log ≡ Some s → All (λ n. Contains (flat_map names_of steps) n) (names_of s)
named_next steps log s is = named_in steps s (next_contained steps log s is)

-- nothing is named yet
pub named_none : (earlier : List Named) (steps : List Step) (named : List Named) → named ≡ earlier → NamedBy earlier steps named
named_none earlier steps named same = record { since = []; now = same; each = All-nil (λ n. Contains (flat_map names_of steps) n) }
