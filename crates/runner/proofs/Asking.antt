-- How what a run asks joins, call by call and stage by stage.
use Rattle.std.proofs.Common.{◌≡◌, ◌∙◌, ◌+◌, ◌^◌, ℕ, List, [], ◌∷◌, ◌++◌, All, Bool, true, false, Option, None, Some, Result, Ok, Err, refl, sym, ap, subst, append-nil, drop, length, length-append, inl, inr}
use Rattle.std.proofs.lemmas.List.Sums.{fold-append}
use Rattle.std.proofs.lemmas.List.Elements.{All-append, All-cons, All-contains, All-head, All-nil, All-tail, Contains-append_left, Contains-append_right}
use Rattle.std.specs.Prelude.{Contains, OnOk, flat_map, unwrap_or}
use Rattle.std.specs.List.{fold}
use Rattle.mailcore.specs.FlagSet.{DELETED}
use Rattle.mailcore.specs.declared.side.Side.{Side}
use Rattle.mailcore.specs.declared.side.Direction.{Direction}
use Rattle.mailcore.specs.Sides.{target}
use Rattle.rules.specs.declared.plan.Plan.{Plan}
use Rattle.rules.specs.declared.plan.Step.{Step}
use Rattle.rules.specs.declared.plan.Step.TheVariants as step
use Rattle.rules.proofs.Walks.{Contains-cases, Contains-first, Contains-none, Contains-rest}
use Rattle.law_outcome.specs.Steps.{changed_uid}
use Rattle.sync_state.specs.declared.journal.Journal.{Journal}
use Rattle.outside.specs.Asked.{Asked, Begun, Cleared, Copied, Read, Removed, Set, Sought}
use Rattle.outside.specs.Opened.{Opened}
use Rattle.run_states.specs.Plans.{first_uid}
use Rattle.run_states.proofs.NextSteps.{drop_next, next_contained}
use Rattle.runner.specs.Asking.{Allows, Asks, Calls, Comes, Copy, IsCalledBy, Known, Leads, Performs, calls_of, copies_left, copy_and, known_at, known_past, nothing, read_back, written}
use Rattle.sync_state.specs.declared.journal.Logged.{Logged}
use Rattle.runner.specs.Going.{HasLogged, log_at, next_at, no_journal, plan_at}

-- ---- a list of what was asked

-- one thing after others
leads_then : (a b c : Known) (xs ys : List Asked) → Leads a xs b → Leads b ys c → Leads a (xs ++ ys) c
leads_then a b c [] ys h k = subst (λ (from : Known). Leads from ys c) h k
leads_then a b c (x ∷ xs) ys h k = (h.0, h.1, leads_then h.0 b c xs ys h.2 k)

-- what may be asked where no plan is known may be asked where any is
leads_any : (a b c : Known) (xs : List Asked) → a.plan.steps ≡ [] → Leads a xs b → (next : Known) × Leads c xs next
leads_any a b c [] none h = (c, refl)
leads_any a b c (Read journal ∷ xs) none h = (b, (h.0, h.1, h.2))
leads_any a b c (Begun plan ∷ xs) none h = (b, (h.0, h.1, h.2))
leads_any a b c (Sought side mark from found ∷ xs) none h =
    let still : h.0.plan.steps ≡ [] = elim h.1 [
      | inl same ↦ ap (λ (k : Known). k.plan.steps) same ∙ none
      | inr freed ↦ ap (λ (k : Known). k.plan.steps) freed.2 ∙ none
    ] in
    let more = leads_any h.0 b c xs still h.2 in
    (more.0, (c, inl refl, more.1))
leads_any a b c (Copied d uid flags mark ∷ xs) none h = absurd (Contains-none _ (rw none at h.1.0))
leads_any a b c (Set side uid flags ∷ xs) none h = absurd (Contains-none _ (rw none at h.1.0))
leads_any a b c (Cleared side uid flags ∷ xs) none h = absurd (Contains-none _ (rw none at h.1.0))
leads_any a b c (Removed side uid ∷ xs) none h = absurd (Contains-none _ (rw none at h.1.0))

-- one of several steps calls for what it calls for
called_by : (steps : List Step) (s : Step) (x : Asked) → Contains steps s → IsCalledBy (s ∷ []) x → IsCalledBy steps x
called_by [] s x at c = absurd (Contains-none s at)
called_by (t ∷ steps) s x at c = elim (Contains-cases t s steps at) [
  | inl same ↦ Contains-append_left (calls_of t) (flat_map calls_of steps) x (subst (λ (y : Step). Contains (calls_of y) x) (sym same) (subst (λ (l : List Asked). Contains l x) (append-nil (calls_of s)) c))
  | inr later ↦ Contains-append_right (calls_of t) (flat_map calls_of steps) x (called_by steps s x later c)
]

-- ---- steps that change messages

-- a message is changed
abbrev IsChange : Asked → Type 0
IsChange (Read journal) = ⊥
IsChange (Begun plan) = ⊥
IsChange (Sought side mark from found) = ⊥
IsChange (Copied d uid flags mark) = ⊥
IsChange (Set side uid flags) = Unit {0}
IsChange (Cleared side uid flags) = Unit {0}
IsChange (Removed side uid) = Unit {0}

-- a step copies no message
abbrev pub IsPlain : Step → Type 0
IsPlain (step.New d uid flags mark) = ⊥
IsPlain (step.Gone d far near) = Unit {0}
IsPlain (step.Flags d far near set cleared) = Unit {0}
IsPlain (step.Expunge side uid) = Unit {0}

of_plain : (s : Step) → IsPlain s → All IsChange (calls_of s)
of_plain (step.New d uid flags mark) plain = absurd plain
of_plain (step.Gone d far near) plain = All-cons IsChange (Set (target d) (changed_uid d far near) (2 ^ DELETED)) [] (tt {0}) (All-nil IsChange)
of_plain (step.Flags d far near set cleared) plain =
    let clears = Cleared (target d) (changed_uid d far near) cleared in
    All-cons IsChange (Set (target d) (changed_uid d far near) set) (clears ∷ []) (tt {0}) (All-cons IsChange clears [] (tt {0}) (All-nil IsChange))
of_plain (step.Expunge side uid) plain = All-cons IsChange (Removed side uid) [] (tt {0}) (All-nil IsChange)

plain_copies : (s : Step) (copies : List Copy) → IsPlain s → copy_and s copies ≡ copies
plain_copies (step.New d uid flags mark) copies plain = absurd plain
plain_copies (step.Gone d far near) copies plain = refl
plain_copies (step.Flags d far near set cleared) copies plain = refl
plain_copies (step.Expunge side uid) copies plain = refl

-- a change that a step of the plan calls for leaves what is known as it is
change_allowed : (k : Known) (x : Asked) → IsChange x → IsCalledBy k.plan.steps x → Allows k x k
change_allowed k (Read journal) is c = absurd is
change_allowed k (Begun plan) is c = absurd is
change_allowed k (Sought side mark from found) is c = absurd is
change_allowed k (Copied d uid flags mark) is c = absurd is
change_allowed k (Set side uid flags) is c = (c, refl)
change_allowed k (Cleared side uid flags) is c = (c, refl)
change_allowed k (Removed side uid) is c = (c, refl)

changes_lead : (k : Known) (s : Step) → IsPlain s → Contains k.plan.steps s → (calls : List Asked) → All (IsCalledBy (s ∷ [])) calls → Leads k calls k
changes_lead k s plain at [] h = refl
changes_lead k s plain at (x ∷ calls) h =
    let this = All-head (IsCalledBy (s ∷ [])) x calls h in
    let is = All-contains IsChange (calls_of s) x (of_plain s plain) (subst (λ (l : List Asked). Contains l x) (append-nil (calls_of s)) this) in
    (k, change_allowed k x is (called_by k.plan.steps s x at this), changes_lead k s plain at calls (All-tail (IsCalledBy (s ∷ [])) x calls h))

-- ---- where a plan stands

-- before a step that is next: its copy is free, if it makes one, unless the plan was resumed
pub known_next : (opened : Option Opened) (s : Step) → next_at opened ≡ Some s
    → known_at false opened ≡ record { plan = plan_at opened; free = copy_and s (copies_left false (drop (length (log_at opened) + 1) (plan_at opened).steps)) }
known_next opened s is = ap (λ (l : List Step). record { plan = plan_at opened; free = copies_left false l }) (drop_next (plan_at opened).steps (log_at opened) s is)

known_plain : (is_resumed : Bool) (opened : Option Opened) (s : Step) → next_at opened ≡ Some s → IsPlain s → known_at is_resumed opened ≡ known_past is_resumed opened
known_plain true opened s is plain = refl
known_plain false opened s is plain =
    known_next opened s is ∙ ap (λ (l : List Copy). record { plan = plan_at opened; free = l }) (plain_copies s (copies_left false (drop (length (log_at opened) + 1) (plan_at opened).steps)) plain)

-- no step of it is logged
pub written_at : (opened : Option Opened) → log_at opened ≡ [] → known_at false opened ≡ written (plan_at opened)
written_at opened none = rw none refl

-- the step that was next is logged
pub known_logged : (is_resumed : Bool) (old new : Option Opened) (logged : Logged) → HasLogged old new (logged ∷ []) → known_past is_resumed old ≡ known_at is_resumed new
known_logged is_resumed old new logged h =
    let more : length (log_at new) ≡ length (log_at old) + 1 = ap (λ (l : List Logged). length l) h.log ∙ length-append {A = Logged} (log_at old) (logged ∷ []) in
    rw (h.plan, more) refl

-- what holds of an answer whatever it is
ends_so : {T E : Type 0} {P : Type 0} (result : Result T E) → P → OnOk result P
ends_so (Ok x) p = p
ends_so (Err e) p = tt

module _ {L : Type 0} (noted : L → Asked → L) where
  -- ---- steps

  pub calls_none : (steps : List Step) (old new : L) → new ≡ old → Calls noted steps old new
  calls_none steps old new e = record { calls = []; now = e; each = All-nil (IsCalledBy steps) }

  pub calls_one : (steps : List Step) (x : Asked) (old new : L) → IsCalledBy steps x → new ≡ noted old x → Calls noted steps old new
  calls_one steps x old new c e = record { calls = x ∷ []; now = e; each = All-cons (IsCalledBy steps) x [] c (All-nil (IsCalledBy steps)) }

  pub calls_then : (steps : List Step) (old mid new : L) → Calls noted steps old mid → Calls noted steps mid new → Calls noted steps old new
  calls_then steps old mid new h k = record {
    calls = h.calls ++ k.calls;
    now = k.now ∙ ap (λ (l : L). fold noted l k.calls) h.now ∙ sym (fold-append noted old h.calls k.calls);
    each = All-append (IsCalledBy steps) h.calls k.calls h.each k.each;
  }

  -- ---- the calls of each kind of step

  pub calls_gone : (d : Direction) (far near : ℕ) (side : Side) (uid flags : ℕ) (old new : L) → side ≡ target d → uid ≡ changed_uid d far near → flags ≡ 2 ^ DELETED → new ≡ noted old (Set side uid flags) → Calls noted (step.Gone d far near ∷ []) old new
  calls_gone d far near side uid flags old new s u f e =
      calls_one _ (Set side uid flags) old new (rw (s, u, f) (Contains-first (Set (target d) (changed_uid d far near) (2 ^ DELETED)) [])) e

  pub calls_set : (d : Direction) (far near set cleared : ℕ) (side : Side) (uid : ℕ) (old new : L) → side ≡ target d → uid ≡ changed_uid d far near → new ≡ noted old (Set side uid set) → Calls noted (step.Flags d far near set cleared ∷ []) old new
  calls_set d far near set cleared side uid old new s u e =
      calls_one _ (Set side uid set) old new (rw (s, u) (Contains-first (Set (target d) (changed_uid d far near) set) (Cleared (target d) (changed_uid d far near) cleared ∷ []))) e

  pub calls_cleared : (d : Direction) (far near set cleared : ℕ) (side : Side) (uid : ℕ) (old new : L) → side ≡ target d → uid ≡ changed_uid d far near → new ≡ noted old (Cleared side uid cleared) → Calls noted (step.Flags d far near set cleared ∷ []) old new
  calls_cleared d far near set cleared side uid old new s u e =
      calls_one _ (Cleared side uid cleared) old new
      (rw (s, u) (Contains-rest (Set (target d) (changed_uid d far near) set) (Cleared (target d) (changed_uid d far near) cleared) (Cleared (target d) (changed_uid d far near) cleared ∷ []) (Contains-first (Cleared (target d) (changed_uid d far near) cleared) []))) e

  pub calls_removed : (side : Side) (uid : ℕ) (old new : L) → new ≡ noted old (Removed side uid) → Calls noted (step.Expunge side uid ∷ []) old new
  calls_removed side uid old new e = calls_one _ (Removed side uid) old new (Contains-first (Removed side uid) []) e

  -- ---- a course of them

  pub comes_none : (known : Known) (old new : L) → new ≡ old → Comes noted known known old new
  comes_none known old new e = record { calls = []; now = e; leads = refl }

  pub comes_then : (a b c : Known) (old mid new : L) → Comes noted a b old mid → Comes noted b c mid new → Comes noted a c old new
  comes_then a b c old mid new h k = record {
    calls = h.calls ++ k.calls;
    now = k.now ∙ ap (λ (l : L). fold noted l k.calls) h.now ∙ sym (fold-append noted old h.calls k.calls);
    leads = leads_then a b c h.calls k.calls h.leads k.leads;
  }

  comes_one : (known next : Known) (x : Asked) (old new : L) → Allows known x next → new ≡ noted old x → Comes noted known next old new
  comes_one known next x old new a e = record { calls = x ∷ []; now = e; leads = (next, a, refl) }

  -- ---- a step that copies

  -- its message was copied
  pub copied : (opened : Option Opened) (d : Direction) (uid flags : ℕ) (mark : List ℕ) (left : List Copy) (old new : L) → next_at opened ≡ Some (step.New d uid flags mark)
      → new ≡ noted old (Copied d uid flags mark)
      → Comes noted (record { plan = plan_at opened; free = (target d, mark) ∷ left }) (record { plan = plan_at opened; free = left }) old new
  copied opened d uid flags mark left old new is e =
      let this = Copied d uid flags mark in
      let s = step.New d uid flags mark in
      comes_one _ _ this old new (called_by (plan_at opened).steps s this (next_contained (plan_at opened).steps (log_at opened) s is) (Contains-first this []), refl) e

  -- its copy was looked for, and found; or found or not, of which nothing is made
  pub looked : (known : Known) (side : Side) (mark : List ℕ) (from : ℕ) (found : Option ℕ) (old new : L) → new ≡ noted old (Sought side mark from found)
      → Comes noted known known old new
  looked known side mark from found old new e = comes_one known known (Sought side mark from found) old new (inl refl) e

  -- it was looked for, and not found
  pub freed : (plan : Plan) (side : Side) (mark : List ℕ) (old new : L) → new ≡ noted old (Sought side mark (first_uid plan side) None)
      → Comes noted (read_back plan) (record { plan = plan; free = (side, mark) ∷ [] }) old new
  freed plan side mark old new e = comes_one _ _ (Sought side mark (first_uid plan side) None) old new (inr (refl, refl, refl)) e

  -- ---- a step

  -- it changes messages
  pub performs_plain : {T E : Type 0} (is_resumed : Bool) (opened : Option Opened) (s : Step) (old new : L) (result : Result T E) → next_at opened ≡ Some s → IsPlain s
      → Calls noted (s ∷ []) old new → Performs noted (known_at is_resumed opened) (known_past is_resumed opened) old new result
  performs_plain is_resumed opened s old new result is plain h =
      let k = known_at is_resumed opened in
      let comes : Comes noted k k old new = record {
        calls = h.calls;
        now = h.now;
        leads = changes_lead k s plain (next_contained (plan_at opened).steps (log_at opened) s is) h.calls h.each;
      } in
      (k, comes, ends_so result (known_plain is_resumed opened s is plain))

  -- ---- stages

  pub asks_none : (known : Known) (old new : L) → new ≡ old → Asks noted known old new
  asks_none known old new e = (known, comes_none known old new e)

  pub asks_any : (known : Known) (old new : L) → Asks noted nothing old new → Asks noted known old new
  asks_any known old new h =
      let any = leads_any nothing h.0 known h.1.calls refl h.1.leads in
      (any.0, record { calls = h.1.calls; now = h.1.now; leads = any.1 })

  pub asks_then : (known : Known) (old mid new : L) → Asks noted known old mid → Asks noted nothing mid new → Asks noted known old new
  asks_then known old mid new h k = let next = asks_any h.0 mid new k in (next.0, comes_then known h.0 next.0 old mid new h.1 next.1)

  -- nothing was asked before, or after
  pub asks_after : (known : Known) (old mid new : L) → mid ≡ old → Asks noted known mid new → Asks noted known old new
  asks_after known old mid new e k = subst (λ (l : L). Asks noted known l new) e k

  pub asks_before : (known : Known) (old mid new : L) → Asks noted known old mid → new ≡ mid → Asks noted known old new
  asks_before known old mid new h e = subst (λ (l : L). Asks noted known old l) (sym e) h

  -- the journal was read before
  pub asks_read : (known : Known) (journal : Option Journal) (old mid new : L) → mid ≡ noted old (Read journal)
      → Asks noted (read_back (unwrap_or journal no_journal).plan) mid new → Asks noted known old new
  asks_read known journal old mid new e k =
      let back = read_back (unwrap_or journal no_journal).plan in
      (k.0, comes_then known back k.0 old mid new (comes_one known back (Read journal) old mid refl e) k.1)

  pub asks_reading : (known : Known) (journal : Option Journal) (old new : L) → new ≡ noted old (Read journal) → Asks noted known old new
  asks_reading known journal old new e = asks_read known journal old new new e (asks_none _ new new refl)

  -- the plan was written before
  pub asks_begun : (known : Known) (plan : Plan) (old mid new : L) → mid ≡ noted old (Begun plan) → Asks noted (written plan) mid new → Asks noted known old new
  asks_begun known plan old mid new e k =
      (k.0, comes_then known (written plan) k.0 old mid new (comes_one known (written plan) (Begun plan) old mid refl e) k.1)

  pub asks_beginning : (known : Known) (plan : Plan) (old new : L) → new ≡ noted old (Begun plan) → Asks noted known old new
  asks_beginning known plan old new e = asks_begun known plan old new new e (asks_none _ new new refl)

  -- where the same is known
  pub asks_along : (a b : Known) (old new : L) → a ≡ b → Asks noted a old new → Asks noted b old new
  asks_along a b old new e h = subst (λ (k : Known). Asks noted k old new) e h
