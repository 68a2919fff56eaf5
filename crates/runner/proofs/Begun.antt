-- Admission, two listings and the writing of the plan.
use Rattle.std.proofs.Common.{◌≡◌, ◌⊎◌, inl, inr, ℕ, Bool, true, false, List, ◌++◌, length, take, Option, Some, None, refl, sym, ◌∙◌, ap, subst}
use Rattle.std.specs.Prelude.{Contains}
use Rattle.std.proofs.lemmas.Bool.{both_ways}
use Rattle.mailcore.specs.declared.side.Side.{Side}
use Rattle.mailcore.specs.declared.side.Side.TheVariants.{Far, Near as NearSide}
use Rattle.mailcore.specs.declared.listing.Listing.{Listing}
use Rattle.mailcore.specs.Listed.{item_of}
use Rattle.mailcore.specs.Operations.{ShowsSparing, item_sparing}
use Rattle.mailcore.specs.Mailboxes.{Mailbox}
use Rattle.mailcore.specs.Stores.{Waiting}
use Rattle.sync_state.specs.declared.version.Version.TheVariants.{Two}
use Rattle.rules.specs.declared.plan.Plan.{Plan}
use Rattle.book.specs.declared.book.Pending.TheVariants.{Missing, Useless}
use Rattle.book.specs.Books.{Holds, Turns as TurnsJournal, TurnsHalf}
use Rattle.book.specs.BookLogs.{begun}
use Rattle.outside.specs.Arrivals.{Arrives}
use Rattle.outside.specs.BookCalls.{OfBook}
use Rattle.outside.specs.MailboxOperations.{ListsWithin}
use Rattle.outside.proofs.Listed.{lists_since, reported_most}
use Rattle.outside.specs.BoxCalls.{Admits, AdmitsPart, ListsFar}
use Rattle.outside.specs.Devices.{Device}
use Rattle.outside.specs.Opened.{Opened, shown_far, turned, with_listing}
use Rattle.run_states.specs.Conditions.{Underway}
use Rattle.run_states.specs.Moments.{Listed}
use Rattle.rules.specs.World.{World}
use Rattle.run_states.specs.Openings.{Opening, Since, Unplanned, listed_world, once_listed, world_at}
use Rattle.run_states.proofs.Admitting.{drop_whole, grows_numbered, numbered_with, waited_named}
use Rattle.run_states.proofs.Growth.{files_same, grows_with, since_map, unplanned_arrives, unplanned_filed}
use Rattle.run_states.proofs.Listings.{listed_arrives, listed_here, listed_with, names_below, plan_written as written_midway}
use Rattle.runner.specs.Before.{AreOld, AreShown, BothListed, FarListed, IsClear, IsMade, world_shown}
use Rattle.runner.specs.Going.{BeforeStep}
use Rattle.runner.proofs.Listings.{both_shown, listed_last, listed_state}
use Rattle.runner.proofs.Within.{shown_within}

module _ {ours : List ℕ → Bool} {alone : Bool} (opening : Opening ours alone) where
  -- these are all files that waited at the opening, and more
  abbrev Have : List Waiting → Type 0
  Have named = (f : Waiting) → Contains opening.world.waiting f → Contains named f

  pub clear_unplanned : (opened : Option Opened) (is_admitted : Bool) (d : Device) → IsClear opening opened is_admitted d → Unplanned opening d
  clear_unplanned opened is_admitted d c = record { pending = Missing; idle = tt; files = c.files; chosen = c.chosen; below = c.below; grows = c.grows; named = c.named; unlisted = c.unlisted }

  pub clear_underway : (opened : Option Opened) (is_admitted : Bool) (d : Device) → IsClear opening opened is_admitted d → Underway opening d
  clear_underway opened is_admitted d c = inl (clear_unplanned opened is_admitted d c)

  pub clear_arrives : (opened : Option Opened) (is_admitted : Bool) (d m : Device) → Arrives ours alone d m → IsClear opening opened is_admitted d → IsClear opening opened is_admitted m
  clear_arrives opened is_admitted d m a c =
      let n = unplanned_arrives opening d m a (clear_unplanned opened is_admitted d c) in
      let k = grows_with ours (λ (named : List Waiting). is_admitted ≡ true → Have named) alone opening.world opening.world.state d m c.grows a c.waited in
      record {
        state = c.state;
        files = rw (files_same ours alone d m a) c.files;
        chosen = c.chosen;
        below = c.below;
        grows = k.0;
        named = n.named;
        unlisted = c.unlisted;
        waited = k.1;
        admitted = λ is e. rw (a.nobody e) (c.admitted is e);
      }

  -- ---- admission

  pub admitted_all : (opened : Option Opened) (d m d' : Device) → Arrives ours alone d m → IsClear opening opened false d → Admits alone d.near.waiting m d' → IsClear opening opened true d'
  admitted_all opened d m d' a c t =
      let k = clear_arrives opened false d m a c in
      let n = t.near in
      let r = grows_with ours (λ (named : List Waiting). Have (named ++ take (length n.read) n.read)) alone opening.world opening.world.state d m c.grows a (waited_named alone opening.world (world_at d opening.world.state) c.grows n.read n.least) in
      let g = numbered_with Have alone opening.world opening.world.state (length n.read) n.read n.left m d' n.reading t.far n.now r.0 r.1 in
      record {
        state = k.state;
        files = rw t.files k.files;
        chosen = k.chosen;
        below = k.below;
        grows = g.0;
        named = t.named ∙ k.named;
        unlisted = k.unlisted;
        waited = λ _. g.1;
        admitted = λ is e. ap (λ (b : Mailbox). b.waiting) n.now ∙ ap (λ (fs : List Waiting). fs ++ n.left) (drop_whole n.read) ∙ (n.reading.all e).1;
      }

  pub admitted_part : (opened : Option Opened) (d m d' : Device) → Arrives ours alone d m → IsClear opening opened false d → AdmitsPart alone m d' → IsClear opening opened false d'
  admitted_part opened d m d' a c t =
      let k = clear_arrives opened false d m a c in
      let n = t.near in
      record {
        state = k.state;
        files = rw t.files k.files;
        chosen = k.chosen;
        below = k.below;
        grows = grows_numbered alone opening.world opening.world.state n.count n.read n.left m d' n.reading t.far n.now k.grows;
        named = t.named ∙ k.named;
        unlisted = k.unlisted;
        waited = λ e. absurd (both_ways false refl e);
        admitted = λ e. absurd (both_ways false refl e);
      }

  -- ---- the listings

  -- another listing changes nothing else of what was read
  clear_listed : (side : Side) (v : ℕ) (x : Device) (opened : Option Opened) (is_admitted : Bool) (d : Device) → IsClear opening opened is_admitted d → IsClear opening (with_listing side v x opened) is_admitted d
  clear_listed side v x opened is_admitted d c = record {
    state = listed_state side v x opened ∙ c.state;
    files = c.files;
    chosen = c.chosen;
    below = c.below;
    grows = c.grows;
    named = c.named;
    unlisted = c.unlisted;
    waited = c.waited;
    admitted = c.admitted;
  }

  pub far_listed : (opened : Option Opened) (far : Listing) (d m d' : Device) → ListsWithin opening.options.keywords far → Arrives ours alone d m → IsClear opening opened true d → d' ≡ m → ListsFar alone d.far.next far m → FarListed opening (with_listing Far far.validity (shown_far far.next d') opened) far d'
  far_listed opened far d m d' within a c is l =
      let g = c.grows in
      let last = listed_last Far far.validity (shown_far far.next m) opened opening.world.state c.state in
      rw is (record { clear = clear_listed Far far.validity (shown_far far.next m) opened true m (clear_arrives opened true d m a c); lists = lists_since alone d.far.next opening.world.far.next far m.far g.far_next l; within = within; earlier = last.0; last = last.1 })

  pub near_listed : (opened : Option Opened) (far near : Listing) (spared : ℕ → Bool) (d m d' : Device) → ListsWithin opening.options.keywords near → AreOld opening.world.state.max_pushed opening.world.state.entries spared → Arrives ours alone d m → FarListed opening opened far d → d' ≡ m → ShowsSparing NearSide spared m.near.store near → BothListed opening (with_listing NearSide near.validity d' opened) far near d'
  near_listed opened far near spared d m d' within old a f is l =
      let c = clear_arrives opened true d m a f.clear in
      let s = opening.world.state in
      let reported = f.lists.next in
      let both = listed_with Have alone opening.world s far d m f.clear.grows c.grows (c.waited refl) reported in
      let grows = both.0 in
      let most = reported_most alone opening.world.far.next far d.far reported in
      let here = listed_world s far.next d m in
      let shown : world_shown (with_listing NearSide near.validity m opened) ≡ here = both_shown near.validity opened s far.next d m f.earlier c.state f.last in
      let since : Since (once_listed opening here) (λ w. AreShown w far near × Listed ours alone opening.named w m) = record {
        world = here;
        listed = λ w e. let same : here ≡ w = cc in same;
        grows = grows;
        waited = both.1;
        admitted = λ e. c.admitted refl e;
        below = names_below alone opening.world here grows c.below;
        within = record { far = shown_within opening.options.keywords (item_of Far) (λ _. refl) far.items d.far.messages f.lists.shows.items f.within; near = shown_within opening.options.keywords (item_sparing NearSide spared) (λ _. refl) near.items m.near.store.messages l.items within };
        holds = (record { far_is = f.lists.shows; spared = spared; old = old; near_is = l }, listed_here ours alone opening.world s far.next d m grows most (λ e. c.admitted refl e) a c.files c.named);
      } in
      let so = subst (λ (w : World). Since (once_listed opening w) (λ v. AreShown v far near × Listed ours alone opening.named v m)) (sym shown) since in
      rw is (record { clear = clear_listed NearSide near.validity m opened true m c; since = so })

  -- ---- the plan

  pub made_arrives : (opened : Option Opened) (plan : Plan) (d m : Device) → Arrives ours alone d m → IsMade opening opened plan d → IsMade opening opened plan m
  made_arrives opened plan d m a p = record { clear = clear_arrives opened true d m a p.clear; since = since_map (once_listed opening (world_shown opened)) _ _ (λ w g k. (k.0, listed_arrives ours alone w d m a k.1)) p.since }

  pub plan_written : (opened : Option Opened) (plan : Plan) (d m d' : Device) → Arrives ours alone d m → IsMade opening opened plan d → OfBook (λ _. TurnsJournal Missing (begun plan)) opened m d' → BeforeStep (once_listed opening (world_shown (turned (λ _. begun plan) opened))) (turned (λ _. begun plan) opened) false d'
  plan_written None plan d m d' a p t = absurd t
  plan_written (Some o) plan d m d' a p t =
      let now = made_arrives (Some o) plan d m a p in
      record {
        state = now.clear.state;
        since = since_map (once_listed opening (world_shown (Some o))) _ _ (λ w g k. let l = k.1 in written_midway ours alone w opening.options Two plan m d' k.0 l t.far t.near t.named (t.files w.state l.files)) now.since;
      }

  pub half_written : (opened : Option Opened) (plan : Plan) (d m d' : Device) → Arrives ours alone d m → IsMade opening opened plan d → OfBook (λ _. TurnsHalf Missing Useless) opened m d' → Underway opening d'
  half_written None plan d m d' a p t = absurd t
  half_written (Some o) plan d m d' a p t =
      let c = clear_arrives (Some o) true d m a p.clear in
      by_files (clear_unplanned (Some o) true m c) t.far t.near t.named (t.files opening.world.state c.files)
    where
      by_files : Unplanned opening m → d'.far ≡ m.far → d'.near ≡ m.near → d'.named ≡ m.named → Holds d'.files opening.world.state Missing ⊎ Holds d'.files opening.world.state Useless → Underway opening d'
      by_files n far near named (inl held) = inl (unplanned_filed opening Missing m d' tt far near named held n)
      by_files n far near named (inr held) = inl (unplanned_filed opening Useless m d' tt far near named held n)
