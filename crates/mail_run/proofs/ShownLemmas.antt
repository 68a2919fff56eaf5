-- Stores that others hold, and what these have made of their mailboxes.
use Rattle.std.proofs.Common.{◌≡◌, ℕ, List, [], ◌∷◌, inl, inr, subst, ap}
use Rattle.rand_core.specs.Stream.{Stream}
use Rattle.rules.specs.declared.options.Options.{Options}
use Rattle.config.specs.declared.config.Config.{Config}
use Rattle.config.specs.declared.request.RunRequest.{RunRequest}
use Rattle.channels.specs.declared.stores.BoxLists.{Ghosts}
use Rattle.channels.specs.Asked.{Joined}
use Rattle.channels.specs.Asks.{Ways}
use Rattle.channels.specs.Lendings.{LendsNone}
use Rattle.channels.specs.Runs.{RunsAt, RunsListed, RunsOnly, RunsOver}
use Rattle.channels.specs.Settlings.{SettlesAll, SettlesAt, SettlesLent, SettlesOver}

module _ {S T R : Type 0} (b : Ghosts S) (held : T → S) (stream : R → Stream) where
  -- what holds others is asked for what these are asked for, and lends what they lend
  abbrev pub through : Ghosts T
  through = record {
    Record = b.Record;
    noted = b.noted;
    asked = λ t. b.asked (held t);
    answered = λ t. b.answered (held t);
    honest = λ t. b.honest (held t);
    lent = λ t. b.lent (held t);
    opening = b.opening;
  }

  lent_through : (options : Options) (of : Joined) (old new : T) → SettlesLent through stream options of old new → SettlesLent b stream options of (held old) (held new)
  lent_through options of old new h = record {
    fars = h.fars;
    nears = h.nears;
    boxes = h.boxes;
    lent = record { was_honest = h.lent.was_honest; since = h.lent.since };
  }

  at_through : (config : Config) (ways : Ways) (place : ℕ) (old new : T) → SettlesAt through stream config ways place old new
      → SettlesAt b stream config ways place (held old) (held new)
  at_through config ways place old new h = record { of = h.of; joined = h.joined; settled = lent_through _ h.of old new h.settled }

  over_through : (config : Config) (ways : Ways) (places : List ℕ) (old new : T) → SettlesOver through stream config ways places old new
      → SettlesOver b stream config ways places (held old) (held new)
  over_through config ways [] old new h = ap held h
  over_through config ways (p ∷ ps) old new h =
      (held h.0, at_through config ways p old h.0 h.1, over_through config ways ps h.0 new h.2)

  -- they have settled their own
  pub settles_through : (config : Config) (request : RunRequest) (old new : T) (were are : S) → held old ≡ were → held new ≡ are
      → SettlesAll through stream config request old new → SettlesAll b stream config request were are
  settles_through config request old new were are before after h =
      let none = h.through.none in
      let all : SettlesAll b stream config request (held old) (held new) = record {
        cells = h.cells;
        words = h.words;
        through = record {
          last = held h.through.last;
          over = over_through config _ _ old h.through.last h.through.over;
          ended = h.through.ended;
          none = record { was_honest = none.was_honest; same = none.same };
        };
      } in
      subst (λ (s : S). SettlesAll b stream config request were s) after
      (subst (λ (s : S). SettlesAll b stream config request s (held new)) before all)

  -- ---- whatever the status

  none_through : (old new : T) → LendsNone through.honest through.lent old new → LendsNone b.honest b.lent (held old) (held new)
  none_through old new h = record { was_honest = h.was_honest; same = h.same }

  listed_through : (options : Options) (of : Joined) (old new : T) → RunsListed through stream options of old new → RunsListed b stream options of (held old) (held new)
  listed_through options of old new h = record {
    fars = h.fars;
    nears = h.nears;
    later = h.later;
    listed = h.listed;
    lent = record { was_honest = h.lent.was_honest; since = h.lent.since };
  }

  place_through : (config : Config) (ways : Ways) (place : ℕ) (old new : T) → RunsAt through stream config ways place old new → RunsAt b stream config ways place (held old) (held new)
  place_through config ways place old new (inl none) = inl (none_through old new none)
  place_through config ways place old new (inr h) =
      inr (record { synchronises = h.synchronises; of = h.of; joined = h.joined; runs = listed_through _ h.of old new h.runs })

  places_through : (config : Config) (ways : Ways) (places : List ℕ) (old new : T) → RunsOver through stream config ways places old new
      → RunsOver b stream config ways places (held old) (held new)
  places_through config ways [] old new h = ap held h
  places_through config ways (p ∷ ps) old new h = (held h.0, place_through config ways p old h.0 h.1, places_through config ways ps h.0 new h.2)

  only_through : (config : Config) (request : RunRequest) (old new : T) → RunsOnly through stream config request old new → RunsOnly b stream config request (held old) (held new)
  only_through config request old new (inl none) = inl (none_through old new none)
  only_through config request old new (inr h) = inr (record {
    cells = h.cells;
    words = h.words;
    through = record {
      last = held h.through.last;
      over = places_through config _ _ old h.through.last h.through.over;
      none = none_through h.through.last new h.through.none;
    };
  })

  -- they have run their own alone
  pub runs_through : (config : Config) (request : RunRequest) (old new : T) (were are : S) → held old ≡ were → held new ≡ are → RunsOnly through stream config request old new
      → RunsOnly b stream config request were are
  runs_through config request old new were are before after h =
      subst (λ (s : S). RunsOnly b stream config request were s) after
      (subst (λ (s : S). RunsOnly b stream config request s (held new)) before (only_through config request old new h))
