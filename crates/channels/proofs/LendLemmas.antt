-- Which mailboxes stores lend, one thing after another.
use Rattle.std.proofs.Common.{◌≡◌, ℕ, ◌+◌, ◌<◌, ◌≤◌, Bool, List, [], ◌∷◌, ◌++◌, Result, Ok, Err, IfOk, get_or, take, length, refl, ap, sym, subst, ◌∙◌, append_assoc, append-nil}
use Rattle.std.specs.List.{fold}
use Rattle.std.proofs.lemmas.List.{take_all, take_more}
use Rattle.rand_core.specs.Stream.{Stream}
use Rattle.rules.specs.declared.options.Options.{Options}
use Rattle.config.specs.declared.config.Boxes.TheVariants.{Matching}
use Rattle.config.specs.declared.config.Config.{Config}
use Rattle.channels.specs.declared.stores.BoxLists.{Ghosts}
use Rattle.channels.specs.declared.verdict.Verdict.{Verdict}
use Rattle.channels.specs.declared.verdict.Verdict.TheVariants.{Clean}
use Rattle.channels.specs.declared.store_fault.StoreFault.{StoreFault}
use Rattle.channels.specs.Asked.{IsJoined, Joined, Place}
use Rattle.channels.specs.Asks.{SettlesFound, Ways, lists_asked}
use Rattle.channels.specs.Boxes.{Reports, boxes_among}
use Rattle.channels.specs.Lendings.{Choice, Lends, LendsFor, LendsNone, Lent, LentPlace}
use Rattle.channels.specs.Scope.{options_of}
use Rattle.channels.specs.Settlings.{InTurn, IsFoundSettled, IsNamedSettled, SettlesAt, SettlesLent, SettlesOver}
use Rattle.channels.specs.Streams.{IsReported}

-- ---- from one moment to another

-- the same stores
pub LendsNone-same : {S : Type 0} (honest : S → Type 0) (lent : S → List LentPlace) (old new : S) → new ≡ old → LendsNone honest lent old new
LendsNone-same honest lent old new same = record {
  was_honest = λ h. subst honest same h;
  same = λ h. ap lent same;
}

-- nothing twice
pub LendsNone-both : {S : Type 0} {honest : S → Type 0} {lent : S → List LentPlace} {first middle last : S}
    → LendsNone honest lent first middle → LendsNone honest lent middle last → LendsNone honest lent first last
LendsNone-both one next = record {
  was_honest = λ h. one.was_honest (next.was_honest h);
  same = λ h. next.same h ∙ one.same (next.was_honest h);
}

-- after nothing so much
pub Lends-after : {S : Type 0} {honest : S → Type 0} {lent : S → List LentPlace} {first middle last : S} {is_such : List LentPlace → Type 0}
    → LendsNone honest lent first middle → Lends honest lent middle last is_such → Lends honest lent first last is_such
Lends-after one next = record {
  was_honest = λ h. one.was_honest (next.was_honest h);
  since = λ h.
      let more = next.since h in
      (more.0, more.1 ∙ ap (λ were. more.0 ++ were) (one.same (next.was_honest h)), more.2);
}

-- so much, and then nothing
pub Lends-then : {S : Type 0} {honest : S → Type 0} {lent : S → List LentPlace} {first middle last : S} {is_such : List LentPlace → Type 0}
    → Lends honest lent first middle is_such → LendsNone honest lent middle last → Lends honest lent first last is_such
Lends-then one next = record {
  was_honest = λ h. one.was_honest (next.was_honest h);
  since = λ h.
      let more = one.since (next.was_honest h) in
      (more.0, next.same h ∙ more.1, more.2);
}

-- what is such is also this
pub Lends-as : {S : Type 0} {honest : S → Type 0} {lent : S → List LentPlace} {old new : S} (is_such is_also : List LentPlace → Type 0)
    → ((more : List LentPlace) → is_such more → is_also more) → Lends honest lent old new is_such → Lends honest lent old new is_also
Lends-as is_such is_also turns was = record {
  was_honest = was.was_honest;
  since = λ h.
      let more = was.since h in
      (more.0, more.1, turns more.0 more.2);
}

-- ---- several mailboxes

-- one more
InTurn-more : {X : Type 0} (is_such : X → List LentPlace → Type 0) (xs : List X) (x : X) (earlier last : List LentPlace)
    → InTurn is_such xs earlier → is_such x last → InTurn is_such (xs ++ x ∷ []) (last ++ earlier)
InTurn-more is_such [] x earlier last h k =
    record { first = last; rest = []; begun = k; followed = refl; all = ap (λ were. last ++ were) h ∙ append-nil last }
InTurn-more is_such (y ∷ ys) x earlier last h k = record {
  first = h.first;
  rest = last ++ h.rest;
  begun = h.begun;
  followed = InTurn-more is_such ys x h.rest last h.followed k;
  all = ap (λ were. last ++ were) h.all ∙ sym (append_assoc last h.rest h.first);
}

-- none yet
pub Lends-begun : {S X : Type 0} (honest : S → Type 0) (lent : S → List LentPlace) (is_such : X → List LentPlace → Type 0) (old new : S)
    → new ≡ old → Lends honest lent old new (InTurn is_such [])
Lends-begun honest lent is_such old new same = record {
  was_honest = λ h. subst honest same h;
  since = λ h. ([], ap lent same, refl);
}

Lends-more : {S X : Type 0} {honest : S → Type 0} {lent : S → List LentPlace} {first middle last : S} (is_such : X → List LentPlace → Type 0)
    (xs : List X) (x : X) → Lends honest lent first middle (InTurn is_such xs) → Lends honest lent middle last (is_such x)
    → Lends honest lent first last (InTurn is_such (xs ++ x ∷ []))
Lends-more {S} {X} {honest} {lent} {first} is_such xs x one next = record {
  was_honest = λ h. one.was_honest (next.was_honest h);
  since = λ h.
      let new = next.since h in
      let were = one.since (next.was_honest h) in
      (new.0 ++ were.0, new.1 ∙ ap (λ ls. new.0 ++ ls) were.1 ∙ sym (append_assoc new.0 were.0 (lent first)), InTurn-more is_such xs x were.0 new.0 were.2 new.2);
}

-- the next of several
pub Lends-next : {S X : Type 0} {honest : S → Type 0} {lent : S → List LentPlace} {first middle last : S} (is_such : X → List LentPlace → Type 0)
    (xs : List X) (i : ℕ) (x : X) → i < length xs → x ≡ get_or xs i x → Lends honest lent first middle (InTurn is_such (take i xs))
    → Lends honest lent middle last (is_such x) → Lends honest lent first last (InTurn is_such (take (i + 1) xs))
Lends-next {S} {X} {honest} {lent} {first} {middle} {last} is_such xs i x l e one next =
    let more : take (i + 1) xs ≡ take i xs ++ x ∷ [] = take_more xs i x l ∙ ap (λ y. take i xs ++ y ∷ []) (sym e) in
    subst (λ (ys : List X). Lends honest lent first last (InTurn is_such ys)) (sym more) (Lends-more is_such (take i xs) x one next)

-- all
pub Lends-all : {S X : Type 0} {honest : S → Type 0} {lent : S → List LentPlace} {old new : S} (is_such : X → List LentPlace → Type 0)
    (xs : List X) (i : ℕ) → length xs ≤ i → Lends honest lent old new (InTurn is_such (take i xs))
    → Lends honest lent old new (InTurn is_such xs)
Lends-all {S} {X} {honest} {lent} {old} {new} is_such xs i l h =
    subst (λ (ys : List X). Lends honest lent old new (InTurn is_such ys)) (take_all i xs l) h

-- ---- what was reported

-- a fault was
pub never_clean : {E : Type 0} (P : Type 0) (result : Result Verdict E) → IfOk result IsReported → IfOk result (λ v. v ≡ Clean → P)
never_clean P (Ok v) h = λ clean. absurd (h clean)
never_clean P (Err fault) h = tt

pub IfClean-as : {E P Q : Type 0} (result : Result Verdict E) → (P → Q) → IfOk result (λ v. v ≡ Clean → P) → IfOk result (λ v. v ≡ Clean → Q)
IfClean-as (Ok v) turns h = λ clean. turns (h clean)
IfClean-as (Err fault) turns h = tt

-- ---- a channel

-- those that its patterns choose
pub IsFoundSettled-matching : {R : Type 0} (opening : Choice) (stream : R → Stream) (options : Options) (of : Joined) (fars nears names patterns : List (List ℕ))
    (more : List LentPlace) → ((is_chosen : List ℕ → Bool) → Reports is_chosen patterns → names ≡ boxes_among is_chosen fars nears)
    → InTurn (IsNamedSettled opening stream options of) names more
    → IsFoundSettled opening stream options of fars nears (Matching patterns) more
IsFoundSettled-matching opening stream options of fars nears names patterns more chosen h = λ is_chosen reports.
    subst (λ (ns : List (List ℕ)). InTurn (IsNamedSettled opening stream options of) ns more) (chosen is_chosen reports) h

-- its stores were listed, and then its mailboxes settled
pub IfClean-channel : {S R E : Type 0} (b : Ghosts S) (stream : R → Stream) (options : Options) (of : Joined) (fars nears : List (List ℕ)) (first middle last : S)
    (result : Result Verdict E) → LendsNone b.honest b.lent first middle → b.asked middle ≡ fold b.noted (b.asked first) (lists_asked of fars nears)
    → IfOk result (λ v. v ≡ Clean → SettlesFound b.noted options of fars nears of.channel.boxes (b.asked middle) (b.asked last))
    → IfOk result (λ v. v ≡ Clean → Lends b.honest b.lent middle last (IsFoundSettled b.opening stream options of fars nears of.channel.boxes))
    → IfOk result (λ v. v ≡ Clean → SettlesLent b stream options of first last)
IfClean-channel b stream options of fars nears first middle last (Ok v) none listed asked lent = λ clean. record {
  fars = fars;
  nears = nears;
  boxes = subst (λ was. SettlesFound b.noted options of fars nears of.channel.boxes was (b.asked last)) listed (asked clean);
  lent = Lends-after none (lent clean);
}
IfClean-channel b stream options of fars nears first middle last (Err fault) none listed asked lent = tt

pub IfClean-place : {S R E : Type 0} (b : Ghosts S) (stream : R → Stream) (config : Config) (ways : Ways) (place : ℕ) (of : Joined) (options : Options) (old new : S)
    (result : Result Verdict E) → IsJoined config place of → options ≡ options_of of.channel ways.cells ways.expunges
    → IfOk result (λ v. v ≡ Clean → SettlesLent b stream options of old new)
    → IfOk result (λ v. v ≡ Clean → SettlesAt b stream config ways place old new)
IfClean-place b stream config ways place of options old new (Ok v) joined o h = λ clean. record {
  of = of;
  joined = joined;
  settled = subst (λ (by : Options). SettlesLent b stream by of old new) o (h clean);
}
IfClean-place b stream config ways place of options old new (Err fault) joined o h = tt

-- ---- several channels

SettlesOver-more : {S R : Type 0} (b : Ghosts S) (stream : R → Stream) (config : Config) (ways : Ways) (places : List ℕ) (place : ℕ) (first then last : S)
    → SettlesOver b stream config ways places first then → SettlesAt b stream config ways place then last
    → SettlesOver b stream config ways (places ++ place ∷ []) first last
SettlesOver-more b stream config ways [] place first then last h k = (last, subst (λ s. SettlesAt b stream config ways place s last) h k, refl)
SettlesOver-more b stream config ways (p ∷ ps) place first then last h k =
    (h.0, h.1, SettlesOver-more b stream config ways ps place h.0 then last h.2 k)

pub SettlesOver-next : {S R : Type 0} (b : Ghosts S) (stream : R → Stream) (config : Config) (ways : Ways) (places items : List ℕ) (i : ℕ) (first middle last : S)
    → items ≡ places → i < length items → SettlesOver b stream config ways (take i places) first middle
    → SettlesAt b stream config ways (get_or items i 0) middle last → SettlesOver b stream config ways (take (i + 1) places) first last
SettlesOver-next b stream config ways places items i first middle last e l h k =
    let there : i < length places = subst (λ (xs : List ℕ). i < length xs) e l in
    let next : SettlesAt b stream config ways (get_or places i 0) middle last = subst (λ (xs : List ℕ). SettlesAt b stream config ways (get_or xs i 0) middle last) e k in
    rw (take_more places i 0 there) (SettlesOver-more b stream config ways (take i places) (get_or places i 0) first middle last h next)

pub SettlesOver-all : {S R : Type 0} (b : Ghosts S) (stream : R → Stream) (config : Config) (ways : Ways) (places : List ℕ) (i : ℕ) (old new : S)
    → length places ≤ i → SettlesOver b stream config ways (take i places) old new → SettlesOver b stream config ways places old new
SettlesOver-all b stream config ways places i old new l h =
    subst (λ (xs : List ℕ). SettlesOver b stream config ways xs old new) (take_all i places l) h

-- ---- for who implements stores

-- stores that say nothing of what they lend
pub lends_unsaid : {S A : Type 0} (lent : S → List LentPlace) (place : Place) (did : Lent → A → Type 0) (old new : S) (result : Result A StoreFault)
    → LendsFor (λ _. ⊥) lent place did old new result
lends_unsaid lent place did old new (Ok answer) = record { was_honest = λ h. h; since = λ h. absurd h }
lends_unsaid lent place did old new (Err fault) = record { was_honest = λ h. h; same = λ h. absurd h }

-- stores that hold others, which lend it
pub lends_through : {S T A : Type 0} (held : T → S) (honest : S → Type 0) (lent : S → List LentPlace) (place : Place) (did : Lent → A → Type 0) (old new : T)
    (result : Result A StoreFault) → LendsFor honest lent place did (held old) (held new) result
    → LendsFor (λ stores. honest (held stores)) (λ stores. lent (held stores)) place did old new result
lends_through held honest lent place did old new (Ok answer) h = record { was_honest = h.was_honest; since = h.since }
lends_through held honest lent place did old new (Err fault) h = record { was_honest = h.was_honest; same = h.same }

pub ruleset lend_steps = (LendsNone-same, LendsNone-both)
