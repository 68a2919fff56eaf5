-- From the clauses of a mailbox's call to those of the outside's: one proof for both sides.
use Rattle.std.proofs.Common.{◌≡◌, ◌∙◌, inl, inr, ap, sym, refl, subst, ℕ, Bool, true, false, List, ◌∷◌, Option, Result, Ok, Err}
use Rattle.std.specs.Prelude.{IfErr, IfOk, OnOk, ◌&&◌, length}
use Rattle.book.specs.declared.shelf.Shelf as shelf
use Rattle.outside.specs.declared.mailbox.Mailbox as mailbox
use Rattle.device.specs.Calls as dev
use Rattle.device.specs.Calls.{Effect, Nothing, Stays, Follows}
use Rattle.mailcore.specs.declared.listing.Listing.{Listing}
use Rattle.mailcore.specs.declared.side.Side.{Side}
use Rattle.mailcore.specs.declared.side.Side.TheVariants.{Far, Near}
use Rattle.mailcore.specs.Operations.{marked_from}
use Rattle.mailcore.specs.Stores.{Store, Waiting}
use Rattle.mailcore.specs.Mailboxes.{Mailbox}
use Rattle.outside.specs.declared.box_fault.BoxFault.{BoxFault}
use Rattle.outside.specs.declared.box_fault.BoxFault.TheVariants as boxes
use Rattle.outside.specs.BoxArrivals as box
use Rattle.outside.specs.MailboxCalls as calls
use Rattle.outside.specs.MailboxCalls.{HasCause, Never, Seen}
use Rattle.outside.specs.MailboxOperations as ops
use Rattle.outside.proofs.Listed.{lists_weaker}
use Rattle.outside.specs.MailboxOperations.{Answers, NoRoom}
use Rattle.outside.specs.declared.fault.OutsideFault.{OutsideFault}
use Rattle.outside.specs.Arrivals.{Arrives}
use Rattle.outside.specs.BoxCalls.{Admits, AdmitsPart, ListsFar, ListsNear, Names, Turns}
use Rattle.outside.specs.Calls.{Call, FromBox, LeavesBy}
use Rattle.outside.specs.Devices as devices
use Rattle.outside.specs.Devices.{Device, Named}
use Rattle.outside.specs.GoingOn.{FilesGoOn}
use Rattle.outside.proofs.CallsSpare.{AreSparing, IsSparing, admitting_part_spares, admitting_spares, leaving_spares, reporting_spares}
use Rattle.outside.proofs.GoingOn.{files_stay}
use Rattle.outside.proofs.Sparing.{ChangesOne, arrivals_spare, names_spare, nothing_named, turns_spare}
use Rattle.run_pair.specs.declared.pair.Pair.{Pair}
use Rattle.run_pair.specs.Faults.{IsReported, OrRefusal, reported, reported_by}
use Rattle.run_pair.specs.Pairs.{Failed, device_of}
use Rattle.run_pair.specs.Parts.{IsLess, both, put, with_named}
use Rattle.run_pair.specs.Tallies.{Counts, Tallied, ended, ended_naming, named_by, no_copies, seen_with}
use Rattle.run_pair.proofs.Arriving.{alone_left, alone_right, arrives_at, less_left, less_right}
use Rattle.run_pair.proofs.Ending.{done_call, failed_call, none_named, tally}

-- ---- what is left of a device, of a call that changes and of one that reads

module _ (side : Side) (d : Device) where
  pub same_there : (b b' : Mailbox) → b' ≡ b → put side b' d ≡ put side b d
  same_there b b' h = ap (λ (x : Mailbox). put side x d) h

  pub changes_left : {T : Type 0} (because : BoxFault → Mailbox → Type 0) (does : T → Effect Mailbox) (part : Effect Mailbox) (does' : T → Effect Device) (part' : Effect Device)
      → ((x : T) (b b' : Mailbox) → does x b b' → does' x (put side b d) (put side b' d)) → ((b b' : Mailbox) → part b b' → part' (put side b d) (put side b' d))
      → (f : BoxFault) (b b' : Mailbox) → calls.LeavesBy does part because f b b' → LeavesBy does' part' (reported side f) (put side b d) (put side b' d)
  changes_left because does part does' part' all some boxes.Stopped b b' (inl h) = inl (same_there b b' h)
  changes_left because does part does' part' all some boxes.Stopped b b' (inr (inl h)) = inr (inl (record { answer = h.answer; done = all h.answer b b' h.done }))
  changes_left because does part does' part' all some boxes.Stopped b b' (inr (inr h)) = inr (inr (some b b' h))
  changes_left because does part does' part' all some boxes.Refused b b' h = same_there b b' h.0
  changes_left because does part does' part' all some (boxes.Own number) b b' h = same_there b b' h.0
  changes_left because does part does' part' all some boxes.NoMemory b b' (inl h) = inl (same_there b b' h)
  changes_left because does part does' part' all some boxes.NoMemory b b' (inr (inl h)) = inr (inl (record { answer = h.answer; done = all h.answer b b' h.done }))
  changes_left because does part does' part' all some boxes.NoMemory b b' (inr (inr h)) = inr (inr (some b b' h))

  pub reads_left : {T : Type 0} (because : BoxFault → Mailbox → Type 0) (states : T → Mailbox → Type 0) (f : BoxFault) (b b' : Mailbox)
      → calls.LeavesBy (Answers states) Nothing because f b b' → Stays (put side b d) (put side b' d)
  reads_left because states boxes.Stopped b b' (inl h) = same_there b b' h
  reads_left because states boxes.Stopped b b' (inr (inl h)) = same_there b b' h.done.0
  reads_left because states boxes.Stopped b b' (inr (inr h)) = absurd h
  reads_left because states boxes.Refused b b' h = same_there b b' h.0
  reads_left because states (boxes.Own number) b b' h = same_there b b' h.0
  reads_left because states boxes.NoMemory b b' (inl h) = same_there b b' h
  reads_left because states boxes.NoMemory b b' (inr (inl h)) = same_there b b' h.done.0
  reads_left because states boxes.NoMemory b b' (inr (inr h)) = absurd h

-- ---- calls of a mailbox, in its own words and in those of the device that it stands in

-- it is counted as `ends` says, and `names` are the messages that are named after it
pub record Move (side : Side) (d : Device) (T : Type 0) : Type 1 where
  pub because : BoxFault → Mailbox → Type 0
  pub does : T → Effect Mailbox
  pub part : Effect Mailbox
  pub does' : T → Effect Device
  pub leaves' : OutsideFault → Effect Device
  pub spares : (x : T) → IsSparing (does' x)
  pub spares_left : (e : OutsideFault) → IsSparing (leaves' e)
  pub ends : Result T OutsideFault → Counts → Counts
  pub names : Result T OutsideFault → List Named
  pub counts : (r : Result T OutsideFault) (c : Counts) → c.named ≡ d.named → ends r c ≡ record (ended no_copies r c) { named = names r }
  pub all : (x : T) (b b' : Mailbox) → does x b b' → does' x (put side b d) (put side b' (with_named (names (Ok x)) d))
  pub some : (f : BoxFault) (b b' : Mailbox) → calls.LeavesBy does part because f b b' → leaves' (reported side f) (put side b d) (put side b' (with_named (names (Err (reported side f))) d))

-- a call that names no message
pub counts_none : {T : Type 0} (d : Device) (r : Result T OutsideFault) (c : Counts) → c.named ≡ d.named → ended no_copies r c ≡ record (ended no_copies r c) { named = d.named }
counts_none d r c h = ap (λ (ns : List Named). record (ended no_copies r c) { named = ns }) (none_named no_copies r c ∙ h)

module _ {T : Type 0} (side : Side) (d : Device) (because : BoxFault → Mailbox → Type 0) where
  abbrev reading : (states : T → Mailbox → Type 0) (states' : T → Device → Type 0) → ((x : T) (b : Mailbox) → states x b → states' x (put side b d)) → Move side d T
  reading states states' so = record {
    because = because;
    does = Answers states;
    part = Nothing;
    does' = dev.Answers states';
    leaves' = λ _. Stays;
    spares = reporting_spares states';
    spares_left = λ _. nothing_named;
    ends = ended no_copies;
    names = λ _. d.named;
    counts = counts_none d;
    all = λ x b b' h. (same_there side d b b' h.0, so x b h.1);
    some = reads_left side d because states;
  }

  abbrev changing : (does : T → Effect Mailbox) (part : Effect Mailbox) (does' : T → Effect Device) (part' : Effect Device)
      → ((x : T) (b b' : Mailbox) → does x b b' → does' x (put side b d) (put side b' d)) → ((b b' : Mailbox) → part b b' → part' (put side b d) (put side b' d)) → ((x : T) → IsSparing (does' x)) → IsSparing part' → Move side d T
  changing does part does' part' all some spares spares_part = record {
    because = because;
    does = does;
    part = part;
    does' = does';
    leaves' = LeavesBy does' part';
    spares = spares;
    spares_left = leaving_spares does' part' spares spares_part;
    ends = ended no_copies;
    names = λ _. d.named;
    counts = counts_none d;
    all = all;
    some = changes_left side d because does part does' part' all some;
  }

module _ (d : Device) where
  pub box_at : (side : Side) (b : Mailbox) → devices.box (put side b d) side ≡ b.store
  box_at Far b = refl
  box_at Near b = refl

  abbrev pub opening : (side : Side) → (unfit : BoxFault → Mailbox → Type 0) → Move side d ℕ
  opening side unfit = reading side d (OrRefusal unfit) ops.ReportsValidity (λ validity e. validity ≡ (devices.box e side).validity) (λ validity b h. h ∙ sym (ap (λ (s : Store). s.validity) (box_at side b)))

  abbrev pub finding : (side : Side) → (mark : List ℕ) → (from : ℕ) → Move side d (Option ℕ)
  finding side mark from = reading side d Never (ops.Finds mark from) (λ found e. found ≡ marked_from mark from (devices.box e side)) (λ found b h. h ∙ sym (ap (λ (s : Store). marked_from mark from s) (box_at side b)))

  abbrev pub listing_far : (alone alone' : Bool) → (alone' ≡ true → alone ≡ true) → (known : ℕ) → (spared : ℕ → Bool) → Move Far d Listing
  listing_far alone alone' lone known spared = reading Far d (OrRefusal Never) (ops.Lists Far alone known spared) (ListsFar alone' known) (λ listing b h. lists_weaker alone alone' known listing b.store lone h)

  abbrev pub listing_near : (spared : ℕ → Bool) → Move Near d Listing
  listing_near spared = reading Near d (OrRefusal Never) (ops.Lists Near true 0 spared) (ListsNear spared) (λ listing b h. h)

  pub reading_weaker : (alone alone' : Bool) (read left : List Waiting) (b : Mailbox) → (alone' ≡ true → alone ≡ true) → ops.IsReading alone read left b → ops.IsReading alone' read left b
  reading_weaker alone alone' read left b lone r = record { parts = r.parts; all = λ e. r.all (lone e) }

  abbrev pub admitting : (alone alone' : Bool) → (alone' ≡ true → alone ≡ true) → (known : List Waiting) → Move Near d (Unit {0})
  admitting alone alone' lone known = changing Near d (OrRefusal (NoRoom Near (λ b. length b.waiting))) (λ _. ops.Admits alone known) (ops.AdmitsPart alone) (λ _. Admits alone' known) (AdmitsPart alone')
      (λ _ b b' h. record { far = refl; files = refl; named = refl; near = record { read = h.read; left = h.left; reading = reading_weaker alone alone' h.read h.left b lone h.reading; least = h.least; now = h.now } })
      (λ b b' h. record { far = refl; files = refl; named = refl; near = record { read = h.read; left = h.left; reading = reading_weaker alone alone' h.read h.left b lone h.reading; count = h.count; now = h.now } })
      (λ _. admitting_spares alone' known) (admitting_part_spares alone')

-- ---- a call that names a message

module _ (d : Device) (uid : ℕ) (change : Store → Store) (one : ChangesOne uid change) where
  -- this message is named before the others
  abbrev naming_too : Side → Device
  naming_too side = with_named (record { side = side; uid = uid } ∷ d.named) d

  named : (side : Side) (b b' : Mailbox) → b' ≡ b → Names side uid (put side b d) (put side b' (naming_too side))
  named Far b b' h = ap (λ (x : Mailbox). put Far x (naming_too Far)) h
  named Near b b' h = ap (λ (x : Mailbox). put Near x (naming_too Near)) h

  pub turned : (side : Side) (b b' : Mailbox) → ops.Turns change b b' → Turns side uid change (put side b d) (put side b' (naming_too side))
  turned Far b b' h = ap (λ (x : Mailbox). put Far x (naming_too Far)) h
  turned Near b b' h = ap (λ (x : Mailbox). put Near x (naming_too Near)) h

  abbrev turns : Side → Unit {0} → Effect Device
  turns side x = Turns side uid change

  abbrev names : Side → Result (Unit {0}) OutsideFault → List Named
  names side r = named_by (record { side = side; uid = uid }) r d.named

  pub turns_left : (side : Side) (f : BoxFault) (b b' : Mailbox) → calls.LeavesBy {T = Unit {0}} (λ _. ops.Turns change) Nothing Never f b b'
      → LeavesBy (turns side) (Names side uid) (reported side f) (put side b d) (put side b' (with_named (names side (Err (reported side f))) d))
  turns_left side boxes.Stopped b b' (inl h) = inr (inr (named side b b' h))
  turns_left side boxes.Stopped b b' (inr (inl h)) = inr (inl (record { answer = tt; done = turned side b b' h.done }))
  turns_left side boxes.Stopped b b' (inr (inr h)) = absurd h
  turns_left side boxes.Refused b b' h = same_there side d b b' h.0
  turns_left side (boxes.Own number) b b' h = same_there side d b b' h.0
  turns_left side boxes.NoMemory b b' (inl h) = inr (inr (named side b b' h))
  turns_left side boxes.NoMemory b b' (inr (inl h)) = inr (inl (record { answer = tt; done = turned side b b' h.done }))
  turns_left side boxes.NoMemory b b' (inr (inr h)) = absurd h

  abbrev pub turning : (side : Side) → Move side d (Unit {0})
  turning side = record {
    because = Never;
    does = λ _. ops.Turns change;
    part = Nothing;
    does' = turns side;
    leaves' = LeavesBy (turns side) (Names side uid);
    spares = λ _ e e'. turns_spare side uid change e e' one;
    spares_left = leaving_spares (turns side) (Names side uid) (λ _ e e'. turns_spare side uid change e e' one) (names_spare side uid);
    ends = ended_naming side uid;
    names = names side;
    counts = λ r c h. ap (λ (ns : List Named). record (ended no_copies r c) { named = named_by (record { side = side; uid = uid }) r ns }) h;
    all = λ _. turned side;
    some = turns_left side;
  }

-- ---- what is reported

from_box : (side : Side) (f : BoxFault) → FromBox (reported side f)
from_box side boxes.Stopped = tt
from_box side boxes.Refused = tt
from_box side (boxes.Own number) = tt
from_box side boxes.NoMemory = tt

pub is_reported : {T : Type 0} (side : Side) (own ended' cause : Type 0) (others : Effect Mailbox) (because : BoxFault → Mailbox → Type 0) (does : T → Effect Mailbox) (part : Effect Mailbox) (s s' : Seen) (f : BoxFault)
    → (HasCause ended' s s' → cause) → calls.Call {T = T} own ended' others because does part s s' (Err f) → IsReported own cause side because s'.stored (reported side f)
is_reported side own ended' cause others because does part s s' boxes.Stopped so h = so (h.cause refl)
is_reported side own ended' cause others because does part s s' boxes.Refused so h = λ k. let l = h.left k in subst (λ (b : Mailbox). because boxes.Refused b) (sym l.following.0) l.following.1
is_reported side own ended' cause others because does part s s' (boxes.Own number) so h =
    (refl, λ k. let l = h.left k in subst (λ (b : Mailbox). because (boxes.Own number) b) (sym l.following.0) l.following.1)
is_reported side own ended' cause others because does part s s' boxes.NoMemory so h = tt

-- ---- the call of one side is that of the outside

-- what the outside says of a call of the mailbox of a side
pub record Ends {T : Type 0} (side : Side) (d d' : Device) (move : Move side d T) (now : Mailbox) (honest own cause : Type 0) (others : Effect Device) (c c' : Counts) (result : Result T OutsideFault) : Type 0 where
  pub call : Call honest others (λ _. 0) FromBox move.does' move.leaves' (seen_with d c) (seen_with d' c') result
  pub why : IfErr result (IsReported own cause side move.because now)
  pub tallied : Tallied move.ends result c c'

files_put : (side : Side) (b : Mailbox) (d : Device) → (put side b d).files ≡ d.files
files_put Far b d = refl
files_put Near b d = refl

module _ {T : Type 0} (side : Side) (d : Device) (move : Move side d T) (honest own ended' cause : Type 0) (ours ours' : List ℕ → Bool) (alone alone' : Bool) (s s' : Seen)
    (kept : honest → own) (less : IsLess ours ours') (lone : alone' ≡ true → alone ≡ true) (so : HasCause ended' s s' → cause) (was : put side s.stored d ≡ d) where
  along : (ns : List Named) (own' : Effect Mailbox) (own'' : Effect Device) → ((b b' : Mailbox) → own' b b' → own'' (put side b d) (put side b' (with_named ns d)))
      → Follows (box.Arrives side ours alone) own' s.stored s'.stored → Follows (Arrives ours' alone') own'' d (put side s'.stored (with_named ns d))
  along ns own' own'' f h = record {
    mid = put side h.mid d;
    before = subst (λ (e : Device). Arrives ours' alone' e (put side h.mid d)) was (arrives_at ours ours' alone alone' less lone d side s.stored h.mid h.before);
    following = f h.mid s'.stored h.following;
  }

  same_files : (ns : List Named) → FilesGoOn d.files (put side s'.stored (with_named ns d)).files
  same_files ns = files_stay d.files _ (files_put side s'.stored (with_named ns d))

  sparing : AreSparing (Arrives ours' alone') move.does' move.leaves'
  sparing = record { others = arrivals_spare ours' alone'; does = move.spares; leaves = move.spares_left }

  abbrev EndsSo : Counts → Counts → Result T OutsideFault → Type 0
  EndsSo c c' result = Ends side d (put side s'.stored (with_named c'.named d)) move s'.stored honest own cause (Arrives ours' alone') c c' result

  ends_so : (c : Counts) (answer : Result T BoxFault) → c.named ≡ d.named → c.is_broken ≡ false → calls.Call own ended' (box.Arrives side ours alone) move.because move.does move.part s s' answer
      → EndsSo c (record (ended no_copies (reported_by side answer) c) { named = move.names (reported_by side answer) }) (reported_by side answer)
  ends_so c (Ok x) known whole h = record {
    call = done_call honest (Arrives ours' alone') (λ _. 0) FromBox move.does' move.leaves' d (put side s'.stored (with_named (move.names (Ok x)) d)) c whole sparing (λ _. same_files (move.names (Ok x))) x
        (λ k. along (move.names (Ok x)) (move.does x) (move.does' x) (move.all x) (h.effect (kept k)));
    why = tt;
    tallied = tally move.ends (Ok x) (Ok x) c _ whole refl (sym (move.counts (Ok x) c known));
  }
  ends_so c (Err f) known whole h = record {
    call = failed_call honest (Arrives ours' alone') (λ _. 0) FromBox move.does' move.leaves' d (put side s'.stored (with_named (move.names (Err (reported side f))) d)) c whole sparing (λ _. same_files (move.names (Err (reported side f)))) (reported side f) (from_box side f)
        (λ k. along (move.names (Err (reported side f))) (calls.LeavesBy move.does move.part move.because f) (move.leaves' (reported side f)) (move.some f) (h.left (kept k)));
    why = is_reported side own ended' cause (box.Arrives side ours alone) move.because move.does move.part s s' f so h;
    tallied = tally move.ends (Err (reported side f)) (Err (reported side f)) c _ whole refl (sym (move.counts (Err (reported side f)) c known));
  }

  pub ends : (c c' : Counts) (answer : Result T BoxFault) (result : Result T OutsideFault) → c.named ≡ d.named → c.is_broken ≡ false → result ≡ reported_by side answer → c' ≡ move.ends (reported_by side answer) c
      → calls.Call own ended' (box.Arrives side ours alone) move.because move.does move.part s s' answer → EndsSo c c' result
  ends c c' answer result known whole same now h =
      subst (λ (k : Counts). EndsSo c k result) (sym (now ∙ move.counts (reported_by side answer) c known))
      (subst (λ (r : Result T OutsideFault). EndsSo c (record (ended no_copies (reported_by side answer) c) { named = move.names (reported_by side answer) }) r) (sym same) (ends_so c answer known whole h))

module _ {F N S : Type 0} {fars : mailbox.Ghosts F} {nears : mailbox.Ghosts N} {shelves : shelf.Ghosts S} (p : Pair F N S fars nears shelves) {T : Type 0} where
  -- the far mailbox was called, and is as it is now
  pub far_ends : (move : Move Far (device_of p) T) (far : F) (c' : Counts) (answer : Result T BoxFault) (result : Result T OutsideFault)
      → p.tally.is_broken ≡ false → result ≡ reported_by Far answer → c' ≡ move.ends (reported_by Far answer) p.tally
      → calls.Call (fars.honest far) (fars.ended p.far far) (box.Arrives Far fars.ours fars.alone) move.because move.does move.part (fars.seen p.far) (fars.seen far) answer
      → Ends Far (device_of p) (put Far (fars.seen far).stored (with_named c'.named (device_of p))) move (fars.seen far).stored (fars.honest far × nears.honest p.near × shelves.honest p.book.book.shelf) (fars.honest far)
      (Failed p (HasCause (fars.ended p.far far) (fars.seen p.far) (fars.seen far))) (Arrives (both fars.ours nears.ours) (fars.alone && nears.alone)) p.tally c' result
  far_ends move far c' answer result whole same now h =
      ends Far (device_of p) move _ (fars.honest far) (fars.ended p.far far) _ fars.ours (both fars.ours nears.ours) fars.alone (fars.alone && nears.alone) (fars.seen p.far) (fars.seen far)
      (λ k. k.0) (less_left fars.ours nears.ours) (alone_left fars.alone nears.alone) (λ k. inr k) refl p.tally c' answer result refl whole same now h

  -- the near mailbox was
  pub near_ends : (move : Move Near (device_of p) T) (near : N) (c' : Counts) (answer : Result T BoxFault) (result : Result T OutsideFault)
      → p.tally.is_broken ≡ false → result ≡ reported_by Near answer → c' ≡ move.ends (reported_by Near answer) p.tally
      → calls.Call (nears.honest near) (nears.ended p.near near) (box.Arrives Near nears.ours nears.alone) move.because move.does move.part (nears.seen p.near) (nears.seen near) answer
      → Ends Near (device_of p) (put Near (nears.seen near).stored (with_named c'.named (device_of p))) move (nears.seen near).stored (fars.honest p.far × nears.honest near × shelves.honest p.book.book.shelf) (nears.honest near)
      (Failed p (HasCause (nears.ended p.near near) (nears.seen p.near) (nears.seen near))) (Arrives (both fars.ours nears.ours) (fars.alone && nears.alone)) p.tally c' result
  near_ends move near c' answer result whole same now h =
      ends Near (device_of p) move _ (nears.honest near) (nears.ended p.near near) _ nears.ours (both fars.ours nears.ours) nears.alone (fars.alone && nears.alone) (nears.seen p.near) (nears.seen near)
      (λ k. k.1) (less_right fars.ours nears.ours) (alone_right fars.alone nears.alone) (λ k. inr k) refl p.tally c' answer result refl whole same now h

-- ---- an answer

pub if_ok : {T : Type 0} (side : Side) (P : T → Type 0) (answer : Result T BoxFault) (result : Result T OutsideFault) → result ≡ reported_by side answer → IfOk answer P → IfOk result P
if_ok {T} side P answer result same h = subst (λ (r : Result T OutsideFault). IfOk r P) (sym same) (by_answer answer h)
  where
    by_answer : (a : Result T BoxFault) → IfOk a P → IfOk (reported_by side a) P
    by_answer (Ok x) k = k
    by_answer (Err f) k = tt

pub on_ok : {T : Type 0} (side : Side) (P Q : Type 0) (answer : Result T BoxFault) (result : Result T OutsideFault) → result ≡ reported_by side answer → (P → Q) → OnOk answer P → OnOk result Q
on_ok {T} side P Q answer result same f h = subst (λ (r : Result T OutsideFault). OnOk r Q) (sym same) (by_answer answer h)
  where
    by_answer : (a : Result T BoxFault) → OnOk a P → OnOk (reported_by side a) Q
    by_answer (Ok x) k = f k
    by_answer (Err e) k = tt
