-- Which UIDVALIDITY is recorded, and that the calls before the plan keep those of both mailboxes.
use Rattle.std.proofs.Common.{◌≡◌, ℕ, zero, suc, Bool, not, ◌==◌, List, if◌then◌else◌, Option, Some, None, Result, Ok, Err, OnOk, refl, sym, ◌∙◌, ap, subst, arith}
use Rattle.mailcore.specs.declared.keywords.Keyword.{Keyword}
use Rattle.mailcore.specs.declared.side.Side.{Side}
use Rattle.mailcore.specs.declared.side.Side.TheVariants.{Far, Near}
use Rattle.mailcore.specs.declared.listing.Listing.{Listing}
use Rattle.mailcore.specs.Mailboxes.{Mailbox}
use Rattle.mailcore.specs.Stores.{Store, Waiting}
use Rattle.rules.specs.declared.state.SyncState.{SyncState}
use Rattle.book.specs.declared.book.Pending.{Pending}
use Rattle.book.specs.declared.book.Pending.TheVariants.{Missing, Useless, Planned}
use Rattle.book.specs.Books.{Holds, Turns}
use Rattle.book.specs.Shelves.{Files}
use Rattle.book.proofs.KnownBooks.{book_known}
use Rattle.std.proofs.lemmas.Grind.{common_steps}
use Rattle.run_states.specs.Openings.{IsIdle}
use Rattle.outside.specs.Arrivals.{Arrives}
use Rattle.runner.specs.declared.fault.RunFault.{RunFault}
use Rattle.runner.specs.declared.fault.RunFault.TheVariants as run
use Rattle.rules.specs.Outcome.{changed_side}
use Rattle.outside.specs.BookCalls.{OfBook}
use Rattle.outside.specs.BoxCalls.{Admits}
use Rattle.outside.specs.Devices.{Device, box}
use Rattle.outside.specs.Opened.{IsHeld, Opened, state_of, turned, with_box, with_listing}
use Rattle.runner.specs.Before.{HasNoJournal, HasNoPlan}
use Rattle.runner.specs.Answers.{as_read}
use Rattle.runner.specs.ChangedMaps.{ReportsMap, ReportsOtherMap}
use Rattle.runner.specs.Validities.{BothSame, HasChanged, HasOther, HasSame, HaveValidities, AnswersChanged, AnswersOther, IsKept, IsOther, IsSame, KeepsValidities, ListsChanged, OpensBoth, OpensBox, ReportsChange, ReportsChanged, ReportsOther, ReportsUnlessSame, after_run, named_after, recorded, recorded_in}

-- ---- which one is recorded

-- an open box records no other
boxed_recorded : (side at : Side) (v : ℕ) (opened : Option Opened) → recorded_in (with_box side v opened) at ≡ recorded_in opened at
boxed_recorded side at v None = refl
boxed_recorded Far at v (Some o) = refl
boxed_recorded Near at v (Some o) = refl

pub boxed_same : (side at : Side) (v : ℕ) (opened : Option Opened) (d : Device) → HasSame (with_box side v opened) at d → HasSame opened at d
boxed_same side at v opened d h = subst (λ (r : Option ℕ). IsSame r (box d at).validity) (boxed_recorded side at v opened) h

pub boxed_other : (side at : Side) (v : ℕ) (opened : Option Opened) (d : Device) → HasOther (with_box side v opened) at d → HasOther opened at d
boxed_other side at v opened d h = subst (λ (r : Option ℕ). IsOther r (box d at).validity) (boxed_recorded side at v opened) h

pub same_boxed : (v w : ℕ) (opened : Option Opened) (d : Device) → BothSame opened d → BothSame (with_box Near w (with_box Far v opened)) d
same_boxed v w None d h = h
same_boxed v w (Some o) d h = h

-- the box of a side has the recorded one, or another
pub has_same : (opened : Option Opened) (side : Side) (d : Device) (before validity : ℕ) → recorded_in opened side ≡ Some before → validity ≡ (box d side).validity → before ≡ validity → HasSame opened side d
has_same opened side d before validity r v e = subst (λ (x : Option ℕ). IsSame x (box d side).validity) (sym r) (e ∙ v)

pub has_any : (opened : Option Opened) (side : Side) (d : Device) → recorded_in opened side ≡ None → HasSame opened side d
has_any opened side d r = subst (λ (x : Option ℕ). IsSame x (box d side).validity) (sym r) tt

pub has_other : (opened : Option Opened) (side : Side) (d : Device) (before validity : ℕ) → recorded_in opened side ≡ Some before → validity ≡ (box d side).validity → (before ≡ validity → ⊥) → HasOther opened side d
has_other opened side d before validity r v f = subst (λ (x : Option ℕ). IsOther x (box d side).validity) (sym r) (λ e. f (e ∙ sym v))

-- ---- what stays

pub validities_next : (a b c : Device) → KeepsValidities a b → KeepsValidities b c → KeepsValidities a c
validities_next a b c p q = record { far = q.far ∙ p.far; near = q.near ∙ p.near }

pub kept_next : (alone : Bool) (a b c : Device) → IsKept alone a b → IsKept alone b c → IsKept alone a c
kept_next alone a b c p q = record { files = q.files ∙ p.files; named = q.named ∙ p.named; validities = validities_next a b c p.validities q.validities; same = λ e. q.same e ∙ p.same e }

box_kept : (side : Side) (d d' : Device) → KeepsValidities d d' → (box d' side).validity ≡ (box d side).validity
box_kept Far d d' k = k.far
box_kept Near d d' k = k.near

pub same_kept : (opened : Option Opened) (side : Side) (d d' : Device) → KeepsValidities d d' → HasSame opened side d → HasSame opened side d'
same_kept opened side d d' k h = subst (λ (v : ℕ). IsSame (recorded_in opened side) v) (sym (box_kept side d d' k)) h

pub same_before : (opened : Option Opened) (side : Side) (d d' : Device) → KeepsValidities d d' → HasSame opened side d' → HasSame opened side d
same_before opened side d d' k h = subst (λ (v : ℕ). IsSame (recorded_in opened side) v) (box_kept side d d' k) h

pub other_before : (opened : Option Opened) (side : Side) (d d' : Device) → KeepsValidities d d' → HasOther opened side d' → HasOther opened side d
other_before opened side d d' k h = subst (λ (v : ℕ). IsOther (recorded_in opened side) v) (box_kept side d d' k) h

pub changed_before : (opened : Option Opened) (side : Side) (d d' : Device) → KeepsValidities d d' → HasChanged opened side d' → HasChanged opened side d
changed_before opened Far d d' k h = other_before opened Far d d' k h
changed_before opened Near d d' k h = (same_before opened Far d d' k h.0, other_before opened Near d d' k h.1)

module _ (ours : List ℕ → Bool) (alone : Bool) where
  pub kept_arrives : (d m : Device) → Arrives ours alone d m → IsKept alone d m
  kept_arrives d m a = record {
    files = ap (λ (x : Device). x.files) a.now;
    named = ap (λ (x : Device). x.named) a.now;
    validities = record { far = ap (λ (x : Device). x.far.validity) a.now; near = ap (λ (x : Device). x.near.store.validity) a.now };
    same = a.nobody;
  }

  -- a call that changes nothing
  pub kept_read : (d m d' : Device) → Arrives ours alone d m → d' ≡ m → IsKept alone d d'
  kept_read d m d' a e = subst (λ (x : Device). IsKept alone d x) (sym e) (kept_arrives d m a)

  pub read_validities : (d m d' : Device) → Arrives ours alone d m → d' ≡ m → KeepsValidities d d'
  read_validities d m d' a e = let k = kept_read d m d' a e in k.validities

  -- an opened box has what is recorded, or another, or nothing is
  pub same_read : (opened : Option Opened) (side : Side) (d m d' : Device) (before validity : ℕ) → recorded_in opened side ≡ Some before → Arrives ours alone d m → d' ≡ m → validity ≡ (box m side).validity → before ≡ validity → HasSame opened side d' × IsKept alone d d'
  same_read opened side d m d' before validity r a e v same = (subst (λ (x : Device). HasSame opened side x) (sym e) (has_same opened side m before validity r v same), kept_read d m d' a e)

  pub any_read : (opened : Option Opened) (side : Side) (d m d' : Device) → recorded_in opened side ≡ None → Arrives ours alone d m → d' ≡ m → HasSame opened side d' × IsKept alone d d'
  any_read opened side d m d' r a e = (has_any opened side d' r, kept_read d m d' a e)

  pub other_read : (opened : Option Opened) (side : Side) (d m d' : Device) (before validity : ℕ) → recorded_in opened side ≡ Some before → Arrives ours alone d m → d' ≡ m → validity ≡ (box m side).validity → (before ≡ validity → ⊥) → HasOther opened side d × IsKept alone d d'
  other_read opened side d m d' before validity r a e v differ = let k = kept_arrives d m a in (other_before opened side d m k.validities (has_other opened side m before validity r v differ), kept_read d m d' a e)

  -- a journal goes
  pub emptied_validities : (opened : Option Opened) (d m d' : Device) → HasNoPlan opened → Arrives ours alone d m → OfBook (λ p. Turns p Missing) opened m d' → KeepsValidities d d'
  emptied_validities None d m d' none a t = absurd none
  emptied_validities (Some o) d m d' none a t =
      let k = kept_arrives d m a in
      validities_next d m d' k.validities (record { far = rw t.far refl; near = rw t.near refl })

  -- waiting files are admitted
  pub admitted_validities : (known : List Waiting) (d m d' : Device) → Arrives ours alone d m → Admits alone known m d' → KeepsValidities d d'
  admitted_validities known d m d' a t =
      let k = kept_arrives d m a in
      validities_next d m d' k.validities (record { far = ap (λ (s : Store). s.validity) t.far; near = ap (λ (b : Mailbox). b.store.validity) t.near.now })

pub validities_joined : {T : Type 0} (h0 h1 : Type 0) (a b c : Device) (r : Result T RunFault) → (h1 → h0) → (h0 → KeepsValidities a b) → OnOk r (h1 → KeepsValidities b c) → OnOk r (h1 → KeepsValidities a c)
validities_joined h0 h1 a b c (Ok x) f p q = λ h. validities_next a b c (p (f h)) (q h)
validities_joined h0 h1 a b c (Err e) f p q = tt

-- ---- the listings

pub both_validities : (far near : Listing) (a b c : Device) → KeepsValidities a b → far.validity ≡ b.far.validity → KeepsValidities b c → near.validity ≡ c.near.store.validity → HaveValidities far near a
both_validities far near a b c p f q n = record { far_is = f ∙ p.far; near_is = n ∙ q.near ∙ p.near }

-- a journal without a plan records what the state does
pub emptied_same : (opened : Option Opened) (d : Device) → HasNoPlan opened → BothSame opened d → BothSame (turned (λ _. Missing) opened) d
emptied_same None d none h = absurd none
emptied_same (Some o) d none h = (of_pending o.pending Far none h.0, of_pending o.pending Near none h.1)
  where
    of_pending : (p : Pending) (side : Side) → IsIdle p → IsSame (recorded o.state p side) (box d side).validity → IsSame (after_run o.state side) (box d side).validity
    of_pending Missing side none h = h
    of_pending Useless side none h = h
    of_pending (Planned written) side none h = absurd none

pub missing_here : (opened : Option Opened) → HasNoPlan opened → HasNoJournal (turned (λ _. Missing) opened)
missing_here None h = h
missing_here (Some o) h = refl

-- where both mailboxes have what is recorded, their listings do too
pub lists_same : (opened : Option Opened) (far near : Listing) (side : Side) (d : Device) → HasNoJournal opened → BothSame opened d → HaveValidities far near d → ListsChanged opened far near side → ⊥
lists_same None far near side d none same have reported = reported
lists_same (Some o) far near side d none same have reported =
    let f = subst (λ (p : Pending). IsSame (recorded o.state p Far) d.far.validity) none same.0 in
    let n = subst (λ (p : Pending). IsSame (recorded o.state p Near) d.near.store.validity) none same.1 in
    no_side o.state.run far.validity o.state.far_validity near.validity o.state.near_validity side (subst (λ (v : ℕ). IsSame (after_run o.state Far) v) (sym have.far_is) f) (subst (λ (v : ℕ). IsSame (after_run o.state Near) v) (sym have.near_is) n) reported
  where
    no_side : (run f g n m : ℕ) (side : Side) → IsSame (named_after run g) f → IsSame (named_after run m) n → (if run == 0 then None else if not (f == g) then Some Far else if not (n == m) then Some Near else None) ≡ Some side → ⊥
    no_side zero f g n m side a b reported = cc
    no_side (suc run) f g n m side a b reported = grind (arith, common_steps)

pub side_reported : (opened : Option Opened) (s : SyncState) (far near : Listing) (reported side : Side) → run.ValidityChanged reported ≡ run.ValidityChanged side → state_of opened ≡ Some s → changed_side far near s ≡ Some reported → ListsChanged opened far near side
side_reported None s far near reported side is e changed = cc
side_reported (Some o) s far near reported side is e changed =
    let same : reported ≡ side = cc in
    let here : o.state ≡ s = cc in
    subst (λ (x : SyncState). changed_side far near x ≡ Some side) (sym here) (changed ∙ ap (λ (x : Side). Some x) same)

-- ---- what was answered, on each outside

-- the answer is the recorded one, or another, or none is recorded
pub same_as : (r : Option ℕ) (before validity : ℕ) → r ≡ Some before → before ≡ validity → IsSame r validity
same_as r before validity is same = subst (λ (x : Option ℕ). IsSame x validity) (sym is) same

pub any_as : (r : Option ℕ) (validity : ℕ) → r ≡ None → IsSame r validity
any_as r validity is = subst (λ (x : Option ℕ). IsSame x validity) (sym is) tt

pub other_as : (r : Option ℕ) (before validity : ℕ) → r ≡ Some before → (before ≡ validity → ⊥) → IsOther r validity
other_as r before validity is other = subst (λ (x : Option ℕ). IsOther x validity) (sym is) other

-- one box was opened after the other
pub both_boxed : (opened mid now : Option Opened) (r : Result (Unit {0}) RunFault) → OpensBox IsSame Far opened mid → OnOk r (OpensBox IsSame Near mid now) → OnOk r (OpensBoth opened now)
both_boxed opened mid now (Ok x) far near = record { far = far.validity; near = near.validity; opened = near.opened ∙ ap (λ (x : Option Opened). with_box Near near.validity x) far.opened }
both_boxed opened mid now (Err f) far near = tt

-- the box that was opened first
pub far_answers : (opened now : Option Opened) (side : Side) → side ≡ Far → OpensBox IsOther Far opened now → AnswersChanged now side
far_answers None now side is o = absurd o.compared
far_answers (Some b) now side is o = subst (λ (s : Side). AnswersChanged now s) (sym is) (subst (λ (x : Option Opened). AnswersOther x Far) (sym o.opened) o.compared)

-- the box that was opened after it
pub near_answers : (opened mid now : Option Opened) (side : Side) → side ≡ Near → OpensBox IsSame Far opened mid → OpensBox IsOther Near mid now → AnswersChanged now side
near_answers opened mid now side is far near = subst (λ (s : Side). AnswersChanged now s) (sym is) (subst (λ (x : Option Opened). AnswersChanged x Near) (sym near.opened)
    (by_opened opened near.validity far.validity mid far.opened far.compared near.compared))
  where
    by_opened : (opened : Option Opened) (w v : ℕ) (mid : Option Opened) → mid ≡ with_box Far v opened → IsSame (recorded_in opened Far) v → IsOther (recorded_in mid Near) w → AnswersChanged (with_box Near w mid) Near
    by_opened None w v mid e same other = absurd (subst (λ (x : Option Opened). IsOther (recorded_in x Near) w) e other)
    by_opened (Some b) w v mid e same other =
        subst (λ (x : Option Opened). AnswersChanged (with_box Near w x) Near) (sym e) (same, subst (λ (x : Option Opened). IsOther (recorded_in x Near) w) e other)

-- a listing that names another than the state
abbrev first_changed : (run f g n m : ℕ) → Option Side
first_changed run f g n m = if run == 0 then None else if not (f == g) then Some Far else if not (n == m) then Some Near else None

some_run : (run f g n m validity : ℕ) (side : Side) → first_changed run f g n m ≡ Some side → named_after run validity ≡ Some validity
some_run zero f g n m validity side changed = cc
some_run (suc run) f g n m validity side changed = grind (arith, common_steps)

far_differs : (run f g n m : ℕ) → first_changed run f g n m ≡ Some Far → g ≡ f → ⊥
far_differs zero f g n m changed e = cc
far_differs (suc run) f g n m changed e = grind (arith, common_steps)

far_agrees : (run f g n m : ℕ) → first_changed run f g n m ≡ Some Near → g ≡ f
far_agrees zero f g n m changed = cc
far_agrees (suc run) f g n m changed = grind (arith, common_steps)

near_differs : (run f g n m : ℕ) → first_changed run f g n m ≡ Some Near → m ≡ n → ⊥
near_differs zero f g n m changed e = cc
near_differs (suc run) f g n m changed e = grind (arith, common_steps)

pub listed_answers : (opened : Option Opened) (far near : Listing) (x y : Device) (side : Side) → HasNoJournal opened → ListsChanged opened far near side
    → AnswersChanged (with_listing Near near.validity y (with_listing Far far.validity x opened)) side
listed_answers None far near x y side none changed = absurd changed
listed_answers (Some o) far near x y Far none changed =
    let r = o.state.run in
    let f = far.validity in
    let g = o.state.far_validity in
    let n = near.validity in
    let m = o.state.near_validity in
    subst (λ (p : Pending). IsOther (recorded o.state p Far) f) (sym none) (other_as (named_after r g) g f (some_run r f g n m g Far changed) (far_differs r f g n m changed))
listed_answers (Some o) far near x y Near none changed =
    let r = o.state.run in
    let f = far.validity in
    let g = o.state.far_validity in
    let n = near.validity in
    let m = o.state.near_validity in (
      subst (λ (p : Pending). IsSame (recorded o.state p Far) f) (sym none) (same_as (named_after r g) g f (some_run r f g n m g Near changed) (far_agrees r f g n m changed)),
      subst (λ (p : Pending). IsOther (recorded o.state p Near) n) (sym none) (other_as (named_after r m) m n (some_run r f g n m m Near changed) (near_differs r f g n m changed)),
    )

-- ---- what is reported

pub far_reported : (honest : Type 0) (alone : Bool) (opened : Option Opened) (a b : Device) (side : Side) → ReportsOther honest alone opened Far a b side → ReportsChange honest alone opened a b side
far_reported honest alone opened a b side reported = λ h. let t = reported.1 h in (rw reported.0 t.0, t.1)

-- the far box has the recorded one, and the near one has not
pub near_reported : (h0 h1 : Type 0) (alone : Bool) (v : ℕ) (opened now : Option Opened) (a b c : Device) (side : Side) → (h1 → h0) → now ≡ with_box Far v opened → (h0 → HasSame opened Far b × IsKept alone a b) → ReportsOther h1 alone now Near b c side → ReportsChange h1 alone opened a c side
near_reported h0 h1 alone v opened now a b c side honest e before reported = λ h.
    let p = before (honest h) in
    let q = reported.1 h in
    let k = p.1 in
    let other : HasOther (with_box Far v opened) Near b = subst (λ (x : Option Opened). HasOther x Near b) e q.0 in
    (rw reported.0 (same_before opened Far a b k.validities p.0, other_before opened Near a b k.validities (boxed_other Far Near v opened b other)), kept_next alone a b c k q.1)

pub both_opened : (h0 h1 : Type 0) (alone : Bool) (v : ℕ) (opened now : Option Opened) (a b c : Device) (r : Result (Unit {0}) RunFault) → (h1 → h0) → now ≡ with_box Far v opened → (h0 → HasSame opened Far b × IsKept alone a b) → OnOk r (h1 → HasSame now Near c × IsKept alone b c) → OnOk r (h1 → BothSame opened c × IsKept alone a c)
both_opened h0 h1 alone v opened now a b c (Ok x) honest e before here = λ h.
    let p = before (honest h) in
    let q = here h in
    let k = q.1 in
    let same : HasSame (with_box Far v opened) Near c = subst (λ (x : Option Opened). HasSame x Near c) e q.0 in
    ((same_kept opened Far b c k.validities p.0, boxed_same Far Near v opened c same), kept_next alone a b c p.1 k)
both_opened h0 h1 alone v opened now a b c (Err f) honest e before here = tt

-- a plan is not refused so where both boxes have what is recorded
pub unless_same : (h0 h2 : Type 0) (opened now : Option Opened) (far near : Listing) (side : Side) (a b : Device) → now ≡ turned (λ _. Missing) opened → HasNoPlan opened → (h2 → h0) → (h0 → KeepsValidities a b) → (h2 → HaveValidities far near b) → ListsChanged now far near side → ReportsUnlessSame h2 opened a side
unless_same h0 h2 opened now far near side a b e none honest keeps have reported = λ h same.
    let k = keeps (honest h) in
    let v = have h in
    let at = emptied_same opened a none same in
    let both : HaveValidities far near a = record { far_is = v.far_is ∙ k.far; near_is = v.near_is ∙ k.near } in
    lists_same (turned (λ _. Missing) opened) far near side a (missing_here opened none) at both (subst (λ (x : Option Opened). ListsChanged x far near side) e reported)

pub same_reported : (h0 h1 : Type 0) (alone : Bool) (opened now : Option Opened) (a b c : Device) (side : Side) → (h1 → h0) → OpensBoth opened now → (h0 → BothSame opened b × IsKept alone a b) → ReportsUnlessSame h1 now b side → ReportsChange h1 alone opened a c side
same_reported h0 h1 alone opened now a b c side honest e before reported = λ h.
    let p = before (honest h) in
    let q = p.0 in
    let at : BothSame now b = subst (λ (x : Option Opened). BothSame x b) (sym e.opened) (same_boxed e.far e.near opened b q) in
    absurd (reported h at)

-- by the files that were read
pub files_changed : (alone : Bool) (h0 h1 : Type 0) (opened : Option Opened) (a b c : Device) (side : Side) → (h1 → h0) → (h0 → IsHeld opened a) → (h0 → IsKept alone a b) → ReportsChange h1 alone opened b c side → ReportsChanged h1 alone a c side
files_changed alone h0 h1 opened a b c side honest held kept reported = λ h s p holds. let k = kept (honest h) in let t = reported h in (by_opened opened (held (honest h)) (changed_before opened side a b k.validities t.0) s p holds, kept_next alone a b c k t.1)
  where
    by_opened : (opened : Option Opened) → IsHeld opened a → HasChanged opened side a → (s : SyncState) (p : Pending) → Holds a.files s p → HasChanged (as_read s p) side a
    by_opened None held changed s p holds = absurd held
    by_opened (Some o) held changed s p holds =
        let e = book_known a.files o.state s o.pending p held holds in
        same_book o s p side e.0 e.1 changed
      where
        same_book : (o : Opened) (s : SyncState) (p : Pending) (side : Side) → o.state ≡ s → o.pending ≡ p → HasChanged (Some o) side a → HasChanged (as_read s p) side a
        same_book o s p Far e f h = rw (sym e, sym f) h
        same_book o s p Near e f h = rw (sym e, sym f) h

pub files_map : (alone : Bool) (h0 h1 : Type 0) (keywords : List Keyword) (opened now : Option Opened) (a b c : Device) → (h1 → h0) → (h0 → IsHeld opened a) → (h0 → IsKept alone a b) → ReportsMap h1 alone opened now keywords b c → ReportsOtherMap now h1 alone keywords a c
files_map alone h0 h1 keywords None now a b c honest held kept reported = absurd reported.0
files_map alone h0 h1 keywords (Some o) now a b c honest held kept reported = (
  reported.1.0,
  λ h.
      let t = reported.1.1 h in
      let k = kept_next alone a b c (kept (honest h)) t.1 in (
        record {
          state = o.state;
          pending = o.pending;
          held = subst (λ (f : Files). Holds f o.state o.pending) (sym k.files) (held (honest h));
          other = reported.0;
          same = of_side t.0;
        },
        k,
      ),
)
  where
    of_side : BothSame (Some o) c → (side : Side) → HasSame (Some o) side c
    of_side both Far = both.0
    of_side both Near = both.1
