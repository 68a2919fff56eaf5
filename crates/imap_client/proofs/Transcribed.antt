-- What calls have heard.
use Rattle.std.proofs.Common.{◌≡◌, inl, inr, ℕ, ◌+◌, Bool, true, false, List, Option, None, Some, sym, ◌∙◌, ap, subst, refl, Result, Ok, Err}
use Rattle.std.specs.Prelude.{◌&&◌, is_some}
use Rattle.mailcore.specs.declared.keywords.Keyword.{Keyword}
use Rattle.imap_answers.specs.declared.opening.Opening.{Opening}
use Rattle.imap_answers.specs.Openings.{opening_of}
use Rattle.imap_replies.specs.declared.reply.Reply.{Reply}
use Rattle.imap_replies.specs.declared.word.Status.{Status}
use Rattle.imap_replies.specs.declared.word.Status.TheVariants as statuses
use Rattle.imap_session.specs.Heard.{AreReplies}
use Rattle.imap_link.specs.Buffers.{IsAnswerText}
use Rattle.imap_link.specs.Faults.{IsHearing}
use Rattle.imap_link.specs.declared.fault.FarFault.{FarFault}
use Rattle.imap_link.specs.declared.fault.FarFault.TheVariants as faults
use Rattle.imap_client.specs.States.{Judged}
use Rattle.imap_client.specs.Tags.{tag_text}
use Rattle.imap_client.specs.Transcripts.{Hears, Answers, Says, Meaning, EndsBy, of_any, of_command, of_abilities, of_login, of_enable, of_select, opened, ReportsNumbers, LacksNumber, Declines, HearsTwo, Unanswered, Nothing, Named, LetIn, LoginHears, NamesRev2}

-- where hearing failed, nothing was heard
pub hearing_ends : (T : Type 0) (m : Meaning T) (old new : List (List ℕ)) (f : FarFault) → IsHearing f → new ≡ old → EndsBy m (Err f) old new
hearing_ends T m old new faults.Stopped h e = e
hearing_ends T m old new faults.Refused h e = absurd h
hearing_ends T m old new faults.Protocol h e = inl e
hearing_ends T m old new faults.TooLong h e = e
hearing_ends T m old new faults.NoRev2 h e = absurd h
hearing_ends T m old new faults.ReadOnly h e = absurd h
hearing_ends T m old new faults.NoMemory h e = inl e

-- the command of a call was answered in no way that counts, as it was in none for any other call
pub unheard : (U : Type 0) (m : Meaning U) (heard : List ℕ) (old new : List (List ℕ)) (f : FarFault) → EndsBy (of_any heard) (Err f) old new → EndsBy m (Err f) old new
unheard U m heard old new faults.Stopped e = e
unheard U m heard old new faults.Refused e = absurd e.is
unheard U m heard old new faults.Protocol (inl e) = inl e
unheard U m heard old new faults.Protocol (inr e) = absurd e.is
unheard U m heard old new faults.TooLong e = e
unheard U m heard old new faults.NoRev2 e = absurd e.is
unheard U m heard old new faults.ReadOnly e = absurd e.is
unheard U m heard old new faults.NoMemory (inl e) = inl e
unheard U m heard old new faults.NoMemory (inr e) = absurd e.is

with_status : (tag tag_now : List ℕ) (status now : Status) (bytes : List ℕ) → tag ≡ tag_now → status ≡ now → IsAnswerText tag status bytes → IsAnswerText tag_now now bytes
with_status tag tag_now status now bytes t e h = subst (λ (s : Status). IsAnswerText tag_now s bytes) e (subst (λ (x : List ℕ). IsAnswerText x status bytes) t h)

-- an answer was heard, which its status judges
module _ (n : ℕ) (tag : List ℕ) (same : tag ≡ tag_text n) (status : Status) (ready : Bool) (read : List ℕ) (text : IsAnswerText tag status read) where
  heard_as : (now : Status) (old new : List (List ℕ)) → status ≡ now → (h : Hears (λ bytes. bytes ≡ read) old new) → Answers n now h.bytes
  heard_as now old new e h = subst (IsAnswerText (tag_text n) now) (sym h.is) (with_status tag (tag_text n) status now read same e text)

  pub judged_ends : (result : Result (Unit {0}) FarFault) (old new : List (List ℕ)) → Judged status ready result → Hears (λ bytes. bytes ≡ read) old new → EndsBy (of_command n read) result old new
  judged_ends (Ok x) old new j h = record { bytes = h.bytes; is = (heard_as statuses.Ok old new j.0 h, h.is); grows = h.grows }
  judged_ends (Err faults.Stopped) old new j h = absurd j
  judged_ends (Err faults.Refused) old new j h = record { bytes = h.bytes; is = heard_as statuses.No old new j.0 h; grows = h.grows }
  judged_ends (Err faults.Protocol) old new j h = inr (record { bytes = h.bytes; is = heard_as statuses.Bad old new j.0 h; grows = h.grows })
  judged_ends (Err faults.TooLong) old new j h = absurd j
  judged_ends (Err faults.NoRev2) old new j h = absurd j
  judged_ends (Err faults.ReadOnly) old new j h = absurd j
  judged_ends (Err faults.NoMemory) old new j h = absurd j

-- a command failed, in a call that reports NO and BAD as such
module _ (n : ℕ) (heard : List ℕ) (T : Type 0) (m : Meaning T) (no : (bytes : List ℕ) → Answers n statuses.No bytes → m.refused bytes) (bad : (bytes : List ℕ) → Answers n statuses.Bad bytes → m.protocol bytes) where
  pub command_ends : (f : FarFault) (old new : List (List ℕ)) → EndsBy (of_command n heard) (Err f) old new → EndsBy m (Err f) old new
  command_ends faults.Stopped old new e = e
  command_ends faults.Refused old new h = record { bytes = h.bytes; is = no h.bytes h.is; grows = h.grows }
  command_ends faults.Protocol old new (inl e) = inl e
  command_ends faults.Protocol old new (inr h) = inr (record { bytes = h.bytes; is = bad h.bytes h.is; grows = h.grows })
  command_ends faults.TooLong old new e = e
  command_ends faults.NoRev2 old new h = absurd h.is
  command_ends faults.ReadOnly old new h = absurd h.is
  command_ends faults.NoMemory old new (inl e) = inl e
  command_ends faults.NoMemory old new (inr h) = absurd h.is

-- of an answer that was read: what its replies say
module _ (n : ℕ) (heard : List ℕ) (old new : List (List ℕ)) (h : Hears (λ bytes. Answers n statuses.Ok bytes × (bytes ≡ heard)) old new) where
  pub says_so : (P : List Reply → Type 0) → ((rs : List Reply) → AreReplies rs heard → P rs) → Hears (Says n statuses.Ok P) old new
  says_so P reported = record {
    bytes = h.bytes;
    is = record { answer = h.is.0; said = λ rs are. reported rs (subst (AreReplies rs) h.is.1 are) };
    grows = h.grows;
  }

  pub answers_ok : Hears (Answers n statuses.Ok) old new
  answers_ok = record { bytes = h.bytes; is = h.is.0; grows = h.grows }

-- and of one with any status
module _ (n : ℕ) (tag : List ℕ) (same : tag ≡ tag_text n) (status : Status) (heard : List ℕ) (text : IsAnswerText tag status heard) (old new : List (List ℕ)) (h : Hears (λ bytes. bytes ≡ heard) old new) where
  answers_as : (now : Status) → status ≡ now → Answers n now h.bytes
  answers_as now e = subst (IsAnswerText (tag_text n) now) (sym h.is) (with_status tag (tag_text n) status now heard same e text)

  pub answers_so : (now : Status) → status ≡ now → Hears (Answers n now) old new
  answers_so now e = record { bytes = h.bytes; is = answers_as now e; grows = h.grows }

  by_status : (now : Status) → status ≡ now → (status ≡ statuses.Ok → ⊥) → Declines n h.bytes
  by_status statuses.Ok e other = absurd (other e)
  by_status statuses.No e other = inl (answers_as statuses.No e)
  by_status statuses.Bad e other = inr (answers_as statuses.Bad e)

  pub declines_so : (status ≡ statuses.Ok → ⊥) → Hears (Declines n) old new
  declines_so other = record { bytes = h.bytes; is = by_status status refl other; grows = h.grows }

-- ---- a login

module _ (n : ℕ) (old : List (List ℕ)) where
  -- CAPABILITY was not answered as it should be
  pub first_fails : (f : FarFault) (new : List (List ℕ)) → EndsBy (of_abilities (n + 1)) (Err f) old new → LoginHears n (Err f) old new
  first_fails faults.Stopped new e = Nothing e
  first_fails faults.Refused new h = inl h
  first_fails faults.Protocol new (inl e) = inl (Nothing e)
  first_fails faults.Protocol new (inr h) = inr (inl h)
  first_fails faults.TooLong new e = Nothing e
  first_fails faults.NoRev2 new h = inl h
  first_fails faults.ReadOnly new h = absurd h.is
  first_fails faults.NoMemory new (inl e) = inl (Nothing e)
  first_fails faults.NoMemory new (inr h) = inr h

  module _ (mid : List (List ℕ)) (named : Hears (Says (n + 1) statuses.Ok NamesRev2) old mid) where
    on_named : (new : List (List ℕ)) → new ≡ mid → Unanswered n old new
    on_named new e = Named (subst (Hears (Says (n + 1) statuses.Ok NamesRev2) old) (sym e) named)

    -- LOGIN was not
    pub second_fails : (f : FarFault) (new : List (List ℕ)) → EndsBy (of_login (n + 2)) (Err f) mid new → LoginHears n (Err f) old new
    second_fails faults.Stopped new e = on_named new e
    second_fails faults.Refused new h = inr (record { between = mid; named = named; last = h })
    second_fails faults.Protocol new (inl e) = inl (on_named new e)
    second_fails faults.Protocol new (inr h) = inr (inr (record { between = mid; named = named; last = h }))
    second_fails faults.TooLong new e = on_named new e
    second_fails faults.NoRev2 new h = absurd h.is
    second_fails faults.ReadOnly new h = absurd h.is
    second_fails faults.NoMemory new (inl e) = inl (on_named new e)
    second_fails faults.NoMemory new (inr h) = absurd h.is

    module _ (late : List (List ℕ)) (let_in : Hears (Answers (n + 2) statuses.Ok) mid late) where
      two : HearsTwo n (Answers (n + 2) statuses.Ok) old late
      two = record { between = mid; named = named; last = let_in }

      on_two : (new : List (List ℕ)) → new ≡ late → Unanswered n old new
      on_two new e = LetIn (subst (HearsTwo n (Answers (n + 2) statuses.Ok) old) (sym e) two)

      -- both were
      pub third_ends : (result : Result (Unit {0}) FarFault) (new : List (List ℕ)) → EndsBy (of_enable (n + 3)) result late new → LoginHears n result old new
      third_ends (Ok x) new h = record { between = late; let_in = two; last = h }
      third_ends (Err faults.Stopped) new e = on_two new e
      third_ends (Err faults.Refused) new h = absurd h.is
      third_ends (Err faults.Protocol) new (inl e) = inl (on_two new e)
      third_ends (Err faults.Protocol) new (inr h) = absurd h.is
      third_ends (Err faults.TooLong) new e = on_two new e
      third_ends (Err faults.NoRev2) new h = inr (record { between = late; let_in = two; last = h })
      third_ends (Err faults.ReadOnly) new h = absurd h.is
      third_ends (Err faults.NoMemory) new (inl e) = inl (on_two new e)
      third_ends (Err faults.NoMemory) new (inr h) = absurd h.is

-- ---- a selection

pub none_of : (x : Option ℕ) → ((y : ℕ) → x ≡ Some y → ⊥) → is_some x ≡ false
none_of None other = refl
none_of (Some y) other = absurd (other y refl)

first_lacks : (o : Opening) → is_some o.next ≡ false → LacksNumber o
first_lacks o e = ap (λ (b : Bool). b && is_some o.validity) e

second_by : (a b : Bool) → b ≡ false → (a && b) ≡ false
second_by true b e = e
second_by false b e = refl

opened_so : (o : Opening) (validity next : ℕ) (read_only : Bool) → o.next ≡ Some next → o.validity ≡ Some validity → o.is_read_only ≡ read_only → o ≡ record { next = Some next; validity = Some validity; is_read_only = read_only }
opened_so o validity next read_only n v r =
    ap (λ (x : Option ℕ). (let y : Opening = record { next = x; validity = o.validity; is_read_only = o.is_read_only } in y)) n
    ∙ ap (λ (x : Option ℕ). (let y : Opening = record { next = Some next; validity = x; is_read_only = o.is_read_only } in y)) v
    ∙ ap (λ (x : Bool). (let y : Opening = record { next = Some next; validity = Some validity; is_read_only = x } in y)) r

-- what is reported about the mailbox is that of an answer that was read
module _ (keywords : List Keyword) (T : Type 0) (reported : T → Opening) (n : ℕ) (heard : List ℕ) (old new : List (List ℕ)) (h : Hears (λ bytes. Answers n statuses.Ok bytes × (bytes ≡ heard)) old new)
    (o : Opening) (is : (rs : List Reply) → AreReplies rs heard → o ≡ opening_of keywords rs) where
  lacks : LacksNumber o → EndsBy (of_select keywords n reported) (Err faults.Protocol) old new
  lacks e =
      let s = says_so n heard old new h (λ rs. LacksNumber (opening_of keywords rs)) (λ rs are. subst LacksNumber (is rs are) e) in
      inr (record { bytes = s.bytes; is = inr s.is; grows = s.grows })

  pub lacks_next : ((y : ℕ) → o.next ≡ Some y → ⊥) → EndsBy (of_select keywords n reported) (Err faults.Protocol) old new
  lacks_next other = lacks (first_lacks o (none_of o.next other))

  pub lacks_validity : ((y : ℕ) → o.validity ≡ Some y → ⊥) → EndsBy (of_select keywords n reported) (Err faults.Protocol) old new
  lacks_validity other = lacks (second_by (is_some o.next) (is_some o.validity) (none_of o.validity other))

  module _ (validity next : ℕ) (at_next : o.next ≡ Some next) (at_validity : o.validity ≡ Some validity) where
    pub is_read_only : o.is_read_only ≡ true → EndsBy (of_select keywords n reported) (Err faults.ReadOnly) old new
    is_read_only r =
        says_so n heard old new h (λ rs. ReportsNumbers (opening_of keywords rs) × ((opening_of keywords rs).is_read_only ≡ true))
        (λ rs are. subst (λ (x : Opening). ReportsNumbers x × (x.is_read_only ≡ true)) (sym (opened_so o validity next true at_next at_validity r) ∙ is rs are) (refl, refl))

    pub is_opened : o.is_read_only ≡ false → Hears (Says n statuses.Ok (λ rs. opening_of keywords rs ≡ opened validity next)) old new
    is_opened r = says_so n heard old new h (λ rs. opening_of keywords rs ≡ opened validity next) (λ rs are. sym (is rs are) ∙ opened_so o validity next false at_next at_validity r)
