-- Replies without APPENDUID, one after another.
use Rattle.std.proofs.Common.{◌≡◌, ℕ, Bool, true, false, List, [], ◌∷◌, ◌++◌, ◌⊎◌, inl, inr, map, drop, refl, sym, ◌∙◌, ap, subst, append_assoc, append-nil}
use Rattle.std.specs.Prelude.{if◌then◌else◌}
use Rattle.mailcore.specs.declared.keywords.Keyword.{Keyword}
use Rattle.wire_tokens.specs.Writing.{Appended}
use Rattle.imap_replies.specs.declared.word.Status.TheVariants as statuses
use Rattle.imap_replies.specs.declared.response.Code.TheVariants as code
use Rattle.imap_replies.specs.declared.response.ResponseText.TheVariants.{Plain, Coded}
use Rattle.imap_replies.specs.declared.reply.Reply.{Reply}
use Rattle.imap_replies.specs.declared.reply.Reply.TheVariants.{Continue, Tagged, Notice, Capability, Enabled, List as Listed, Flags, Exists, Expunge, Fetch, Other, OtherNumbered}
use Rattle.imap_replies.specs.Replies.{WrittenReply}
use Rattle.imap_replies.proofs.WrittenReplies.{written_spelled}
use Rattle.imap_session.specs.Heard.{AreReplies, AreHeardAs, IsHeardAs, WithoutUid}
use Rattle.imap_session.specs.Short.{is_short}
use Rattle.imap_session.proofs.ShortReplies.{short_fits}
use Rattle.imap_session.proofs.HeardAs.{all_heard}
use Rattle.imap_answers.specs.Spoken.{IsFirst}
use Rattle.imap_answers.proofs.Left.{no_left}
use Rattle.mem_link.specs.Muting.{IsFitting, IsHeard, IsLeft, stands_alone, without_uid}

-- ---- what it is

abbrev IsMuted : Reply → Type 0
IsMuted r = (without_uid r ≡ r) ⊎ WithoutUid (without_uid r) r

coded_muted : (tag text : List ℕ) (validity uid : ℕ) (b : Bool) → b ≡ stands_alone text → IsMuted (Tagged tag statuses.Ok (Coded (code.AppendUid validity uid) text))
coded_muted tag text validity uid true is =
    inr (record { tag = tag; validity = validity; uid = uid; text = text; heard_is = ap (λ (b : Bool). Tagged tag statuses.Ok (if b then Plain text else Coded (code.AppendUid validity uid) text)) (sym is); said_is = refl })
coded_muted tag text validity uid false is =
    inl (ap (λ (b : Bool). Tagged tag statuses.Ok (if b then Plain text else Coded (code.AppendUid validity uid) text)) (sym is))

muted_one : (r : Reply) → IsMuted r
muted_one (Continue text) = inl refl
muted_one (Tagged tag statuses.Ok (Plain text)) = inl refl
muted_one (Tagged tag statuses.Ok (Coded (code.UidNext n) text)) = inl refl
muted_one (Tagged tag statuses.Ok (Coded (code.UidValidity n) text)) = inl refl
muted_one (Tagged tag statuses.Ok (Coded (code.PermanentFlags flags) text)) = inl refl
muted_one (Tagged tag statuses.Ok (Coded (code.AppendUid validity uid) text)) = coded_muted tag text validity uid (stands_alone text) refl
muted_one (Tagged tag statuses.Ok (Coded code.ReadOnly text)) = inl refl
muted_one (Tagged tag statuses.Ok (Coded code.ReadWrite text)) = inl refl
muted_one (Tagged tag statuses.Ok (Coded (code.Other a rest) text)) = inl refl
muted_one (Tagged tag statuses.No text) = inl refl
muted_one (Tagged tag statuses.Bad text) = inl refl
muted_one (Notice kind text) = inl refl
muted_one (Capability names) = inl refl
muted_one (Enabled names) = inl refl
muted_one (Listed attributes delimiter name) = inl refl
muted_one (Flags flags) = inl refl
muted_one (Exists n) = inl refl
muted_one (Expunge n) = inl refl
muted_one (Fetch n items) = inl refl
muted_one (Other word text) = inl refl
muted_one (OtherNumbered n event text) = inl refl

heard_one : (keywords : List Keyword) (r : Reply) → IsMuted r → IsHeardAs keywords (without_uid r) r
heard_one keywords r (inl stays) = inl stays
heard_one keywords r (inr muted) = inr (inl muted)

pub leaves_uids_out : (keywords : List Keyword) (said : List Reply) → AreHeardAs keywords (map without_uid said) said
leaves_uids_out keywords [] = tt
leaves_uids_out keywords (r ∷ rs) = (heard_one keywords r (muted_one r), leaves_uids_out keywords rs)

-- ---- one after another

pub begin_muting : (said : List Reply) (bytes out : List ℕ) → out ≡ [] → AreReplies said bytes → IsLeft said out bytes
begin_muting said bytes out none h = record { left = said; spelled = h; goes_on = λ more m. subst (λ (l : List ℕ). AreReplies (map without_uid said) (l ++ more)) (sym none) m }

pub muted_next : (said : List Reply) (out now_out rest now_rest : List ℕ) (reply : Reply) (len : ℕ) → now_rest ≡ drop len rest
    → (l : IsLeft said out rest) → IsFirst reply len rest l.left → Appended (IsFitting (without_uid reply)) out now_out → IsLeft said now_out now_rest
muted_next said out now_out rest now_rest reply len e l f a = record {
  left = f.others;
  spelled = subst (AreReplies f.others) (sym e) f.spelled;
  goes_on = λ more m.
      subst (AreReplies (map without_uid said)) (sym (append_assoc out a.text more) ∙ ap (λ (t : List ℕ). t ++ more) (sym a.parts))
      (l.goes_on (a.text ++ more) (subst (λ (rs : List Reply). AreReplies (map without_uid rs) (a.text ++ more)) (sym f.all)
      (record { front = a.text; back = more; parts = refl; first = a.spelled.spelled; fits = a.spelled.fits; others = m })));
}

pub all_muted : (said : List Reply) (out rest : List ℕ) → IsLeft said out rest → rest ≡ [] → AreReplies (map without_uid said) out
all_muted said out rest l e =
    subst (AreReplies (map without_uid said)) (append-nil out)
    (l.goes_on [] (subst (λ (rs : List Reply). AreReplies (map without_uid rs) []) (sym (no_left l.left rest l.spelled e)) refl))

-- ---- one of them

pub written_fits : (reply wanted : Reply) (old new : List ℕ) → Appended (WrittenReply reply) old new → reply ≡ wanted → is_short reply ≡ true → Appended (IsFitting wanted) old new
written_fits reply wanted old new a is short =
    subst (λ (r : Reply). Appended (IsFitting r) old new) is
    (record { text = a.text; parts = a.parts; spelled = record { spelled = written_spelled reply a.text a.spelled; fits = short_fits reply a.text a.spelled short } })

pub stays_fits : (reply wanted : Reply) (bytes old new : List ℕ) → wanted ≡ reply → IsFitting reply bytes → new ≡ old ++ bytes → Appended (IsFitting wanted) old new
stays_fits reply wanted bytes old new is fits added =
    subst (λ (r : Reply). Appended (IsFitting r) old new) (sym is) (record { text = bytes; parts = added; spelled = fits })

-- ---- what is heard

pub heard_muted : (said : List Reply) (out : List ℕ) → AreReplies (map without_uid said) out → IsHeard said out
heard_muted said out h = record { heard = map without_uid said; heard_as = λ keywords. leaves_uids_out keywords said; spelled = h }

pub heard_all : (said : List Reply) (out : List ℕ) → AreReplies said out → IsHeard said out
heard_all said out h = record { heard = said; heard_as = λ keywords. all_heard keywords said; spelled = h }
