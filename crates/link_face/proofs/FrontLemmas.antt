-- What a reader answers of bytes that are a reply of the profile, or begin one.
use Rattle.std.proofs.Common.{◌≡◌, ◌≤◌, ℕ, true, false, List, [], ◌∷◌, length, take, sym, ap, ◌∙◌, subst, arith, append-nil, Result, Ok, Err}
use Rattle.std.proofs.Math.Seq.{take-length}
use Rattle.wire_reader.specs.declared.lexical.Phase.TheVariants.{Plain}
use Rattle.wire_reader.specs.Lexical.{outside}
use Rattle.wire_reader.specs.Answers.{Answers, IsOpen, Takes, TakesEach, WaitsForMore}
use Rattle.wire_reader.specs.declared.answer.Read.{Read}
use Rattle.wire_reader.specs.declared.answer.Read.TheVariants.{Whole, WantsLiteral, Partial}
use Rattle.wire_reader.specs.declared.answer.WireFault.{WireFault}
use Rattle.wire_reader.specs.declared.answer.WireFault.TheVariants.{Syntax, LineTooLong, LiteralTooLong}
use Rattle.wire_reader.specs.declared.side.Speaker.TheVariants.{Replies}
use Rattle.imap_replies.specs.declared.reply.Reply.{Reply}
use Rattle.imap_replies.specs.Replies.{ReplyText, seen}
use Rattle.imap_session.proofs.Fronts.{outside_front}
use Rattle.link_face.specs.declared.front.Front.{Front}
use Rattle.link_face.specs.declared.front.Front.TheVariants as fronts
use Rattle.link_face.specs.Extents.{IsSaid, NoneBegins}
use Rattle.link_face.specs.Faces.{FitsLine}
use Rattle.link_face.specs.Fronts.{IsFront, IsKind}
use Rattle.link_face.specs.Said.{is_said}
use Rattle.link_face.proofs.TakenLemmas.{taken}

abbrev R : Type 0
R = Result (Read Reply) WireFault

module _ (bytes : List ℕ) (r : R) (takes : TakesEach seen ReplyText bytes r) (waits : WaitsForMore ReplyText bytes r) where
  none_begins_by : ((reply : Reply) → is_said reply ≡ true → Takes seen reply (length bytes) r → ⊥) → (IsOpen r → ⊥) → NoneBegins bytes
  none_begins_by no_whole no_more [] h =
      no_whole h.reply h.said (taken bytes h.reply r takes (subst (ReplyText h.reply) (append-nil bytes) h.spelled) (subst FitsLine (append-nil bytes) h.fits))
  none_begins_by no_whole no_more (b ∷ more) h =
      no_more (waits (record { more = b ∷ more; value = h.reply; some = omega arith; spelled = h.spelled }) (omega (arith, h.fits, outside_front Plain bytes (b ∷ more))))

no_said : (reply : Reply) → is_said reply ≡ false → is_said reply ≡ true → ⊥
no_said reply e f = let both : true ≡ false = sym f ∙ e in cc

-- ---- a whole reply

whole_text : (bytes : List ℕ) (used : ℕ) (reply : Reply) → used ≡ length bytes → ReplyText reply (take used bytes) → ReplyText reply bytes
whole_text bytes used reply e h = subst (ReplyText reply) (ap (λ (n : ℕ). take n bytes) e ∙ take-length bytes) h

whole_fits : (bytes : List ℕ) (used : ℕ) → used ≡ length bytes → outside (take used bytes) ≤ 65536 → FitsLine bytes
whole_fits bytes used e h = subst FitsLine (ap (λ (n : ℕ). take n bytes) e ∙ take-length bytes) h

pub front_whole : (bytes : List ℕ) (reply : Reply) (used : ℕ) (kind : Front) → Answers Replies seen ReplyText bytes (let r : R = Ok (Whole reply used) in r)
    → TakesEach seen ReplyText bytes (let r : R = Ok (Whole reply used) in r) → WaitsForMore ReplyText bytes (let r : R = Ok (Whole reply used) in r) → used ≡ length bytes
    → IsKind reply kind → IsFront bytes kind
front_whole bytes reply used fronts.Heard a t w e k = record { reply = reply; spelled = whole_text bytes used reply e a.0.spelled; fits = whole_fits bytes used e a.1 }
front_whole bytes reply used fronts.Listed a t w e k = record { reply = reply; spelled = whole_text bytes used reply e a.0.spelled; fits = whole_fits bytes used e a.1; said = k.0; unheard = k.1 }
front_whole bytes reply used fronts.Begun a t w e k = absurd k
front_whole bytes reply used fronts.Other a t w e k =
    none_begins_by bytes (Ok (Whole reply used)) t w (λ other said same. no_said reply k (ap is_said same.0 ∙ said)) (λ waiting. waiting)

-- one that ends earlier
pub front_short : (bytes : List ℕ) (r : R) (reply : Reply) (used : ℕ) → r ≡ Ok (Whole reply used) → TakesEach seen ReplyText bytes r → WaitsForMore ReplyText bytes r → (used ≡ length bytes → ⊥) → NoneBegins bytes
front_short bytes r reply used is t w e = none_begins_by bytes r t w (λ other said h. let same = subst (Takes seen other (length bytes)) is h in e same.1) (λ waiting. subst IsOpen is waiting)

-- ---- none that is whole

unsaid_by : (bytes : List ℕ) (r : R) → TakesEach seen ReplyText bytes r → ((reply : Reply) → Takes seen reply (length bytes) r → ⊥) → IsSaid bytes → ⊥
unsaid_by bytes r t never h = never h.reply (taken bytes h.reply r t h.spelled h.fits)

pub front_literal : (bytes : List ℕ) (r : R) (n : ℕ) → r ≡ Ok (WantsLiteral n) → TakesEach seen ReplyText bytes r → IsSaid bytes → ⊥
front_literal bytes r n is t h = unsaid_by bytes r t (λ reply k. subst (Takes seen reply (length bytes)) is k) h

pub front_partial : (bytes : List ℕ) (r : R) → r ≡ Ok Partial → TakesEach seen ReplyText bytes r → IsSaid bytes → ⊥
front_partial bytes r is t h = unsaid_by bytes r t (λ reply k. subst (Takes seen reply (length bytes)) is k) h

pub front_syntax : (bytes : List ℕ) (r : R) (at : ℕ) → r ≡ Err (Syntax at) → TakesEach seen ReplyText bytes r → WaitsForMore ReplyText bytes r → NoneBegins bytes
front_syntax bytes r at is t w = none_begins_by bytes r t w (λ reply said h. subst (Takes seen reply (length bytes)) is h) (λ waiting. subst IsOpen is waiting)

pub front_line : (bytes : List ℕ) (r : R) → r ≡ Err LineTooLong → TakesEach seen ReplyText bytes r → WaitsForMore ReplyText bytes r → NoneBegins bytes
front_line bytes r is t w = none_begins_by bytes r t w (λ reply said h. subst (Takes seen reply (length bytes)) is h) (λ waiting. subst IsOpen is waiting)

pub front_length : (bytes : List ℕ) (r : R) (at : ℕ) → r ≡ Err (LiteralTooLong at) → TakesEach seen ReplyText bytes r → WaitsForMore ReplyText bytes r → NoneBegins bytes
front_length bytes r at is t w = none_begins_by bytes r t w (λ reply said h. subst (Takes seen reply (length bytes)) is h) (λ waiting. subst IsOpen is waiting)
