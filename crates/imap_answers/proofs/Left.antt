-- Replies that are read one after another.
use Rattle.std.proofs.Common.{◌≡◌, ◌<◌, ◌≤◌, ℕ, true, List, [], ◌∷◌, ◌++◌, refl, sym, ◌∙◌, ap, subst, take, drop, length, take-append-drop, length-append, append_assoc, append-nil, arith, Result, Ok, Err}
use Rattle.std.specs.Bool.{◌==◌}
use Rattle.std.proofs.lemmas.Bool.Decides.{nat_tests}
use Rattle.std.proofs.Math.Seq.{take-append_seam}
use Rattle.wire_reader.specs.declared.side.Speaker.TheVariants.{Replies}
use Rattle.wire_reader.specs.declared.answer.Read.{Read}
use Rattle.wire_reader.specs.declared.answer.Read.TheVariants.{Whole, WantsLiteral, Partial}
use Rattle.wire_reader.specs.declared.answer.WireFault.{WireFault}
use Rattle.wire_reader.specs.declared.answer.WireFault.TheVariants as faults
use Rattle.wire_reader.specs.Lexical.{outside}
use Rattle.wire_reader.specs.Answers.{Answers, Takes, TakesEach}
use Rattle.imap_replies.specs.declared.reply.Reply.{Reply}
use Rattle.imap_replies.specs.Replies.{ReplyText, seen}
use Rattle.imap_session.specs.Heard.{AreReplies}
use Rattle.imap_session.proofs.Apart.{apart, replies_apart}
use Rattle.imap_session.proofs.AnswersApart.{reply_some}
use Rattle.imap_link.specs.declared.fault.FarFault.TheVariants.{NoMemory}
use Rattle.imap_link.specs.Faults.{heard_fault}
use Rattle.imap_answers.specs.Spoken.{Speaks, IsLeft, IsFirst}

empty_front : (a b : List ℕ) → a ++ b ≡ [] → a ≡ []
empty_front [] b e = refl
empty_front (x ∷ a) b e = cc

pub no_left : (left : List Reply) (rest : List ℕ) → AreReplies left rest → rest ≡ [] → left ≡ []
no_left [] rest h e = refl
no_left (q ∷ qs) rest h e = absurd (reply_some q h.front h.first (empty_front h.front h.back (sym h.parts ∙ e)))

module _ (read : List Reply) (rest : List ℕ) (rs : List Reply) where
  pub all_read : IsLeft read rest rs → rest ≡ [] → read ≡ rs
  all_read h e = sym (h.all ∙ ap (λ (l : List Reply). read ++ l) (no_left h.left rest h.spelled e) ∙ append-nil read)

-- what was read is the first of the replies
pub first_of : (bytes : List ℕ) (r : Reply) (len : ℕ) (rs : List Reply) → ReplyText r (take len bytes) → AreReplies rs bytes → (bytes ≡ [] → ⊥) → IsFirst r len bytes rs
first_of bytes r len [] h a n = absurd (n a)
first_of bytes r len (q ∷ qs) h a n =
    let same = apart replies_apart r q (take len bytes) (drop len bytes) a.front a.back h a.first (take-append-drop len bytes ∙ a.parts) in
    record {
      others = qs;
      spelled = subst (AreReplies qs) (sym same.rest) a.others;
      all = ap (λ (x : Reply). x ∷ qs) (sym same.value);
    }

pub left_next : (read now_read : List Reply) (rest now_rest : List ℕ) (rs : List Reply) (r : Reply) (len : ℕ)
    → now_read ≡ read ++ r ∷ [] → now_rest ≡ drop len rest → (l : IsLeft read rest rs) → IsFirst r len rest l.left → IsLeft now_read now_rest rs
left_next read now_read rest now_rest rs r len a e l f = record {
  left = f.others;
  spelled = subst (AreReplies f.others) (sym e) f.spelled;
  all = l.all ∙ ap (λ (x : List Reply). read ++ x) f.all ∙ sym (append_assoc read (r ∷ []) f.others) ∙ ap (λ (x : List Reply). x ++ f.others) (sym a);
}

pub record MustTake (result : Result (Read Reply) WireFault) : Type 0 where
  pub reply : Reply
  pub len : ℕ
  pub takes : Takes seen reply len result

must_of : (rest : List ℕ) (left : List Reply) (result : Result (Read Reply) WireFault) → AreReplies left rest → (rest ≡ [] → ⊥) → TakesEach seen ReplyText rest result → MustTake result
must_of rest [] result a n t = absurd (n a)
must_of rest (q ∷ qs) result a n t =
    let at : take (length a.front) rest ≡ a.front = ap (take (length a.front)) a.parts ∙ take-append_seam a.front a.back in
    let long : length a.front ≤ length rest = omega (arith, ap length a.parts, length-append a.front a.back) in
    record {
      reply = q;
      len = length a.front;
      takes = t q (length a.front) (record { within = long; spelled = subst (ReplyText q) (sym at) a.first }) (subst (λ (l : List ℕ). outside l ≤ 65536) (sym at) a.fits);
    }

-- a reply is read wherever one stands
pub must_take : (bytes : List ℕ) (result : Result (Read Reply) WireFault) → Speaks bytes → (bytes ≡ [] → ⊥) → TakesEach seen ReplyText bytes result → MustTake result
must_take bytes result s n t = must_of bytes s.replies result s.spelled n t

pub stops_at : (f : WireFault) → MustTake (Err f) → heard_fault f ≡ NoMemory
stops_at (faults.Syntax at) m = absurd m.takes
stops_at faults.LineTooLong m = absurd m.takes
stops_at (faults.LiteralTooLong at) m = absurd m.takes
stops_at faults.NoMemory m = refl

pub some_bytes : (bytes : List ℕ) → 0 < length bytes → bytes ≡ [] → ⊥
some_bytes [] h e = absurd (omega (arith, h))
some_bytes (b ∷ bs) h e = cc

pub none_rest : (rest : List ℕ) → (length rest == 0) ≡ true → rest ≡ []
none_rest [] h = refl
none_rest (b ∷ bs) h = let long : length (b ∷ bs) ≡ 0 = grind (arith, nat_tests) in absurd (omega arith)

pub waits_not : (result : Result (Read Reply) WireFault) (read : Read Reply) (n : ℕ) → result ≡ Ok read → read ≡ WantsLiteral n → MustTake result → ⊥
waits_not result read n e f m = (subst MustTake (e ∙ ap Ok f) m).takes

pub partial_not : (result : Result (Read Reply) WireFault) (read : Read Reply) → result ≡ Ok read → read ≡ Partial → MustTake result → ⊥
partial_not result read e f m = (subst MustTake (e ∙ ap Ok f) m).takes

pub err_stops : (result : Result (Read Reply) WireFault) (f : WireFault) → result ≡ Err f → MustTake result → heard_fault f ≡ NoMemory
err_stops result f e m = stops_at f (subst MustTake e m)

pub whole_text : (rest : List ℕ) (result : Result (Read Reply) WireFault) (read : Read Reply) (r : Reply) (len : ℕ) → result ≡ Ok read → read ≡ Whole r len → Answers Replies seen ReplyText rest result → ReplyText r (take len rest)
whole_text rest result read r len e f a = (subst (Answers Replies seen ReplyText rest) (e ∙ ap Ok f) a).0.spelled
