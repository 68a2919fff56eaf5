-- Bytes at which no reply was read.
use Rattle.std.proofs.Common.{◌≡◌, ◌<◌, ◌≤◌, inl, inr, ℕ, List, [], ◌∷◌, ◌++◌, length, take, sym, ◌∙◌, ap, subst, append_assoc, append-nil, arith, length-append, Result, Err}
use Rattle.std.proofs.Math.Seq.{take-append_seam}
use Rattle.wire_reader.specs.declared.answer.Read.{Read}
use Rattle.wire_reader.specs.declared.answer.WireFault.{WireFault}
use Rattle.wire_reader.specs.declared.lexical.Phase.TheVariants.{Plain}
use Rattle.wire_reader.specs.Lexical.{outside}
use Rattle.wire_reader.specs.Answers.{Takes, TakesEach, IsOpen, WaitsForMore}
use Rattle.imap_replies.specs.declared.reply.Reply.{Reply}
use Rattle.imap_replies.specs.Replies.{ReplyText, seen}
use Rattle.imap_session.proofs.Apart.{fronts}
use Rattle.imap_session.proofs.Fronts.{outside_front}
use Rattle.wire_reader.specs.declared.answer.WireFault.TheVariants as faults
use Rattle.imap_link.specs.Fronts.{IsFaulty, IsBreach}

module _ (xs : List ℕ) (result : Result (Read Reply) WireFault) (takes : TakesEach seen ReplyText xs result) (waits : WaitsForMore ReplyText xs result)
    (no_take : (a : Reply) (n : ℕ) → Takes seen a n result → ⊥) (no_open : IsOpen result → ⊥) where
  whole_none : (r : Reply) (front m : List ℕ) → ReplyText r front → outside front ≤ 65536 → front ++ m ≡ xs → ⊥
  whole_none r front m h fits e =
      let at : take (length front) xs ≡ front = ap (take (length front)) (sym e) ∙ take-append_seam front m in
      let long : length front ≤ length xs = omega (arith, ap length e, length-append front m) in
      no_take r (length front) (takes r (length front) (record { within = long; spelled = subst (ReplyText r) (sym at) h }) (subst (λ (l : List ℕ). outside l ≤ 65536) (sym at) fits))

  open_none : (r : Reply) (front m : List ℕ) → ReplyText r front → outside front ≤ 65536 → xs ++ m ≡ front → ⊥
  open_none r front [] h fits e = whole_none r front [] h fits (append-nil front ∙ sym e ∙ append-nil xs)
  open_none r front (b ∷ m) h fits e =
      let some : 0 < length (b ∷ m) = omega arith in
      let less : outside xs ≤ outside (xs ++ b ∷ m) = outside_front Plain xs (b ∷ m) in
      let same : outside (xs ++ b ∷ m) ≡ outside front = ap outside e in
      no_open (waits (record { more = b ∷ m; value = r; some = some; spelled = subst (ReplyText r) (sym e) h }) (omega arith))

  pub faulty : IsFaulty xs
  faulty r front back more h fits e = elim (fronts xs more front back e) [
    | inl f ↦ open_none r front f.more h fits f.is
    | inr f ↦ whole_none r front f.more h fits f.is
  ]

pub fault_reports : (xs : List ℕ) (f : WireFault) → TakesEach seen ReplyText xs (Err f) → WaitsForMore {T = Reply} ReplyText xs (Err f) → IsBreach f xs
fault_reports xs (faults.Syntax at) t w = faulty xs (Err (faults.Syntax at)) t w (λ a n h. h) (λ h. h)
fault_reports xs faults.LineTooLong t w = faulty xs (Err faults.LineTooLong) t w (λ a n h. h) (λ h. h)
fault_reports xs (faults.LiteralTooLong at) t w = faulty xs (Err (faults.LiteralTooLong at)) t w (λ a n h. h) (λ h. h)
fault_reports xs faults.NoMemory t w = tt

-- ---- bytes after those at which a fault was reported

pub faulty_longer : (bytes more : List ℕ) → IsFaulty bytes → IsFaulty (bytes ++ more)
faulty_longer bytes more f reply front back rest h fits e = f reply front back (more ++ rest) h fits (sym (append_assoc bytes more rest) ∙ e)

pub breach_longer : (f : WireFault) (bytes more : List ℕ) → IsBreach f bytes → IsBreach f (bytes ++ more)
breach_longer (faults.Syntax at) bytes more h = faulty_longer bytes more h
breach_longer faults.LineTooLong bytes more h = faulty_longer bytes more h
breach_longer (faults.LiteralTooLong at) bytes more h = faulty_longer bytes more h
breach_longer faults.NoMemory bytes more h = tt
