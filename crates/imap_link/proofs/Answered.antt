-- A reply that stands whole at the front is what is answered.
use Rattle.std.proofs.Common.{◌≡◌, ℕ, List, [], ◌++◌, sym, ◌∙◌, ap, arith, append_assoc, append-nil, length, take, drop, take-append-drop, length-append, Ok}
use Rattle.std.proofs.lemmas.List.{length-take}
use Rattle.wire_reader.specs.declared.answer.Read.TheVariants.{Whole}
use Rattle.wire_reader.specs.Answers.{TakesEach, WaitsForMore, WholeAt}
use Rattle.imap_replies.specs.declared.reply.Reply.{Reply}
use Rattle.imap_replies.specs.Replies.{ReplyText, seen}
use Rattle.imap_session.proofs.Apart.{apart, replies_apart}

module _ (bytes : List ℕ) (len : ℕ) (reply : Reply) (is : WholeAt ReplyText bytes reply len) where
  -- no other one stands there
  pub whole_takes : TakesEach {T = Reply} seen ReplyText bytes (Ok (Whole reply len))
  whole_takes a used at fits =
      let same = apart replies_apart reply a (take len bytes) (drop len bytes) (take used bytes) (drop used bytes) is.spelled at.spelled (take-append-drop len bytes ∙ sym (take-append-drop used bytes)) in
      let long = ap length same.text in
      let here = is.within in
      let there = at.within in
      (same.value, omega (arith, long, here, there, length-take len bytes, length-take used bytes))

  -- and they begin none
  pub whole_waits : WaitsForMore {T = Reply} ReplyText bytes (Ok (Whole reply len))
  whole_waits b fits =
      let all : take len bytes ++ (drop len bytes ++ b.more) ≡ (bytes ++ b.more) ++ [] =
      sym (append_assoc (take len bytes) (drop len bytes) b.more) ∙ ap (λ (l : List ℕ). l ++ b.more) (take-append-drop len bytes) ∙ sym (append-nil (bytes ++ b.more)) in
      let same = apart replies_apart reply b.value (take len bytes) (drop len bytes ++ b.more) (bytes ++ b.more) [] is.spelled b.spelled all in
      let none = ap length same.rest in
      let some = b.some in
      omega (arith, none, some, length-append (drop len bytes) b.more)
