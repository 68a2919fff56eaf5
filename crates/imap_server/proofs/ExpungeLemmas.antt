-- The replies to UID EXPUNGE, and its answer.
use Rattle.std.proofs.Common.{◌≡◌, ◌≤◌, ℕ, ◌+◌, Bool, true, false, cond, List, [], ◌∷◌, ◌++◌, length, refl, sym, ◌∙◌, ap, subst, append-nil, append_assoc, Option, Some, arith, if◌then◌else◌}
use Rattle.std.specs.Prelude.{slice_get}
use Rattle.mailcore.specs.declared.mailbox.Message.{Message}
use Rattle.wire_tokens.specs.declared.uid_set.SetItem.{SetItem}
use Rattle.imap_replies.specs.declared.reply.Reply.{Reply}
use Rattle.imap_replies.specs.declared.reply.Reply.TheVariants.{Expunge}
use Rattle.imap_session.specs.Mailboxes.{FarMailbox}
use Rattle.imap_session.specs.NamedMessages.{goes, swept, named_in}
use Rattle.imap_session.specs.Servers.{Server}
use Rattle.imap_session.specs.Answering.{done}
use Rattle.imap_session.specs.MessageCommands.{removed, expunges, expunges_in}
use Rattle.imap_server.specs.Places.{changed_there}
use Rattle.imap_server.specs.Selection.{IsSelected}
use Rattle.imap_server.specs.Writing.{Wrote, Answered}
use Rattle.imap_server.proofs.CommandLemmas.{answered_as}
use Rattle.imap_server.proofs.WritingLemmas.{wrote_then}

-- ---- the replies, one message more

-- how many stay
abbrev pub left : (ℕ → Bool) → List Message → ℕ
left named [] = 0
left named (m ∷ ms) = if goes named m then left named ms else 1 + left named ms

abbrev one : (ℕ → Bool) → ℕ → Message → List Reply
one named place m = if goes named m then Expunge place ∷ [] else []

pub left_at_most : (named : ℕ → Bool) (ms : List Message) → left named ms ≤ length ms
left_at_most named [] = omega arith
left_at_most named (m ∷ ms) =
    let rest = left_at_most named ms in
    elim (goes named m) as (λ b. cond b (left named ms) (1 + left named ms) ≤ length (m ∷ ms)) [ true ↦ omega arith | false ↦ omega arith ]

left-push : (named : ℕ → Bool) (ms : List Message) (m : Message) → left named (ms ++ m ∷ []) ≡ left named ms + cond (goes named m) 0 1
left-push named [] m = elim (goes named m) as (λ b. cond b 0 (1 + 0) ≡ 0 + cond b 0 1) [ true ↦ refl | false ↦ refl ]
left-push named (x ∷ ms) m =
    let rest = left-push named ms m in
    elim (goes named x) as (λ b. cond b (left named (ms ++ m ∷ [])) (1 + left named (ms ++ m ∷ [])) ≡ cond b (left named ms) (1 + left named ms) + cond (goes named m) 0 1)
    [ true ↦ rest | false ↦ omega arith ]

removed-first : (named : ℕ → Bool) (place : ℕ) (m : Message) (ms : List Message)
    → removed named place (m ∷ ms) ≡ one named place m ++ removed named (place + cond (goes named m) 0 1) ms
removed-first named place m ms =
    elim (goes named m) as (λ b. (if b then Expunge place ∷ removed named place ms else removed named (place + 1) ms)
    ≡ (if b then Expunge place ∷ [] else []) ++ removed named (place + cond b 0 1) ms)
    [ true ↦ ap (λ (n : ℕ). Expunge place ∷ removed named n ms) (let e : place ≡ place + 0 = omega arith in e) | false ↦ refl ]

removed-push : (named : ℕ → Bool) (place : ℕ) (ms : List Message) (m : Message)
    → removed named place (ms ++ m ∷ []) ≡ removed named place ms ++ one named (place + left named ms) m
removed-push named place [] m =
    removed-first named place m [] ∙ append-nil (one named place m) ∙ ap (λ (n : ℕ). one named n m) (let e : place ≡ place + 0 = omega arith in e)
removed-push named place (x ∷ ms) m =
    let step : ℕ = cond (goes named x) 0 1 in
    let e : place + step + left named ms ≡ place + left named (x ∷ ms) = elim (goes named x) as (λ b. place + cond b 0 1 + left named ms ≡ place + cond b (left named ms) (1 + left named ms)) [ true ↦ omega arith | false ↦ omega arith ] in
    removed-first named place x (ms ++ m ∷ [])
    ∙ ap (λ (l : List Reply). one named place x ++ l) (removed-push named (place + step) ms m ∙ ap (λ (n : ℕ). removed named (place + step) ms ++ one named n m) e)
    ∙ sym (append_assoc (one named place x) (removed named (place + step) ms) (one named (place + left named (x ∷ ms)) m))
    ∙ ap (λ (l : List Reply). l ++ one named (place + left named (x ∷ ms)) m) (sym (removed-first named place x ms))

module _ (named : ℕ → Bool) (ms more : List Message) (m : Message) (test : Bool) (e : more ≡ ms ++ m ∷ []) (t : test ≡ goes named m) where
  pub left_going : test ≡ true → left named more ≡ left named ms
  left_going is = ap (left named) e ∙ left-push named ms m ∙ ap (λ (b : Bool). left named ms + cond b 0 1) (sym t ∙ is) ∙ (let z : left named ms + 0 ≡ left named ms = omega arith in z)

  pub left_staying : test ≡ false → left named more ≡ left named ms + 1
  left_staying is = ap (left named) e ∙ left-push named ms m ∙ ap (λ (b : Bool). left named ms + cond b 0 1) (sym t ∙ is)

  pub wrote_going : (place : ℕ) (a b c : List ℕ) → place ≡ 1 + left named ms → test ≡ true → Wrote (removed named 1 ms) a b → Wrote (Expunge place ∷ []) b c → Wrote (removed named 1 more) a c
  wrote_going place a b c p is h k =
      let one_is : one named (1 + left named ms) m ≡ Expunge (1 + left named ms) ∷ [] = ap (λ (x : Bool). if x then Expunge (1 + left named ms) ∷ [] else []) (sym t ∙ is) in
      subst (λ (l : List Reply). Wrote l a c) (sym (ap (removed named 1) e ∙ removed-push named 1 ms m ∙ ap (λ (l : List Reply). removed named 1 ms ++ l) one_is))
      (wrote_then _ _ a b c h (subst (λ (n : ℕ). Wrote (Expunge n ∷ []) b c) p k))

  pub wrote_staying : (a b : List ℕ) → test ≡ false → Wrote (removed named 1 ms) a b → Wrote (removed named 1 more) a b
  wrote_staying a b is h =
      let one_is : one named (1 + left named ms) m ≡ [] = ap (λ (x : Bool). if x then Expunge (1 + left named ms) ∷ [] else []) (sym t ∙ is) in
      subst (λ (l : List Reply). Wrote l a b) (sym (ap (removed named 1) e ∙ removed-push named 1 ms m ∙ ap (λ (l : List Reply). removed named 1 ms ++ l) one_is ∙ append-nil (removed named 1 ms))) h

-- ---- the answer

pub expunge_answered : (s new : Server) (tag : List ℕ) (set : List SetItem) (m : FarMailbox) (n : ℕ) (a b c : List ℕ) → IsSelected s n → slice_get s.mailboxes n ≡ Some m
    → Wrote (removed (named_in m.store set) 1 m.store.messages) a b → Wrote (done tag ∷ []) b c → new ≡ record s { mailboxes = changed_there (swept set) n s.mailboxes } → Answered (expunges s tag set) a c new
expunge_answered s new tag set m n a b c place at h k is =
    answered_as _ _ a c new (ap (λ (o : Option FarMailbox). expunges_in o s tag set) (place.found ∙ at))
    (record { wrote = wrote_then _ _ a b c h k; after_is = is ∙ ap (λ (l : List FarMailbox). record s { mailboxes = l }) (sym (place.change (swept set))) })
