-- The bytes that are reported of one message.
use Rattle.std.proofs.Common.{◌≡◌, ℕ, ◌+◌, ◌<◌, Bool, true, false, List, [], ◌∷◌, ◌++◌, refl, sym, ◌∙◌, ap, subst, Option, Some, None, arith}
use Rattle.std.specs.Prelude.{find, ◌==◌, ◌||◌, if◌then◌else◌}
use Rattle.std.specs.List.{fold}
use Rattle.std.specs.Option.{option_map}
use Rattle.std.proofs.lemmas.Bool.{eqb-true, ne_eqb}
use Rattle.mailcore.specs.declared.keywords.Keyword.{Keyword}
use Rattle.mailcore.specs.declared.mailbox.Message.{Message}
use Rattle.mailcore.specs.Operations.{bytes_among, bytes_of}
use Rattle.mailcore.specs.Ranges.{AreInRange}
use Rattle.mailcore.specs.Stores.{IsStore}
use Rattle.wire_tokens.specs.Sets.{names}
use Rattle.imap_commands.specs.declared.command.FetchItems.TheVariants as wanted
use Rattle.imap_replies.specs.declared.reply.Reply.{Reply}
use Rattle.imap_replies.specs.declared.reply.Reply.TheVariants.{Fetch}
use Rattle.imap_session.specs.Mailboxes.{FarMailbox}
use Rattle.imap_session.specs.NamedMessages.{greatest, named_in}
use Rattle.imap_session.specs.Answering.{done}
use Rattle.imap_session.specs.MessageCommands.{shown, fetched}
use Rattle.imap_answers.specs.Bodies.{bodies_more, body_reported}
use Rattle.imap_client.specs.Boxes.{one_uid}
use Rattle.imap_client.proofs.Fetched.{replies_for}
use Rattle.imap_client.proofs.Numbered.{Rise, store_rises, last_of, greatest_is}

-- ---- one message

or_false : (b : Bool) → (b || false) ≡ b
or_false true = refl
or_false false = refl

module _ (keywords : List Keyword) (uid : ℕ) (tag : List ℕ) where
  abbrev rest : (named : ℕ → Bool) (place : ℕ) → List Message → List Reply
  rest named place ms = fetched keywords named wanted.Body place ms ++ done tag ∷ []

  -- no other message is named
  abbrev NamesOne : (named : ℕ → Bool) → List Message → Type 0
  NamesOne named [] = Unit {0}
  NamesOne named (m ∷ ms) = (named m.uid ≡ (m.uid == uid)) × NamesOne named ms

  none_reported : (named : ℕ → Bool) (reported : Option (Option (List ℕ))) (low place : ℕ) (ms : List Message) → uid < low → Rise low ms → NamesOne named ms → fold (bodies_more uid) reported (rest named place ms) ≡ reported
  none_reported named reported low place [] h r n = refl
  none_reported named reported low place (m ∷ ms) h r n =
      let low_is = r.0 in
      ap (λ (b : Bool). fold (bodies_more uid) reported ((if b then Fetch place (shown keywords wanted.Body m) ∷ fetched keywords named wanted.Body (place + 1) ms else fetched keywords named wanted.Body (place + 1) ms) ++ done tag ∷ [])) (n.0 ∙ ne_eqb m.uid uid (λ e. absurd (omega arith)))
      ∙ none_reported named reported (m.uid + 1) (place + 1) ms (omega arith) r.2 n.1

  reported_by : (named : ℕ → Bool) (b : Bool) (place : ℕ) (m : Message) (ms : List Message) → (m.uid == uid) ≡ b → Rise (m.uid + 1) ms → NamesOne named ms
      → fold (bodies_more uid) (Some None) (rest named (place + 1) ms) ≡ Some (bytes_among uid ms)
      → fold (bodies_more uid) (Some None) ((if b then Fetch place (shown keywords wanted.Body m) ∷ fetched keywords named wanted.Body (place + 1) ms else fetched keywords named wanted.Body (place + 1) ms) ++ done tag ∷ []) ≡ Some (option_map (λ (x : Message). x.bytes) (if b then Some m else find (λ (x : Message). x.uid == uid) ms))
  reported_by named true place m ms is r n e =
      let same = eqb-true m.uid uid is in
      ap (λ (b : Bool). fold (bodies_more uid) (if b then Some (Some m.bytes) else Some None) (rest named (place + 1) ms)) is
      ∙ none_reported named (Some (Some m.bytes)) (m.uid + 1) (place + 1) ms (omega arith) r n
  reported_by named false place m ms is r n e = e

  one_reported : (named : ℕ → Bool) (low place : ℕ) (ms : List Message) → Rise low ms → NamesOne named ms → fold (bodies_more uid) (Some None) (rest named place ms) ≡ Some (bytes_among uid ms)
  one_reported named low place [] r n = refl
  one_reported named low place (m ∷ ms) r n =
      ap (λ (b : Bool). fold (bodies_more uid) (Some None) ((if b then Fetch place (shown keywords wanted.Body m) ∷ fetched keywords named wanted.Body (place + 1) ms else fetched keywords named wanted.Body (place + 1) ms) ++ done tag ∷ [])) n.0
      ∙ reported_by named (m.uid == uid) place m ms refl r.2 n.1 (one_reported named (m.uid + 1) (place + 1) ms r.2 n.1)

  names_one : (g : ℕ) (ms : List Message) → NamesOne (names (Some g) (one_uid uid)) ms
  names_one g [] = tt
  names_one g (m ∷ ms) = (or_false (m.uid == uid), names_one g ms)

  names_in : (ms : List Message) → NamesOne (names (greatest ms) (one_uid uid)) ms
  names_in [] = tt
  names_in (m ∷ ms) = subst (λ (o : Option ℕ). NamesOne (names o (one_uid uid)) (m ∷ ms)) (sym (greatest_is m ms)) (names_one (last_of m ms) (m ∷ ms))

pub reports_body : (keywords : List Keyword) (uid : ℕ) (m : FarMailbox) (tag : List ℕ) → IsStore m.store → AreInRange m.store.messages → body_reported uid (replies_for keywords m (one_uid uid) wanted.Body tag) ≡ Some (bytes_of uid m.store)
reports_body keywords uid m tag is range = one_reported keywords uid tag (named_in m.store (one_uid uid)) 1 1 m.store.messages (store_rises m.store is range) (names_in keywords uid tag m.store.messages)
