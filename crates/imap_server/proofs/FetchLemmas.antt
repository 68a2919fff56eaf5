-- Replies to UID FETCH, one message after another.
use Rattle.std.proofs.Common.{◌≡◌, ℕ, ◌+◌, Bool, true, false, List, [], ◌∷◌, ◌++◌, length, refl, sym, ◌∙◌, ap, subst, append-nil, append_assoc, Option, Some, arith, if◌then◌else◌}
use Rattle.mailcore.specs.declared.keywords.Keyword.{Keyword}
use Rattle.mailcore.specs.declared.mailbox.Message.{Message}
use Rattle.wire_tokens.specs.declared.uid_set.SetItem.{SetItem}
use Rattle.wire_tokens.specs.Sets.{names}
use Rattle.imap_commands.specs.declared.command.FetchItems.{FetchItems}
use Rattle.imap_replies.specs.declared.reply.Reply.{Reply}
use Rattle.imap_replies.specs.declared.reply.Reply.TheVariants.{Fetch}
use Rattle.imap_session.specs.Mailboxes.{FarMailbox}
use Rattle.imap_session.specs.NamedMessages.{greatest}
use Rattle.imap_session.specs.Servers.{Server, selected}
use Rattle.imap_session.specs.Answering.{done}
use Rattle.imap_session.specs.MessageCommands.{shown, fetched, fetches, fetches_in}
use Rattle.imap_server.specs.Writing.{Wrote, Answered}
use Rattle.imap_server.proofs.WritingLemmas.{wrote_then}
use Rattle.imap_server.proofs.CommandLemmas.{answered_as}

-- ---- a message more

abbrev one : List Keyword → (ℕ → Bool) → FetchItems → ℕ → Message → List Reply
one keywords named what place m = if named m.uid then Fetch place (shown keywords what m) ∷ [] else []

fetched-first : (keywords : List Keyword) (named : ℕ → Bool) (what : FetchItems) (place : ℕ) (m : Message) (ms : List Message)
    → fetched keywords named what place (m ∷ ms) ≡ one keywords named what place m ++ fetched keywords named what (place + 1) ms
fetched-first keywords named what place m ms =
    elim (named m.uid) as (λ b. (if b then Fetch place (shown keywords what m) ∷ fetched keywords named what (place + 1) ms else fetched keywords named what (place + 1) ms)
    ≡ (if b then Fetch place (shown keywords what m) ∷ [] else []) ++ fetched keywords named what (place + 1) ms)
    [ true ↦ refl | false ↦ refl ]

pub fetched-push : (keywords : List Keyword) (named : ℕ → Bool) (what : FetchItems) (place : ℕ) (ms : List Message) (m : Message)
    → fetched keywords named what place (ms ++ m ∷ []) ≡ fetched keywords named what place ms ++ one keywords named what (place + length ms) m
fetched-push keywords named what place [] m =
    fetched-first keywords named what place m [] ∙ append-nil (one keywords named what place m) ∙ ap (λ (n : ℕ). one keywords named what n m) (let e : place ≡ place + 0 = omega arith in e)
fetched-push keywords named what place (x ∷ ms) m =
    let e : place + 1 + length ms ≡ place + length (x ∷ ms) = omega arith in
    fetched-first keywords named what place x (ms ++ m ∷ [])
    ∙ ap (λ (l : List Reply). one keywords named what place x ++ l) (fetched-push keywords named what (place + 1) ms m ∙ ap (λ (n : ℕ). fetched keywords named what (place + 1) ms ++ one keywords named what n m) e)
    ∙ sym (append_assoc (one keywords named what place x) (fetched keywords named what (place + 1) ms) (one keywords named what (place + length (x ∷ ms)) m))
    ∙ ap (λ (l : List Reply). l ++ one keywords named what (place + length (x ∷ ms)) m) (sym (fetched-first keywords named what place x ms))

pub wrote_named : (keywords : List Keyword) (named : ℕ → Bool) (what : FetchItems) (ms more : List Message) (m : Message) (place : ℕ) (test : Bool) (a b c : List ℕ)
    → more ≡ ms ++ m ∷ [] → place ≡ 1 + length ms → test ≡ named m.uid → test ≡ true
    → Wrote (fetched keywords named what 1 ms) a b → Wrote (Fetch place (shown keywords what m) ∷ []) b c → Wrote (fetched keywords named what 1 more) a c
wrote_named keywords named what ms more m place test a b c e p t is_so h k =
    let is : one keywords named what (1 + length ms) m ≡ Fetch (1 + length ms) (shown keywords what m) ∷ [] = ap (λ (x : Bool). if x then Fetch (1 + length ms) (shown keywords what m) ∷ [] else []) (sym t ∙ is_so) in
    subst (λ (l : List Reply). Wrote l a c) (sym (ap (fetched keywords named what 1) e ∙ fetched-push keywords named what 1 ms m ∙ ap (λ (l : List Reply). fetched keywords named what 1 ms ++ l) is))
    (wrote_then _ _ a b c h (subst (λ (n : ℕ). Wrote (Fetch n (shown keywords what m) ∷ []) b c) p k))

pub wrote_unnamed : (keywords : List Keyword) (named : ℕ → Bool) (what : FetchItems) (ms more : List Message) (m : Message) (test : Bool) (a b : List ℕ)
    → more ≡ ms ++ m ∷ [] → test ≡ named m.uid → test ≡ false → Wrote (fetched keywords named what 1 ms) a b → Wrote (fetched keywords named what 1 more) a b
wrote_unnamed keywords named what ms more m test a b e t is_not h =
    let is : one keywords named what (1 + length ms) m ≡ [] = ap (λ (x : Bool). if x then Fetch (1 + length ms) (shown keywords what m) ∷ [] else []) (sym t ∙ is_not) in
    subst (λ (l : List Reply). Wrote l a b)
    (sym (ap (fetched keywords named what 1) e ∙ fetched-push keywords named what 1 ms m ∙ ap (λ (l : List Reply). fetched keywords named what 1 ms ++ l) is ∙ append-nil (fetched keywords named what 1 ms))) h

-- ---- the answer

pub fetch_answered : (s : Server) (keywords : List Keyword) (tag : List ℕ) (set : List SetItem) (what : FetchItems) (m : FarMailbox) (a b c : List ℕ) → keywords ≡ s.keywords → selected s ≡ Some m
    → Wrote (fetched keywords (names (greatest m.store.messages) set) what 1 m.store.messages) a b → Wrote (done tag ∷ []) b c → Answered (fetches s tag set what) a c s
fetch_answered s keywords tag set what m a b c same at h k =
    answered_as _ _ a c s (ap (λ (o : Option FarMailbox). fetches_in o s tag set what) at) (record {
      wrote = wrote_then _ _ a b c (subst (λ (ks : List Keyword). Wrote (fetched ks (names (greatest m.store.messages) set) what 1 m.store.messages) a b) same h) k;
      after_is = refl;
    })
