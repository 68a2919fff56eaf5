-- LIST: the names that match, and the replies that return them.
use Rattle.std.proofs.Common.{◌≡◌, ◌<◌, ℕ, ◌+◌, true, List, [], ◌∷◌, length, map, filter, take, refl, sym, ◌∙◌, ap, subst, arith, get_or}
use Rattle.std.specs.Prelude.{All}
use Rattle.std.proofs.lemmas.List.{map-append, take_more, get_or-map, length-map}
use Rattle.std.proofs.lemmas.List.Elements.{All-nil, All-map, All-filter}
use Rattle.mailcore.specs.MailboxNames.{is_mailbox_name}
use Rattle.mailcore.specs.MailboxPatterns.{matches}
use Rattle.imap_replies.specs.declared.reply.Reply.{Reply}
use Rattle.imap_session.specs.Mailboxes.{FarMailbox}
use Rattle.imap_session.specs.Servers.{Server, is_logged_in}
use Rattle.imap_session.specs.Answering.{done, listed}
use Rattle.imap_session.specs.MailboxCommands.{names_matched, lists}
use Rattle.imap_session.specs.Boxes.{AreServed}
use Rattle.imap_server.specs.Writing.{Wrote, Answered}
use Rattle.imap_server.proofs.CommandLemmas.{answered_as, by_true}
use Rattle.imap_server.proofs.OrderLemmas.{all_in_order}
use Rattle.imap_server.proofs.WritingLemmas.{wrote_then}

-- ---- a reply more

pub listed_more : {X : Type 0} (f : X → List ℕ) (xs : List X) (i : ℕ) (d : X) (a b c : List ℕ) → i < length xs
    → Wrote (map listed (map f (take i xs))) a b → Wrote (listed (f (get_or xs i d)) ∷ []) b c → Wrote (map listed (map f (take (i + 1) xs))) a c
listed_more f xs i d a b c within h k =
    subst (λ (l : List Reply). Wrote l a c)
    (sym (ap (λ l. map listed (map f l)) (take_more xs i d within) ∙ ap (map listed) (map-append f (take i xs) (get_or xs i d ∷ []))
    ∙ map-append listed (map f (take i xs)) (f (get_or xs i d) ∷ [])))
    (wrote_then _ _ a b c h k)

-- ---- the answer

matched_are_names : (pattern : List ℕ) (mailboxes : List FarMailbox) → AreServed mailboxes → All (λ n. is_mailbox_name n ≡ true) (names_matched pattern mailboxes)
matched_are_names pattern mailboxes are =
    all_in_order (λ n. is_mailbox_name n ≡ true) (filter (matches pattern) (map (λ (m : FarMailbox). m.name) mailboxes)) []
    (All-filter (matches pattern) (λ n. is_mailbox_name n ≡ true) (map (λ (m : FarMailbox). m.name) mailboxes)
    (All-map (λ n. is_mailbox_name n ≡ true) (λ (m : FarMailbox). m.name) mailboxes (λ k d within. (are k d within).name)))
    (All-nil (λ n. is_mailbox_name n ≡ true))

-- names that are lent
pub are_names : {X : Type 0} (f : X → List ℕ) (xs : List X) (pattern : List ℕ) (mailboxes : List FarMailbox) → map f xs ≡ names_matched pattern mailboxes → AreServed mailboxes → All (λ x. is_mailbox_name (f x) ≡ true) xs
are_names f xs pattern mailboxes e are =
    let all = subst (All (λ n. is_mailbox_name n ≡ true)) (sym e) (matched_are_names pattern mailboxes are) in
    λ k d within. ap is_mailbox_name (sym (get_or-map f xs k d (f d) within)) ∙ all k (f d) (omega (arith, length-map xs f, within))

pub list_answered : (s : Server) (tag pattern : List ℕ) (names : List (List ℕ)) (a b c : List ℕ) → is_logged_in s.condition ≡ true → names ≡ names_matched pattern s.mailboxes
    → Wrote (map listed names) a b → Wrote (done tag ∷ []) b c → Answered (lists s tag pattern) a c s
list_answered s tag pattern names a b c on is h k =
    answered_as _ _ a c s (by_true (is_logged_in s.condition) _ _ on)
    (record { wrote = wrote_then _ _ a b c (subst (λ (ns : List (List ℕ)). Wrote (map listed ns) a b) is h) k; after_is = refl })
