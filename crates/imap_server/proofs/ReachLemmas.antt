-- UID FETCH and UID EXPUNGE report nothing about the messages before and after those that a set names.
use Rattle.std.proofs.Common.{◌≡◌, ◌≤◌, ℕ, suc, ◌+◌, Bool, true, false, List, [], ◌∷◌, ◌++◌, length, take, drop, refl, sym, ◌∙◌, ap, subst, take-append-drop, arith, if◌then◌else◌}
use Rattle.std.specs.Prelude.{All, ◌&&◌}
use Rattle.std.proofs.lemmas.List.{length-take-le}
use Rattle.mailcore.specs.declared.keywords.Keyword.{Keyword}
use Rattle.mailcore.specs.declared.mailbox.Message.{Message}
use Rattle.mailcore.specs.FlagSet.{DELETED, has}
use Rattle.imap_commands.specs.declared.command.FetchItems.{FetchItems}
use Rattle.imap_replies.specs.declared.reply.Reply.{Reply}
use Rattle.imap_replies.specs.declared.reply.Reply.TheVariants.{Expunge, Fetch}
use Rattle.imap_session.specs.NamedMessages.{goes}
use Rattle.imap_session.specs.MessageCommands.{shown, fetched, removed}
use Rattle.imap_session.specs.Naming.{IsReach}
use Rattle.imap_session.proofs.ReachLemmas.{unnamed_before, unnamed_after}
use Rattle.imap_server.specs.Writing.{Wrote}
use Rattle.imap_server.proofs.ExpungeLemmas.{left}
use Rattle.imap_server.proofs.WritingLemmas.{wrote_none}

none_fetched : (keywords : List Keyword) (named : ℕ → Bool) (what : FetchItems) (place : ℕ) (ms : List Message) → All (λ (m : Message). named m.uid ≡ false) ms → fetched keywords named what place ms ≡ []
none_fetched keywords named what place [] unnamed = refl
none_fetched keywords named what place (m ∷ ms) unnamed =
    ap (λ (b : Bool). if b then Fetch place (shown keywords what m) ∷ fetched keywords named what (place + 1) ms else fetched keywords named what (place + 1) ms) (unnamed 0 m (omega arith))
    ∙ none_fetched keywords named what (place + 1) ms (λ k d within. unnamed (suc k) d (omega arith))

fetched_after : (keywords : List Keyword) (named : ℕ → Bool) (what : FetchItems) (place : ℕ) (xs ys : List Message) → All (λ (m : Message). named m.uid ≡ false) ys
    → fetched keywords named what place (xs ++ ys) ≡ fetched keywords named what place xs
fetched_after keywords named what place [] ys unnamed = none_fetched keywords named what place ys unnamed
fetched_after keywords named what place (x ∷ xs) ys unnamed =
    ap (λ (l : List Reply). if named x.uid then Fetch place (shown keywords what x) ∷ l else l) (fetched_after keywords named what (place + 1) xs ys unnamed)

pub wrote_before : (keywords : List Keyword) (named : ℕ → Bool) (what : FetchItems) (ms : List Message) (start end : ℕ) (out : List ℕ) → IsReach named ms start end → start ≤ length ms
    → Wrote (fetched keywords named what 1 (take start ms)) out out
wrote_before keywords named what ms start end out reach inside =
    subst (λ (l : List Reply). Wrote l out out) (sym (none_fetched keywords named what 1 (take start ms) (unnamed_before named ms start end reach inside))) (wrote_none out)

pub wrote_within : (keywords : List Keyword) (named : ℕ → Bool) (what : FetchItems) (ms : List Message) (start end place : ℕ) (a b : List ℕ) → IsReach named ms start end → end ≤ place
    → Wrote (fetched keywords named what 1 (take place ms)) a b → Wrote (fetched keywords named what 1 ms) a b
wrote_within keywords named what ms start end place a b reach following wrote =
    subst (λ (l : List Reply). Wrote l a b)
    (sym (fetched_after keywords named what 1 (take place ms) (drop place ms) (unnamed_after named ms start end place reach following)) ∙ ap (fetched keywords named what 1) (take-append-drop place ms)) wrote

-- ---- nor does UID EXPUNGE

none_removed : (named : ℕ → Bool) (place : ℕ) (ms : List Message) → All (λ (m : Message). named m.uid ≡ false) ms → removed named place ms ≡ []
none_removed named place [] unnamed = refl
none_removed named place (m ∷ ms) unnamed =
    ap (λ (b : Bool). if b && has m.flags DELETED then Expunge place ∷ removed named place ms else removed named (place + 1) ms) (unnamed 0 m (omega arith))
    ∙ none_removed named (place + 1) ms (λ k d within. unnamed (suc k) d (omega arith))

all_left : (named : ℕ → Bool) (ms : List Message) → All (λ (m : Message). named m.uid ≡ false) ms → left named ms ≡ length ms
all_left named [] unnamed = refl
all_left named (m ∷ ms) unnamed =
    let rest = all_left named ms (λ k d within. unnamed (suc k) d (omega arith)) in
    ap (λ (b : Bool). if b && has m.flags DELETED then left named ms else 1 + left named ms) (unnamed 0 m (omega arith)) ∙ omega (arith, rest)

removed_after : (named : ℕ → Bool) (place : ℕ) (xs ys : List Message) → All (λ (m : Message). named m.uid ≡ false) ys → removed named place (xs ++ ys) ≡ removed named place xs
removed_after named place [] ys unnamed = none_removed named place ys unnamed
removed_after named place (x ∷ xs) ys unnamed =
    let gone = removed_after named place xs ys unnamed in
    let stayed = removed_after named (place + 1) xs ys unnamed in
    elim (goes named x) as (λ b. (if b then Expunge place ∷ removed named place (xs ++ ys) else removed named (place + 1) (xs ++ ys))
    ≡ (if b then Expunge place ∷ removed named place xs else removed named (place + 1) xs))
    [ true ↦ ap (λ (l : List Reply). Expunge place ∷ l) gone | false ↦ stayed ]

module _ (named : ℕ → Bool) (ms : List Message) (start end : ℕ) (reach : IsReach named ms start end) where
  pub left_before : start ≤ length ms → left named (take start ms) ≡ start
  left_before inside = all_left named (take start ms) (unnamed_before named ms start end reach inside) ∙ length-take-le start ms inside

  pub removed_before : (out : List ℕ) → start ≤ length ms → Wrote (removed named 1 (take start ms)) out out
  removed_before out inside =
      subst (λ (l : List Reply). Wrote l out out) (sym (none_removed named 1 (take start ms) (unnamed_before named ms start end reach inside))) (wrote_none out)

  pub removed_within : (place : ℕ) (a b : List ℕ) → end ≤ place → Wrote (removed named 1 (take place ms)) a b → Wrote (removed named 1 ms) a b
  removed_within place a b following wrote =
      subst (λ (l : List Reply). Wrote l a b)
      (sym (removed_after named 1 (take place ms) (drop place ms) (unnamed_after named ms start end place reach following)) ∙ ap (removed named 1) (take-append-drop place ms)) wrote
