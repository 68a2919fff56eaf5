-- What commands answer, from what was written.
use Rattle.std.proofs.Common.{◌≡◌, ◌<◌, ℕ, zero, suc, Bool, true, List, [], ◌∷◌, length, codes, refl, sym, ◌∙◌, ap, subst, Option, Some, None, arith, get_or, if◌then◌else◌}
use Rattle.std.specs.Prelude.{All}
use Rattle.mailcore.specs.declared.keywords.Keyword.{Keyword}
use Rattle.mailcore.specs.declared.mailbox.Message.{Message}
use Rattle.mailcore.specs.Listed.{AreRising, AreBelow}
use Rattle.wire_tokens.specs.Names.{has_name}
use Rattle.imap_replies.specs.declared.response.Code.TheVariants as codes_of
use Rattle.imap_replies.specs.declared.reply.Reply.TheVariants.{Enabled, Flags, Exists}
use Rattle.imap_session.specs.Mailboxes.{FarMailbox, mailbox_at}
use Rattle.imap_session.specs.Servers.{Server, Selected, Authenticated, is_logged_in}
use Rattle.imap_session.specs.Answering.{Answer, done, done_with, refused_with, note, listed}
use Rattle.imap_session.specs.SessionCommands.{REV2, enables}
use Rattle.imap_session.specs.MailboxCommands.{all_names, closes, opening, selects, selects_at}
use Rattle.imap_server.specs.Writing.{Wrote, Answered}
use Rattle.imap_server.proofs.WritingLemmas.{wrote_then, wrote_more}

-- the same answer
pub answered_as : (x y : Answer) (a b : List ℕ) (s : Server) → x ≡ y → Answered y a b s → Answered x a b s
answered_as x y a b s e h = subst (λ (z : Answer). Answered z a b s) (sym e) h

pub by_true : (b : Bool) (x y : Answer) → b ≡ true → (if b then x else y) ≡ x
by_true b x y e = ap (λ (c : Bool). if c then x else y) e

-- ---- ENABLE

pub enable_answered : (s : Server) (tag : List ℕ) (names : List (List ℕ)) (said : Option (List (List ℕ))) (a b c : List ℕ) → is_logged_in s.condition ≡ true
    → said ≡ (if has_name REV2 names then Some (REV2 ∷ []) else None) → Wrote (Enabled said ∷ []) a b → Wrote (done tag ∷ []) b c → Answered (enables s tag names) a c s
enable_answered s tag names said a b c on is h k =
    answered_as _ _ a c s (by_true (is_logged_in s.condition) _ _ on) (record {
      wrote = wrote_more _ _ a b c (subst (λ (o : Option (List (List ℕ))). Wrote (Enabled o ∷ []) a b) is h) k;
      after_is = refl;
    })

-- ---- SELECT

pub opening_wrote : (keywords : List Keyword) (m : FarMailbox) (tag : List ℕ) (all too : List (List ℕ)) (count next validity : ℕ) (a b c d e f g h : List ℕ)
    → all ≡ all_names keywords → too ≡ all_names keywords → count ≡ length m.store.messages → next ≡ m.store.next → validity ≡ m.store.validity
    → Wrote (Flags all ∷ []) a b → Wrote (Exists count ∷ []) b c → Wrote (listed m.name ∷ []) c d
    → Wrote (note (codes_of.PermanentFlags too) (codes "flags") ∷ []) d e
    → Wrote (note (codes_of.UidNext next) (codes "next") ∷ []) e f
    → Wrote (note (codes_of.UidValidity validity) (codes "validity") ∷ []) f g
    → Wrote (done_with tag codes_of.ReadWrite ∷ []) g h
    → Wrote (opening keywords m tag) a h
opening_wrote keywords m tag all too count next validity a b c d e f g h e1 e2 e3 e4 e5 w1 w2 w3 w4 w5 w6 w7 =
    wrote_more _ _ a b h (subst (λ (n : List (List ℕ)). Wrote (Flags n ∷ []) a b) e1 w1)
    (wrote_more _ _ b c h (subst (λ (n : ℕ). Wrote (Exists n ∷ []) b c) e3 w2)
    (wrote_more _ _ c d h w3
    (wrote_more _ _ d e h (subst (λ (n : List (List ℕ)). Wrote (note (codes_of.PermanentFlags n) (codes "flags") ∷ []) d e) e2 w4)
    (wrote_more _ _ e f h (subst (λ (n : ℕ). Wrote (note (codes_of.UidNext n) (codes "next") ∷ []) e f) e4 w5)
    (wrote_more _ _ f g h (subst (λ (n : ℕ). Wrote (note (codes_of.UidValidity n) (codes "validity") ∷ []) f g) e5 w6) w7)))))

module _ (s new : Server) (tag name : List ℕ) (a b c : List ℕ) (on : is_logged_in s.condition ≡ true) (closed : Wrote (closes s.condition) a b) where
  selects_as : (at : Option FarMailbox) → mailbox_at name s.mailboxes ≡ at → selects s tag name ≡ selects_at at s tag name
  selects_as at e = by_true (is_logged_in s.condition) _ _ on ∙ ap (λ (o : Option FarMailbox). selects_at o s tag name) e

  pub select_there : (keywords : List Keyword) (m : FarMailbox) → keywords ≡ s.keywords → mailbox_at name s.mailboxes ≡ Some m → Wrote (opening keywords m tag) b c → new ≡ record s { condition = Selected name } → Answered (selects s tag name) a c new
  select_there keywords m same at w is =
      answered_as _ _ a c new (selects_as (Some m) at) (record { wrote = wrote_then _ _ a b c closed (subst (λ (ks : List Keyword). Wrote (opening ks m tag) b c) same w); after_is = is })

  pub select_none : mailbox_at name s.mailboxes ≡ None → Wrote (refused_with tag (codes "NONEXISTENT") (codes "no mailbox") ∷ []) b c → new ≡ record s { condition = Authenticated }
      → Answered (selects s tag name) a c new
  select_none at w is = answered_as _ _ a c new (selects_as None at) (record { wrote = wrote_then _ _ a b c closed w; after_is = is })

-- ---- how many messages there are

at_least : (ms : List Message) (d : Message) → AreRising ms → All (λ (m : Message). 0 < m.uid) ms → (k : ℕ) → k < length ms → k < (get_or ms k d).uid
at_least ms d rising some zero h = some 0 d h
at_least ms d rising some (suc k) h =
    let before = at_least ms d rising some k (omega arith) in
    let less = rising k (suc k) d (omega arith) h in
    omega arith

pub count_fits : (ms : List Message) (next : ℕ) → 0 < next → AreRising ms → All (λ (m : Message). 0 < m.uid) ms → AreBelow ms next → length ms < next
count_fits [] next first rising some below = omega arith
count_fits (m ∷ ms) next first rising some below =
    let last = at_least (m ∷ ms) m rising some (length ms) (omega arith) in
    let under = below (length ms) m (omega arith) in
    omega arith
