-- How often `+ go` is said of a front of a text.
use Rattle.std.proofs.Common.{◌≡◌, ◌<◌, inl, inr, ℕ, Bool, true, false, List, [], ◌∷◌, ◌++◌, length, refl, sym, ◌∙◌, ap, subst, append_assoc, append-nil, arith, Option, Some}
use Rattle.wire_reader.specs.declared.side.Speaker.TheVariants.{Commands}
use Rattle.wire_reader.specs.declared.lexical.Phase.{Phase}
use Rattle.wire_reader.specs.declared.lexical.Phase.TheVariants.{Plain}
use Rattle.wire_reader.specs.Lexical.{next, asked, asks, asks_from, phase}
use Rattle.imap_commands.specs.declared.command.Command.{Command}
use Rattle.imap_replies.specs.declared.reply.Reply.{Reply}
use Rattle.imap_session.specs.Servers.{is_over}
use Rattle.imap_session.specs.Answering.{go}
use Rattle.imap_session.specs.Portions.{LineFault, once, goes_from, goes_in}
use Rattle.imap_session.specs.Unread.{Kept, Whole, Dropping, GoesOn, Holds}
use Rattle.imap_session.specs.Serving.{End, IsUnread}
use Rattle.imap_session.proofs.Gos.{goes-append}
use Rattle.imap_session.specs.Ends.{IsText, HasRead}
use Rattle.imap_session.proofs.Fronts.{no_fault, fault_at}

front_none : {A : Type 0} (a b : List A) → a ++ b ≡ [] → a ≡ []
front_none [] b e = refl
front_none (x ∷ a) b e = cc

back_none : {A : Type 0} (a b : List A) → a ++ b ≡ [] → b ≡ []
back_none [] b e = e
back_none (x ∷ a) b e = cc

pub cancel : {A : Type 0} (a b c : List A) → a ++ b ≡ a ++ c → b ≡ c
cancel [] b c e = e
cancel (x ∷ a) b c e = let rest : a ++ b ≡ a ++ c = cc in cancel a b c rest

-- where no more is said of a whole text, none is said of what follows its front
pub goes_no_more : (from read lost : List ℕ) → goes_in ((from ++ read) ++ lost) ≡ goes_in from → goes_in (from ++ read) ≡ goes_in from
goes_no_more from read lost e =
    let one : goes_in (from ++ read) ≡ goes_in from ++ goes_from (phase Plain from) read = goes-append Plain from read in
    let two : goes_in from ++ (goes_from (phase Plain from) read ++ goes_from (phase Plain (from ++ read)) lost) ≡ goes_in from ++ [] =
    sym (append_assoc (goes_in from) (goes_from (phase Plain from) read) (goes_from (phase Plain (from ++ read)) lost))
    ∙ ap (λ (l : List Reply). l ++ goes_from (phase Plain (from ++ read)) lost) (sym one) ∙ sym (goes-append Plain (from ++ read) lost) ∙ e ∙ sym (append-nil (goes_in from)) in
    one ∙ ap (λ (l : List Reply). goes_in from ++ l) (front_none (goes_from (phase Plain from) read) _ (cancel (goes_in from) _ [] two)) ∙ append-nil (goes_in from)

-- ---- what was said of the part of a command that was read

no_drop : (c : Command) (text unread lost : List ℕ) (said : List Reply) (fault : LineFault) (at : ℕ) → IsText c text → text ≡ unread ++ lost → GoesOn fault at unread said → ⊥
no_drop c text unread lost said fault at h e d = no_fault c text unread lost at h.spelled e (fault_at fault at unread d.is)

-- all of it is kept, and its literals were asked for
pub record Reading (kept : Kept) (unread : List ℕ) (said : List Reply) : Type 0 where
  pub kept_is : kept ≡ Whole unread
  pub said_is : said ≡ goes_in unread

pub holds_said : (c : Command) (text unread lost : List ℕ) (said : List Reply) (over : Bool) (kept : Kept) → IsText c text → over ≡ false → text ≡ unread ++ lost
    → Holds over kept unread said → Reading kept unread said
holds_said c text unread lost said true kept h l e r = cc
holds_said c text unread lost said false (Whole bytes) h l e (same, inl r) = record { kept_is = ap Whole same; said_is = r.said_is }
holds_said c text unread lost said false (Whole bytes) h l e (same, inr r) = absurd (no_drop c text unread lost said r.fault r.at h e r.goes_on)
holds_said c text unread lost said false (Dropping fault last) h l e r = absurd (no_drop c text unread lost said fault r.at h e r.goes_on)

pub reads_so : (c : Command) (text unread lost : List ℕ) (said : List Reply) (end : End) → IsText c text → is_over end.server.condition ≡ false → text ≡ unread ++ lost
    → IsUnread end unread said → HasRead unread end
reads_so c text unread lost said end h l e r =
    let k = holds_said c text unread lost said (is_over end.server.condition) end.kept h l e r in
    record { kept = k.kept_is; unread = subst (λ (rs : List Reply). IsUnread end unread rs) k.said_is r }

nothing_at : (at : ℕ) → at < length {A = ℕ} [] → ⊥
nothing_at at h = omega arith

no_fault_at : (fault : LineFault) (at : ℕ) (said : List Reply) → GoesOn fault at [] said → ⊥
no_fault_at fault at said d = let f = fault_at fault at [] d.is in nothing_at at f.within

-- of no bytes nothing was said
holds_none : (over : Bool) (kept : Kept) (said : List Reply) → Holds over kept [] said → Reading kept [] said
holds_none true (Whole bytes) said r = record { kept_is = ap Whole r.0; said_is = r.2 }
holds_none true (Dropping fault last) said r = absurd r
holds_none false (Whole bytes) said (same, inl r) = record { kept_is = ap Whole same; said_is = r.said_is }
holds_none false (Whole bytes) said (same, inr r) = absurd (no_fault_at r.fault r.at said r.goes_on)
holds_none false (Dropping fault last) said r = absurd (no_fault_at fault r.at said r.goes_on)

pub record Nothing (end : End) (said : List Reply) : Type 0 where
  pub none : said ≡ []
  pub has_read : HasRead [] end

pub reads_none : (end : End) (unread : List ℕ) (said : List Reply) → unread ≡ [] → IsUnread end unread said → Nothing end said
reads_none end unread said e r =
    let k = holds_none (is_over end.server.condition) end.kept said (subst (λ (l : List ℕ). IsUnread end l said) e r) in
    record { none = k.said_is; has_read = record { kept = k.kept_is; unread = subst (λ (rs : List Reply). IsUnread end [] rs) k.said_is (subst (λ (l : List ℕ). IsUnread end l said) e r) } }

-- ---- what is asked for at the end of a text

asks_more : (p : Phase) (a : List ℕ) (b : ℕ) (bs : List ℕ) → asks_from Commands p (a ++ b ∷ bs) ≡ asks_from Commands (phase p a) (b ∷ bs)
asks_more p [] b bs = refl
asks_more p (c ∷ []) b bs = refl
asks_more p (c ∷ d ∷ a) b bs = asks_more (next p c) (d ∷ a) b bs

asks_says : (p : Phase) (n b : ℕ) (bs : List ℕ) → asks_from Commands p (b ∷ bs) ≡ Some n → goes_from p (b ∷ bs) ≡ [] → ⊥
asks_says p n b [] h e = let one : once (Some n) ++ [] ≡ [] = ap (λ (w : Option ℕ). once w ++ []) (sym h) ∙ e in cc
asks_says p n b (c ∷ bs) h e = asks_says (next p b) n c bs h (back_none (once (asked Commands p b)) (goes_from (next p b) (c ∷ bs)) e)

one_front : (a b : List Reply) (r : Reply) → a ++ b ≡ r ∷ [] → (b ≡ [] → ⊥) → a ≡ []
one_front [] b r e n = refl
one_front (x ∷ a) b r e n = let rest : a ++ b ≡ [] = cc in absurd (n (back_none a b rest))

-- nothing is said before the end of a text that asks once, at its end
pub goes_before : (text a : List ℕ) (b : ℕ) (bs : List ℕ) (n : ℕ) → asks Commands text ≡ Some n → goes_in text ≡ go ∷ [] → text ≡ a ++ b ∷ bs → goes_in a ≡ []
goes_before text a b bs n h e is =
    let parts : goes_in a ++ goes_from (phase Plain a) (b ∷ bs) ≡ go ∷ [] = sym (goes-append Plain a (b ∷ bs)) ∙ ap goes_in (sym is) ∙ e in
    let ask : asks_from Commands (phase Plain a) (b ∷ bs) ≡ Some n = sym (asks_more Plain a b bs) ∙ ap (asks Commands) (sym is) ∙ h in
    one_front (goes_in a) (goes_from (phase Plain a) (b ∷ bs)) go parts (asks_says (phase Plain a) n b bs ask)
