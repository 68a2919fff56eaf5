-- Of the bytes of one command the server has read none or that one.
use Rattle.std.proofs.Common.{◌≡◌, ◌<◌, ◌≤◌, ◌⊎◌, inl, inr, ℕ, suc, ◌+◌, false, List, [], ◌∷◌, ◌++◌, length, take, drop, take-append-drop, refl, sym, ◌∙◌, ap, subst, append_assoc, append-nil, arith}
use Rattle.std.proofs.lemmas.Grind.{common_steps}
use Rattle.wire_reader.specs.declared.lexical.Phase.{Phase}
use Rattle.wire_reader.specs.declared.lexical.Phase.TheVariants.{Plain}
use Rattle.wire_reader.specs.Lexical.{next, outside, outside_from}
use Rattle.wire_reader.specs.Answers.{FaultAt}
use Rattle.imap_commands.specs.declared.command.Command.{Command}
use Rattle.imap_commands.specs.Commands.{Spelled}
use Rattle.imap_replies.specs.declared.reply.Reply.{Reply}
use Rattle.imap_session.specs.Servers.{Server, is_over, Quiet, news, reported}
use Rattle.imap_session.specs.Portions.{LineFault, Syntax, LiteralTooLong, FaultIs, Item, Asks, Faulty, Ends, Late, Reads, IsLongLine, goes_in}
use Rattle.imap_session.specs.Serving.{Portion, Takes, Serve, Does, is_late, text_of}
use Rattle.imap_session.specs.Ends.{IsText, Did}
use Rattle.imap_session.proofs.Apart.{apart, commands_apart}
use Rattle.imap_session.proofs.Others.{quiet_left}

-- ---- what stands at the front of a command

pub outside_front : (p : Phase) (a b : List ℕ) → outside_from p a ≤ outside_from p (a ++ b)
outside_front p [] b = omega arith
outside_front p (c ∷ a) b = let h = outside_front (next p c) a b in omega arith

-- a text is the part before a place and what follows it
pub cut : (n : ℕ) (text more : List ℕ) → text ++ more ≡ take n text ++ (drop n text ++ more)
cut n text more = ap (λ (l : List ℕ). l ++ more) (sym (take-append-drop n text)) ∙ append_assoc (take n text) (drop n text) more

-- no fault stands in a command
pub no_fault : (c : Command) (text part more : List ℕ) (at : ℕ) → Spelled c text → text ≡ part ++ more → FaultAt Spelled part at → ⊥
no_fault c text part more at h e f = f.none c (drop (suc at) part ++ more) (subst (Spelled c) (e ∙ cut (suc at) part more) h)

-- the byte at which a line is none
pub fault_at : (fault : LineFault) (at : ℕ) (text : List ℕ) → FaultIs fault at text → FaultAt Spelled text at
fault_at (Syntax tag) at text h = h.0.fault
fault_at (LiteralTooLong tag) at text h = h.0.fault

not_wide : (c : Command) (text part more : List ℕ) (said : List Reply) → IsText c text → text ≡ part ++ more → IsLongLine part said → ⊥
not_wide c text part more said h e w =
    let front : outside (take (suc w.passes.at) part) ≤ outside (take (suc w.passes.at) part ++ (drop (suc w.passes.at) part ++ more)) = outside_front Plain _ _ in
    let whole : outside text ≡ outside (take (suc w.passes.at) part ++ (drop (suc w.passes.at) part ++ more)) = ap outside (e ∙ cut (suc w.passes.at) part more) in
    let fits = h.fits in
    let passes = w.passes.passes in
    omega arith

pub record IsFirst (c : Command) (text part more : List ℕ) (item : Item) (said : List Reply) : Type 0 where
  pub item_is : item ≡ Asks c
  pub text_is : part ≡ text
  pub none : more ≡ []
  pub said_is : said ≡ goes_in text

pub first : (c : Command) (item : Item) (text part more : List ℕ) (said : List Reply) → IsText c text → text ≡ part ++ more → Reads item part said → is_late item ≡ false → IsFirst c text part more item said
first c (Asks d) text part more said h e r l =
    let same = apart commands_apart c d text [] part more h.spelled r.spelled (append-nil text ∙ e) in
    record { item_is = ap Asks (sym same.value); text_is = sym same.text; none = sym same.rest; said_is = r.said_is ∙ ap goes_in (sym same.text) }
first c (Faulty fault) text part more said h e r l = absurd (no_fault c text part more r.0.at h.spelled e (fault_at fault r.0.at part r.0.is))
first c Ends text part more said h e (inl r) l = absurd (no_fault c text part more r.line.at h.spelled e (fault_at r.fault r.line.at part r.line.is))
first c Ends text part more said h e (inr r) l = absurd (not_wide c text part more said h e r)
first c Late text part more said h e r l = cc

-- ---- what is read has bytes

no_bytes : (text : List ℕ) → 0 < length text → text ≡ [] → ⊥
no_bytes text h e = let none : length text ≡ 0 = ap length e in omega arith

command_some : (c : Command) (text : List ℕ) → Spelled c text → text ≡ [] → ⊥
command_some c text h e =
    let some = h.first.1.some in
    let long : length text ≡ length h.front + length h.back = ap length h.parts ∙ grind (arith, common_steps) in
    let none : length text ≡ 0 = ap length e in
    omega arith

some_at : (text : List ℕ) (at : ℕ) → at < length text → text ≡ [] → ⊥
some_at text at h e = let none : length text ≡ 0 = ap length e in omega arith

pub portion_some : (item : Item) (text : List ℕ) (said : List Reply) → Reads item text said → text ≡ [] → ⊥
portion_some (Asks c) text said r e = command_some c text r.spelled e
portion_some (Faulty fault) text said r e = let f = fault_at fault r.0.at text r.0.is in some_at text r.0.at f.within e
portion_some Ends text said (inl r) e = let f = fault_at r.fault r.line.at text r.line.is in some_at text r.line.at f.within e
portion_some Ends text said (inr r) e = some_at text r.passes.at r.passes.within e
portion_some Late text said r e = no_bytes text r.1 e

empty_front : (a b : List ℕ) → a ++ b ≡ [] → a ≡ []
empty_front [] b e = refl
empty_front (x ∷ a) b e = cc

empty_back : (a b : List ℕ) → a ++ b ≡ [] → b ≡ []
empty_back [] b e = e
empty_back (x ∷ a) b e = cc

-- ---- the front

pub record NoneRead (old new : Server) (stream rest : List ℕ) (replies : List Reply) : Type 0 where
  pub quiet : Quiet old new
  pub all : stream ≡ rest
  pub none : replies ≡ []

pub record OneRead (c : Command) (text : List ℕ) (old new : Server) (rest lost : List ℕ) (replies : List Reply) : Type 0 where
  pub did : Did c (goes_in text) old replies new
  pub rest_none : rest ≡ []
  pub lost_none : lost ≡ []

reads_first : (old : Server) (p : Portion) (mine : List Reply) (mid : Server) (t : Takes old p mine mid) → is_over old.condition ≡ false → is_late p.item ≡ false
reads_first old p mine mid t l = t.at_end ∙ quiet_left old t.before t.quiet ∙ l

did_of : (c : Command) (text : List ℕ) (old mid new : Server) (p : Portion) (mine : List Reply) (t : Takes old p mine mid) → p.item ≡ Asks c → p.said ≡ goes_in text → Quiet mid new → Did c (goes_in text) old mine new
did_of c text old mid new p mine t is said q = record {
  before = t.before;
  own = t.own;
  after = mid;
  quiet = t.quiet;
  step = subst (λ (i : Item). Does (reported t.before) i t.own mid) is t.does;
  later = q;
  replies_are = t.replies_are ∙ ap (λ (l : List Reply). l ++ (news t.before ++ t.own)) said;
}

one_read : (c : Command) (text : List ℕ) (old mid new : Server) (p : Portion) (ps : List Portion) (mine others : List Reply) (rest lost : List ℕ)
    → IsText c text → is_over old.condition ≡ false → text ≡ p.text ++ (text_of ps ++ (rest ++ lost)) → Takes old p mine mid → Serve mid ps others new
    → OneRead c text old new rest lost (mine ++ others)
one_read c text old mid new p [] mine others rest lost h l e t s =
    let is = first c p.item text p.text (rest ++ lost) p.said h e t.reads (reads_first old p mine mid t l) in
    record {
      did = subst (λ (rs : List Reply). Did c (goes_in text) old rs new) (sym (append-nil mine) ∙ ap (λ (rs : List Reply). mine ++ rs) (sym s.1)) (did_of c text old mid new p mine t is.item_is is.said_is s.0);
      rest_none = empty_front rest lost is.none;
      lost_none = empty_back rest lost is.none;
    }
one_read c text old mid new p (q ∷ qs) mine others rest lost h l e t s =
    let is = first c p.item text p.text (text_of (q ∷ qs) ++ (rest ++ lost)) p.said h e t.reads (reads_first old p mine mid t l) in
    absurd (portion_some q.item q.text q.said s.3.reads (empty_front q.text (text_of qs) (empty_front (text_of (q ∷ qs)) (rest ++ lost) is.none)))

pub front : (c : Command) (text : List ℕ) (old new : Server) (portions : List Portion) (replies : List Reply) (rest lost : List ℕ)
    → IsText c text → is_over old.condition ≡ false → text ≡ (text_of portions ++ rest) ++ lost → Serve old portions replies new
    → NoneRead old new (text_of portions ++ rest) rest replies ⊎ OneRead c text old new rest lost replies
front c text old new [] replies rest lost h l e s = inl (record { quiet = s.0; all = refl; none = s.1 })
front c text old new (p ∷ ps) replies rest lost h l e s =
    let parts : text ≡ p.text ++ (text_of ps ++ (rest ++ lost)) = e ∙ append_assoc (p.text ++ text_of ps) rest lost ∙ append_assoc p.text (text_of ps) (rest ++ lost) in
    inr (subst (λ (rs : List Reply). OneRead c text old new rest lost rs) (sym s.5) (one_read c text old s.2 new p ps s.0 s.1 rest lost h l parts s.3 s.4))
