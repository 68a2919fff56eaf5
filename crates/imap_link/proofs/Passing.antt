-- Replies that are skipped; of these, the ones that the call keeps stay.
use Rattle.std.proofs.Common.{◌≡◌, ℕ, ◌-◌, Bool, true, false, List, [], ◌∷◌, ◌++◌, refl, sym, ◌∙◌, ap, subst, arith, append_assoc, append-nil, length, take, length-append, Some}
use Rattle.std.specs.Prelude.{filter, if◌then◌else◌}
use Rattle.std.proofs.lemmas.List.{take-append-le, take_all}
use Rattle.std.proofs.lemmas.List.Elements.{filter-append}
use Rattle.imap_replies.specs.declared.word.Status.{Status}
use Rattle.imap_replies.specs.declared.reply.Reply.{Reply}
use Rattle.imap_replies.specs.declared.reply.Reply.TheVariants.{Continue, Tagged, Notice, Capability, Enabled, List as Listed, Flags, Exists, Expunge, Fetch, Other, OtherNumbered}
use Rattle.imap_session.specs.Heard.{is_passed, tag_of, AreUntagged, AreReplies}
use Rattle.imap_session.specs.Lines.{Line}
use Rattle.imap_session.specs.Ends.{Ends, ends_of, Hears}
use Rattle.imap_session.proofs.Others.{quiet-trans}
use Rattle.imap_link.specs.ReplyBuffers.{Buffer, drops_last}
use Rattle.imap_link.specs.declared.kind.ReplyKind.{ReplyKind}
use Rattle.imap_link.specs.declared.kind.ReplyKind.TheVariants.{Mine}
use Rattle.imap_link.specs.declared.uses.Uses.{Uses}
use Rattle.imap_link.specs.declared.wire.LastReply.{LastReply}
use Rattle.imap_link.specs.ReplyKinds.{kind_of, passes}
use Rattle.imap_link.specs.UsedReplies.{is_used, messages_read}
use Rattle.imap_link.specs.Sinks.{TakesReply, reporting}
use Rattle.imap_link.specs.Buffers.{WholeRead, Reads, EndsIn, Passed, Came, GoesOn, IsReported}
use Rattle.imap_link.proofs.KindLemmas.{passes_is, mine_tagged}
use Rattle.imap_link.proofs.Text.{replies-join, untagged-more}

-- ---- the used ones

untagged_if : (b : Bool) (r : Reply) (rs : List Reply) → is_passed r ≡ true → AreUntagged rs → AreUntagged (if b then r ∷ rs else rs)
untagged_if true r rs e u = (e, u)
untagged_if false r rs e u = u

pub untagged_used : (uses : Uses) (rs : List Reply) → AreUntagged rs → AreUntagged (filter (is_used uses) rs)
untagged_used uses [] u = tt
untagged_used uses (r ∷ rs) u = untagged_if (is_used uses r) r (filter (is_used uses) rs) u.0 (untagged_used uses rs u.1)

pub tagged_used : (uses : Uses) (r : Reply) (t : List ℕ) → tag_of r ≡ Some t → is_used uses r ≡ true
tagged_used uses (Tagged other status text) t e = refl
tagged_used uses (Continue text) t e = refl
tagged_used uses (Notice kind text) t e = cc
tagged_used uses (Capability names) t e = cc
tagged_used uses (Enabled names) t e = cc
tagged_used uses (Listed attributes delimiter name) t e = cc
tagged_used uses (Flags flags) t e = cc
tagged_used uses (Exists n) t e = cc
tagged_used uses (Expunge n) t e = cc
tagged_used uses (Fetch n items) t e = cc
tagged_used uses (Other word text) t e = cc
tagged_used uses (OtherNumbered n event text) t e = cc

-- a used reply after others
pub used_last : (uses : Uses) (rs : List Reply) (r : Reply) → is_used uses r ≡ true → filter (is_used uses) (rs ++ r ∷ []) ≡ filter (is_used uses) rs ++ r ∷ []
used_last uses rs r e = filter-append (is_used uses) rs (r ∷ []) ∙ ap (λ (b : Bool). filter (is_used uses) rs ++ (if b then r ∷ [] else [])) e

-- ---- what is to be heard

goes_first : (ends : Ends) → GoesOn ends ends []
goes_first ends = record { stays = record { quiet = refl; kept = refl }; coming = refl }

pub goes_then : (a b c : Ends) (x y : List ℕ) → GoesOn a b x → GoesOn b c y → GoesOn a c (x ++ y)
goes_then a b c x y g h = record {
  stays = record { quiet = quiet-trans a.end.server b.end.server c.end.server g.stays.quiet h.stays.quiet; kept = h.stays.kept ∙ g.stays.kept };
  coming = g.coming ∙ ap (λ (l : List ℕ). x ++ l) h.coming ∙ sym (append_assoc x y c.coming);
}

-- ---- one reply more

-- nothing was read so far
pub passed_none : (uses : Uses) (T : List Reply → Type 0) (honest : Type 0) (ends : Ends) (read : List ℕ) → read ≡ [] → T [] → Passed uses T read (λ text. honest → GoesOn ends ends text)
passed_none uses T honest ends read e t = record { replies = []; untagged = tt; text = []; spelled = refl; used = e; reported = t; goes = λ h. goes_first ends }

pub one : (len : ℕ) (G : List ℕ → Type 0) (old new : List ℕ) (w : WholeRead len G old new) → AreReplies (w.reply ∷ []) w.text
one len G old new w = record { front = w.text; back = []; parts = sym (append-nil w.text); first = w.spells.spelled; fits = w.spells.fits; others = refl }

reporting_more : (T : List Reply → Type 0) (rs : List Reply) (r : Reply) → T (reporting rs ++ reporting (r ∷ [])) → T (reporting (rs ++ r ∷ []))
reporting_more T rs r h = subst T (sym (filter-append (is_used messages_read) rs (r ∷ []))) h

module _ (uses : Uses) (tag : List ℕ) (kind : ReplyKind) (used : Bool) (len : ℕ) (R : Reply → Type 0) (Goes : List ℕ → Type 0) (old new : List ℕ) (b : Reads uses tag kind used len R Goes old new)
    (T U : List Reply → Type 0) (states : (reported : List Reply) → T reported → R b.whole.reply → U (reported ++ reporting (b.whole.reply ∷ [])))
    (G H : List ℕ → Type 0) (goes : (x y : List ℕ) → G x → Goes y → H (x ++ y)) (p : Passed uses T old G) where
  abbrev reply : Reply
  reply = b.whole.reply

  abbrev text : List ℕ
  text = b.whole.text

  reported : U (reporting (p.replies ++ reply ∷ []))
  reported = reporting_more U p.replies reply (states (reporting p.replies) p.reported b.reported)

  spelled : AreReplies (p.replies ++ reply ∷ []) (p.text ++ text)
  spelled = replies-join p.replies (reply ∷ []) p.text text p.spelled (one len Goes old new b.whole)

  kept_by : (u : Bool) → AreReplies (filter (is_used uses) p.replies ++ (if u then reply ∷ [] else [])) (old ++ (if u then text else []))
  kept_by true = replies-join (filter (is_used uses) p.replies) (reply ∷ []) old text p.used (one len Goes old new b.whole)
  kept_by false = replies-join (filter (is_used uses) p.replies) [] old [] p.used refl

  -- it is kept where the call keeps it
  used_more : AreReplies (filter (is_used uses) (p.replies ++ reply ∷ [])) (old ++ (if used then text else []))
  used_more =
      subst (λ (l : List Reply). AreReplies l (old ++ (if used then text else [])))
      (sym (filter-append (is_used uses) p.replies (reply ∷ []) ∙ ap (λ (v : Bool). filter (is_used uses) p.replies ++ (if v then reply ∷ [] else [])) b.used_is)) (kept_by used)

  -- it is skipped
  passed_more : (now : List ℕ) → now ≡ old ++ (if used then text else []) → passes kind ≡ true → Passed uses U now H
  passed_more now is e = record {
    replies = p.replies ++ reply ∷ [];
    untagged = untagged-more p.replies reply p.untagged (passes_is tag reply ∙ ap passes b.is ∙ e);
    text = p.text ++ text;
    spelled = spelled;
    used = subst (AreReplies (filter (is_used uses) (p.replies ++ reply ∷ []))) (sym is) used_more;
    reported = reported;
    goes = goes p.text text p.goes b.whole.goes;
  }

  -- it is what was waited for
  came_last : (P : Reply → Type 0) → P reply → Came uses U P new H
  came_last P is = record {
    passed = p.replies;
    untagged = p.untagged;
    last = reply;
    is = is;
    text = p.text ++ text;
    spelled = spelled;
    used = subst (AreReplies (filter (is_used uses) p.replies ++ reply ∷ [])) (sym b.whole.read) (kept_by true);
    reported = reported;
    goes = goes p.text text p.goes b.whole.goes;
  }

-- ---- what is kept of it

kept_or : (used : Bool) (len : ℕ) (G : List ℕ → Type 0) (old : List ℕ) (b now : Buffer) (w : WholeRead len G old b.read) → now ≡ (if used then b else drops_last len b) → now.read ≡ old ++ (if used then w.text else [])
kept_or true len G old b now w e = ap (λ (x : Buffer). x.read) e ∙ w.read
kept_or false len G old b now w e =
    let long = w.long in
    let size : length b.read - len ≡ length old = (let s = ap length w.read in omega (arith, s, long, length-append old w.text)) in
    ap (λ (x : Buffer). x.read) e ∙ ap (λ (n : ℕ). take n b.read) size ∙ ap (take (length old)) w.read ∙ take-append-le (length old) old w.text (omega arith) ∙ take_all (length old) old (omega arith) ∙ sym (append-nil old)

pub unread_same : (used : Bool) (len : ℕ) (b now : Buffer) → now ≡ (if used then b else drops_last len b) → now.unread ≡ b.unread
unread_same true len b now e = ap (λ (x : Buffer). x.unread) e
unread_same false len b now e = ap (λ (x : Buffer). x.unread) e

-- the same, of a link that behaved as specified and a sink that took the reply
module _ {S : Type 0} (took : S → List Reply → S → Type 0) (s0 s1 s2 : S) (was_honest honest : Type 0) (was : honest → was_honest) (first mid now : Ends) (uses : Uses) (tag : List ℕ) (kind : ReplyKind) (used : Bool) (len : ℕ)
    (old new : List ℕ) (b : Reads uses tag kind used len (λ reply. TakesReply took reply s1 s2) (λ text. honest → GoesOn mid now text) old new)
    (p : Passed uses (λ reported. took s0 reported s1) old (λ text. was_honest → GoesOn first mid text)) where
  goes_on : (x y : List ℕ) → (was_honest → GoesOn first mid x) → (honest → GoesOn mid now y) → honest → GoesOn first now (x ++ y)
  goes_on x y g k h = goes_then first mid now x y (g (was h)) (k h)

  passed_on : (read : List ℕ) → read ≡ old ++ (if used then b.whole.text else []) → passes kind ≡ true → Passed uses (λ reported. took s0 reported s2) read (λ text. honest → GoesOn first now text)
  passed_on read is e =
      passed_more uses tag kind used len _ (λ text. honest → GoesOn mid now text) old new b (λ reported. took s0 reported s1) (λ reported. took s0 reported s2) (λ reported t r. r s0 reported t)
      (λ text. was_honest → GoesOn first mid text) (λ text. honest → GoesOn first now text) goes_on p read is e

  pub came_on : (P : Reply → Type 0) → P b.whole.reply → Came uses (λ reported. took s0 reported s2) P new (λ text. honest → GoesOn first now text)
  came_on P is =
      came_last uses tag kind used len _ (λ text. honest → GoesOn mid now text) old new b (λ reported. took s0 reported s1) (λ reported. took s0 reported s2) (λ reported t r. r s0 reported t)
      (λ text. was_honest → GoesOn first mid text) (λ text. honest → GoesOn first now text) goes_on p P is

-- and then kept or dropped
pub passed_here : {S : Type 0} (took : S → List Reply → S → Type 0) (s0 s1 s2 : S) (was_honest honest : Type 0) (was : honest → was_honest) (first mid : Ends) (line : Line) (uses : Uses) (tag : List ℕ) (kind : ReplyKind) (used : Bool) (len : ℕ)
    (old : List ℕ) (heard now : Buffer) → now ≡ (if used then heard else drops_last len heard)
    → Reads uses tag kind used len (λ reply. TakesReply took reply s1 s2) (λ text. honest → GoesOn mid (ends_of line heard.unread) text) old heard.read
    → Passed uses (λ reported. took s0 reported s1) old (λ text. was_honest → GoesOn first mid text) → passes kind ≡ true
    → Passed uses (λ reported. took s0 reported s2) now.read (λ text. honest → GoesOn first (ends_of line now.unread) text)
passed_here took s0 s1 s2 was_honest honest was first mid line uses tag kind used len old heard now is b p e =
    subst (λ (l : List ℕ). Passed uses (λ reported. took s0 reported s2) now.read (λ text. honest → GoesOn first (ends_of line l) text)) (sym (unread_same used len heard now is))
    (passed_on took s0 s1 s2 was_honest honest was first mid (ends_of line heard.unread) uses tag kind used len old heard.read b p now.read
    (kept_or used len (λ text. honest → GoesOn mid (ends_of line heard.unread) text) old heard now b.whole is) e)

-- ---- what came

-- what was read
abbrev pub front_of : (uses : Uses) (T : List Reply → Type 0) (P : Reply → Type 0) (kept : List ℕ) (G : List ℕ → Type 0) → Came uses T P kept G → EndsIn P kept
front_of uses T P kept G a = record { passed = filter (is_used uses) a.passed; untagged = untagged_used uses a.passed a.untagged; last = a.last; is = a.is; spelled = a.used }

-- all that was heard
abbrev pub text_of : (uses : Uses) (T : List Reply → Type 0) (P : Reply → Type 0) (kept : List ℕ) (G : List ℕ → Type 0) (a : Came uses T P kept G) → EndsIn P a.text
text_of uses T P kept G a = record { passed = a.passed; untagged = a.untagged; last = a.last; is = a.is; spelled = a.spelled }

pub came_at : (uses : Uses) (T : List Reply → Type 0) (P : Reply → Type 0) (kept : List ℕ) (H : Type 0) (G : List ℕ → Type 0) → Came uses T P kept (λ text. H → G text) → H → Came uses T P kept G
came_at uses T P kept H G a h = record { passed = a.passed; untagged = a.untagged; last = a.last; is = a.is; text = a.text; spelled = a.spelled; used = a.used; reported = a.reported; goes = a.goes h }

-- what the replies reported
pub came_reported : (uses : Uses) (T : List Reply → Type 0) (tag : List ℕ) (was is : LastReply) (read : List ℕ) (H : Type 0) (old new : Ends) → was ≡ is
    → Came uses T (IsReported tag was) read (λ text. H → GoesOn old new text) → H → Came uses T (IsReported tag is) read (GoesOn old new)
came_reported uses T tag was is read H old new e a h =
    subst (λ (t : LastReply). Came uses T (IsReported tag t) read (GoesOn old new)) e (came_at uses T (IsReported tag was) read H (GoesOn old new) a h)

pub came_hears : (uses : Uses) (T : List Reply → Type 0) (P : Reply → Type 0) (kept : List ℕ) (old new : Ends) (a : Came uses T P kept (GoesOn old new)) → Hears (a.passed ++ a.last ∷ []) old new
came_hears uses T P kept old new a = record { stays = a.goes.stays; bytes = a.text; spelled = a.spelled; heard = a.goes.coming }

-- those that the call keeps, with the tagged one
pub came_used : (uses : Uses) (T : List Reply → Type 0) (tag : List ℕ) (status : Status) (kept : List ℕ) (G : List ℕ → Type 0) (a : Came uses T (λ r. kind_of tag r ≡ Mine status) kept G)
    → AreReplies (filter (is_used uses) (a.passed ++ a.last ∷ [])) kept
came_used uses T tag status kept G a =
    subst (λ (l : List Reply). AreReplies l kept) (sym (used_last uses a.passed a.last (tagged_used uses a.last tag (mine_tagged tag a.last status a.is)))) a.used
