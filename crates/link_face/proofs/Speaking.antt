-- What comes of an honest server is what a server of the profile says.
use Rattle.std.proofs.Common.{◌≡◌, inl, inr, ℕ, Bool, true, false, ◌&&◌, List, [], ◌∷◌, ◌++◌, Option, None, Some, refl, sym, ap, ◌∙◌, append_assoc, subst, Result, Ok, Err}
use Rattle.std.specs.Prelude.{is_ok, OnOk, take, if◌then◌else◌}
use Rattle.std.specs.List.{list_all, list_any}
use Rattle.std.proofs.Math.Logic.{∥∥₁_map}
use Rattle.std.proofs.lemmas.List.Folds.{list_all-append}
use Rattle.mailcore.specs.declared.keywords.Keyword.{Keyword}
use Rattle.mailcore.specs.Visitors.{Visitors}
use Rattle.wire_reader.specs.declared.side.Speaker.TheVariants.{Commands}
use Rattle.wire_reader.specs.declared.lexical.Phase.{Phase}
use Rattle.wire_reader.specs.declared.lexical.Phase.TheVariants.{Plain}
use Rattle.wire_reader.specs.Lexical.{next, asked}
use Rattle.imap_replies.specs.declared.fetch.FetchItem.{FetchItem}
use Rattle.imap_replies.specs.declared.fetch.FetchItem.TheVariants as items
use Rattle.imap_replies.specs.declared.reply.Reply.{Reply}
use Rattle.imap_session.specs.Mailboxes.{FarMailbox}
use Rattle.imap_session.specs.Portions.{LineFault, Syntax, LiteralTooLong, Item, Asks, Faulty, Ends, Late, Reads, once, goes_from, goes_in}
use Rattle.imap_session.specs.Unread.{Kept, Whole, Dropping, Holds}
use Rattle.imap_session.specs.Servers.{Condition, Server, exists_of, news, reported, selected, is_over}
use Rattle.imap_session.specs.Serving.{Does, End, FeedsFrom, IsUnread, Portion, Serve, Takes, fault_reply}
use Rattle.imap_session.specs.Heard.{AreReplies, AreHeardAs, AreSameItems}
use Rattle.imap_session.specs.Lines.{Line, Receives, Starts, Stays, greeting}
use Rattle.imap_session.specs.Visits.{Visits}
use Rattle.imap_session.proofs.HeardAs.{ReadsSame, reads_same}
use Rattle.imap_session.proofs.Opening.{new_end_is_empty}
use Rattle.imap_link.specs.declared.link.LinkFault.{LinkFault}
use Rattle.imap_link.specs.Sending.{SendsThen, visited}
use Rattle.imap_link.proofs.Text.{replies-join}
use Rattle.link_face.specs.Hearing.{is_uid, is_flags, is_size, is_octets, is_escaped, is_row}
use Rattle.link_face.specs.Said.{is_said, AreSaid, IsSpeech, Speaks}
use Rattle.link_face.proofs.ProfileLemmas.{both_said, step_said}

-- ---- what a server says

and_last : (a b : Bool) → (a && b) ≡ true → b ≡ true
and_last true b e = e
and_last false b e = cc

last_said : (xs ys : List Reply) → AreSaid (xs ++ ys) → AreSaid ys
last_said xs ys h = and_last (list_all is_said xs) (list_all is_said ys) (sym (list_all-append is_said xs ys) ∙ h)

once_said : (o : Option ℕ) → AreSaid (once o)
once_said None = refl
once_said (Some n) = refl

goes_said : (p : Phase) (text : List ℕ) → AreSaid (goes_from p text)
goes_said p [] = refl
goes_said p (b ∷ bs) = both_said (once (asked Commands p b)) (goes_from (next p b) bs) (once_said (asked Commands p b)) (goes_said (next p b) bs)

are_goes : (text : List ℕ) (said : List Reply) → said ≡ goes_in text → AreSaid said
are_goes text said e = ap (list_all is_said) e ∙ goes_said Plain text

reads_said : (item : Item) (text : List ℕ) (said : List Reply) → Reads item text said → AreSaid said
reads_said (Asks command) text said r = are_goes text said r.said_is
reads_said (Faulty fault) text said r = are_goes (take r.0.at text) said r.0.said_is
reads_said Ends text said (inl r) = are_goes (take r.line.at text) said r.line.said_is
reads_said Ends text said (inr r) = are_goes (take r.passes.at text) said r.said_is
reads_said Late text said r = ap (list_all is_said) r.0

unread_said : (over : Bool) (kept : Kept) (unread : List ℕ) (said : List Reply) → Holds over kept unread said → AreSaid said
unread_said true (Whole bytes) unread said h = ap (list_all is_said) h.2
unread_said true (Dropping fault last) unread said h = absurd h
unread_said false (Whole bytes) unread said (e, inl h) = are_goes unread said h.said_is
unread_said false (Whole bytes) unread said (e, inr h) = are_goes (take h.at unread) said h.goes_on.said_is
unread_said false (Dropping fault last) unread said h = are_goes (take h.at unread) said h.goes_on.said_is

fault_said : (fault : LineFault) → is_said (fault_reply fault) ≡ true
fault_said (Syntax None) = refl
fault_said (Syntax (Some tag)) = refl
fault_said (LiteralTooLong tag) = refl

fault_alone : (fault : LineFault) → AreSaid (fault_reply fault ∷ [])
fault_alone fault = ap (λ (b : Bool). b && true) (fault_said fault)

does_said : (s : Server) (item : Item) (own : List Reply) (new : Server) → Does s item own new → AreSaid own
does_said s (Asks command) own new d = step_said s command.tag command.request own new d
does_said s (Faulty fault) own new d = ap (list_all is_said) d.0 ∙ fault_alone fault
does_said s Ends own new d = ap (list_all is_said) d.0
does_said s Late own new d = ap (list_all is_said) d.0

exists_said : (found : Option FarMailbox) → AreSaid (exists_of found)
exists_said None = refl
exists_said (Some m) = refl

news_if : (b : Bool) (found : Option FarMailbox) → AreSaid (if b then exists_of found else [])
news_if true found = exists_said found
news_if false found = refl

takes_said : (old : Server) (p : Portion) (replies : List Reply) (new : Server) → Takes old p replies new → AreSaid replies
takes_said old p replies new t =
    ap (list_all is_said) t.replies_are
    ∙ both_said p.said (news t.before ++ t.own) (reads_said p.item p.text p.said t.reads)
    (both_said (news t.before) t.own (news_if t.before.has_news (selected t.before)) (does_said (reported t.before) p.item t.own new t.does))

serve_said : (old new : Server) (ps : List Portion) (replies : List Reply) → Serve old ps replies new → AreSaid replies
serve_said old new [] replies s = ap (list_all is_said) s.1
serve_said old new (p ∷ ps) replies s =
    ap (list_all is_said) s.5 ∙ both_said s.0 s.1 (takes_said old p s.0 s.2 s.3) (serve_said s.2 new ps s.1 s.4)

pub fed_said : (old new : End) (unread : List ℕ) (said : List Reply) (piece : List ℕ) (out : List Reply) → FeedsFrom old unread said piece out new → AreSaid out
fed_said old new unread said piece out f =
    last_said said out (ap (list_all is_said) f.are
    ∙ both_said f.replies f.rest_said (serve_said old.server new.server f.runs.portions f.replies f.runs.served)
    (unread_said (is_over new.server.condition) new.kept f.rest f.rest_said f.unread_then))

-- ---- as what it is heard

module _ (keywords : List Keyword) where
  any_same : (p : FetchItem → Bool) → ((a b : List (List ℕ)) → p (items.Flags a) ≡ p (items.Flags b)) → (heard said : List FetchItem) → AreSameItems keywords heard said
      → list_any p heard ≡ list_any p said
  any_same p blind [] [] h = refl
  any_same p blind [] (s ∷ ss) h = absurd h
  any_same p blind (x ∷ hs) [] h = absurd h
  any_same p blind (x ∷ hs) (s ∷ ss) (inl e, h) = let first : p x ≡ p s = ap p e in let others = any_same p blind hs ss h in cc
  any_same p blind (x ∷ hs) (s ∷ ss) (inr e, h) =
      let first : p x ≡ p s = ap p e.heard_is ∙ blind e.names e.names_said ∙ sym (ap p e.said_is) in
      let others = any_same p blind hs ss h in
      cc

  row_same : (heard said : List FetchItem) → AreSameItems keywords heard said → is_row heard ≡ is_row said
  row_same heard said h =
      let uid = any_same is_uid (λ a b. refl) heard said h in
      let octets = any_same is_octets (λ a b. refl) heard said h in
      let flags = any_same is_flags (λ a b. refl) heard said h in
      let size = any_same is_size (λ a b. refl) heard said h in
      let escaped = any_same is_escaped (λ a b. refl) heard said h in
      cc

  said_same : ReadsSame keywords is_said
  said_same = record {
    without_uid = λ tag text validity uid. refl;
    flags = λ heard said same. refl;
    permanent = λ kind text heard said same star. refl;
    message = λ place heard said same. row_same heard said same;
  }

  pub heard_said : (heard said : List Reply) → AreHeardAs keywords heard said → AreSaid said → AreSaid heard
  heard_said [] [] h k = refl
  heard_said [] (s ∷ ss) h k = absurd h
  heard_said (x ∷ hs) [] h k = absurd h
  heard_said (x ∷ hs) (s ∷ ss) h k =
      let first = reads_same keywords is_said said_same x s h.0 in
      let others = heard_said hs ss h.1 (and_last (is_said s) (list_all is_said ss) k) in
      ap (λ (b : Bool). b && list_all is_said hs) first ∙ ap (λ (b : Bool). is_said s && b) (others ∙ sym (and_last (is_said s) (list_all is_said ss) k)) ∙ k

-- ---- both ends

-- what is said after more
pub speech_more : (bytes more : List ℕ) (replies : List Reply) → AreSaid replies → AreReplies replies more → IsSpeech bytes → IsSpeech (bytes ++ more)
speech_more bytes more replies h k s = record {
  replies = s.replies ++ replies;
  said = both_said s.replies replies s.said h;
  spelled = replies-join s.replies replies bytes more s.spelled k;
}

still_unread : (v : Visitors) (line : Line) (mid : Server) → Visits v line.end.server mid → (unread : List ℕ) (said : List Reply) → IsUnread line.end unread said → IsUnread (visited line mid).end unread said
still_unread v line mid visits unread said is = subst (λ (c : Condition). Holds (is_over c) line.end.kept unread said) (sym visits.condition) is

module _ (v : Visitors) (came bytes : List ℕ) (old new : Line) where
  pub sent_speaks : SendsThen v bytes old new → Speaks came old → Speaks came new
  sent_speaks a s =
      let fed = a.then.feeds.from s.unread s.said (still_unread v old a.mid a.visits s.unread s.said s.is) in
      let said = fed_said (visited old a.mid).end new.end s.unread s.said a.then.read a.then.said fed in
      let heard = heard_said a.mid.keywords a.then.heard a.then.said a.then.heard_as said in
      record {
        speech = subst IsSpeech (append_assoc came old.unseen a.then.out ∙ ap (λ (l : List ℕ). came ++ l) (sym a.then.replied)) (speech_more (came ++ old.unseen) a.then.out a.then.heard heard a.then.spelled s.speech);
        unread = fed.rest;
        said = fed.rest_said;
        is = fed.unread_then;
      }

  -- where the link is honest (`H`)
  pub sends_speak : (H : Type 0) (r : Result (Unit {0}) LinkFault) → OnOk r (H → SendsThen v bytes old new) → is_ok r ≡ true → ∥ Speaks came old ∥₁ → H → ∥ Speaks came new ∥₁
  sends_speak H (Ok x) ok e s h = ∥∥₁_map s (sent_speaks (ok h))
  sends_speak H (Err x) ok e s h = cc

module _ (old new : Line) where
  still_holds : Stays old.end new.end → (unread : List ℕ) (said : List Reply) → IsUnread old.end unread said → IsUnread new.end unread said
  still_holds stays unread said is =
      subst (λ (k : Kept). Holds (is_over new.end.server.condition) k unread said) (sym stays.kept)
      (subst (λ (t : Server). Holds (is_over t.condition) old.end.kept unread said) (sym stays.quiet) is)

  pub received_speaks : (came bytes : List ℕ) → Receives bytes old new → Speaks came old → Speaks (came ++ bytes) new
  received_speaks came bytes r s = record {
    speech = subst IsSpeech (ap (λ (l : List ℕ). came ++ l) r.came ∙ sym (append_assoc came bytes new.unseen)) s.speech;
    unread = s.unread;
    said = s.said;
    is = still_holds r.stays s.unread s.said s.is;
  }

  pub started_speaks : Starts old new → Speaks [] new
  started_speaks s = record {
    speech = record { replies = greeting; said = refl; spelled = s.greeted };
    unread = [];
    said = [];
    is = new_end_is_empty old.end.server new.end s.end;
  }

  pub restarts_speak : (H : Type 0) (r : Result (Unit {0}) LinkFault) → OnOk r (H → Starts old new) → is_ok r ≡ true → H → ∥ Speaks [] new ∥₁
  restarts_speak H (Ok x) ok e h = let s = started_speaks (ok h) in ∣ s ∣₁
  restarts_speak H (Err x) ok e h = cc
