-- What became of the front of a command that ends where a literal is asked for.
use Rattle.std.proofs.Common.{◌≡◌, ◌⊎◌, inl, inr, ℕ, false, List, [], ◌∷◌, ◌++◌, refl, sym, ◌∙◌, ap, subst, append_assoc, append-nil}
use Rattle.mailcore.specs.declared.keywords.Keyword.{Keyword}
use Rattle.imap_commands.specs.declared.command.Command.{Command}
use Rattle.imap_replies.specs.declared.reply.Reply.{Reply}
use Rattle.imap_session.specs.Servers.{Server, is_over, Quiet}
use Rattle.imap_session.specs.Answering.{go}
use Rattle.imap_session.specs.Portions.{goes_in}
use Rattle.imap_session.specs.Serving.{End, FeedsFrom, text_of}
use Rattle.imap_session.specs.Heard.{AreReplies, IsHeardAs, AreHeardAs}
use Rattle.imap_session.specs.Lines.{Line, Sends}
use Rattle.imap_session.specs.Ends.{Ends, ends_of, HasRead, IsIdle, IsText, Hears, AskedOr, AsksAtEnd, IsGo}
use Rattle.imap_session.proofs.Apart.{apart, replies_apart}
use Rattle.imap_session.proofs.Others.{quiet_left, read_stays}
use Rattle.imap_session.proofs.Fronts.{front}
use Rattle.imap_session.proofs.FrontGos.{holds_said, reads_so, goes_before}
use Rattle.imap_session.proofs.AnswersApart.{no_bytes, reply_some}
use Rattle.imap_session.proofs.Answering.{heard_none}
use Rattle.imap_session.proofs.Sent.{comes}

-- said once at the end, or not at all
pub record Half (old : Server) (front : List ℕ) (new : End) (said : List Reply) : Type 0 where
  pub quiet : Quiet old new.server
  pub which : (said ≡ []) ⊎ (HasRead front new × (said ≡ go ∷ []))

some_back : (a b : List ℕ) → a ++ b ≡ [] → b ≡ []
some_back [] b e = e
some_back (x ∷ a) b e = cc

which_of : (front unread lost : List ℕ) (n : ℕ) (said : List Reply) → AsksAtEnd front n → front ≡ unread ++ lost → said ≡ goes_in unread
    → (said ≡ []) ⊎ ((unread ≡ front) × (said ≡ go ∷ []))
which_of front unread [] n said h e s =
    let all : unread ≡ front = sym (append-nil unread) ∙ sym e in
    inr (all, s ∙ ap goes_in all ∙ h.once)
which_of front unread (b ∷ bs) n said h e s = inl (s ∙ goes_before front unread b bs n h.asks_is h.once e)

asked_end : (c : Command) (from rest read lost : List ℕ) (n : ℕ) (old new : End) (said : List Reply) → IsText c (from ++ rest) → (rest ≡ [] → ⊥) → AsksAtEnd from n
    → is_over old.server.condition ≡ false → from ≡ read ++ lost → FeedsFrom old [] [] read said new → Half old.server from new said
asked_end c from rest read lost n old new said h some asking l e f =
    let parts : from ++ rest ≡ (text_of f.runs.portions ++ f.rest) ++ (lost ++ rest) = ap (λ (x : List ℕ). x ++ rest) e ∙ append_assoc read lost rest ∙ ap (λ (x : List ℕ). x ++ (lost ++ rest)) f.runs.read in
    elim (front c (from ++ rest) old.server new.server f.runs.portions f.replies f.rest (lost ++ rest) h l parts f.runs.served) [
      | inl k ↦
          let whole : from ≡ f.rest ++ lost = e ∙ ap (λ (x : List ℕ). x ++ lost) (f.runs.read ∙ k.all) in
          let text : from ++ rest ≡ f.rest ++ (lost ++ rest) = ap (λ (x : List ℕ). x ++ rest) whole ∙ append_assoc f.rest lost rest in
          let on = quiet_left old.server new.server k.quiet ∙ l in
          let reported = holds_said c (from ++ rest) f.rest (lost ++ rest) f.rest_said (is_over new.server.condition) new.kept h on text f.unread_then in
          let read_so = reads_so c (from ++ rest) f.rest (lost ++ rest) f.rest_said new h on text f.unread_then in
          record {
            quiet = k.quiet;
            which = elim (which_of from f.rest lost n said asking whole (f.are ∙ ap (λ (x : List Reply). x ++ f.rest_said) k.none ∙ reported.said_is)) [
              | inl none ↦ inl none
              | inr all ↦ inr (subst (λ (x : List ℕ). HasRead x new) all.0 read_so, all.1)
            ];
          }
      | inr o ↦ absurd (some (some_back lost rest o.lost_none))
    ]

-- ---- both ends

-- `+ go` is heard as it is said
go_is : (keywords : List Keyword) (heard said : Reply) → said ≡ go → IsHeardAs keywords heard said → heard ≡ go
go_is keywords heard said e (inl same) = same ∙ e
go_is keywords heard said e (inr (inl w)) = let other = w.said_is in cc
go_is keywords heard said e (inr (inr (inl f))) = let other = f.said_is in cc
go_is keywords heard said e (inr (inr (inr (inl p)))) = let other = p.said_is in cc
go_is keywords heard said e (inr (inr (inr (inr m)))) = let other = m.said_is in cc

heard_go : (keywords : List Keyword) (heard said : List Reply) → said ≡ go ∷ [] → AreHeardAs keywords heard said → heard ≡ go ∷ []
heard_go keywords [] [] e l = cc
heard_go keywords (h ∷ hs) [] e l = cc
heard_go keywords [] (s ∷ ss) e l = absurd l
heard_go keywords (h ∷ hs) (s ∷ ss) e l =
    let rest : ss ≡ [] = cc in
    let first : s ≡ go = cc in
    ap (λ (r : Reply). r ∷ hs) (go_is keywords h s first l.0) ∙ ap (λ (rs : List Reply). go ∷ rs) (heard_none keywords hs ss l.1 rest)

asked_cases : (from : List ℕ) (old new : Ends) (said heard : List Reply) → AreHeardAs old.end.server.keywords heard said → AreReplies heard new.coming → Half old.end.server from new.end said → AskedOr from old new
asked_cases from old new said heard l a h = elim h.which [
  | inl e ↦ inl (record { quiet = h.quiet; coming = no_bytes heard new.coming (heard_none old.end.server.keywords heard said l e) a })
  | inr e ↦ inr (record { quiet = h.quiet; has_read = e.0; coming = subst (λ (rs : List Reply). AreReplies rs new.coming) (heard_go old.end.server.keywords heard said e.1 l) a })
]

-- nothing comes, or the literal is asked for
pub asked : (c : Command) (from rest : List ℕ) (n : ℕ) (old new : Line) (heard : List ℕ) → IsText c (from ++ rest) → (rest ≡ [] → ⊥) → AsksAtEnd from n → IsIdle (ends_of old heard)
    → Sends from old new → AskedOr from (ends_of old heard) (ends_of new heard)
asked c from rest n old new heard h some asking idle s =
    asked_cases from (ends_of old heard) (ends_of new heard) s.said s.heard s.heard_as (subst (AreReplies s.heard) (sym (comes old new heard from s idle.coming)) s.spelled)
    (asked_end c from rest s.read s.lost n old.end new.end s.said h some asking idle.reads_on s.split (s.feeds.from [] [] idle.has_read.unread))

-- ---- one reply is heard

first_of : (x : List ℕ) (bytes rest : List ℕ) → bytes ++ rest ≡ x → x ≡ [] → bytes ≡ []
first_of x [] rest e n = refl
first_of x (b ∷ bytes) rest e n = cc

-- the first reply that comes asks for the literal, and nothing comes after it
pub go_heard : (from : List ℕ) (old mid new : Ends) (reply : Reply) → is_over old.end.server.condition ≡ false → AskedOr from old mid → Hears (reply ∷ []) mid new → IsGo reply from new
go_heard from old mid new reply on (inl none) h =
    absurd (reply_some reply h.spelled.front h.spelled.first (first_of h.bytes h.spelled.front h.spelled.back (sym h.spelled.parts) (first_of mid.coming h.bytes new.coming (sym h.heard) none.coming)))
go_heard from old mid new reply on (inr w) h =
    let last : h.bytes ≡ h.spelled.front = h.spelled.parts ∙ ap (λ (x : List ℕ). h.spelled.front ++ x) h.spelled.others ∙ append-nil h.spelled.front in
    let came : mid.coming ≡ w.coming.front = w.coming.parts ∙ ap (λ (x : List ℕ). w.coming.front ++ x) w.coming.others ∙ append-nil w.coming.front in
    let bytes : h.spelled.front ++ new.coming ≡ w.coming.front ++ [] = ap (λ (x : List ℕ). x ++ new.coming) (sym last) ∙ sym h.heard ∙ came ∙ sym (append-nil w.coming.front) in
    let same = apart replies_apart reply go h.spelled.front new.coming w.coming.front [] h.spelled.first w.coming.first bytes in
    record {
      reply_is = same.value;
      at = record {
        reads_on = quiet_left mid.end.server new.end.server h.stays.quiet ∙ quiet_left old.end.server mid.end.server w.quiet ∙ on;
        has_read = read_stays from mid.end new.end h.stays w.has_read;
        coming = same.rest;
      };
    }
