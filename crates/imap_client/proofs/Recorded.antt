-- From the record of the calls of a connection to the law of a link.
use Rattle.std.proofs.Common.{◌≡◌, ◌∙◌, ◌++◌, ℕ, List, [], refl, sym, ap, subst, append_assoc, append-nil, false, Result, Ok, Err}
use Rattle.std.specs.Prelude.{is_ok, OnOk, OnErr}
use Rattle.imap_link.specs.declared.link.LinkFault.{LinkFault}
use Rattle.mailcore.specs.Visitors.{Visitors}
use Rattle.imap_session.specs.Servers.{Server}
use Rattle.imap_session.specs.Serving.{End, FeedsSome, ServesSome, text_of}
use Rattle.imap_session.specs.Lines.{Line}
use Rattle.imap_link.specs.Sending.{SendsThen, SomeThen, anybody, visited}
use Rattle.imap_client.specs.declared.line_record.LineCall.TheVariants.{Written, Sent, Unsent}
use Rattle.imap_client.specs.declared.line_record.LineRecord.{LineRecord}
use Rattle.imap_client.specs.LineEvents.{ended, handed, line_at}
use Rattle.imap_client.specs.LineRecords.{Behaved, Hands, HandsSome, begun, line_now, noted}

-- ---- of a beginning of the bytes as of all

serves_more : (s : Server) (stream more : List ℕ) (new : Server) → ServesSome s stream new → ServesSome s (stream ++ more) new
serves_more s stream more new h = record {
  replies = h.replies;
  rest = h.rest ++ more;
  runs = record {
    portions = h.runs.portions;
    read = ap (λ (l : List ℕ). l ++ more) h.runs.read ∙ append_assoc (text_of h.runs.portions) h.rest more;
    served = h.runs.served;
  };
}

feeds_more : (end : End) (some others bytes : List ℕ) (new : Server) → bytes ≡ some ++ others → FeedsSome end some new → FeedsSome end bytes new
feeds_more end some others bytes new split h = record {
  from = λ unread said holds.
      let P : List ℕ → Type 0 = λ l. ServesSome end.server l new in
      subst P (append_assoc unread some others ∙ ap (λ (l : List ℕ). unread ++ l) (sym split)) (serves_more end.server (unread ++ some) others new (h.from unread said holds));
}

some_of : (v : Visitors) (line : Line) (some others bytes : List ℕ) (new : Server) → bytes ≡ some ++ others → SomeThen v line some new → SomeThen v line bytes new
some_of v line some others bytes new split h = record {
  mid = h.mid;
  visits = h.visits;
  then = feeds_more (visited line h.mid).end some others bytes new split h.then;
}

-- ---- bytes that are handed on

pub hands_none : (a : LineRecord) → Hands [] a a
hands_none a = record { lines = refl; ended = refl; handed = sym (append-nil (handed a.events)); was_honest = λ h. h }

pub hands_one : (bytes : List ℕ) (a : LineRecord) → Hands bytes a (noted Written bytes a)
hands_one bytes a = record {
  lines = refl;
  ended = refl;
  handed = refl;
  was_honest = λ honest. record { sound = honest.sound; follow = honest.follow.0 };
}

pub hands_both : (bytes more : List ℕ) (a b d : LineRecord) → Hands bytes a b → Hands more b d → Hands (bytes ++ more) a d
hands_both bytes more a b d h k = record {
  lines = k.lines ∙ h.lines;
  ended = k.ended ∙ h.ended;
  handed = k.handed ∙ ap (λ (l : List ℕ). l ++ more) h.handed ∙ append_assoc (handed a.events) bytes more;
  was_honest = λ honest. h.was_honest (k.was_honest honest);
}

pub some_none : (bytes : List ℕ) (a : LineRecord) → HandsSome bytes a a
some_none bytes a = record { some = []; others = bytes; split = refl; hands = hands_none a }

pub some_all : (bytes : List ℕ) (a b : LineRecord) → Hands bytes a b → HandsSome bytes a b
some_all bytes a b h = record { some = bytes; others = []; split = sym (append-nil bytes); hands = h }

-- a beginning of the first bytes is one of all
pub some_first : (bytes more : List ℕ) (a b : LineRecord) → HandsSome bytes a b → HandsSome (bytes ++ more) a b
some_first bytes more a b h = record {
  some = h.some;
  others = h.others ++ more;
  split = ap (λ (l : List ℕ). l ++ more) h.split ∙ append_assoc h.some h.others more;
  hands = h.hands;
}

-- so are the first bytes with a beginning of the others
pub some_then : (bytes more : List ℕ) (a b d : LineRecord) → Hands bytes a b → HandsSome more b d → HandsSome (bytes ++ more) a d
some_then bytes more a b d h k = record {
  some = bytes ++ k.some;
  others = k.others;
  split = ap (λ (l : List ℕ). bytes ++ l) k.split ∙ sym (append_assoc bytes k.some k.others);
  hands = hands_both bytes k.some a b d h k.hands;
}

-- a piece that is not the last one
pub some_piece : (given piece rest whole : List ℕ) (a b d : LineRecord) → given ++ (piece ++ rest) ≡ whole → Hands given a b → HandsSome piece b d → HandsSome whole a d
some_piece given piece rest whole a b d e h k =
    subst (λ (l : List ℕ). HandsSome l a d) (append_assoc given piece rest ∙ e) (some_first (given ++ piece) rest a d (some_then given piece a b d h k))

-- ---- a message to the server

same_line : (bytes : List ℕ) (a b : LineRecord) → Hands bytes (begun a) b → line_at b.lines (ended b.events) ≡ line_now a
same_line bytes a b h = ap (λ (l : List Line). line_at l (ended b.events)) h.lines ∙ ap (λ (n : ℕ). line_at a.lines n) h.ended

pub sends_all : (bytes : List ℕ) (a b : LineRecord) → Hands bytes (begun a) b → Behaved (noted Sent [] b)
    → SendsThen anybody bytes (line_now a) (line_now (noted Sent [] b))
sends_all bytes a b h honest =
    let P : List ℕ → Type 0 = λ l. SendsThen anybody l (line_at b.lines (ended b.events)) (line_now (noted Sent [] b)) in
    let Q : Line → Type 0 = λ l. SendsThen anybody bytes l (line_now (noted Sent [] b)) in
    subst Q (same_line bytes a b h) (subst P h.handed honest.follow.1)

pub sends_some : (bytes : List ℕ) (a b : LineRecord) → HandsSome bytes (begun a) b → Behaved (noted Unsent [] b)
    → SomeThen anybody (line_now a) bytes (line_now (noted Unsent [] b)).end.server
sends_some bytes a b h honest =
    let new : Server = (line_now (noted Unsent [] b)).end.server in
    let P : List ℕ → Type 0 = λ l. SomeThen anybody (line_at b.lines (ended b.events)) l new in
    let Q : Line → Type 0 = λ l. SomeThen anybody l h.some new in
    some_of anybody (line_now a) h.some h.others bytes new h.split (subst Q (same_line h.some a b h.hands) (subst P h.hands.handed honest.follow.1))

pub sent_was : (bytes : List ℕ) (a b : LineRecord) → Hands bytes (begun a) b → Behaved (noted Sent [] b) → Behaved a
sent_was bytes a b h honest =
    let before = h.was_honest (record { sound = honest.sound; follow = honest.follow.0 }) in record { sound = before.sound; follow = before.follow.0 }

pub unsent_was : (bytes : List ℕ) (a b : LineRecord) → Hands bytes (begun a) b → Behaved (noted Unsent [] b) → Behaved a
unsent_was bytes a b h honest =
    let before = h.was_honest (record { sound = honest.sound; follow = honest.follow.0 }) in record { sound = before.sound; follow = before.follow.0 }

-- ---- a call of the link

pub on_err : {T E P : Type 0} (result : Result T E) → P → OnErr result P
on_err (Ok x) p = tt
on_err (Err e) p = p

failed : {T E P : Type 0} (answer : Result T E) → is_ok answer ≡ false → OnErr answer P → P
failed (Ok x) bad h = absurd (cc)
failed (Err e) bad h = h

module _ {E : Type 0} (bytes : List ℕ) (a b d : LineRecord) (answer : Result (Unit {0}) E) where
  pub sends_ok : (result : Result (Unit {0}) LinkFault) → OnOk answer (Hands bytes (begun a) b) → OnOk result ((answer ≡ Ok tt) × (d ≡ noted Sent [] b))
      → OnOk result (Behaved d → SendsThen anybody bytes (line_now a) (line_now d))
  sends_ok (Err fault) h k = tt
  sends_ok (Ok x) h k = λ honest.
      let P : LineRecord → Type 0 = λ r. SendsThen anybody bytes (line_now a) (line_now r) in
      let hands : Hands bytes (begun a) b = subst (λ (r : Result (Unit {0}) E). OnOk r (Hands bytes (begun a) b)) k.0 h in
      subst P (sym k.1) (sends_all bytes a b hands (subst Behaved k.1 honest))

  pub sends_err : (result : Result (Unit {0}) LinkFault) → OnErr answer (HandsSome bytes (begun a) b) → OnErr result ((is_ok answer ≡ false) × (d ≡ noted Unsent [] b))
      → OnErr result (Behaved d → SomeThen anybody (line_now a) bytes (line_now d).end.server)
  sends_err (Ok x) h k = tt
  sends_err (Err fault) h k = λ honest.
      let P : LineRecord → Type 0 = λ r. SomeThen anybody (line_now a) bytes (line_now r).end.server in
      subst P (sym k.1) (sends_some bytes a b (failed answer k.0 h) (subst Behaved k.1 honest))

  pub sends_was : (result : Result (Unit {0}) LinkFault) → OnOk answer (Hands bytes (begun a) b) → OnErr answer (HandsSome bytes (begun a) b)
      → OnOk result ((answer ≡ Ok tt) × (d ≡ noted Sent [] b)) → OnErr result ((is_ok answer ≡ false) × (d ≡ noted Unsent [] b)) → Behaved d → Behaved a
  sends_was (Ok x) h j k l honest =
      let hands : Hands bytes (begun a) b = subst (λ (r : Result (Unit {0}) E). OnOk r (Hands bytes (begun a) b)) k.0 h in
      sent_was bytes a b hands (subst Behaved k.1 honest)
  sends_was (Err fault) h j k l honest =
      let hands = failed answer l.0 j in unsent_was hands.some a b hands.hands (subst Behaved l.1 honest)
