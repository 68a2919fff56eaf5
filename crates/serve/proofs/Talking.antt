-- Lemmas on bytes of a connection that come one after another.
use Rattle.std.proofs.Common.{◌≡◌, ℕ, false, List, [], ◌++◌, Option, None, Some, refl, sym, ◌∙◌, ap, subst, append_assoc, unwrap_or, take, IsSome, Result, Ok, Err, OnOk, OnErr}
use Rattle.std.proofs.lemmas.Bool.{true≢false}
use Rattle.std.specs.Io.KnownBytes.{Consumes, Appends, Keeps}
use Rattle.std.proofs.KnownBytes.{Consumes-nil, Consumes-trans, Consumes-kept, Appends-nil, Appends-trans}
use Rattle.imap_session.specs.Servers.{Server}
use Rattle.imap_session.specs.Unread.{Kept}
use Rattle.imap_session.specs.Serving.{End, Runs, FeedsFrom, Feeds, ServesSome, FeedsSome}
use Rattle.imap_session.proofs.Joins.{runs-join, feeds-join}
use Rattle.imap_server.specs.Taking.{Host, Fed}
use Rattle.imap_session.specs.Lines.{greeting}
use Rattle.imap_session.specs.Heard.{AreReplies}
use Rattle.imap_server.proofs.Feeding.{feeds_none, feeds_some}
use Rattle.imap_server.proofs.HostLemmas.{replies-append}
use Rattle.imap_replies.specs.declared.reply.Reply.{Reply}
use Rattle.serve.specs.Connections.{connected, AnswersSome, Converses, BreaksOff, IsEnd, Serves}

same_kept : (k l : Kept) → Some k ≡ Some l → k ≡ l
same_kept k l e = ap (λ (o : Option Kept). unwrap_or o k) e

kept_there : (connection : Option Kept) → IsSome connection → (kept : Kept) × (connection ≡ Some kept)
kept_there None there = absurd (true≢false (sym there))
kept_there (Some kept) there = (kept, refl)

-- ---- what is fed

pub fed_none : (h : Host) (kept : Kept) → h.connection ≡ Some kept → Fed h [] [] h
fed_none h kept is = record {
  before = kept;
  after = kept;
  was = is;
  is = is;
  said = [];
  feeds = feeds_none (record { server = h.server; kept = kept });
  spelled = refl;
  lost = refl;
}

pub fed_join : (a b c : Host) (p q x y : List ℕ) → Fed a p x b → Fed b q y c → Fed a (p ++ q) (x ++ y) c
fed_join a b c p q x y f g = record {
  before = f.before;
  after = g.after;
  was = f.was;
  is = g.is;
  said = f.said ++ g.said;
  feeds = feeds-join (record { server = a.server; kept = f.before }) (record { server = b.server; kept = f.after }) (record { server = c.server; kept = g.after }) p q f.said g.said f.feeds
      (subst (λ (k : Kept). Feeds (record { server = b.server; kept = k }) q g.said (record { server = c.server; kept = g.after })) (same_kept g.before f.after (sym g.was ∙ f.is)) g.feeds);
  spelled = replies-append f.said g.said x y f.spelled g.spelled;
  lost = g.lost ∙ f.lost;
}

-- ---- some of it was answered

feeds_then_some : (old mid : End) (p q : List ℕ) (said : List Reply) (new : Server) → Feeds old p said mid → FeedsSome mid q new → FeedsSome old (p ++ q) new
feeds_then_some old mid p q said new f g = record { from = λ unread reported is. after unread (f.from unread reported is) }
  where
    after : (unread : List ℕ) {reported : List Reply} → FeedsFrom old unread reported p said mid → ServesSome old.server (unread ++ (p ++ q)) new
    after unread h =
        let s = g.from h.rest h.rest_said h.unread_then in
        record {
          replies = h.replies ++ s.replies;
          rest = s.rest;
          runs = subst (λ (l : List ℕ). Runs old.server l (h.replies ++ s.replies) s.rest new) (append_assoc unread p q)
              (runs-join old.server mid.server new (unread ++ p) h.rest q s.rest h.replies s.replies h.runs s.runs);
        }

pub some_none : (h : Host) (kept : Kept) → h.connection ≡ Some kept → AnswersSome h [] h.server
some_none h kept is =
    let end : End = record { server = h.server; kept = kept } in
    record { before = kept; was = is; some = feeds_some end end [] [] [] (feeds_none end) }

some_join : (a b : Host) (p q x : List ℕ) (new : Server) → Fed a p x b → AnswersSome b q new → AnswersSome a (p ++ q) new
some_join a b p q x new f s = record {
  before = f.before;
  was = f.was;
  some = feeds_then_some (record { server = a.server; kept = f.before }) (record { server = b.server; kept = f.after }) p q f.said new f.feeds
      (subst (λ (k : Kept). FeedsSome (record { server = b.server; kept = k }) q new) (same_kept s.before f.after (sym s.was ∙ f.is)) s.some);
}

-- ---- what is read and written

-- nothing is read
pub converses_none : (h : Host) (i j o : Option (List ℕ)) → IsSome h.connection → Consumes i j [] → Converses h i j o o h
converses_none h i j o there taken =
    let kept = kept_there h.connection there in
    record { read = []; taken = taken; answers = record { replies = []; fed = fed_none h kept.0 kept.1; sent = Appends-nil o } }

pub consumes_kept : (i j : Option (List ℕ)) → Keeps i j → Consumes i j []
consumes_kept i j same = Consumes-kept i i j [] (Consumes-nil i) same

pub consumes_none : (i j : Option (List ℕ)) (count : ℕ) (buf : List ℕ) → count ≡ 0 → Consumes i j (take count buf) → Consumes i j []
consumes_none i j count buf none taken = subst (λ (n : ℕ). Consumes i j (take n buf)) none taken

pub converses_join : (a b c : Host) (i j k o p q : Option (List ℕ)) → Converses a i j o p b → Converses b j k p q c → Converses a i k o q c
converses_join a b c i j k o p q f g = record {
  read = f.read ++ g.read;
  taken = Consumes-trans i j k f.read g.read f.taken g.taken;
  answers = record {
    replies = f.answers.replies ++ g.answers.replies;
    fed = fed_join a b c f.read g.read f.answers.replies g.answers.replies f.answers.fed g.answers.fed;
    sent = Appends-trans o p q f.answers.replies g.answers.replies f.answers.sent g.answers.sent;
  };
}

pub breaks_none : (h : Host) (i j : Option (List ℕ)) → IsSome h.connection → Consumes i j [] → BreaksOff h i j h.server
breaks_none h i j there taken =
    let kept = kept_there h.connection there in
    record { read = []; taken = taken; some = some_none h kept.0 kept.1 }

pub breaks_after : (a b : Host) (i j k o p : Option (List ℕ)) (new : Server) → Converses a i j o p b → BreaksOff b j k new → BreaksOff a i k new
breaks_after a b i j k o p new f g = record {
  read = f.read ++ g.read;
  taken = Consumes-trans i j k f.read g.read f.taken g.taken;
  some = some_join a b f.read g.read f.answers.replies new f.answers.fed g.some;
}

pub is_there : (h : Host) (p x : List ℕ) (old : Host) → Fed old p x h → IsSome h.connection
is_there h p x old f = subst IsSome (sym f.is) refl

-- ---- a whole connection

at_rest : (h : Host) (kept : Kept) → h.connection ≡ Some kept → h.is_lost ≡ false → h ≡ record { server = h.server; connection = Some kept; is_lost = false }
at_rest h kept is lost = λ i. record { server = h.server; connection = is i; is_lost = lost i }

pub serves : (h n : Host) (i j o p q : Option (List ℕ)) (hello : List ℕ) → h ≡ connected h.server → AreReplies greeting hello → Appends o p hello → Converses h i j p q n → IsEnd j n.server
    → Serves h.server i j o q n.server
serves h n i j o p q hello new greets greeted c end = record {
  hello = hello;
  greets = greets;
  out_greeted = p;
  greeted = greeted;
  kept = c.answers.fed.after;
  converses = subst (λ (x : Host). Converses x i j p q (record { server = n.server; connection = Some c.answers.fed.after; is_lost = false })) new
      (subst (λ (x : Host). Converses h i j p q x) (at_rest n c.answers.fed.after c.answers.fed.is (c.answers.fed.lost ∙ ap (λ (x : Host). x.is_lost) new)) c);
  ended = end;
}

-- ---- answers by cases

pub on_ok : {T E : Type 0} (r : Result T E) {P : Type 0} → P → OnOk r P
on_ok (Ok x) p = p
on_ok (Err e) p = tt

pub on_err : {T E : Type 0} (r : Result T E) {P : Type 0} → P → OnErr r P
on_err (Ok x) p = tt
on_err (Err e) p = p

pub on_ok_both : {T E : Type 0} (r : Result T E) {P Q R : Type 0} → (P → Q → R) → OnOk r P → OnOk r Q → OnOk r R
on_ok_both (Ok x) f p q = f p q
on_ok_both (Err e) f p q = tt
