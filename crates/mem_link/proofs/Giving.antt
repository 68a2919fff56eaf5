-- What a server in memory does is what the law of a link asks.
use Rattle.std.proofs.Common.{◌≡◌, ℕ, List, [], ◌++◌, take, drop, Option, None, Some, Result, Ok, Err, OnErr, sym, ◌∙◌, ap, subst, append_assoc, append-nil, take-append-drop}
use Rattle.imap_session.specs.Servers.{Server}
use Rattle.imap_session.specs.Unread.{Kept}
use Rattle.imap_session.specs.Serving.{End, Runs, Feeds, FeedsSome}
use Rattle.imap_session.specs.Lines.{Line, Sends}
use Rattle.imap_server.specs.declared.server.ServerFault.{ServerFault}
use Rattle.imap_server.specs.declared.server.ServerFault.TheVariants.{Closed}
use Rattle.imap_server.specs.Taking.{Host, Fed}
use Rattle.imap_server.proofs.Feeding.{no_portion, run_more, feeds_some}
use Rattle.mem_link.specs.MemLines.{kept_in, end_at, line_at}
use Rattle.mem_link.specs.Losing.{SendsAll}
use Rattle.mem_link.specs.Muting.{Hears}

-- ---- a connection that there is

kept_there : (connection : Option Kept) (kept : Kept) → connection ≡ Some kept → kept_in connection ≡ kept
kept_there connection kept is = ap kept_in is

end_there : (host : Host) (kept : Kept) → host.connection ≡ Some kept → end_at host ≡ record { server = host.server; kept = kept }
end_there host kept is = ap (λ (k : Kept). let end : End = record { server = host.server; kept = k } in end) (kept_there host.connection kept is)

fed_ends : (old new : Host) (bytes out : List ℕ) (f : Fed old bytes out new) → Feeds (end_at old) bytes f.said (end_at new)
fed_ends old new bytes out f =
    subst (λ (e : End). Feeds e bytes f.said (end_at new)) (sym (end_there old f.before f.was))
    (subst (λ (e : End). Feeds (record { server = old.server; kept = f.before }) bytes f.said e) (sym (end_there new f.after f.is)) f.feeds)

-- ---- all of what is sent

pub sends_of : (old new : Host) (bytes out unread after : List ℕ) → Fed old bytes out new → Hears out unread after → Sends bytes (line_at old unread) (line_at new after)
sends_of old new bytes out unread after f h =
    let heard = h.heard f.said f.spelled in
    record {
      read = bytes;
      lost = [];
      said = f.said;
      heard = heard.heard;
      out = h.out;
      split = sym (append-nil bytes);
      feeds = fed_ends old new bytes out f;
      heard_as = heard.heard_as old.server.keywords;
      spelled = heard.spelled;
      replied = h.replied;
    }

pub sends_all : (old new : Host) (bytes out unread after : List ℕ) → Fed old bytes out new → after ≡ unread ++ out → SendsAll bytes (line_at old unread) (line_at new after)
sends_all old new bytes out unread after f e = record { said = f.said; out = out; feeds = fed_ends old new bytes out f; spelled = f.spelled; replied = e }

-- ---- a part of it

pub some_none : (end : End) (bytes : List ℕ) → FeedsSome end bytes end.server
some_none end bytes = record { from = λ text reported is. record { replies = []; rest = text ++ bytes; runs = no_portion end.server (text ++ bytes) } }

-- there was no connection
pub some_of_closed : {T : Type 0} (old new : Host) (bytes : List ℕ) (r : Result T ServerFault) (fault : ServerFault) (server : Server) → r ≡ Err fault → fault ≡ Closed
    → (r ≡ Err Closed → (old.connection ≡ None) × (new ≡ old)) → server ≡ new.server → FeedsSome (end_at old) bytes server
some_of_closed old new bytes r fault server is closed same at =
    let stays : new.server ≡ old.server = ap (λ (h : Host). h.server) (same (is ∙ ap Err closed)).1 in
    subst (λ (s : Server). FeedsSome (end_at old) bytes s) (sym (at ∙ stays)) (some_none (end_at old) bytes)

some_longer : (old : End) (new : Server) (front more : List ℕ) → FeedsSome old front new → FeedsSome old (front ++ more) new
some_longer old new front more f = record {
  from = λ text reported is.
      let s = f.from text reported is in
      record {
        replies = s.replies;
        rest = s.rest ++ more;
        runs = subst (λ (l : List ℕ). Runs old.server l s.replies (s.rest ++ more) new) (append_assoc text front more) (run_more old.server new (text ++ front) s.rest more s.replies s.runs);
      };
}

-- of a front of the bytes some were read
pub some_of_front : (old mid : Line) (new server : Server) (bytes : List ℕ) (n : ℕ) → mid ≡ old → server ≡ new → FeedsSome mid.end (take n bytes) new → FeedsSome old.end bytes server
some_of_front old mid new server bytes n same at f =
    subst (λ (s : Server). FeedsSome old.end bytes s) (sym at)
    (subst (λ (l : Line). FeedsSome l.end bytes new) same
    (subst (λ (b : List ℕ). FeedsSome mid.end b new) (take-append-drop n bytes) (some_longer mid.end new (take n bytes) (drop n bytes) f)))

pub some_of_sends : (old new : Line) (bytes : List ℕ) → Sends bytes old new → FeedsSome old.end bytes new.end.server
some_of_sends old new bytes s = subst (λ (b : List ℕ). FeedsSome old.end b new.end.server) (sym s.split) (feeds_some old.end new.end s.read s.lost s.said s.feeds)

-- ---- answers by cases

pub on_err : {T E : Type 0} (r : Result T E) {P : Type 0} → P → OnErr r P
on_err (Ok x) p = tt
on_err (Err e) p = p
