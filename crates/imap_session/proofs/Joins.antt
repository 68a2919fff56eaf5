-- Pieces of a stream that come one after another.
use Rattle.std.proofs.Common.{ℕ, List, [], ◌∷◌, ◌++◌, sym, ◌∙◌, ap, subst, append_assoc}
use Rattle.std.proofs.lemmas.Grind.{flat_map-append}
use Rattle.imap_replies.specs.declared.reply.Reply.{Reply}
use Rattle.imap_session.specs.Servers.{Server, Quiet}
use Rattle.imap_session.specs.Serving.{Portion, Takes, Serve, text_of, Runs, End, FeedsFrom, Feeds}

pub quiet-trans : (s t u : Server) → Quiet s t → Quiet t u → Quiet s u
quiet-trans s t u h k = k ∙ h

takes_later : (old mid : Server) (p : Portion) (rs : List Reply) (new : Server) → Quiet old mid → Takes mid p rs new → Takes old p rs new
takes_later old mid p rs new q t = record {
  before = t.before;
  own = t.own;
  reads = t.reads;
  quiet = quiet-trans old mid t.before q t.quiet;
  at_end = t.at_end;
  does = t.does;
  replies_are = t.replies_are;
}

serve_later : (old mid new : Server) (ps : List Portion) (rs : List Reply) → Quiet old mid → Serve mid ps rs new → Serve old ps rs new
serve_later old mid new [] rs q s = (quiet-trans old mid new q s.0, s.1)
serve_later old mid new (p ∷ ps) rs q s = (s.0, s.1, s.2, takes_later old mid p s.0 s.2 q s.3, s.4, s.5)

pub serve-append : (old mid new : Server) (ps qs : List Portion) (rs ss : List Reply) → Serve old ps rs mid → Serve mid qs ss new → Serve old (ps ++ qs) (rs ++ ss) new
serve-append old mid new [] qs rs ss h k = subst (λ (l : List Reply). Serve old qs (l ++ ss) new) (sym h.1) (serve_later old mid new qs ss h.0 k)
serve-append old mid new (p ∷ ps) qs rs ss h k =
    (h.0, h.1 ++ ss, h.2, h.3, serve-append h.2 mid new ps qs h.1 ss h.4 k, ap (λ (l : List Reply). l ++ ss) h.5 ∙ append_assoc h.0 h.1 ss)

pub runs-join : (old mid new : Server) (stream rest more last : List ℕ) (rs ss : List Reply) → Runs old stream rs rest mid → Runs mid (rest ++ more) ss last new
    → Runs old (stream ++ more) (rs ++ ss) last new
runs-join old mid new stream rest more last rs ss h k = record {
  portions = h.portions ++ k.portions;
  read = ap (λ (l : List ℕ). l ++ more) h.read ∙ append_assoc (text_of h.portions) rest more ∙ ap (λ (l : List ℕ). text_of h.portions ++ l) k.read
      ∙ sym (append_assoc (text_of h.portions) (text_of k.portions) last) ∙ ap (λ (l : List ℕ). l ++ last) (sym (flat_map-append (λ (p : Portion). p.text) h.portions k.portions));
  served = serve-append old mid new h.portions k.portions rs ss h.served k.served;
}

from-join : (old mid new : End) (unread : List ℕ) (said : List Reply) (p q : List ℕ) (a b : List Reply) (h : FeedsFrom old unread said p a mid)
    → FeedsFrom mid h.rest h.rest_said q b new → FeedsFrom old unread said (p ++ q) (a ++ b) new
from-join old mid new unread said p q a b h k = record {
  replies = h.replies ++ k.replies;
  rest = k.rest;
  rest_said = k.rest_said;
  runs = subst (λ (l : List ℕ). Runs old.server l (h.replies ++ k.replies) k.rest new.server) (append_assoc unread p q)
      (runs-join old.server mid.server new.server (unread ++ p) h.rest q k.rest h.replies k.replies h.runs k.runs);
  unread_then = k.unread_then;
  are = sym (append_assoc said a b) ∙ ap (λ (l : List Reply). l ++ b) h.are ∙ append_assoc h.replies h.rest_said b ∙ ap (λ (l : List Reply). h.replies ++ l) k.are
      ∙ sym (append_assoc h.replies k.replies k.rest_said);
}

pub feeds-join : (old mid new : End) (p q : List ℕ) (a b : List Reply) → Feeds old p a mid → Feeds mid q b new → Feeds old (p ++ q) (a ++ b) new
feeds-join old mid new p q a b h k = record {
  from = λ unread said is.
      let first = h.from unread said is in
      from-join old mid new unread said p q a b first (k.from first.rest first.rest_said first.unread_then);
}
