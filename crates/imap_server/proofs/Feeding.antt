-- How what was read makes a run of portions.
use Rattle.std.proofs.Common.{◌≡◌, ℕ, ◌<◌, Bool, true, false, if◌then◌else◌, List, [], ◌∷◌, ◌++◌, length, refl, sym, ap, subst, ◌∙◌, append_assoc, append-nil}
use Rattle.imap_replies.specs.declared.reply.Reply.{Reply}
use Rattle.imap_session.specs.Mailboxes.{FarMailbox}
use Rattle.imap_session.specs.Servers.{Condition, NotAuthenticated, Authenticated, Selected, LoggedOut, Server, is_over, selected_in, selected, exists_of, news, reported}
use Rattle.imap_session.specs.Portions.{Item, Late, Reads}
use Rattle.imap_session.specs.Unread.{Kept, Whole, Holds}
use Rattle.imap_session.specs.Serving.{is_late, Runs, End, IsUnread, FeedsFrom, Feeds, FeedsSome}
use Rattle.imap_server.specs.Taking.{Reports}

-- ---- no portion, and one

pub no_portion : (s : Server) (stream : List ℕ) → Runs s stream [] stream s
no_portion s stream = record { portions = []; read = refl; served = (refl, refl) }

pub one_portion : (old new : Server) (item : Item) (text : List ℕ) (said own : List Reply) → Reads item text said → is_late item ≡ is_over old.condition → Reports old item own new → Runs old text (said ++ own) [] new
one_portion old new item text said own reads late states = record {
  portions = record { item = item; text = text; said = said } ∷ [];
  read = sym (append-nil (text ++ []) ∙ append-nil text);
  served = (said ++ own, [], new, record { before = old; own = states.own; reads = reads; quiet = refl; at_end = late; does = states.does; replies_are = ap (λ (rs : List Reply). said ++ rs) states.replies_are }, (refl, refl), sym (append-nil (said ++ own)));
}

-- the stream goes on
pub run_more : (old new : Server) (stream replies-rest more : List ℕ) (replies : List Reply) → Runs old stream replies replies-rest new → Runs old (stream ++ more) replies (replies-rest ++ more) new
run_more old new stream rest more replies r = record {
  portions = r.portions;
  read = ap (λ (l : List ℕ). l ++ more) r.read ∙ append_assoc _ rest more;
  served = r.served;
}

-- what was read of a front of the bytes is a part of what they are
pub feeds_some : (old mid : End) (front more : List ℕ) (said : List Reply) → Feeds old front said mid → FeedsSome old (front ++ more) mid.server
feeds_some old mid front more said f = record {
  from = λ text reported is.
      let r = f.from text reported is in
      record {
        replies = r.replies;
        rest = r.rest ++ more;
        runs = subst (λ (l : List ℕ). Runs old.server l r.replies (r.rest ++ more) mid.server) (append_assoc text front more) (run_more old.server mid.server (text ++ front) r.rest more r.replies r.runs);
      };
}

pub feeds_none : (old : End) → Feeds old [] [] old
feeds_none old = record {
  from = λ text reported is. record {
    replies = [];
    rest = text;
    rest_said = reported;
    runs = subst (λ (l : List ℕ). Runs old.server l [] text old.server) (sym (append-nil text)) (no_portion old.server text);
    unread_then = is;
    are = append-nil reported;
  };
}

-- ---- a connection that is over

over_none : (ms : List FarMailbox) (c : Condition) → is_over c ≡ true → exists_of (selected_in ms c) ≡ []
over_none ms NotAuthenticated e = cc
over_none ms Authenticated e = cc
over_none ms (Selected name) e = cc
over_none ms LoggedOut e = refl

over_news : (s : Server) → is_over s.condition ≡ true → news s ≡ []
over_news s e =
    elim s.has_news as (λ b. (if b then exists_of (selected s) else []) ≡ []) [ true ↦ over_none s.mailboxes s.condition e | false ↦ refl ]

-- nothing is answered; news is let go
abbrev pub late_end : End → End
late_end old = record old { server = reported old.server }

pub feeds_late : (old : End) (bytes : List ℕ) → is_over old.server.condition ≡ true → old.kept ≡ Whole [] → 0 < length bytes → Feeds old bytes [] (late_end old)
feeds_late old bytes over kept some = record { from = λ text reported is. late text reported (subst (λ (k : Kept). Holds (is_over old.server.condition) k text reported) kept is) (subst (λ (b : Bool). Holds b old.kept [] []) (sym over) (subst (λ (k : Kept). Holds true k [] []) (sym kept) (refl, refl, refl))) }
  where
    late : (text : List ℕ) (reported : List Reply) → Holds (is_over old.server.condition) (Whole []) text reported → IsUnread old [] [] → FeedsFrom old text reported bytes [] (late_end old)
    late text reported is none =
        let h : Holds true (Whole []) text reported = subst (λ (b : Bool). Holds b (Whole []) text reported) over is in
        let same : text ++ bytes ≡ bytes = ap (λ (l : List ℕ). l ++ bytes) h.1 in
        record {
          replies = [];
          rest = [];
          rest_said = [];
          runs = subst (λ (l : List ℕ). Runs old.server l [] [] (late_end old).server) (sym same)
              (one_portion old.server (late_end old).server Late bytes [] [] (refl, some) (sym over)
              (record { own = []; does = (refl, refl); replies_are = sym (append-nil (news old.server) ∙ over_news old.server over) }));
          unread_then = none;
          are = append-nil reported ∙ h.2;
        }
