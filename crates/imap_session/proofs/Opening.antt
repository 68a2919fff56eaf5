-- A new connection, and what is unread there.
use Rattle.std.proofs.Common.{◌≡◌, inl, ℕ, Bool, true, false, List, [], codes, refl, sym, ◌∙◌, subst, arith}
use Rattle.imap_commands.specs.declared.command.Command.{Command}
use Rattle.imap_commands.specs.declared.command.Request.TheVariants.{Noop}
use Rattle.imap_commands.specs.Commands.{Spelled}
use Rattle.imap_replies.specs.declared.reply.Reply.{Reply}
use Rattle.imap_session.specs.Servers.{Server, is_over}
use Rattle.imap_session.specs.Unread.{Kept, Whole, Opens, Holds}
use Rattle.imap_session.specs.Serving.{End, IsUnread}
use Rattle.imap_session.specs.Lines.{IsNewEnd}

noop : Command
noop = record { tag = codes "A"; request = Noop }

noop_spelled : Spelled noop (codes "A NOOP\r\n")
unfolding noop
noop_spelled = record {
  front = codes "A";
  back = codes " NOOP\r\n";
  parts = refl;
  first = (refl, record { each = refl; some = omega arith; most = omega arith });
  second = record {
    front = codes " ";
    back = codes "NOOP\r\n";
    parts = refl;
    first = refl;
    second = record { front = codes "NOOP"; back = codes "\r\n"; parts = refl; first = refl; second = refl };
  };
}

-- no bytes begin a command
pub nothing_opens : Opens [] []
nothing_opens = record {
  begins = record { more = codes "A NOOP\r\n"; value = noop; some = omega arith; spelled = noop_spelled };
  fits = omega arith;
  said_is = refl;
}

pub new_end_is_empty : (old : Server) (new : End) → IsNewEnd old new → IsUnread new [] []
new_end_is_empty old new n =
    subst (λ (k : Kept). Holds (is_over new.server.condition) k [] []) (sym n.kept)
    (subst (λ (s : Server). Holds (is_over s.condition) (Whole []) [] []) (sym n.quiet) (refl, inl nothing_opens))

whole_is_unread : (over : Bool) (bytes unread : List ℕ) (said : List Reply) → Holds over (Whole bytes) unread said → unread ≡ bytes
whole_is_unread true bytes unread said h = h.1 ∙ sym h.0
whole_is_unread false bytes unread said h = sym h.0

pub kept_is_unread : (end : End) (bytes unread : List ℕ) (said : List Reply) → end.kept ≡ Whole bytes → IsUnread end unread said → unread ≡ bytes
kept_is_unread end bytes unread said k h =
    whole_is_unread (is_over end.server.condition) bytes unread said (subst (λ (l : Kept). Holds (is_over end.server.condition) l unread said) k h)
