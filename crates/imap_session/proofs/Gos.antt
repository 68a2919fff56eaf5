-- How often `+ go` is said of a text in two parts.
use Rattle.std.proofs.Common.{◌≡◌, ℕ, List, [], ◌∷◌, ◌++◌, refl, sym, ◌∙◌, ap, append_assoc}
use Rattle.wire_reader.specs.declared.side.Speaker.TheVariants.{Commands}
use Rattle.wire_reader.specs.declared.lexical.Phase.{Phase}
use Rattle.wire_reader.specs.Lexical.{next, asked, phase}
use Rattle.imap_replies.specs.declared.reply.Reply.{Reply}
use Rattle.imap_session.specs.Portions.{once, goes_from}

pub goes-append : (p : Phase) (a b : List ℕ) → goes_from p (a ++ b) ≡ goes_from p a ++ goes_from (phase p a) b
goes-append p [] b = refl
goes-append p (c ∷ a) b =
    ap (λ (l : List Reply). once (asked Commands p c) ++ l) (goes-append (next p c) a b)
    ∙ sym (append_assoc (once (asked Commands p c)) (goes_from (next p c) a) (goes_from (phase (next p c) a) b))
