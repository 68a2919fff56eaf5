use Rattle.std.proofs.Common.{◌≡◌, ℕ, List, [], ◌∷◌, ◌∙◌, ap, subst}
use Rattle.mailcore.specs.KeywordNames.{names_of}
use Rattle.imap_session.specs.Answering.{listed}
use Rattle.imap_session.specs.MailboxCommands.{all_names}
use Rattle.imap_session.specs.Boxes.{far_of}
use Rattle.imap_server.specs.Writing.{Wrote}
use Rattle.imap_server.proofs.CommandLemmas.{opening_wrote}
use Rattle.imap_server.proofs.mailbox_commands.say_opening.Goals as goal

pub returns : goal.returns
returns c =
    let all : c.in_ok-flags.flags ≡ all_names c.args.keywords.now = c.in_ok-flags.ensures ∙ ap (names_of c.args.keywords.now) c.known.ensures in
    opening_wrote c.args.keywords.now (far_of c.args.mailbox.now) c.args.tag c.names.result c.permanent.result c.count_of.result c.number.result c.number-2.result
    c.args.out.now.items c.say.new.out.items c.say-2.new.out.items c.say_listed.new.out.items c.say_note.new.out.items c.say_note-2.new.out.items c.say_note-3.new.out.items c.say_done_with.new.out.items
    (c.names.ensures ∙ all) (c.permanent.ensures ∙ c.names-2.ensures ∙ all) c.count_of.ensures.count c.number.ensures c.number-2.ensures
    c.in_ok-say.ensures c.in_ok-say-2.ensures
    (subst (λ (l : List ℕ). Wrote (listed l ∷ []) c.say-2.new.out.items c.say_listed.new.out.items) (c.as_bytes.ensures.value ∙ c.as_str.ensures.text) c.in_ok-say_listed.ensures)
    c.in_ok-say_note.ensures c.in_ok-say_note-2.ensures c.in_ok-say_note-3.ensures c.in_ok-say_done_with.ensures
