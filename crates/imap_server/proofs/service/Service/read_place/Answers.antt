use Rattle.std.proofs.Common.{◌∙◌, List, ℕ, take, drop, None, Some, ap, sym, subst, refl}
use Rattle.std.proofs.lemmas.Result.{IfOk-weaker}
use Rattle.imap_session.specs.Servers.{news, reported}
use Rattle.imap_session.specs.Portions.{Asks, Ends, TagIs}
use Rattle.imap_session.specs.Serving.{ends}
use Rattle.imap_session.proofs.ShortReplies.{short_append, news_short}
use Rattle.imap_server.proofs.LineFeeds.{begun_sound, read_portion, command_reads, read_begin, limit_reads}
use Rattle.imap_server.proofs.WritingLemmas.{wrote_none}
use Rattle.imap_server.proofs.PlaceAnswers.{whole_there, literal_asked, begins_there, syntax_there, literal_there, limit_there, no_tag_there}
use Rattle.imap_server.proofs.service.Service.read_place.Goals as goal

pub returns-in-Ok-Whole-clause-ok : goal.returns-in-Ok-Whole-clause-ok
returns-in-Ok-Whole-clause-ok c =
    let w = whole_there c.as_slice.result.now c.args.line.bytes.items c.as_slice.ensures.value c.in-Ok-Whole.field-0 c.in-Ok-Whole.command c.in-Ok-Whole.field-0-1 c.in-Ok-Whole.field-0-is c.in-Ok-Whole.ensures.answers in
    IfOk-weaker c.answer_command.result _ _
    (λ after h in_time line.
    read_portion c.args.self.now c.args.line.bytes.items line (Asks c.in-Ok-Whole.command) h.1.replies c.answer_command.new.self c.args.out.now.items c.answer_command.new.out.items after h.1.gives_them.1 in_time
    (command_reads c.args.self.now c.args.line.bytes.items line c.in-Ok-Whole.command c.in-Ok-Whole.field-0-1 w.0 w.1) refl h.1.gives_them.0 h.1.wrote h.0)
    c.answer_command.ensures.ok

pub returns-in-Ok-WantsLiteral-clause-ok : goal.returns-in-Ok-WantsLiteral-clause-ok
returns-in-Ok-WantsLiteral-clause-ok c in_time line =
    let b = literal_asked c.as_slice.result.now c.args.line.bytes.items c.as_slice.ensures.value c.in-Ok-WantsLiteral.field-0 c.in-Ok-WantsLiteral.field-0-0 c.in-Ok-WantsLiteral.field-0-is c.in-Ok-WantsLiteral.ensures.answers in
    read_begin c.args.self.now c.args.line.bytes.items line (Some c.in-Ok-WantsLiteral.field-0-0) c.args.out.now.items c.say_go.new.out.items _ in_time b.0 b.1 b.2
    c.in_ok-say_go-in-Ok-WantsLiteral.ensures refl (begun_sound c.args.self.now c.args.line in_time c.requires b.0 b.1)

pub returns-in-Ok-Partial-clause-ok : goal.returns-in-Ok-Partial-clause-ok
returns-in-Ok-Partial-clause-ok c in_time line =
    let b = begins_there c.as_slice.result.now c.args.line.bytes.items c.as_slice.ensures.value c.in-Ok-Partial.field-0 c.in-Ok-Partial.field-0-is c.in-Ok-Partial.ensures.answers in
    read_begin c.args.self.now c.args.line.bytes.items line None c.args.out.now.items c.args.out.now.items _ in_time b.0 b.1 b.2
    (wrote_none c.args.out.now.items) refl (begun_sound c.args.self.now c.args.line in_time c.requires b.0 b.1)

pub returns-in-Err-Syntax-clause-ok : goal.returns-in-Err-Syntax-clause-ok
returns-in-Err-Syntax-clause-ok c =
    let text = c.args.line.bytes.items in
    let at = c.in-Err-Syntax.at in
    let f = syntax_there c.as_slice.result.now text c.as_slice.ensures.value c.in-Err-Syntax.field-0 at c.in-Err-Syntax.field-0-is c.in-Err-Syntax.ensures.answers in
    let front = c.split_at.ensures.front ∙ ap (take at) c.deref.ensures.value in
    let back = ap (drop at) (sym c.deref.ensures.value) ∙ sym c.split_at.ensures.back in
    IfOk-weaker c.drop_line.result _ _ (λ after h in_time line. h in_time text at (f, subst (λ (l : List ℕ). TagIs l c.tag_before.result) front c.tag_before.ensures) back line) c.drop_line.ensures.ok

pub returns-in-Some-clause-ok : goal.returns-in-Some-clause-ok
returns-in-Some-clause-ok c =
    let text = c.args.line.bytes.items in
    let at = c.in-Err-LiteralTooLong.at in
    let f = literal_there c.as_slice.result.now text c.as_slice.ensures.value c.in-Err-LiteralTooLong.field-0 at c.in-Err-LiteralTooLong.field-0-is c.in-Err-LiteralTooLong.ensures.answers in
    let front = c.split_at-in-Err-LiteralTooLong.ensures.front ∙ ap (take at) c.deref-in-Err-LiteralTooLong.ensures.value in
    let back = ap (drop at) (sym c.deref-in-Err-LiteralTooLong.ensures.value) ∙ sym c.split_at-in-Err-LiteralTooLong.ensures.back in
    IfOk-weaker c.drop_line-in-Some.result _ _ (λ after h in_time line. h in_time text at (f, subst (λ (l : List ℕ). TagIs l (Some c.in-Some.tag)) front c.in-Some.ensures) back line) c.drop_line-in-Some.ensures.ok

pub unreachable-requires : goal.unreachable-requires
unreachable-requires c =
    let text = c.args.line.bytes.items in
    let at = c.in-Err-LiteralTooLong.at in
    let f = literal_there c.as_slice.result.now text c.as_slice.ensures.value c.in-Err-LiteralTooLong.field-0 at c.in-Err-LiteralTooLong.field-0-is c.in-Err-LiteralTooLong.ensures.answers in
    no_tag_there text _ at f (c.split_at-in-Err-LiteralTooLong.ensures.front ∙ ap (take at) c.deref-in-Err-LiteralTooLong.ensures.value) c.in-None.ensures

pub returns-in-Err-LineTooLong-clause-ok : goal.returns-in-Err-LineTooLong-clause-ok
returns-in-Err-LineTooLong-clause-ok c =
    let p = limit_there c.as_slice.result.now c.args.line.bytes.items c.as_slice.ensures.value c.in-Err-LineTooLong.field-0 c.in-Err-LineTooLong.field-0-is c.in-Err-LineTooLong.ensures.answers in
    IfOk-weaker c.end.result _ _
    (λ after h in_time line.
    read_portion c.args.self.now c.args.line.bytes.items line Ends _ c.end.new.self c.args.out.now.items c.end.new.out.items after (short_append (news c.args.self.now) _ (news_short c.args.self.now) refl) in_time
    (limit_reads c.args.self.now c.args.line.bytes.items line p) refl
    (record { own = (ends (reported c.args.self.now)).replies; does = (refl, h.1.after_is); replies_are = refl }) h.1.wrote h.0)
    c.end.ensures.ok
