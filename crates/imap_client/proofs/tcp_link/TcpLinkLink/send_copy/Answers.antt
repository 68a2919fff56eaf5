use Rattle.std.proofs.Common.{◌++◌}
use Rattle.mailcore.specs.CopyPieces.{text_left}
use Rattle.wire_reader.specs.Spelling.{crlf}
use Rattle.imap_client.proofs.Recorded.{sends_err, sends_ok, sends_was}
use Rattle.imap_client.proofs.tcp_link.TcpLinkLink.send_copy.Goals as goal

pub returns-clause-was_honest : goal.returns-clause-was_honest
returns-clause-was_honest g c =
    sends_was (text_left c.args.copy ++ crlf) c.args.self.now.calls c.hand_copy-answer.new.self.calls c.end_message.new.self.calls c.hand_copy-answer.result c.end_message.result c.hand_copy-answer.ensures.ok c.hand_copy-answer.ensures.err c.end_message.ensures.sent c.end_message.ensures.unsent

pub returns-clause-ok : goal.returns-clause-ok
returns-clause-ok g c =
    sends_ok (text_left c.args.copy ++ crlf) c.args.self.now.calls c.hand_copy-answer.new.self.calls c.end_message.new.self.calls c.hand_copy-answer.result c.end_message.result c.hand_copy-answer.ensures.ok c.end_message.ensures.sent

pub returns-clause-err : goal.returns-clause-err
returns-clause-err g c =
    sends_err (text_left c.args.copy ++ crlf) c.args.self.now.calls c.hand_copy-answer.new.self.calls c.end_message.new.self.calls c.hand_copy-answer.result c.end_message.result c.hand_copy-answer.ensures.err c.end_message.ensures.unsent
