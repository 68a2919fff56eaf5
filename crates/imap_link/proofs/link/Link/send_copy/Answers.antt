use Rattle.std.proofs.Common.{◌++◌}
use Rattle.mailcore.specs.CopyPieces.{text_left}
use Rattle.wire_reader.specs.Spelling.{crlf}
use Rattle.imap_link.proofs.Unsent.{nothing_sent}
use Rattle.imap_link.proofs.link.Link.send_copy.Goals as goal

pub returns-in-Err-clause-err : goal.returns-in-Err-clause-err
returns-in-Err-clause-err g c = λ honest. nothing_sent g.Self.Link.visitors (g.Self.Link.line c.args.self.now) (text_left c.args.copy ++ crlf)
