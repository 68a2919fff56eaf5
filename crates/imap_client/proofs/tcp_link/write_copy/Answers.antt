use Rattle.std.proofs.Common.{◌++◌}
use Rattle.mailcore.specs.CopyPieces.{text_left}
use Rattle.wire_reader.specs.Spelling.{crlf}
use Rattle.imap_client.proofs.Recorded.{hands_both, on_err, some_all, some_then}
use Rattle.imap_client.proofs.tcp_link.write_copy.Goals as goal

pub returns-in_err-write-clause-err : goal.returns-in_err-write-clause-err
returns-in_err-write-clause-err g c =
    on_err c.from_residual-in_err-write.result
    (some_then (text_left c.args.copy) crlf c.args.calls.now c.write_pieces.new.calls c.write.new.calls c.in_ok-write_pieces.ensures.ok c.in_err-write.ensures.err)

pub returns-clause-err : goal.returns-clause-err
returns-clause-err g c =
    on_err c.flush.result
    (some_all (text_left c.args.copy ++ crlf) c.args.calls.now c.write.new.calls
    (hands_both (text_left c.args.copy) crlf c.args.calls.now c.write_pieces.new.calls c.write.new.calls c.in_ok-write_pieces.ensures.ok c.in_ok-write.ensures.ok))
