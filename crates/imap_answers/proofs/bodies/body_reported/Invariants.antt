use Rattle.std.proofs.Common.{◌≤◌, length, List}
use Rattle.imap_replies.specs.declared.reply.Reply.{Reply}
use Rattle.imap_session.specs.Heard.{AreReplies}
use Rattle.imap_answers.proofs.BodyReported.{FoundSo}
use Rattle.imap_answers.proofs.bodies.body_reported.Given as goal

abbrev pub invariant-loop : goal.invariant-loop
invariant-loop l = (l.done ≤ length l.bytes) × ((rs : List Reply) → AreReplies rs l.bytes → FoundSo l.uid l.bytes l.done l.found rs)
