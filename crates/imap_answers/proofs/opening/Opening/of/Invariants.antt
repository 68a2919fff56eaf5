use Rattle.std.proofs.Common.{◌≡◌, take}
use Rattle.std.specs.List.{fold}
use Rattle.imap_answers.specs.Openings.{opening_more, nothing_reported, IsPositive}
use Rattle.imap_answers.proofs.opening.Opening.of.Given as goal

abbrev pub invariant-loop-reply : goal.invariant-loop-reply
invariant-loop-reply l = (l.opening ≡ fold (opening_more l.keywords) nothing_reported (take l.reply-index l.replies)) × IsPositive l.opening
