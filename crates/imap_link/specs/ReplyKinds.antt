-- What replies are to who has sent a command (RFC 9051, section 7).
use Rattle.std.specs.Prelude.{ℕ, Bool, true, false, List, nat_eq, if◌then◌else◌}
use Rattle.std.specs.Cmp.Lexicographic.{pointwise}
use Rattle.imap_replies.specs.declared.word.NoticeKind.TheVariants as notices
use Rattle.imap_replies.specs.declared.reply.Reply.{Reply}
use Rattle.imap_replies.specs.declared.reply.Reply.TheVariants.{Continue, Tagged, Notice, Capability, Enabled, List as Listed, Flags, Exists, Expunge, Fetch, Other, OtherNumbered}
use Rattle.imap_link.specs.declared.kind.ReplyKind.{ReplyKind}
use Rattle.imap_link.specs.declared.kind.ReplyKind.TheVariants.{Hello, Bye, Passed, Go, Mine, Stray}

abbrev pub kind_of : (tag : List ℕ) → Reply → ReplyKind
kind_of tag (Continue text) = Go
kind_of tag (Tagged other status text) = if pointwise nat_eq other tag then Mine status else Stray
kind_of tag (Notice notices.Ok text) = Hello
kind_of tag (Notice notices.No text) = Passed
kind_of tag (Notice notices.Bad text) = Passed
kind_of tag (Notice notices.Bye text) = Bye
kind_of tag (Notice notices.Preauth text) = Stray
kind_of tag (Capability names) = Passed
kind_of tag (Enabled names) = Passed
kind_of tag (Listed attributes delimiter name) = Passed
kind_of tag (Flags flags) = Passed
kind_of tag (Exists n) = Passed
kind_of tag (Expunge n) = Passed
kind_of tag (Fetch n items) = Passed
kind_of tag (Other word text) = Passed
kind_of tag (OtherNumbered n event text) = Passed

-- the reply may stand before the tagged one
abbrev pub passes : ReplyKind → Bool
passes Hello = true
passes Bye = true
passes Passed = true
passes Go = false
passes (Mine status) = false
passes Stray = false

-- it is what a sender waits for
abbrev pub IsAwaited : ReplyKind → Type 0
IsAwaited Hello = ⊥
IsAwaited Bye = ⊥
IsAwaited Passed = ⊥
IsAwaited Go = Unit {0}
IsAwaited (Mine status) = Unit {0}
IsAwaited Stray = ⊥
