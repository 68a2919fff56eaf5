-- What the replies to a command say.
use Rattle.std.specs.Prelude.{ℕ, List, [], ◌∷◌, filter, Option, None, Some}
use Rattle.mailcore.specs.declared.keywords.Keyword.{Keyword}
use Rattle.imap_replies.specs.declared.word.Status.{Status}
use Rattle.imap_replies.specs.declared.reply.Reply.{Reply}
use Rattle.imap_replies.specs.declared.reply.Reply.TheVariants.{Continue, Tagged, Notice, Capability, Enabled, List as Listed, Flags, Exists, Expunge, Fetch, Other, OtherNumbered}
use Rattle.imap_session.specs.Heard.{AreReplies, AreHeardAs}
use Rattle.imap_link.specs.declared.uses.Uses.{Uses}
use Rattle.imap_link.specs.Sinks.{reporting}
use Rattle.imap_link.specs.UsedReplies.{is_used}

abbrev pub status_of : Reply → Option Status
status_of (Continue text) = None
status_of (Tagged tag status text) = Some status
status_of (Notice kind text) = None
status_of (Capability names) = None
status_of (Enabled names) = None
status_of (Listed attributes delimiter name) = None
status_of (Flags flags) = None
status_of (Exists n) = None
status_of (Expunge n) = None
status_of (Fetch n items) = None
status_of (Other word text) = None
status_of (OtherNumbered n event text) = None

-- the status of the last reply
abbrev pub final_status : List Reply → Option Status
final_status [] = None
final_status (r ∷ []) = status_of r
final_status (r ∷ q ∷ rs) = final_status (q ∷ rs)

-- The bytes are those that the call keeps of replies as which these were heard. T holds of those that are about messages.
pub record HeardOf (keywords : List Keyword) (uses : Uses) (T : List Reply → Type 0) (said : List Reply) (bytes : List ℕ) : Type 0 where
  pub replies : List Reply
  pub spelled : AreReplies (filter (is_used uses) replies) bytes
  pub reported : T (reporting replies)
  pub heard_as : AreHeardAs keywords replies said
