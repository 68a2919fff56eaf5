-- What the replies to SELECT say of a mailbox (RFC 9051, sections 6.3.2 and 7.1).
use Rattle.std.specs.Prelude.{ℕ, ◌<◌, Bool, true, false, ◌&&◌, ◌||◌, ◌==◌, List, [], ◌∷◌, Option, None, Some, if◌then◌else◌}
use Rattle.std.specs.List.{fold, list_all}
use Rattle.mailcore.specs.FlagSet.{has, minus}
use Rattle.mailcore.specs.FlagNames.{place}
use Rattle.mailcore.specs.KeywordNames.{known_set, named_set}
use Rattle.mailcore.specs.declared.flags.Flag.{Flag}
use Rattle.mailcore.specs.declared.flags.Flag.TheVariants.{Draft, Flagged, Answered, Seen, Deleted}
use Rattle.mailcore.specs.declared.keywords.Keyword.{Keyword}
use Rattle.wire_tokens.specs.Names.{has_name, star}
use Rattle.imap_replies.specs.declared.word.NoticeKind.TheVariants as notices
use Rattle.imap_replies.specs.declared.response.Code.{Code}
use Rattle.imap_replies.specs.declared.response.Code.TheVariants as codes_of
use Rattle.imap_replies.specs.declared.response.ResponseText.{ResponseText}
use Rattle.imap_replies.specs.declared.response.ResponseText.TheVariants.{Plain, Coded}
use Rattle.imap_replies.specs.declared.reply.Reply.{Reply}
use Rattle.imap_replies.specs.declared.reply.Reply.TheVariants.{Tagged, Notice}
use Rattle.imap_answers.specs.declared.opening.Opening.{Opening}

-- the flags that are no keywords
abbrev pub system_flags : List Flag
system_flags = Answered ∷ Deleted ∷ Draft ∷ Flagged ∷ Seen ∷ []

-- each flag that has a name can be kept; `\*` stands for keywords
abbrev pub permits_all : List Keyword → (flags : ℕ) → (others : Bool) → Bool
permits_all keywords flags others =
    list_all (λ flag. has flags (place flag)) system_flags && (others || minus (known_set keywords) flags == 0)

abbrev pub nothing_reported : Opening
nothing_reported = record { next = None; validity = None; is_read_only = false }

abbrev pub code_more : List Keyword → Opening → Code → Opening
code_more keywords o (codes_of.UidNext n) = record o { next = Some n }
code_more keywords o (codes_of.UidValidity n) = record o { validity = Some n }
code_more keywords o (codes_of.PermanentFlags names) =
    if permits_all keywords (named_set keywords names) (has_name star names) then o else record o { is_read_only = true }
code_more keywords o (codes_of.AppendUid validity uid) = o
code_more keywords o codes_of.ReadOnly = record o { is_read_only = true }
code_more keywords o codes_of.ReadWrite = o
code_more keywords o (codes_of.Other word text) = o

abbrev pub text_more : List Keyword → Opening → ResponseText → Opening
text_more keywords o (Plain text) = o
text_more keywords o (Coded code text) = code_more keywords o code

abbrev pub opening_more : List Keyword → Opening → Reply → Opening
opening_more keywords o (Tagged tag status text) = text_more keywords o text
opening_more keywords o (Notice notices.Ok text) = text_more keywords o text
opening_more keywords o _ = o

abbrev pub opening_of : List Keyword → List Reply → Opening
opening_of keywords replies = fold (opening_more keywords) nothing_reported replies

abbrev pub NoneOrPositive : Option ℕ → Type 0
NoneOrPositive None = Unit {0}
NoneOrPositive (Some n) = 0 < n

-- the numbers that are reported are above 0
abbrev pub IsPositive : Opening → Type 0
IsPositive o = NoneOrPositive o.next × NoneOrPositive o.validity
