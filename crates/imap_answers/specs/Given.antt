-- What the replies to APPEND report about the message that was added (RFC 9051, section 7.1: APPENDUID).
use Rattle.std.specs.Prelude.{ℕ, ◌&&◌, ◌==◌, nat_le, nat_lt, List, Option, None, Some, Result, Ok, Err, if◌then◌else◌}
use Rattle.std.specs.List.{fold}
use Rattle.imap_replies.specs.declared.response.Code.{Code}
use Rattle.imap_replies.specs.declared.response.Code.TheVariants as codes_of
use Rattle.imap_replies.specs.declared.response.ResponseText.{ResponseText}
use Rattle.imap_replies.specs.declared.response.ResponseText.TheVariants.{Plain, Coded}
use Rattle.imap_replies.specs.declared.reply.Reply.{Reply}
use Rattle.imap_replies.specs.declared.reply.Reply.TheVariants.{Tagged}
use Rattle.imap_link.specs.declared.fault.FarFault.{FarFault}
use Rattle.imap_link.specs.declared.fault.FarFault.TheVariants.{Protocol}
use Rattle.imap_answers.specs.declared.given.Given.{Given}

abbrev pub given_by_code : Option Given → Code → Option Given
given_by_code given (codes_of.UidNext n) = given
given_by_code given (codes_of.UidValidity n) = given
given_by_code given (codes_of.PermanentFlags names) = given
given_by_code given (codes_of.AppendUid validity uid) = Some (record { validity = validity; uid = uid })
given_by_code given codes_of.ReadOnly = given
given_by_code given codes_of.ReadWrite = given
given_by_code given (codes_of.Other word text) = given

abbrev pub given_by_text : Option Given → ResponseText → Option Given
given_by_text given (Plain text) = given
given_by_text given (Coded code text) = given_by_code given code

-- what was reported before, or what this reply reports
abbrev pub given_more : Option Given → Reply → Option Given
given_more given (Tagged tag status text) = given_by_text given text
given_more given _ = given

abbrev pub given_in : List Reply → Option Given
given_in replies = fold given_more None replies

-- The UID that was reported, if one was, in a mailbox of this validity whose next UID was at least this. It breaks the protocol if it is of
-- another validity, if it was given before, or if no UID is above it.
abbrev pub uid_reported : Option Given → (validity next : ℕ) → Result (Option ℕ) FarFault
uid_reported None validity next = Ok None
uid_reported (Some given) validity next =
    if given.validity == validity && nat_le next given.uid && nat_lt given.uid 4294967295 then Ok (Some given.uid) else Err Protocol
