-- CAPABILITY, NOOP, LOGOUT, LOGIN, ENABLE (RFC 9051, sections 6.1.1, 6.1.2, 6.1.3, 6.2.3 and 6.3.1).
use Rattle.std.specs.Prelude.{ℕ, ◌&&◌, nat_eq, List, [], ◌∷◌, codes, None, Some, if◌then◌else◌}
use Rattle.std.specs.Cmp.Lexicographic.{pointwise}
use Rattle.wire_tokens.specs.Names.{has_name}
use Rattle.imap_replies.specs.declared.reply.Reply.TheVariants.{Capability, Enabled}
use Rattle.imap_session.specs.Servers.{Server, Authenticated, LoggedOut, is_before_login, is_logged_in}
use Rattle.imap_session.specs.Answering.{Answer, done, refused_with, bye, only, out_of_place}

abbrev pub REV2 : List ℕ
REV2 = codes "IMAP4rev2"

-- CAPABILITY and NOOP are taken in each condition
abbrev pub reports_capabilities : Server → (tag : List ℕ) → Answer
reports_capabilities s tag = record { replies = Capability (Some (REV2 ∷ [])) ∷ done tag ∷ []; after = s }

abbrev pub does_nothing : Server → (tag : List ℕ) → Answer
does_nothing s tag = only s (done tag)

-- LOGOUT too; nothing is read after it
abbrev pub logs_out : Server → (tag : List ℕ) → Answer
logs_out s tag = record { replies = bye (codes "bye") ∷ done tag ∷ []; after = record s { condition = LoggedOut } }

-- LOGIN, where nobody is logged in
abbrev pub lets_in : Server → (tag user password : List ℕ) → Answer
lets_in s tag user password =
    if pointwise nat_eq user s.user && pointwise nat_eq password s.password
    then record { replies = done tag ∷ []; after = record s { condition = Authenticated } }
    else only s (refused_with tag (codes "AUTHENTICATIONFAILED") (codes "login"))

abbrev pub logs_in : Server → (tag user password : List ℕ) → Answer
logs_in s tag user password = if is_before_login s.condition then lets_in s tag user password else out_of_place s tag

-- ENABLE: of what is named the server has IMAP4rev2 alone
abbrev pub enables : Server → (tag : List ℕ) → (names : List (List ℕ)) → Answer
enables s tag names =
    if is_logged_in s.condition
    then record { replies = Enabled (if has_name REV2 names then Some (REV2 ∷ []) else None) ∷ done tag ∷ []; after = s }
    else out_of_place s tag
