-- The words that commands begin with (RFC 9051, section 9: command-any, command-auth, command-nonauth, command-select),
-- with the space after them where something follows. A LIST names no reference: `LIST "" `.
use Rattle.std.specs.Prelude.{ℕ, List, [], ◌∷◌, codes, Result}
use Rattle.wire_reader.specs.declared.stop.Stop.{Stop}
use Rattle.wire_reader.specs.Words.{keys_at}
use Rattle.imap_commands.specs.declared.verb.Verb.{Verb}
use Rattle.imap_commands.specs.declared.verb.Verb.TheVariants as verbs

abbrev pub word_of : Verb → List ℕ
word_of verbs.Capability = codes "CAPABILITY"
word_of verbs.Noop = codes "NOOP"
word_of verbs.Logout = codes "LOGOUT"
word_of verbs.Login = codes "LOGIN "
word_of verbs.Enable = codes "ENABLE "
word_of verbs.List = codes "LIST \"\" "
word_of verbs.Create = codes "CREATE "
word_of verbs.Select = codes "SELECT "
word_of verbs.Append = codes "APPEND "
word_of verbs.Fetch = codes "UID FETCH "
word_of verbs.Store = codes "UID STORE "
word_of verbs.Expunge = codes "UID EXPUNGE "

-- ---- how they are read

-- those after APPEND, after ENABLE, and after CAPABILITY
abbrev pub message_verbs : List Verb
message_verbs = verbs.Fetch ∷ verbs.Store ∷ verbs.Expunge ∷ []

abbrev pub mailbox_verbs : List Verb
mailbox_verbs = verbs.List ∷ verbs.Create ∷ verbs.Select ∷ verbs.Append ∷ message_verbs

abbrev pub session_verbs : List Verb
session_verbs = verbs.Noop ∷ verbs.Logout ∷ verbs.Login ∷ verbs.Enable ∷ mailbox_verbs

abbrev pub verb_at : List ℕ → Result (Verb × List ℕ) Stop
verb_at = keys_at word_of verbs.Capability session_verbs
