-- What a run over a mailbox of a channel reaches: the mailbox at the server, and the files near.
use Rattle.std.specs.Prelude.{◌≡◌, ℕ, List, String, string_bytes}
use Rattle.std.specs.Global.{Global}
use Rattle.device.specs.OwnFiles.{FilesParts}
use Rattle.config.specs.declared.config.ImapStore.{ImapStore}
use Rattle.mail_sides.specs.declared.account.Account.{Account}
use Rattle.maildir.specs.DiskFolders.{FolderParts}

-- the user of a store, and the mailbox of this name
pub record IsAccount (store : ImapStore) (name : List ℕ) (account : Account) : Type 0 where
  pub user : account.user.items ≡ string_bytes store.user
  pub password : account.password.items ≡ string_bytes store.pass
  pub mailbox : account.mailbox.items ≡ name

-- messages, state and journal, and what is looked at before a message is removed: all in the folder at this path
pub record AreIn (path : List ℕ) (mail : FolderParts) (book : FilesParts) (look : String Global) : Type 0 where
  pub messages : mail.disk.path ≡ path
  pub state : book.disk.path ≡ path
  pub looked_at : string_bytes look ≡ path
