-- The words of calls in the lines of a trial.
use Rattle.std.specs.Prelude.{◌++◌, ℕ, List, codes}
use Rattle.maildir.specs.declared.mem_folder.FolderCall.{FolderCall}
use Rattle.maildir.specs.declared.mem_folder.FolderCall.TheVariants as folder
use Rattle.book.specs.declared.mem_shelf.ShelfCall.{ShelfCall}
use Rattle.book.specs.declared.mem_shelf.ShelfCall.TheVariants as shelf
use Rattle.run_trial.specs.declared.stop.StopCommand.{StopCommand}
use Rattle.run_trial.specs.declared.stop.StopCommand.TheVariants as command
use Rattle.run_trial.specs.declared.stop.FarStop.TheVariants as links
use Rattle.run_trial.specs.declared.stop.DeviceStop.{DeviceStop}
use Rattle.run_trial.specs.declared.stop.DeviceStop.TheVariants as devices

-- the word of a call after `folder.`; no line of a trial names `sync`
abbrev pub folder_verb : FolderCall → List ℕ
folder_verb folder.Names = codes "names"
folder_verb folder.Read = codes "read"
folder_verb folder.WriteTmp = codes "write_tmp"
folder_verb folder.Rename = codes "rename"
folder_verb folder.Remove = codes "remove"
folder_verb folder.ReplaceMeta = codes "replace_meta"
folder_verb folder.Sync = codes "sync"

abbrev pub folder_word : FolderCall → List ℕ
folder_word call = codes "folder." ++ folder_verb call

-- after `shelf.`
abbrev pub shelf_verb : ShelfCall → List ℕ
shelf_verb shelf.Read = codes "read"
shelf_verb shelf.Append = codes "append"
shelf_verb shelf.Replace = codes "replace"
shelf_verb shelf.Remove = codes "remove"

abbrev pub shelf_word : ShelfCall → List ℕ
shelf_word call = codes "shelf." ++ shelf_verb call

abbrev pub command_word : StopCommand → List ℕ
command_word command.Capability = codes "CAPABILITY"
command_word command.Login = codes "LOGIN"
command_word command.Enable = codes "ENABLE"
command_word command.Select = codes "SELECT"
command_word command.Fetch = codes "FETCH"
command_word command.Store = codes "STORE"
command_word command.Expunge = codes "EXPUNGE"
command_word command.Append = codes "APPEND"

-- the word of the call that stops
abbrev pub stop_word : DeviceStop → List ℕ
stop_word (devices.Folder stop) = folder_word stop.call
stop_word (devices.Shelf stop) = shelf_word stop.call
stop_word (devices.Link (links.Command stop)) = command_word stop.call
stop_word (devices.Link (links.Append number cut)) = codes "APPEND"
