-- A message in a line of a trial, and what other clients do to it (docs/FORMATS.md, "Trial").
use Rattle.std.specs.Prelude.{ℕ, List, ◌++◌, codes, decimal}
use Rattle.maildir.specs.declared.file_acts.FileDeed.{FileDeed}
use Rattle.maildir.specs.declared.file_acts.FileDeed.TheVariants as files
use Rattle.mem_link.specs.declared.acts.MessageDeed.{MessageDeed}
use Rattle.mem_link.specs.declared.acts.MessageDeed.TheVariants as messages
use Rattle.worlds.specs.PlanLines.{change_text}

-- its UID, and what becomes of its flags, as on a plan line
abbrev pub target_text : (uid : ℕ) → MessageDeed → List ℕ
target_text uid (messages.Flag set clear) = decimal uid ++ (change_text (codes " +") set ++ change_text (codes " -") clear)
target_text uid messages.Remove = decimal uid

-- the same done to the file of a message
abbrev pub file_deed : MessageDeed → FileDeed
file_deed (messages.Flag set clear) = files.Flag set clear
file_deed messages.Remove = files.Remove
