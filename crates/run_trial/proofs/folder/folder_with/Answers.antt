use Rattle.std.proofs.Common.{◌∙◌}
use Rattle.maildir.specs.MemFolders.{seen_of}
use Rattle.run_trial.specs.Worlds.{store_of}
use Rattle.run_trial.proofs.PutFiles.{folder_made}
use Rattle.run_trial.proofs.folder.folder_with.Goals as goal

pub returns : goal.returns
returns c =
    folder_made c.args.keywords.now (seen_of c.new-folder.result) (seen_of c.put_meta.new.self) (seen_of c.put_messages.new.folder) (seen_of c.put_waiting.new.folder)
    c.from_vec.result (store_of c.args.near) c.into_vec.result.items c.args.waiting.items
    c.new-folder.ensures c.put_meta.ensures (c.from_vec.ensures ∙ c.in_ok-text.ensures) c.in_ok-put_messages.ensures c.into_vec.ensures.list c.in_ok-put_waiting.ensures
