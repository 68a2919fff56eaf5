-- What another run over the devices of a trial finds.
use Rattle.std.proofs.Common.{◌≡◌, ◌∙◌, ℕ, Bool, false, List, [], ap, subst, sym}
use Rattle.std.specs.Int.NonZero.{non_zero_u32_get}
use Rattle.mailcore.specs.declared.keywords.Keyword.{Keyword}
use Rattle.imap_link.specs.declared.link.Link as link
use Rattle.imap_session.specs.Servers.{Server}
use Rattle.mailcore.specs.declared.side.Side.TheVariants.{Near}
use Rattle.mailcore.specs.Visitors.{others_but}
use Rattle.maildir.specs.declared.mem_folder.MemFolder.{MemFolder}
use Rattle.maildir.specs.Folders.{Stored}
use Rattle.maildir.specs.Gains.{Adds}
use Rattle.maildir.specs.MemFolders.{stored_in}
use Rattle.book.specs.MemShelves.{files_of}
use Rattle.book.specs.Shelves.{Files}
use Rattle.near_box.specs.Mailboxes.{near_of}
use Rattle.near_box.proofs.ArrivedLemmas.{added_arrives}
use Rattle.outside.specs.BoxArrivals.{Arrives}
use Rattle.outside.specs.Devices.{Named}
use Rattle.mail_sides.specs.declared.account.Account.{Account}
use Rattle.mail_sides.specs.Chosen.{box_at}
use Rattle.run_pair.specs.Parts.{device_with}
use Rattle.run_trial.specs.declared.devices.Devices.{Devices}
use Rattle.run_trial.specs.Among.{HoldsAll}
use Rattle.run_trial.specs.Held.{held_in}
use Rattle.run_trial.specs.Settings.{device_over}

-- it is the device of the outside, whose mailboxes have one map
module _ {L : Type 0} {links : link.Ghosts L} where
  pub same_device : (d : Devices L links) (account : Account) (fresh : ℕ) (line : L) (far_map near_map : List Keyword) (folder : MemFolder) (shelf : Files)
      → d.account ≡ account → non_zero_u32_get d.fresh ≡ fresh → d.link ≡ line → d.keywords ≡ far_map → far_map ≡ near_map → d.folder ≡ folder → files_of d.shelf ≡ shelf
      → held_in d ≡ device_with (box_at far_map account.mailbox.items (links.line line).end.server) (near_of fresh near_map (stored_in folder)) shelf []
  same_device d account fresh line far_map near_map folder shelf accounts freshes lines map one_map folders shelves =
      let server : L → Server = λ l. (links.line l).end.server in
      ap (λ (x : Account). device_over x.mailbox.items (non_zero_u32_get d.fresh) d.keywords (server d.link) (stored_in d.folder) (files_of d.shelf)) accounts
      ∙ ap (λ (x : ℕ). device_over account.mailbox.items x d.keywords (server d.link) (stored_in d.folder) (files_of d.shelf)) freshes
      ∙ ap (λ (x : L). device_over account.mailbox.items fresh d.keywords (server x) (stored_in d.folder) (files_of d.shelf)) lines
      ∙ ap (λ (x : List Keyword). device_over account.mailbox.items fresh x (server line) (stored_in d.folder) (files_of d.shelf)) map
      ∙ ap (λ (x : MemFolder). device_over account.mailbox.items fresh far_map (server line) (stored_in x) (files_of d.shelf)) folders
      ∙ ap (λ (x : Files). device_over account.mailbox.items fresh far_map (server line) (stored_in folder) x) shelves
      ∙ ap (λ (x : List Keyword). device_with (box_at far_map account.mailbox.items (server line)) (near_of fresh x (stored_in folder)) shelf []) one_map

  -- the device of the outside holds all, once what had still to be added to its folder is there
  pub all_held : (ours : List ℕ → Bool) (d : Devices L links) (account : Account) (fresh : ℕ) (line : L) (far_map near_map : List Keyword) (folder : Stored) (shelf : Files) (named : List Named)
      → d.account ≡ account → non_zero_u32_get d.fresh ≡ fresh → d.link ≡ line → d.keywords ≡ far_map → far_map ≡ near_map → files_of d.shelf ≡ shelf → Adds (others_but ours) folder (stored_in d.folder)
      → HoldsAll ours (device_with (box_at far_map account.mailbox.items (links.line line).end.server) (near_of fresh near_map folder) shelf named) (held_in d)
  all_held ours d account fresh line far_map near_map folder shelf named accounts freshes lines map one_map shelves adds =
      let server : L → Server = λ l. (links.line l).end.server in
      record {
        far = ap (λ (x : Account). (box_at d.keywords x.mailbox.items (server d.link)).store) accounts
            ∙ ap (λ (x : L). (box_at d.keywords account.mailbox.items (server x)).store) lines
            ∙ ap (λ (x : List Keyword). (box_at x account.mailbox.items (server line)).store) map;
        near = subst (λ (x : ℕ). Arrives Near ours false (near_of fresh near_map folder) (near_of x d.keywords (stored_in d.folder))) (sym freshes)
            (subst (λ (x : List Keyword). Arrives Near ours false (near_of fresh near_map folder) (near_of fresh x (stored_in d.folder))) (sym (map ∙ one_map))
            (added_arrives (others_but ours) fresh near_map folder (stored_in d.folder) adds));
        files = shelves;
      }
