-- A folder into which files were put one after the other.
use Rattle.std.proofs.Common.{◌≡◌, ℕ, false, List, map, sym, ap, ◌∙◌}
use Rattle.std.specs.Prelude.{fold}
use Rattle.std.proofs.lemmas.List.Folds.{fold-map}
use Rattle.device.specs.Calls.{Seen}
use Rattle.mailcore.specs.declared.keywords.Keyword.{Keyword}
use Rattle.mailcore.specs.declared.mailbox.Message.{Message}
use Rattle.mailcore.specs.Stores.{Store}
use Rattle.maildir.specs.Folders.{Stored, with_meta}
use Rattle.maildir.specs.MemFolders.{empty}
use Rattle.maildir.specs.Metas.{meta_text}
use Rattle.worlds.specs.declared.world.WaitingFile.{WaitingFile}
use Rattle.run_trial.specs.Folders.{folder_of, meta_alone, put_message, put_waiting}
use Rattle.run_trial.specs.Worlds.{waiting_of}

-- with these files, no call has stopped
whole : Stored → Seen Stored
whole s = record { stored = s; is_broken = false; stops = 0 }

-- the meta file, the messages' files and the waiting ones, put into a new folder
pub folder_made : (keywords : List Keyword) (new meta one two : Seen Stored) (text : List ℕ) (near : Store) (messages : List Message) (waiting : List WaitingFile)
    → new ≡ record { stored = empty; is_broken = false; stops = 0 }
    → meta ≡ record new { stored = with_meta text new.stored } → text ≡ meta_text (record { validity = near.validity; next = near.next })
    → one ≡ record meta { stored = fold (put_message keywords) meta.stored messages } → messages ≡ near.messages
    → two ≡ record one { stored = fold (λ s f. put_waiting keywords s (waiting_of f)) one.stored waiting }
    → two ≡ record { stored = folder_of keywords near (map waiting_of waiting); is_broken = false; stops = 0 }
unfolding whole
folder_made keywords new meta one two text near messages waiting is_new is_meta is_text is_one are is_two =
    let made : meta ≡ whole (meta_alone near) =
    is_meta ∙ ap (λ (s : Seen Stored). record s { stored = with_meta text s.stored }) is_new ∙ ap (λ (t : List ℕ). whole (with_meta t empty)) is_text in
    let messages_made : one ≡ whole (fold (put_message keywords) (meta_alone near) near.messages) =
    is_one ∙ ap (λ (s : Seen Stored). record s { stored = fold (put_message keywords) s.stored messages }) made ∙ ap (λ (ms : List Message). whole (fold (put_message keywords) (meta_alone near) ms)) are in
    is_two
    ∙ ap (λ (s : Seen Stored). record s { stored = fold (λ (x : Stored) (f : WaitingFile). put_waiting keywords x (waiting_of f)) s.stored waiting }) messages_made
    ∙ ap whole (sym (fold-map (put_waiting keywords) waiting_of (fold (put_message keywords) (meta_alone near) near.messages) waiting))
