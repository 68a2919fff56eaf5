-- What others may do while a run is at work: people file mail, and other programs deliver it.
use Rattle.std.specs.Prelude.{◌≡◌, ◌++◌, ℕ, Bool, true, List, All, IsPermutation, map}
use Rattle.mailcore.specs.declared.mailbox.Message.{Message}
use Rattle.mailcore.specs.Content.{mark_of}
use Rattle.mailcore.specs.Rise.{Rise}
use Rattle.mailcore.specs.Stores.{Waiting}
use Rattle.rules.specs.Opening.{IsFile}
use Rattle.mailcore.specs.Visitors.{IsForeign}
use Rattle.outside.specs.BoxArrivals.{IsFarMessage}
use Rattle.outside.specs.Devices.{Device}

-- Others add far messages, under UIDs of at least the next one, and near files, which wait for their UIDs. They are of bytes that their side
-- stores, their flags are sets of the flags that there are, and none of them bears a mark of the run. Where a run is alone, nobody adds any.
pub record Arrives (ours : List ℕ → Bool) (alone : Bool) (d d' : Device) : Type 0 where
  pub messages : List Message
  pub next : ℕ
  pub files : List Waiting
  pub waiting : List Waiting
  pub rise : Rise d.far.next (map (λ m. m.uid) messages) next
  pub gathered : IsPermutation (d.near.waiting ++ files) waiting
  pub far_sound : All IsFarMessage messages
  pub near_sound : All IsFile files
  pub far_foreign : All (λ m. IsForeign ours (mark_of m.bytes)) messages
  pub near_foreign : All (λ f. IsForeign ours (mark_of f.bytes)) files
  pub now : d' ≡ record d {
    far = record d.far { next = next; messages = d.far.messages ++ messages };
    near = record d.near { waiting = waiting };
  }
  pub nobody : alone ≡ true → d' ≡ d
