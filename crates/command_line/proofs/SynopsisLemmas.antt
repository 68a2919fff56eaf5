-- What `clap` says of the synopsis, and which fault of usage an error of its parse is.
use Rattle.std.proofs.Common.{◌≡◌, Bool, true, false, List, inl, inr, refl, subst, sym}
use Rattle.clap.specs.Faults.{fault_of, is_simple_and_free}
use Rattle.clap.specs.Kinds.{HasKind, IsAmong}
use Rattle.clap.specs.Simple.{is_simple}
use Rattle.clap.specs.Takes.{takes}
use Rattle.clap.specs.Values.{kind_of}
use Rattle.clap.specs.Walk.{Text}
use Rattle.clap.specs.declared.error.Error.{Error}
use Rattle.clap.specs.declared.error.kind.ErrorKind.TheVariants.{OutOfMemory}
use Rattle.clap.proofs.OnLiterals.{clap_on_literals}
use Rattle.command_line.specs.ClapFaults.{Reports}
use Rattle.command_line.specs.Requests.{IsFault}
use Rattle.command_line.specs.Synopsis.{synopsis}
use Rattle.command_line.specs.declared.fault.UsageFault.{UsageFault}
use Rattle.command_line.specs.declared.fault.UsageFault.TheVariants.{Line, NoChannel, SyncWords, NoMemory}

pub synopsis_is_simple : is_simple synopsis ≡ true
unfolding synopsis clap_on_literals
synopsis_is_simple = refl

pub synopsis_is_free : is_simple_and_free synopsis ≡ true
unfolding synopsis clap_on_literals
synopsis_is_free = refl

-- words with another fault than `OutOfMemory` are not taken
not_taken : (words : List Text) (error : Error) → (kind_of error ≡ OutOfMemory → ⊥)
    → (takes synopsis words ≡ true → kind_of error ≡ OutOfMemory) → takes synopsis words ≡ false
not_taken words error other passes = go (takes synopsis words) refl
  where
    go : (t : Bool) → takes synopsis words ≡ t → takes synopsis words ≡ false
    go true e = absurd (other (passes e))
    go false e = e

among : (words : List Text) (error : Error) → (kind_of error ≡ OutOfMemory → ⊥)
    → HasKind (fault_of synopsis words) error → IsAmong (kind_of error) (fault_of synopsis words)
among words error other (inl memory) = absurd (other memory)
among words error other (inr kind) = kind

pub reported_is_fault : (words : List Text) (error : Error) (fault : UsageFault) → Reports error fault
    → (takes synopsis words ≡ true → kind_of error ≡ OutOfMemory) → HasKind (fault_of synopsis words) error
    → IsFault words fault
reported_is_fault words error (Line reported) states passes kind =
    subst (λ (e : Error). IsFault words (Line e)) (sym states.0) (not_taken words error states.1 passes, among words error states.1 kind)
reported_is_fault words error NoChannel states passes kind = absurd states
reported_is_fault words error SyncWords states passes kind = absurd states
reported_is_fault words error NoMemory states passes kind = tt
