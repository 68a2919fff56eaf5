-- A history in which a call fails: a file is made, three bytes are to be added to it, and two are read.
use Rattle.std.specs.Prelude.{ℕ, Bool, true, false, List, [], ◌∷◌}
use Rattle.device.specs.declared.file_call.Deed.{Deed}
use Rattle.device.specs.declared.file_call.Deed.TheVariants.{Read, Made, Grown}
use Rattle.device.specs.FileEvents.{FileEvent, World}

abbrev pub event : Deed → Bool → List ℕ → List ℕ → FileEvent
event deed is_ok name bytes = record { call = record { deed = deed; is_ok = is_ok }; name = name; bytes = bytes }

-- a read that gave these bytes
abbrev pub read_of : List ℕ → List ℕ → FileEvent
read_of name bytes = event Read true name bytes

abbrev pub name : List ℕ
name = 102 ∷ []

abbrev pub bytes : List ℕ
bytes = 1 ∷ 2 ∷ 3 ∷ []

abbrev pub began : List ℕ
began = 1 ∷ 2 ∷ []

-- the last call first
abbrev pub torn : List FileEvent
torn = read_of name began ∷ event Grown false name bytes ∷ event Made true name [] ∷ []

-- no file was there at first; of the second call that counts from nought two bytes took place
abbrev pub torn_world : World
torn_world = record { start = []; shares = 0 ∷ 3 ∷ [] }
