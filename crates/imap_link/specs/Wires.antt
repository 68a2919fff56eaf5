-- Both ends of a connection, as a wire has heard it.
use Rattle.std.specs.Prelude.{ℕ}
use Rattle.imap_session.specs.Lines.{Line}
use Rattle.imap_session.specs.Ends.{Ends, ends_of}
use Rattle.imap_link.specs.declared.wire.Wire.{Wire}
use Rattle.imap_link.specs.Buffers.{WholeRead, GoesOn}

-- what is to come is what the wire has not read, and what the link has not handed out
abbrev pub ends_in : {L : Type 0} → (line : L → Line) → Wire L → Ends
ends_in line wire = ends_of (line wire.link) wire.heard.unread

-- a whole reply of so many bytes was read; where the link is honest, what is to be heard now follows it
abbrev pub HearsWhole : {L : Type 0} → (honest : L → Type 0) → (line : L → Line) → (len : ℕ) → (old new : Wire L) → Type 0
HearsWhole honest line len old new = WholeRead len (λ text. honest new.link → GoesOn (ends_in line old) (ends_in line new) text) old.heard.read new.heard.read
