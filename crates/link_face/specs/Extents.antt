-- How far a reply goes.
use Rattle.std.specs.Prelude.{◌≡◌, ◌<◌, ◌≤◌, ℕ, true, false, List, ◌++◌, length, take, Option, None, Some}
use Rattle.imap_replies.specs.declared.reply.Reply.{Reply}
use Rattle.imap_replies.specs.Replies.{ReplyText}
use Rattle.wire_reader.specs.Scanning.{start, scanned}
use Rattle.link_face.specs.declared.extent.Extent.{Extent}
use Rattle.link_face.specs.declared.extent.Extent.TheVariants.{Begun, Heard, Listed, Whole, TooLong}
use Rattle.link_face.specs.declared.extent.ReplyExtent.{ReplyExtent}
use Rattle.link_face.specs.Faces.{FitsLine, IsSpelled}
use Rattle.link_face.specs.Hearing.{is_heard}
use Rattle.link_face.specs.Said.{is_said}

-- ---- replies of the profile at the front of bytes

-- a text of one, with room for it in a line
pub record IsSaid (text : List ℕ) : Type 0 where
  pub reply : Reply
  pub spelled : ReplyText reply text
  pub fits : FitsLine text
  pub said : is_said reply ≡ true

-- one that is not heard as it came: a LIST reply
pub record IsListed (text : List ℕ) : Type 0 where
  pub reply : Reply
  pub spelled : ReplyText reply text
  pub fits : FitsLine text
  pub said : is_said reply ≡ true
  pub unheard : is_heard reply ≡ false

-- none is whole there
abbrev pub NoneSaid : List ℕ → Type 0
NoneSaid bytes = (front back : List ℕ) → IsSaid front → bytes ≡ front ++ back → ⊥

-- none will be, whatever follows
abbrev pub NeverSaid : List ℕ → Type 0
NeverSaid bytes = (front back more : List ℕ) → IsSaid front → bytes ++ more ≡ front ++ back → ⊥

-- none begins so
abbrev pub NoneBegins : List ℕ → Type 0
NoneBegins bytes = (more : List ℕ) → IsSaid (bytes ++ more) → ⊥

-- ---- what a look at them returns

-- so many bytes, at least one, are these
pub record HasPart (P : List ℕ → Type 0) (bytes : List ℕ) (len : ℕ) : Type 0 where
  pub some : 0 < len
  pub within : len ≤ length bytes
  pub part : P (take len bytes)

abbrev pub Looks : List ℕ → Extent → Type 0
Looks bytes Begun = NoneSaid bytes
Looks bytes (Heard len) = HasPart IsSpelled bytes len
Looks bytes (Listed len) = HasPart IsListed bytes len
Looks bytes (Whole len) = HasPart NeverSaid bytes len
Looks bytes TooLong = Unit {0}

-- at a place: all of the bytes, or more
abbrev pub LooksAt : List ℕ → Extent → Type 0
LooksAt bytes Begun = IsSaid bytes → ⊥
LooksAt bytes (Heard len) = (len ≡ length bytes) × IsSpelled bytes
LooksAt bytes (Listed len) = (len ≡ length bytes) × IsListed bytes
LooksAt bytes (Whole len) = (len ≡ length bytes) × NoneBegins bytes
LooksAt bytes TooLong = Unit {0}

-- by its end alone: all of the bytes, or more
abbrev pub EndsLine : List ℕ → Extent → Type 0
EndsLine bytes Begun = Unit {0}
EndsLine bytes (Heard len) = ⊥
EndsLine bytes (Listed len) = ⊥
EndsLine bytes (Whole len) = len ≡ length bytes
EndsLine bytes TooLong = Unit {0}

-- more bytes, if there is room for them
abbrev pub GoesOn : Extent → Type 0
GoesOn Begun = Unit {0}
GoesOn (Heard len) = ⊥
GoesOn (Listed len) = ⊥
GoesOn (Whole len) = ⊥
GoesOn TooLong = Unit {0}

-- ---- how far they were looked at

-- so many were scanned, and no reply of the profile is whole in them
pub record IsSought (extent : ReplyExtent) (bytes : List ℕ) : Type 0 where
  pub within : extent.scanned ≤ length bytes
  pub scanner_is : extent.scanner ≡ scanned start (take extent.scanned bytes)
  pub none : NoneSaid (take extent.scanned bytes)

-- the next place was found; no reply of the profile is whole before it
pub record IsPlace (old new : ReplyExtent) (bytes : List ℕ) (end : ℕ) : Type 0 where
  pub within : end ≤ length bytes
  pub later : old.scanned < end
  pub scanned_is : new.scanned ≡ end
  pub scanner_is : new.scanner ≡ scanned start (take end bytes)
  pub none : (IsSaid (take end bytes) → ⊥) → NoneSaid (take end bytes)

-- or there is none
abbrev pub FindsPlace : (old new : ReplyExtent) (bytes : List ℕ) → Option ℕ → Type 0
FindsPlace old new bytes None = IsSought new bytes × (new.scanned ≡ length bytes)
FindsPlace old new bytes (Some end) = IsPlace old new bytes end
