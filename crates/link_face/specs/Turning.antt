-- What was turned, and what was not yet.
use Rattle.std.specs.Prelude.{◌≡◌, ◌⊎◌, ℕ, true, false, List, [], ◌∷◌, ◌++◌}
use Rattle.link_face.specs.declared.face.Face.{Face}
use Rattle.link_face.specs.Extents.{IsListed}
use Rattle.link_face.specs.Faces.{IsSpelled}
use Rattle.link_face.specs.Said.{IsSpeech}

-- what came and was not handed out
abbrev pub held_of : Face → List ℕ
held_of face = face.ready ++ face.incoming

-- nothing was turned
pub record Untouched (old new : Face) : Type 0 where
  pub incoming : new.incoming ≡ old.incoming
  pub ready : new.ready ≡ old.ready
  pub renamed : new.renamed ≡ old.renamed

-- each byte is still there, and what is not turned yet, with what has not come (`more`), is what a server of the profile says
pub record Kept (old new : Face) (more : List ℕ) : Type 0 where
  pub held : held_of new ≡ held_of old
  pub speech : IsSpeech (new.incoming ++ more)

-- no name was turned before, and so it is wherever that is what came
pub record Unturned (old new : Face) : Type 0 where
  pub was : old.renamed ≡ false
  pub kept : (more : List ℕ) → IsSpeech (old.incoming ++ more) → Kept old new more

-- where no name was turned by now
abbrev pub Unchanged : (old new : Face) → Type 0
Unchanged old new = new.renamed ≡ false → Unturned old new

-- a LIST reply of the profile stands among these bytes that is not heard as it came
pub record HasListed (bytes : List ℕ) : Type 0 where
  pub before : List ℕ
  pub text : List ℕ
  pub after : List ℕ
  pub parts : bytes ≡ before ++ (text ++ after)
  pub listed : IsListed text

-- Bytes were taken from the front. In place of such a LIST reply alone another one is heard, or none, and that is noted.
pub record NotesNames (old new : Face) : Type 0 where
  pub taken : List ℕ
  pub parts : old.incoming ≡ taken ++ new.incoming
  pub noted : new.renamed ≡ true → (old.renamed ≡ true) ⊎ HasListed old.incoming

-- nothing, or one reply
abbrev pub IsTurned : List ℕ → Type 0
IsTurned bytes = (bytes ≡ []) ⊎ IsSpelled bytes

-- what is ready stays; where nothing was, a reply may be
abbrev pub Leaves : (old new : List ℕ) → Type 0
Leaves [] new = IsTurned new
Leaves (b ∷ bs) new = new ≡ b ∷ bs
