-- What comes over a link whose names were not turned.
use Rattle.std.proofs.Common.{◌≡◌, ◌∙◌, ℕ, false, List, ◌++◌, length, take, drop, sym, ap, subst}
use Rattle.std.proofs.Math.Seq.{take-append_seam}
use Rattle.std.proofs.Math.Logic.{∥∥₁_elim, ∥∥₁_map}
use Rattle.std.proofs.Props.{props}
use Rattle.imap_session.specs.Lines.{Line, Receives}
use Rattle.link_face.specs.declared.face.Face.{Face}
use Rattle.link_face.specs.Faces.{faced, Keeps}
use Rattle.link_face.specs.Said.{Speaks}
use Rattle.link_face.specs.Turning.{held_of, Unchanged}
use Rattle.link_face.proofs.Speaking.{received_speaks}

bytes_differ_once : IsSet (List ℕ)
bytes_differ_once = hlevel props

module _ (old new : Face) (line : Line) (h : Unchanged old new) (same : new.renamed ≡ false) (s : ∥ Speaks old.incoming line ∥₁) where
  pub turned_speaks : ∥ Speaks new.incoming line ∥₁
  turned_speaks = ∥∥₁_map s (λ t. record { speech = ((h same).kept line.unseen t.speech).speech; unread = t.unread; said = t.said; is = t.is })

  pub turned_held : held_of new ≡ held_of old
  turned_held = ∥∥₁_elim s (bytes_differ_once _ _) (λ t. ((h same).kept line.unseen t.speech).held)

-- what was read is still there, one after another
pub keeps_twice : (old mid new : Line) → Keeps old mid → Keeps mid new → Keeps old new
keeps_twice old mid new h k = record {
  stays = record { quiet = k.stays.quiet ∙ h.stays.quiet; kept = k.stays.kept ∙ h.stays.kept };
  unseen = k.unseen ∙ h.unseen;
}

pub keeps_turned : (first : Line) (old new : Face) (line : Line) → Unchanged old new → new.renamed ≡ false → ∥ Speaks old.incoming line ∥₁ → Keeps first (faced (held_of old) line)
    → Keeps first (faced (held_of new) line)
keeps_turned first old new line h same s k = subst (λ (l : List ℕ). Keeps first (faced l line)) (sym (turned_held old new line h same s)) k

-- more came
pub more_speaks : (old new : Line) (came now bytes : List ℕ) → now ≡ came ++ bytes → Receives bytes old new → ∥ Speaks came old ∥₁ → ∥ Speaks now new ∥₁
more_speaks old new came now bytes e r s = ∥∥₁_map s (λ t. subst (λ (l : List ℕ). Speaks l new) (sym e) (received_speaks old new came bytes r t))

-- nothing was turned
pub still_speaks : (came now : List ℕ) (line : Line) → now ≡ came → ∥ Speaks came line ∥₁ → ∥ Speaks now line ∥₁
still_speaks came now line e s = subst (λ (l : List ℕ). ∥ Speaks l line ∥₁) (sym e) s

-- the piece that the link wrote
pub piece_is : (now piece items : List ℕ) (len : ℕ) → now ≡ take len (piece ++ drop (length piece) items) → length piece ≡ len → piece ≡ now
piece_is now piece items len is long =
    sym (is ∙ ap (λ (n : ℕ). take n (piece ++ drop (length piece) items)) (sym long) ∙ take-append_seam piece (drop (length piece) items))
