-- Atoms and tags as parts of a grammar.
use Rattle.std.proofs.Common.{◌≡◌, ℕ, ◌-◌, ◌≤◌, Bool, true, List, ◌++◌, length, take, drop, replicate, refl, sym, ap, subst, ◌∙◌, arith}
use Rattle.std.specs.List.{list_all}
use Rattle.std.proofs.lemmas.List.{length-take-le, drop-replicate}
use Rattle.std.proofs.Math.Seq.{take-append_seam}
use Rattle.wire_reader.specs.declared.side.Speaker.{Speaker}
use Rattle.wire_reader.specs.Spelling.{IsRun}
use Rattle.wire_reader.proofs.Reader.{Open}
use Rattle.wire_reader.proofs.Part.{Part}
use Rattle.wire_reader.proofs.PartTokens.{text_part}
use Rattle.wire_tokens.specs.Atoms.{is_atom_byte, is_tag_byte, IsTag, padded, InTag, AtomText, TagText, atom_at, tag_at}

-- the first bytes, all of a class, and the slice that holds them
pub taken_run : (class : ℕ → Bool) (limit i : ℕ) (xs text : List ℕ) → text ≡ take i xs → (i ≡ 0 → ⊥) → i ≤ limit → i ≤ length xs → list_all class (take i xs) ≡ true → IsRun class limit text
taken_run class limit i xs text e pos le within each =
    let long : length (take i xs) ≡ i = length-take-le i xs within in
    subst (IsRun class limit) (sym e) (record { each = each; some = omega (arith, pos, long); most = omega (arith, le, long) })

-- a tag and the zeros of 32 bytes after it
pub in_tag : (text self bytes : List ℕ) → IsTag text → self ≡ text → bytes ≡ self ++ drop (length text) (replicate 32 0) → InTag bytes (length text)
in_tag text self bytes h same e =
    let whole : bytes ≡ padded text = e ∙ ap (λ (x : List ℕ). x ++ drop (length text) (replicate 32 0)) same ∙ ap (λ (x : List ℕ). text ++ x) (drop-replicate (length text) 32 0) in
    let front : take (length text) bytes ≡ text = ap (take (length text)) whole ∙ take-append_seam text (replicate (32 - length text) 0) in
    record { tag = subst IsTag (sym front) h; long = ap length front; zeros = whole ∙ ap padded (sym front) }

-- `A` stands for a letter
pub atom_part : {side : Speaker} → Part side true (Open is_atom_byte) AtomText atom_at
atom_part = text_part is_atom_byte 255 65 refl refl (omega arith)

pub tag_part : {side : Speaker} → Part side true (Open is_tag_byte) TagText tag_at
tag_part = text_part is_tag_byte 32 65 refl refl (omega arith)
