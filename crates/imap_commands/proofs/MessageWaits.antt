-- An APPEND as it is written waits before its message.
use Rattle.std.proofs.Common.{◌≡◌, ℕ, Bool, true, false, List, [], ◌∷◌, ◌++◌, length, Some, refl, sym, ap, subst, ◌∙◌, append_assoc}
use Rattle.wire_reader.specs.declared.side.Speaker.TheVariants.{Commands, Replies}
use Rattle.wire_reader.specs.declared.lexical.Phase.{Phase}
use Rattle.wire_reader.specs.declared.lexical.Phase.TheVariants.{Plain, Brace, Close}
use Rattle.wire_reader.specs.Lexical.{phase, asks_from, asks}
use Rattle.wire_reader.specs.Spelling.{◌⨾◌, Is, crlf}
use Rattle.wire_reader.specs.Literal.{MayPlus, Literal}
use Rattle.wire_reader.proofs.Lexed.{asks-append, asks-step}
use Rattle.wire_reader.proofs.LexedSeq.{two-phases}
use Rattle.wire_reader.proofs.LiteralPhases.{length_leads}
use Rattle.wire_reader.proofs.Reader.{Closed, Open}
use Rattle.wire_reader.proofs.Part.{Part}
use Rattle.wire_tokens.specs.Atoms.{is_atom_byte, is_tag_byte, TagText, tag_at}
use Rattle.wire_strings.specs.Strings.{ValueText, value_at}
use Rattle.wire_tokens.specs.FlagLists.{FlagsText, flags_at}
use Rattle.wire_tokens.proofs.AtomParts.{tag_part}
use Rattle.wire_strings.proofs.StringParts.{value_part}
use Rattle.wire_strings.proofs.StringsFit.{written_value}
use Rattle.wire_tokens.proofs.FlagParts.{flags_part}
use Rattle.imap_commands.specs.declared.verb.Verb.TheVariants as verbs
use Rattle.imap_commands.specs.Verbs.{word_of}
use Rattle.imap_commands.specs.Writing.{WrittenText, WrittenMessage}
use Rattle.imap_commands.specs.Waiting.{WaitsBefore, AppendsWait}

-- ---- the length of a literal

no_plus : (plus : Bool) → MayPlus Replies plus → plus ≡ false
no_plus true h = absurd h
no_plus false h = refl

-- after a length in a plain place its sender waits
length_asks : (before length_text : List ℕ) (n : ℕ) → phase Plain before ≡ Plain → phase Brace length_text ≡ Close n false → asks Commands (before ++ 123 ∷ (length_text ++ crlf)) ≡ Some n
length_asks before length_text n plain closed =
    asks-append Commands Plain before 123 (length_text ++ crlf)
    ∙ ap (λ (p : Phase). asks_from Commands p (123 ∷ (length_text ++ crlf))) plain
    ∙ asks-step Commands Plain 123 (length_text ++ crlf) refl
    ∙ asks-append Commands Brace length_text 13 (10 ∷ [])
    ∙ ap (λ (p : Phase). asks_from Commands p crlf) closed

-- a literal without `+` and a line end, after bytes that lead back to a plain place
literal_waits : (before octets text : List ℕ) → phase Plain before ≡ Plain → (Literal Replies octets ⨾ Is crlf) text → WaitsBefore octets (before ++ text)
literal_waits before octets text plain h =
    let literal = h.first in
    let measured = literal.second in
    let following = measured.second in
    let last = following.second.second in
    let digits = measured.front in
    let plus = no_plus measured.value.1 measured.first.plus in
    let long : length octets ≡ measured.value.0 = sym (ap length last.0) ∙ last.1.long in
    let closed : phase Brace digits ≡ Close (length octets) false =
    (length_leads Replies).after measured.value digits measured.first ∙ ap (λ (b : Bool). Close measured.value.0 b) plus ∙ ap (λ (n : ℕ). Close n false) (sym long) in
    let inner : measured.back ≡ crlf ++ octets =
    following.parts ∙ ap (λ (x : List ℕ). x ++ following.back) following.first ∙ ap (λ (x : List ℕ). 13 ∷ x) (following.second.parts ∙ ap (λ (x : List ℕ). x ++ following.second.back) following.second.first ∙ ap (λ (x : List ℕ). 10 ∷ x) last.0) in
    let whole : h.front ≡ 123 ∷ (digits ++ (crlf ++ octets)) =
    literal.parts ∙ ap (λ (x : List ℕ). x ++ literal.back) literal.first ∙ ap (λ (x : List ℕ). 123 ∷ x) (measured.parts ∙ ap (λ (x : List ℕ). digits ++ x) inner) in
    let both : text ≡ 123 ∷ (digits ++ (crlf ++ (octets ++ crlf))) =
    h.parts ∙ ap (λ (x : List ℕ). x ++ h.back) whole ∙ ap (λ (x : List ℕ). (123 ∷ (digits ++ (crlf ++ octets))) ++ x) h.second ∙ ap (λ (x : List ℕ). 123 ∷ x) (append_assoc digits (crlf ++ octets) crlf) in
    let grouped : before ++ text ≡ (before ++ 123 ∷ (digits ++ crlf)) ++ (octets ++ crlf) =
    ap (λ (x : List ℕ). before ++ x) (both ∙ ap (λ (x : List ℕ). 123 ∷ x) (sym (append_assoc digits crlf (octets ++ crlf)))) ∙ sym (append_assoc before (123 ∷ (digits ++ crlf)) (octets ++ crlf)) in
    record { front = before ++ 123 ∷ (digits ++ crlf); parts = grouped; waits = length_asks before digits (length octets) plain closed }

-- ---- what stands before it

-- one part more before it, which leads back to a plain place
module _ {P Q : List ℕ → Type 0} (octets : List ℕ) (plain : (t : List ℕ) → P t → phase Plain t ≡ Plain) (next : (before t : List ℕ) → phase Plain before ≡ Plain → Q t → WaitsBefore octets (before ++ t)) where
  following : (before t : List ℕ) → phase Plain before ≡ Plain → (P ⨾ Q) t → WaitsBefore octets (before ++ t)
  following before t h both =
      let led : phase Plain (before ++ both.front) ≡ Plain = two-phases Plain Plain before both.front h ∙ plain both.front both.first in
      let same : before ++ t ≡ (before ++ both.front) ++ both.back = ap (λ (x : List ℕ). before ++ x) both.parts ∙ sym (append_assoc before both.front both.back) in
      subst (WaitsBefore octets) (sym same) (next (before ++ both.front) both.back led both.second)

is_plain : (w : List ℕ) → phase Plain w ≡ Plain → (t : List ℕ) → Is w t → phase Plain t ≡ Plain
is_plain w h t e = ap (phase Plain) e ∙ h

tag_plain : (tag t : List ℕ) → TagText tag t → phase Plain t ≡ Plain
tag_plain tag t h = let p : Part Commands true (Open is_tag_byte) TagText tag_at = tag_part in (p.leads refl).after tag t h

text_plain : (bytes t : List ℕ) → WrittenText bytes t → phase Plain t ≡ Plain
text_plain bytes t h = let p : Part Commands true (Open is_atom_byte) (ValueText Commands) (value_at Commands) = value_part in (p.leads refl).after bytes t (written_value Commands bytes t h)

flags_plain : (flags : List (List ℕ)) (t : List ℕ) → FlagsText flags t → phase Plain t ≡ Plain
flags_plain flags t h = let p : Part Commands true Closed FlagsText flags_at = flags_part in (p.leads refl).after flags t h

message_waits : (message before t : List ℕ) → phase Plain before ≡ Plain → (WrittenMessage message ⨾ Is crlf) t → WaitsBefore message (before ++ t)
message_waits message before t plain h =
    literal_waits before message t plain (record { front = h.front; back = h.back; parts = h.parts; first = (h.first Replies).0; second = h.second })

pub appends_wait : AppendsWait
appends_wait tag mailbox message text flags h =
    let space = is_plain (32 ∷ []) refl in
    following message (tag_plain tag)
    (following message space
    (following message (is_plain (word_of verbs.Append) refl)
    (following message (text_plain mailbox) (following message space (following message (flags_plain flags) (following message space (message_waits message))))))) [] text refl h
