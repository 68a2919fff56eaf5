-- The copy of a near message that is fit can be sent: it has no NUL, and is not too long.
use Rattle.std.proofs.Common.{◌≡◌, ◌≤◌, ap, sym, ◌∙◌, refl, subst, ℕ, zero, suc, ◌+◌, Bool, true, false, List, [], ◌∷◌, ◌++◌, length, take, drop, arith, length-append}
use Rattle.std.specs.Prelude.{not, ◌&&◌, ◌==◌, codes, filter, if◌then◌else◌}
use Rattle.std.specs.List.{list_all, flat_map}
use Rattle.std.proofs.lemmas.Bool.{and_from, and_parts, eqb-true, leb-true, ne_eqb}
use Rattle.std.proofs.lemmas.List.Folds.{list_all-append}
use Rattle.mailcore.specs.declared.side.LineEnd.TheVariants.{CrLf}
use Rattle.mailcore.specs.declared.side.Side.TheVariants.{Far, Near}
use Rattle.mailcore.specs.Content.{LF, CR, TextLine, at_line_end, after_header, content, content_lines, copy_text, crlf, fit, header, is_mark_line, lf, line_bytes, line_end_bytes, lines_of, onto_first, size_limit, with_line_ends, without_marks}
use Rattle.mailcore.specs.Mark.{is_mark, is_mark_char}
use Rattle.mailcore.proofs.ContentLemmas.{with_line_ends-content}
use Rattle.mailcore.proofs.CopyLemmas.{copy_text-bytes}
use Rattle.wire_reader.specs.Literal.{is_octet}
use Rattle.imap_commands.specs.Messages.{IsMessage}
use Rattle.outside.specs.MailboxOperations.{IsCopyText}

abbrev Octets : List ℕ → Type 0
Octets bs = list_all is_octet bs ≡ true

octets_cons : (b : ℕ) (bs : List ℕ) → is_octet b ≡ true → Octets bs → Octets (b ∷ bs)
octets_cons b bs here rest = and_from _ _ here rest

octets_append : (a b : List ℕ) → Octets a → Octets b → Octets (a ++ b)
octets_append a b h k = list_all-append is_octet a b ∙ and_from _ _ h k

-- ---- line ends

lf_more : (t : Bool) (b : ℕ) (bs : List ℕ) → is_octet b ≡ true → Octets (lf bs) → Octets (if t then lf bs else b ∷ lf bs)
lf_more true b bs here rest = rest
lf_more false b bs here rest = octets_cons b (lf bs) here rest

octets-lf : (bs : List ℕ) → Octets bs → Octets (lf bs)
octets-lf [] h = refl
octets-lf (b ∷ bs) h = let parts = and_parts _ _ h in lf_more (b == CR && at_line_end bs) b bs parts.0 (octets-lf bs parts.1)

-- ---- lines

abbrev OctetLines : List TextLine → Type 0
OctetLines [] = Unit {0}
OctetLines (line ∷ lines) = Octets line.text × OctetLines lines

octets-onto_first : (b : ℕ) (lines : List TextLine) → is_octet b ≡ true → OctetLines lines → OctetLines (onto_first b lines)
octets-onto_first b [] here h = (octets_cons b [] here refl, tt)
octets-onto_first b (line ∷ lines) here h = (octets_cons b line.text here h.0, h.1)

lines_more : (t : Bool) (b : ℕ) (lines : List TextLine) → is_octet b ≡ true → OctetLines lines
    → OctetLines (if t then record { text = []; ended = true } ∷ lines else onto_first b lines)
lines_more true b lines here rest = (refl, rest)
lines_more false b lines here rest = octets-onto_first b lines here rest

octets-lines : (bs : List ℕ) → Octets bs → OctetLines (lines_of bs)
octets-lines [] h = tt
octets-lines (b ∷ bs) h = let parts = and_parts _ _ h in lines_more (b == LF) b (lines_of bs) parts.0 (octets-lines bs parts.1)

lines-append : (a b : List TextLine) → OctetLines a → OctetLines b → OctetLines (a ++ b)
lines-append [] b h k = k
lines-append (line ∷ a) b h k = (h.0, lines-append a b h.1 k)

filter_more : (t : Bool) (line : TextLine) (lines : List TextLine) → Octets line.text → OctetLines lines → OctetLines (if t then line ∷ lines else lines)
filter_more true line lines here rest = (here, rest)
filter_more false line lines here rest = rest

lines-filter : (p : TextLine → Bool) (lines : List TextLine) → OctetLines lines → OctetLines (filter p lines)
lines-filter p [] h = tt
lines-filter p (line ∷ lines) h = filter_more (p line) line (filter p lines) h.0 (lines-filter p lines h.1)

lines-take : (n : ℕ) (lines : List TextLine) → OctetLines lines → OctetLines (take n lines)
lines-take zero lines h = tt
lines-take (suc n) [] h = tt
lines-take (suc n) (line ∷ lines) h = (h.0, lines-take n lines h.1)

lines-drop : (n : ℕ) (lines : List TextLine) → OctetLines lines → OctetLines (drop n lines)
lines-drop zero lines h = h
lines-drop (suc n) [] h = tt
lines-drop (suc n) (line ∷ lines) h = lines-drop n lines h.1

octets-content_lines : (bs : List ℕ) → Octets bs → OctetLines (content_lines bs)
unfolding without_marks
octets-content_lines bs h =
    let lines = lines_of (lf bs) in
    let all : OctetLines lines = octets-lines (lf bs) (octets-lf bs h) in
    lines-append (filter (λ line. not (is_mark_line line)) (header lines)) (after_header lines)
    (lines-filter (λ line. not (is_mark_line line)) (header lines) (lines-take _ lines all))
    (lines-drop (length (header lines)) lines all)

octets-line : (line : TextLine) → Octets line.text → Octets (line_bytes CrLf line)
octets-line line h = by_test line.ended
  where
    by_test : (t : Bool) → Octets (if t then line.text ++ line_end_bytes CrLf else line.text)
    by_test true = octets_append line.text (line_end_bytes CrLf) h refl
    by_test false = h

octets-flat : (lines : List TextLine) → OctetLines lines → Octets (flat_map (line_bytes CrLf) lines)
octets-flat [] h = refl
octets-flat (line ∷ lines) h = octets_append (line_bytes CrLf line) (flat_map (line_bytes CrLf) lines) (octets-line line h.0) (octets-flat lines h.1)

-- ---- the mark

no_mark_char : is_mark_char 0 ≡ true → ⊥
no_mark_char h = absurd (cc)

octet-mark : (b : ℕ) → is_mark_char b ≡ true → is_octet b ≡ true
octet-mark b h = ap not (ne_eqb b 0 (λ e. no_mark_char (subst (λ (n : ℕ). is_mark_char n ≡ true) e h)))

octets-mark : (mark : List ℕ) → list_all is_mark_char mark ≡ true → Octets mark
octets-mark [] h = refl
octets-mark (b ∷ mark) h = let parts = and_parts _ _ h in octets_cons b mark (octet-mark b parts.0) (octets-mark mark parts.1)

-- ---- the copy

octets-copy : (mark bs : List ℕ) → is_mark mark ≡ true → Octets bs → Octets (copy_text mark bs CrLf)
octets-copy mark bs is h =
    subst Octets (sym (copy_text-bytes mark bs CrLf is))
    (octets-flat (record { text = codes "X-TUID: " ++ mark; ended = true } ∷ content_lines bs)
    (octets_append (codes "X-TUID: ") mark refl (octets-mark mark (and_parts _ _ is).1), octets-content_lines bs h))

copy_parts : (mark bs : List ℕ) → is_mark mark ≡ true → copy_text mark bs CrLf ≡ ((codes "X-TUID: " ++ mark) ++ line_end_bytes CrLf) ++ with_line_ends CrLf (content bs)
copy_parts mark bs is = copy_text-bytes mark bs CrLf is ∙ ap (λ (x : List ℕ). ((codes "X-TUID: " ++ mark) ++ line_end_bytes CrLf) ++ x) (sym (with_line_ends-content CrLf bs))

length-copy : (mark bs : List ℕ) → is_mark mark ≡ true → length (copy_text mark bs CrLf) ≡ 22 + length (crlf (content bs))
length-copy mark bs is =
    let twelve : length mark ≡ 12 = eqb-true _ _ (and_parts _ _ is).0 in
    ap length (copy_parts mark bs is)
    ∙ length-append ((codes "X-TUID: " ++ mark) ++ line_end_bytes CrLf) (crlf (content bs))
    ∙ ap (λ (n : ℕ). n + length (crlf (content bs))) (length-append (codes "X-TUID: " ++ mark) (line_end_bytes CrLf) ∙ ap (λ (n : ℕ). n + 2) (length-append (codes "X-TUID: ") mark ∙ ap (λ (n : ℕ). 8 + n) twelve))

pub copy_can_be_sent : (mark bs : List ℕ) → is_mark mark ≡ true → fit Near bs ≡ true → IsMessage (copy_text mark bs CrLf)
copy_can_be_sent mark bs is fits =
    let parts = and_parts _ _ fits in
    let small : length (crlf (content bs)) ≤ size_limit = leb-true _ _ parts.1 in
    let long = length-copy mark bs is in
    record {
      literal = record { each = octets-copy mark bs is parts.0; most = omega (arith, long, small) };
      some = omega (arith, long);
    }

-- the text of a copy for the far side is a message
pub sent_as : (text : List ℕ) → IsCopyText Far text → IsMessage text
sent_as text is = subst IsMessage (sym is.text_is) (copy_can_be_sent is.mark is.bytes is.is_mark is.is_fit)
