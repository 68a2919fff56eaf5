-- How much is kept.
use Rattle.std.proofs.Common.{◌≡◌, ◌≢◌, ◌≤◌, ◌<◌, inl, inr, Ok, ℕ, ◌+◌, Bool, true, false, List, [], ◌∷◌, ◌++◌, refl, sym, ◌∙◌, ap, subst, arith, append_assoc, append-nil, length, take, drop, take-append-drop, length-append, length-drop}
use Rattle.std.specs.Prelude.{filter, max, if◌then◌else◌}
use Rattle.std.proofs.lemmas.Bool.{cases_lt}
use Rattle.std.proofs.lemmas.List.{take-append-le}
use Rattle.std.proofs.Math.Seq.{take-append_seam}
use Rattle.std.proofs.Transfers.{drop-appended}
use Rattle.imap_replies.specs.declared.reply.Reply.{Reply}
use Rattle.wire_reader.specs.declared.answer.Read.{Read}
use Rattle.wire_reader.specs.declared.answer.Read.TheVariants.{Whole, WantsLiteral, Partial}
use Rattle.imap_session.specs.Heard.{AreReplies}
use Rattle.imap_link.specs.ReplyBuffers.{Buffer, Moves, held_in, reads}
use Rattle.imap_link.specs.Fronts.{Spells, NoneWhole, IsWhole, Begun, BeginsAtPlaces, Looks}
use Rattle.imap_link.proofs.Begun.{begins_empty}
use Rattle.imap_link.proofs.Fitting.{fits_at_places}
use Rattle.imap_link.proofs.Searched.{none_empty}
use Rattle.imap_link.specs.declared.uses.Uses.{Uses}
use Rattle.imap_link.specs.UsedReplies.{is_used}
use Rattle.imap_link.specs.Buffers.{WholeRead, OneMore, Following, AreRead, IsBounded}

pub more_may : (a b : ℕ) (bytes : List ℕ) → a ≤ b → OneMore a bytes → OneMore b bytes
more_may a b bytes le o = record { begun = o.begun; piece = o.piece; parts = o.parts; none = o.none; begins = o.begins; fits = o.fits; short = (let s = o.short in omega (arith, s, le)) }

pub first_more : (most : ℕ) (bytes : List ℕ) → length bytes ≤ most → OneMore most bytes
first_more most bytes le = record { begun = []; piece = bytes; parts = refl; none = none_empty; begins = begins_empty; fits = omega arith; short = le }

-- where a look found no whole reply, nothing changed, and one was begun at each place
pub waits_as_before : (old new : Buffer) (answer : Read (Unit {0})) → Looks old.unread (Ok answer) → Moves (Ok answer) old new → ((x : Unit {0}) (len : ℕ) → answer ≢ Whole x len) → new ≡ old
waits_as_before old new (Whole x len) l m n = absurd (n x len refl)
waits_as_before old new (WantsLiteral count) l m n = m
waits_as_before old new Partial l m n = m

pub begun_by : (bytes : List ℕ) (answer : Read (Unit {0})) → Looks bytes (Ok answer) → Begun bytes (Ok answer) → ((x : Unit {0}) (len : ℕ) → answer ≢ Whole x len)
    → NoneWhole bytes × BeginsAtPlaces bytes
begun_by bytes (Whole x len) l b n = absurd (n x len refl)
begun_by bytes (WantsLiteral count) l b n = absurd l
begun_by bytes Partial l b n = (l, b)

-- a piece came where a look found no whole reply
pub late_more : (most : ℕ) (bytes now piece : List ℕ) → now ≡ bytes ++ piece → length piece ≤ 4096 → NoneWhole bytes → BeginsAtPlaces bytes → OneMore (max 4096 most) now
late_more most bytes now piece e short none begins =
    record { begun = bytes; piece = piece; parts = e; none = none; begins = begins; fits = fits_at_places bytes begins; short = omega (arith, short) }

-- what is held stays the same where a reply is read
pub held_reads : (len : ℕ) (b new : Buffer) → new ≡ reads len b → held_in new ≡ held_in b
held_reads len b new e = ap held_in e ∙ append_assoc b.read (take len b.unread) (drop len b.unread) ∙ ap (λ (l : List ℕ). b.read ++ l) (take-append-drop len b.unread)

pub after_now : (front : List ℕ) (most : ℕ) (b new : Buffer) → held_in new ≡ held_in b → b.read ≡ front → OneMore most b.unread → Following front most (held_in new)
after_now front most b new same e o = record { more = b.unread; parts = same ∙ ap (λ (l : List ℕ). l ++ b.unread) e; late = o }

-- where a whole reply was read, only what came with its end is left
pub after_short : (most : ℕ) (bytes : List ℕ) (len : ℕ) → OneMore most bytes → IsWhole bytes len → length (drop len bytes) ≤ most
after_short most bytes len o b =
    elim (cases_lt (length o.begun) len) [
      | inl lt ↦ (let e = ap length o.parts in let s = o.short in let w = b.within in omega (arith, e, s, w, lt, length-append o.begun o.piece, length-drop len bytes))
      | inr le ↦
          let front : take len bytes ≡ take len o.begun = ap (take len) o.parts ∙ take-append-le len o.begun o.piece le in
          absurd (o.none b.reply (take len bytes) (drop len o.begun) b.spells.spelled b.spells.fits (sym (take-append-drop len o.begun) ∙ ap (λ (l : List ℕ). l ++ drop len o.begun) (sym front)))
    ]

-- ---- replies that are kept, and one more

read_if : (uses : Uses) (b : Bool) (r : Reply) (rs : List Reply) → is_used uses r ≡ b → AreRead uses rs → AreRead uses (if b then r ∷ rs else rs)
read_if uses true r rs e h = (e, h)
read_if uses false r rs e h = h

filter_read : (uses : Uses) (rs : List Reply) → AreRead uses (filter (is_used uses) rs)
filter_read uses [] = tt
filter_read uses (r ∷ rs) = read_if uses (is_used uses r) r (filter (is_used uses) rs) refl (filter_read uses rs)

pub bounded_by : (uses : Uses) (most : ℕ) (heard : Buffer) (rs : List Reply) (kept : List ℕ) → AreReplies (filter (is_used uses) rs) kept → Following kept most (held_in heard) → IsBounded uses most heard
bounded_by uses most heard rs kept a b = record { replies = filter (is_used uses) rs; read = filter_read uses rs; kept = kept; spelled = a; late = b }

-- nothing was heard since all that was read was forgotten
pub bounded_forgotten : (uses : Uses) (before heard : Buffer) → heard ≡ record { read = []; unread = before.unread } → IsBounded uses (max 4096 (length before.unread)) heard
bounded_forgotten uses before heard e =
    let most = max 4096 (length before.unread) in
    subst (IsBounded uses most) (sym e)
    (bounded_by uses most (record { read = []; unread = before.unread }) [] [] refl (record { more = before.unread; parts = refl; late = first_more most before.unread (omega arith) }))

-- ---- while replies are heard

after_may : (front : List ℕ) (a b : ℕ) (bytes : List ℕ) → a ≤ b → Following front a bytes → Following front b bytes
after_may front a b bytes le d = record { more = d.more; parts = d.parts; late = more_may a b d.more le d.late }

pub bounded_on : (uses : Uses) (most : ℕ) (before heard : Buffer) (rs : List Reply) → length before.unread ≤ max 4096 most → AreReplies (filter (is_used uses) rs) before.read
    → Following before.read (max 4096 (length before.unread)) (held_in heard) → IsBounded uses (max 4096 most) heard
bounded_on uses most before heard rs short a b =
    bounded_by uses (max 4096 most) heard rs before.read a (after_may before.read (max 4096 (length before.unread)) (max 4096 most) (held_in heard) (omega (arith, short)) b)

-- what is left after a whole reply
unread_short : (most : ℕ) (old : List ℕ) (b : Buffer) (len : ℕ) (G : List ℕ → Type 0) → WholeRead len G old b.read → Following old most (held_in b) → length b.unread ≤ most
unread_short most old b len G w d =
    let same : w.text ++ b.unread ≡ d.more =
    sym (drop-appended old (held_in b) (w.text ++ b.unread) (ap (λ (l : List ℕ). l ++ b.unread) w.read ∙ append_assoc old w.text b.unread)) ∙ drop-appended old (held_in b) d.more d.parts in
    let whole : IsWhole d.more (length w.text) =
    subst (λ (l : List ℕ). IsWhole l (length w.text)) same (record {
      reply = w.reply;
      within = omega (arith, length-append w.text b.unread);
      spells = subst (Spells w.reply) (sym (take-append_seam w.text b.unread)) w.spells;
    }) in
    subst (λ (l : List ℕ). length l ≤ most) (drop-appended w.text d.more b.unread (sym same)) (after_short most d.more (length w.text) d.late whole)

pub left_short : (most : ℕ) (before heard now : Buffer) (len : ℕ) (G : List ℕ → Type 0) → length before.unread ≤ max 4096 most → WholeRead len G before.read heard.read
    → Following before.read (max 4096 (length before.unread)) (held_in heard) → now.unread ≡ heard.unread → length now.unread ≤ max 4096 most
left_short most before heard now len G short w b same =
    let some = unread_short (max 4096 (length before.unread)) before.read heard len G w b in
    let e = ap length same in
    omega (arith, short, some, e)

-- nothing whole was read
pub bounded_still : (uses : Uses) (most : ℕ) (heard : Buffer) (rs : List Reply) → length heard.unread ≤ max 4096 most → AreReplies (filter (is_used uses) rs) heard.read → IsBounded uses (max 4096 most) heard
bounded_still uses most heard rs short a =
    bounded_by uses (max 4096 most) heard rs heard.read a (after_now heard.read (max 4096 most) heard heard refl refl (first_more (max 4096 most) heard.unread short))
