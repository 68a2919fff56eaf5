-- Texts of lines, and one line more.
use Rattle.std.proofs.Common.{◌≡◌, ℕ, List, [], ◌∷◌, ◌++◌, refl, sym, ap, subst, ◌∙◌, append_assoc, append-nil}
use Rattle.std.specs.Prelude.{codes, decimal, map}
use Rattle.std.specs.List.{flat_map, join_with_byte}
use Rattle.std.proofs.lemmas.List.{map-append}
use Rattle.mailcore.specs.declared.mailbox.StoredMailbox.{StoredMailbox}
use Rattle.mailcore.specs.declared.mailbox.Message.{Message}
use Rattle.mailcore.specs.declared.side.Side.{Side}
use Rattle.mailcore.specs.Words.{side_word}
use Rattle.rules.specs.declared.options.Options.{Options}
use Rattle.texts.specs.Lines.{IsLine}
use Rattle.worlds.specs.declared.world.WaitingFile.{WaitingFile}
use Rattle.worlds.specs.OptionsText.{IsHead}
use Rattle.worlds.specs.WorldText.{line_of, mailbox_text, message_line, message_word, message_words, waiting_line, waiting_words}
use Rattle.worlds.specs.Worlds.{store_of, waiting_of}

-- a line whose first word is known
pub line_with : (word words start line following text : List ℕ) → start ≡ word ++ 32 ∷ [] → IsLine start line following text → line ≡ words
    → text ≡ ((word ++ 32 ∷ words) ++ 10 ∷ []) ++ following
line_with word words start line following text begins is same =
    is.parts
    ∙ ap (λ (l : List ℕ). l ++ (line ++ 10 ∷ following)) begins
    ∙ ap (λ (l : List ℕ). (word ++ 32 ∷ []) ++ (l ++ 10 ∷ following)) same
    ∙ simp append_assoc

lines_more : {X : Type 0} (text_of : X → List ℕ) (old : List X) (x : X) (rest : List ℕ) → flat_map text_of old ++ (text_of x ++ rest) ≡ flat_map text_of (old ++ x ∷ []) ++ rest
lines_more text_of [] x rest = ap (λ (l : List ℕ). l ++ rest) (sym (append-nil (text_of x)))
lines_more text_of (y ∷ old) x rest =
    append_assoc (text_of y) (flat_map text_of old) (text_of x ++ rest)
    ∙ ap (λ (l : List ℕ). text_of y ++ l) (lines_more text_of old x rest)
    ∙ sym (append_assoc (text_of y) (flat_map text_of (old ++ x ∷ [])) rest)

-- a text of some lines, one for each of these, goes on with that of one more
pub one_more : {X : Type 0} (text_of : X → List ℕ) (front : List ℕ) (old new : List X) (x : X) (whole rest following : List ℕ) → whole ≡ (front ++ flat_map text_of old) ++ rest → rest ≡ text_of x ++ following
    → new ≡ old ++ x ∷ [] → whole ≡ (front ++ flat_map text_of new) ++ following
one_more {X} text_of front old new x whole rest following is next more =
    is
    ∙ append_assoc front (flat_map text_of old) rest
    ∙ ap (λ (l : List ℕ). front ++ l) (ap (λ (l : List ℕ). flat_map text_of old ++ l) next ∙ lines_more text_of old x following)
    ∙ sym (append_assoc front (flat_map text_of (old ++ x ∷ [])) following)
    ∙ ap (λ (xs : List X). (front ++ flat_map text_of xs) ++ following) (sym more)

-- ---- mailboxes

-- the line of a mailbox
pub mailbox_begins : (side : Side) (mailbox : StoredMailbox) (validity next : ℕ) (start line following text : List ℕ) → start ≡ side_word side ++ 32 ∷ [] → IsLine start line following text → line ≡ decimal validity ++ 32 ∷ decimal next
    → mailbox.validity ≡ validity → mailbox.next ≡ next → mailbox.messages ≡ [] → text ≡ mailbox_text side (store_of mailbox) ++ following
mailbox_begins side mailbox validity next start line following text begins is words v n none =
    line_with (side_word side) (decimal validity ++ 32 ∷ decimal next) start line following text begins is words
    ∙ ap (λ (l : List ℕ). l ++ following) (sym (append-nil (line_of (side_word side ∷ decimal validity ∷ decimal next ∷ []))))
    ∙ ap (λ (k : ℕ). mailbox_text side (record { validity = k; next = next; messages = [] }) ++ following) (sym v)
    ∙ ap (λ (k : ℕ). mailbox_text side (record { validity = mailbox.validity; next = k; messages = [] }) ++ following) (sym n)
    ∙ ap (λ (ms : List Message). mailbox_text side (record { validity = mailbox.validity; next = mailbox.next; messages = ms }) ++ following) (sym none)

-- the line of one message more
pub mailbox_more : (side : Side) (old new : StoredMailbox) (m : Message) (start line following rest whole : List ℕ) → start ≡ message_word side ++ 32 ∷ [] → IsLine start line following rest → line ≡ join_with_byte 32 (message_words m)
    → new.messages ≡ old.messages ++ m ∷ [] → new.validity ≡ old.validity → new.next ≡ old.next
    → whole ≡ mailbox_text side (store_of old) ++ rest → whole ≡ mailbox_text side (store_of new) ++ following
mailbox_more side old new m start line following rest whole begins is words more v n so_far =
    one_more (message_line side) (line_of (side_word side ∷ decimal old.validity ∷ decimal old.next ∷ [])) old.messages new.messages m whole rest following
    so_far (line_with (message_word side) (join_with_byte 32 (message_words m)) start line following rest begins is words) more
    ∙ ap (λ (k : ℕ). mailbox_text side (record { validity = k; next = old.next; messages = new.messages }) ++ following) (sym v)
    ∙ ap (λ (k : ℕ). mailbox_text side (record { validity = new.validity; next = k; messages = new.messages }) ++ following) (sym n)

-- the line of one waiting file more
pub files_more : (old new : List WaitingFile) (f : WaitingFile) (line following rest whole : List ℕ) → IsLine (codes "w ") line following rest → line ≡ join_with_byte 32 (waiting_words (waiting_of f))
    → new ≡ old ++ f ∷ [] → whole ≡ flat_map waiting_line (map waiting_of old) ++ rest → whole ≡ flat_map waiting_line (map waiting_of new) ++ following
files_more old new f line following rest whole is words more so_far =
    one_more waiting_line [] (map waiting_of old) (map waiting_of new) (waiting_of f) whole rest following so_far
    (line_with (codes "w") (join_with_byte 32 (waiting_words (waiting_of f))) (codes "w ") line following rest refl is words)
    (ap (λ (fs : List WaitingFile). map waiting_of fs) more ∙ map-append waiting_of old (f ∷ []))

-- ---- the whole

pub world_begins : (options : Options) (far near waits state end first second third last text : List ℕ) → IsHead options first text → first ≡ far ++ (near ++ (waits ++ second)) → second ≡ state ++ third → third ≡ end ++ last
    → IsHead options ((far ++ (near ++ (waits ++ (state ++ end)))) ++ last) text
world_begins options far near waits state end first second third last text head boxes recorded ends =
    let is : first ≡ (far ++ (near ++ (waits ++ (state ++ end)))) ++ last =
    boxes
    ∙ ap (λ (l : List ℕ). far ++ (near ++ (waits ++ l))) (recorded ∙ ap (λ (l : List ℕ). state ++ l) ends)
    ∙ simp append_assoc in
    subst (λ (l : List ℕ). IsHead options l text) is head

pub world_ends : (options : Options) (lines rest text : List ℕ) → IsHead options (lines ++ rest) text → rest ≡ [] → IsHead options lines text
world_ends options lines rest text head none =
    subst (λ (l : List ℕ). IsHead options l text) (ap (λ (l : List ℕ). lines ++ l) none ∙ append-nil lines) head
