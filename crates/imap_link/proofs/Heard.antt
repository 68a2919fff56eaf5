-- One reply that was read.
use Rattle.std.proofs.Common.{◌≡◌, ℕ, ◌-◌, List, ◌++◌, refl, sym, ◌∙◌, ap, subst, arith, append_assoc, length, take, drop, take-append-drop, length-append}
use Rattle.std.proofs.lemmas.List.{length-take, take_all}
use Rattle.std.proofs.Transfers.{drop-appended}
use Rattle.wire_reader.specs.declared.answer.WireFault.{WireFault}
use Rattle.imap_replies.specs.declared.reply.Reply.{Reply}
use Rattle.imap_session.specs.Lines.{Line}
use Rattle.imap_session.specs.Ends.{Ends, ends_of}
use Rattle.imap_link.specs.ReplyBuffers.{Buffer, reads}
use Rattle.imap_link.specs.Fronts.{Spells, IsWhole}
use Rattle.imap_link.specs.Buffers.{WholeRead, GoesOn, Keeps}

module _ (honest : Type 0) (first : Ends) (line : Line) (old : List ℕ) (b new : Buffer) (len : ℕ) where
  pub whole_read : IsWhole b.unread len → new ≡ reads len b → b.read ≡ old → (honest → Keeps first (ends_of line b.unread)) → WholeRead len (λ text. honest → GoesOn first (ends_of line new.unread) text) old new.read
  whole_read w moved same keeps = record {
    reply = w.reply;
    text = take len b.unread;
    spells = w.spells;
    long = (let h = w.within in omega (arith, h, length-take len b.unread));
    read = ap (λ (x : Buffer). x.read) moved ∙ ap (λ (l : List ℕ). l ++ take len b.unread) same;
    goes = λ h. record {
      stays = (keeps h).stays;
      coming =
          sym (keeps h).coming ∙ ap (λ (l : List ℕ). l ++ line.unseen) (sym (take-append-drop len b.unread)) ∙ append_assoc (take len b.unread) (drop len b.unread) line.unseen
          ∙ ap (λ (x : Buffer). take len b.unread ++ (x.unread ++ line.unseen)) (sym moved);
    };
  }

-- the text of a reply that was read last
pub last_text : (old text read : List ℕ) (len : ℕ) → read ≡ old ++ text → length text ≡ len → drop (length read - len) read ≡ text
last_text old text read len e long =
    let size : length read - len ≡ length old = (let s = ap length e in omega (arith, s, long, length-append old text)) in
    ap (λ (n : ℕ). drop n read) size ∙ ap (drop (length old)) e ∙ drop-appended old (old ++ text) text refl

pub last_whole : (len : ℕ) (G : List ℕ → Type 0) (old read : List ℕ) → WholeRead len G old read → IsWhole (drop (length read - len) read) len
last_whole len G old read w =
    let same = last_text old w.text read len w.read w.long in
    subst (λ (l : List ℕ). IsWhole l len) (sym same) (record {
      reply = w.reply;
      within = (let e = w.long in omega (arith, e));
      spells = subst (Spells w.reply) (sym (take_all len w.text (let e = w.long in omega (arith, e)))) w.spells;
    })

-- it is the one that is read again
pub last_is : (len : ℕ) (G : List ℕ → Type 0) (old read : List ℕ) (w : WholeRead len G old read) (reply : Reply) → ((r : Reply) → Spells r (drop (length read - len) read) → reply ≡ r) → reply ≡ w.reply
last_is len G old read w reply same = same w.reply (subst (Spells w.reply) (sym (last_text old w.text read len w.read w.long)) w.spells)
