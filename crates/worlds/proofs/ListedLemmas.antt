-- What is listed of the lines of a mailbox and of waiting files, and one line more.
use Rattle.std.proofs.Common.{◌≡◌, ℕ, ◌+◌, List, [], ◌∷◌, ◌++◌, refl, sym, ap, ◌∙◌, append_assoc, append-nil, length, length-append, arith}
use Rattle.std.specs.Prelude.{Bool, codes, decimal, map}
use Rattle.std.specs.List.{flat_map, join_with_byte, range_with_len}
use Rattle.std.proofs.lemmas.List.{map-append}
use Rattle.mailcore.specs.declared.listing.Item.{Item}
use Rattle.mailcore.specs.declared.listing.Listing.{Listing}
use Rattle.mailcore.specs.declared.mailbox.Message.{Message}
use Rattle.mailcore.specs.declared.side.Side.{Side}
use Rattle.mailcore.specs.declared.side.Side.TheVariants.{Far, Near}
use Rattle.mailcore.specs.Content.{fit}
use Rattle.mailcore.specs.Listed.{item_of}
use Rattle.mailcore.specs.Stores.{Store, Waiting, numbered}
use Rattle.mailcore.specs.Words.{side_word}
use Rattle.rules.specs.Admission.{numbered_under}
use Rattle.rules.specs.World.{World}
use Rattle.texts.specs.Lines.{IsLine}
use Rattle.worlds.specs.declared.listed.ListedWorld.{ListedWorld}
use Rattle.worlds.specs.Admission.{item_under}
use Rattle.worlds.specs.OptionsText.{IsHead}
use Rattle.worlds.specs.ListedWorlds.{ListsFiles, ListsMailbox, ListsMailboxes, ListsWorld}
use Rattle.worlds.specs.WorldText.{line_of, mailbox_text, message_line, message_word, message_words, state_text, text_from_far, waiting_line, waiting_words}
use Rattle.worlds.proofs.TextLemmas.{line_with, one_more, world_begins, world_ends}

abbrev pub store_with : (validity next : ℕ) → List Message → Store
store_with validity next messages = record { validity = validity; next = next; messages = messages }

-- ---- a mailbox

-- the lines so far of a mailbox, with the messages that are listed
pub record ListsSoFar (side : Side) (validity next : ℕ) (whole rest : List ℕ) (listed : List Item) : Type 0 where
  pub messages : List Message
  pub text : whole ≡ mailbox_text side (store_with validity next messages) ++ rest
  pub items : listed ≡ map (item_of side) messages

pub lists_begin : (side : Side) (validity next : ℕ) (start line following text : List ℕ) (items : List Item) → start ≡ side_word side ++ 32 ∷ [] → IsLine start line following text
    → line ≡ decimal validity ++ 32 ∷ decimal next → items ≡ [] → ListsSoFar side validity next text following items
lists_begin side validity next start line following text items begins is words none = record {
  messages = [];
  text = line_with (side_word side) (decimal validity ++ 32 ∷ decimal next) start line following text begins is words
      ∙ ap (λ (l : List ℕ). l ++ following) (sym (append-nil (line_of (side_word side ∷ decimal validity ∷ decimal next ∷ []))));
  items = none;
}

pub lists_more : (side : Side) (validity next : ℕ) (old new : List Item) (i : Item) (bytes start line following rest whole : List ℕ) → start ≡ message_word side ++ 32 ∷ []
    → IsLine start line following rest → line ≡ join_with_byte 32 (message_words (record { uid = i.uid; flags = i.flags; bytes = bytes })) → i.fit ≡ fit side bytes
    → new ≡ old ++ i ∷ [] → ListsSoFar side validity next whole rest old → ListsSoFar side validity next whole following new
lists_more side validity next old new i bytes start line following rest whole begins is words fits more so_far =
    let m : Message = record { uid = i.uid; flags = i.flags; bytes = bytes } in
    let item : i ≡ item_of side m = ap (λ (f : Bool). let x : Item = record { uid = i.uid; flags = i.flags; fit = f } in x) fits in
    record {
      messages = so_far.messages ++ m ∷ [];
      text = one_more (message_line side) (line_of (side_word side ∷ decimal validity ∷ decimal next ∷ [])) so_far.messages (so_far.messages ++ m ∷ []) m whole rest following
          so_far.text (line_with (message_word side) (join_with_byte 32 (message_words m)) start line following rest begins is words) refl;
      items = more ∙ ap (λ (xs : List Item). xs ++ i ∷ []) so_far.items ∙ ap (λ (x : Item). map (item_of side) so_far.messages ++ x ∷ []) item
          ∙ sym (map-append (item_of side) so_far.messages (m ∷ []));
    }

pub lists_end : (side : Side) (validity next : ℕ) (text rest : List ℕ) (items : List Item) → ListsSoFar side validity next text rest items
    → ListsMailbox side text rest (record { validity = validity; next = next; items = items })
lists_end side validity next text rest items so_far = record {
  store = store_with validity next so_far.messages;
  text = so_far.text;
  shows = record { validity = refl; next = refl; items = so_far.items };
}

-- ---- waiting files

pub files_begin : (near : Listing) (text : List ℕ) → ListsFiles text text near near
files_begin near text = record { files = []; text = refl; validity = refl; next = omega arith; items = sym (append-nil near.items) }

-- one file more has the next UID
numbered_more : (next : ℕ) (fs : List Waiting) (f : Waiting) → numbered next (fs ++ f ∷ []) ≡ numbered next fs ++ record { uid = next + length fs; flags = f.flags; bytes = f.bytes } ∷ []
numbered_more next [] f = ap (λ (u : ℕ). let m : Message = record { uid = u; flags = f.flags; bytes = f.bytes } in m ∷ []) (let e : next ≡ next + 0 = omega arith in e)
numbered_more next (g ∷ fs) f =
    let first : Message = record { uid = next; flags = g.flags; bytes = g.bytes } in
    ap (λ (ms : List Message). first ∷ ms) (numbered_more (next + 1) fs f)
    ∙ ap (λ (u : ℕ). let m : Message = record { uid = u; flags = f.flags; bytes = f.bytes } in first ∷ (numbered (next + 1) fs ++ m ∷ []))
    (let e : next + 1 + length fs ≡ next + length (g ∷ fs) = omega arith in e)

pub files_listed : (begun old new : Listing) (flags : ℕ) (fits : Bool) (bytes line following rest whole : List ℕ) → IsLine (codes "w ") line following rest
    → line ≡ join_with_byte 32 (waiting_words (record { flags = flags; bytes = bytes })) → fits ≡ fit Near bytes
    → new.items ≡ old.items ++ item_under old.next flags fits ∷ [] → new.next ≡ old.next + 1 → new.validity ≡ old.validity
    → ListsFiles whole rest begun old → ListsFiles whole following begun new
files_listed begun old new flags fits bytes line following rest whole is words same more after validity so_far =
    let f : Waiting = record { flags = flags; bytes = bytes } in
    let fs : List Waiting = so_far.files in
    let m : Message = record { uid = begun.next + length fs; flags = flags; bytes = bytes } in
    let item : item_under old.next flags fits ≡ item_of Near m = ap (λ (u : ℕ). item_under u flags fits) so_far.next ∙ ap (λ (b : Bool). item_under (begun.next + length fs) flags b) same in
    let longer : length (fs ++ f ∷ []) ≡ length fs + 1 = length-append fs (f ∷ []) in
    record {
      files = fs ++ f ∷ [];
      text = one_more waiting_line [] fs (fs ++ f ∷ []) f whole rest following so_far.text
          (line_with (codes "w") (join_with_byte 32 (waiting_words f)) (codes "w ") line following rest refl is words) refl;
      validity = validity ∙ so_far.validity;
      next = after ∙ ap (λ (n : ℕ). n + 1) so_far.next ∙ (let e : begun.next + length fs + 1 ≡ begun.next + (length fs + 1) = omega arith in e) ∙ ap (λ (n : ℕ). begun.next + n) (sym longer);
      items = more ∙ ap (λ (xs : List Item). xs ++ item_under old.next flags fits ∷ []) so_far.items
          ∙ append_assoc begun.items (map (item_of Near) (numbered begun.next fs)) (item_under old.next flags fits ∷ [])
          ∙ ap (λ (x : Item). begun.items ++ (map (item_of Near) (numbered begun.next fs) ++ x ∷ [])) item
          ∙ ap (λ (xs : List Item). begun.items ++ xs) (sym (map-append (item_of Near) (numbered begun.next fs) (m ∷ [])) ∙ ap (λ (ms : List Message). map (item_of Near) ms) (sym (numbered_more begun.next fs f)));
    }

-- ---- both mailboxes

pub listings_end : (first second third rest : List ℕ) (far near admitted_near : Listing) → ListsMailbox Far first second far → ListsMailbox Near second third near → ListsFiles third rest near admitted_near
    → ListsMailboxes first rest far admitted_near
listings_end first second third rest far near after f n w = record {
  far_store = f.store;
  near_store = n.store;
  waiting = w.files;
  text = f.text ∙ ap (λ (l : List ℕ). mailbox_text Far f.store ++ l) (n.text ∙ ap (λ (l : List ℕ). mailbox_text Near n.store ++ l) w.text);
  shows = f.shows;
  validity = w.validity ∙ n.shows.validity;
  next = w.next ∙ ap (λ (k : ℕ). k + length w.files) n.shows.next;
  items = w.items
      ∙ ap (λ (xs : List Item). xs ++ map (item_of Near) (numbered near.next w.files)) n.shows.items
      ∙ ap (λ (k : ℕ). map (item_of Near) n.store.messages ++ map (item_of Near) (numbered k w.files)) n.shows.next
      ∙ sym (map-append (item_of Near) n.store.messages (numbered n.store.next w.files));
}

-- ---- the whole

-- the next UIDs, one after another
numbered_in_range : (next : ℕ) (fs : List Waiting) → numbered_under (range_with_len next (length fs)) fs ≡ numbered next fs
numbered_in_range next [] = refl
numbered_in_range next (f ∷ fs) = ap (λ (ms : List Message). let m : Message = record { uid = next; flags = f.flags; bytes = f.bytes } in m ∷ ms) (numbered_in_range (next + 1) fs)

pub lists_world : (listed : ListedWorld) (first second third last text : List ℕ) → IsHead listed.options first text → ListsMailboxes first second listed.far listed.near
    → second ≡ state_text listed.state ++ third → third ≡ line_of (codes "end" ∷ []) ++ last → last ≡ [] → ListsWorld listed text
lists_world listed first second third last text head boxes recorded ends none =
    let w : World = record { far = boxes.far_store; near = boxes.near_store; waiting = boxes.waiting; state = listed.state } in
    record {
      world = w;
      text = world_ends listed.options (text_from_far w) last text
          (world_begins listed.options (mailbox_text Far w.far) (mailbox_text Near w.near) (flat_map waiting_line w.waiting) (state_text w.state) (line_of (codes "end" ∷ []))
          first second third last text head boxes.text recorded ends) none;
      far = boxes.shows;
      near = record {
        validity = boxes.validity;
        next = boxes.next;
        items = boxes.items ∙ ap (λ (ms : List Message). map (item_of Near) (w.near.messages ++ ms)) (sym (numbered_in_range w.near.next w.waiting));
      };
      state = refl;
    }
