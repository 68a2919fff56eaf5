-- What follows the words of commands, as parts of their grammar.
use Rattle.std.proofs.Common.{◌≡◌, ℕ, Bool, true, false, eqb, ◌||◌, List, [], ◌∷◌, Result, refl, inl, inr}
use Rattle.wire_reader.specs.declared.side.Speaker.TheVariants.{Commands}
use Rattle.wire_reader.specs.declared.stop.Stop.{Stop}
use Rattle.wire_reader.specs.Spelling.{◌⨾◌, Is, Word, crlf}
use Rattle.wire_reader.specs.Filled.{FilledLiteral}
use Rattle.wire_reader.specs.Reading.{both, skip, keep, byte_at, crlf_at}
use Rattle.wire_reader.proofs.Reader.{Closed, Open}
use Rattle.wire_reader.proofs.Words.{Among}
use Rattle.wire_reader.proofs.Parts.{after_closed}
use Rattle.wire_reader.proofs.Follow.{starts_byte, starts_seq, after}
use Rattle.wire_reader.proofs.Part.{Part, same_part, mapped_part, skip_part, keep_part, both_part, byte_part, crlf_part}
use Rattle.wire_reader.proofs.PartWords.{IsKeyword, keys_part}
use Rattle.wire_reader.proofs.PartFilled.{filled_literal_part}
use Rattle.wire_tokens.specs.Atoms.{is_atom_byte}
use Rattle.wire_strings.specs.Quotes.{QuotedText}
use Rattle.wire_tokens.specs.Names.{NamesText}
use Rattle.wire_tokens.specs.FlagLists.{FlagsText}
use Rattle.wire_tokens.specs.Sets.{is_set_byte, SetText}
use Rattle.wire_tokens.specs.declared.uid_set.SetItem.{SetItem}
use Rattle.wire_strings.proofs.QuoteParts.{quoted_part}
use Rattle.wire_strings.proofs.StringParts.{value_part}
use Rattle.wire_tokens.proofs.NameParts.{names_part}
use Rattle.wire_tokens.proofs.FlagParts.{flags_part}
use Rattle.wire_tokens.proofs.SetParts.{set_part}
use Rattle.imap_commands.specs.declared.verb.Verb.{Verb}
use Rattle.imap_commands.specs.declared.verb.Verb.TheVariants as verbs
use Rattle.imap_commands.specs.declared.command.FetchItems.{FetchItems}
use Rattle.imap_commands.specs.declared.command.FetchItems.TheVariants as items
use Rattle.imap_commands.specs.declared.command.StoreMode.{StoreMode}
use Rattle.imap_commands.specs.declared.command.StoreMode.TheVariants as modes
use Rattle.imap_commands.specs.declared.command.Request.{Request}
use Rattle.imap_commands.specs.declared.command.Request.TheVariants as requests
use Rattle.imap_commands.specs.Requests.{verb_of, items_word, mode_word, space, AString, RequestText}
use Rattle.imap_commands.specs.RequestReaders.{items_at, mode_at, login_at, enable_at, list_at, create_at, select_at, append_at, fetch_at, store_at, expunge_at, request_at}

-- the requests of this word, as what follows it
abbrev pub Following : Verb → Request → List ℕ → Type 0
Following k r t = (verb_of r ≡ k) × RequestText r t

-- ---- line ends and spaces

module _ {A : Type 0} {L : A → List ℕ → Type 0} {r : List ℕ → Result (A × List ℕ) Stop} where
  -- a part after a space
  spaced : Part Commands true Closed L r → Part Commands true Closed (λ a. Is space ⨾ L a) (skip (byte_at 32) r)
  spaced p = skip_part (byte_part 32 refl) p (after_closed r)

  -- the last part of a line: one that ends by itself, and a token of a class
  line : Part Commands true Closed L r → Part Commands true Closed (λ a. L a ⨾ Is crlf) (keep r crlf_at)
  line p = keep_part p crlf_part (after_closed crlf_at)

  token_line : (g : ℕ → Bool) → g 13 ≡ false → Part Commands true (Open g) L r → Part Commands true Closed (λ a. L a ⨾ Is crlf) (keep r crlf_at)
  token_line g lacks p = keep_part p crlf_part (after g 13 lacks (starts_seq _ (starts_byte 13)))

-- a token of a class, and a part after a space
module _ {A B : Type 0} {L : A → List ℕ → Type 0} {M : B → List ℕ → Type 0} {r : List ℕ → Result (A × List ℕ) Stop} {s : List ℕ → Result (B × List ℕ) Stop} where
  then_spaced : (g : ℕ → Bool) → g 32 ≡ false → Part Commands true (Open g) L r → Part Commands true Closed M s → Part Commands true Closed (λ v. L v.0 ⨾ Is space ⨾ M v.1) (both r (skip (byte_at 32) s))
  then_spaced g lacks p q = both_part p (spaced q) (after g 32 lacks (starts_seq _ (starts_byte 32)))

-- ---- words

items_keywords : (k : FetchItems) → IsKeyword (items_word k)
items_keywords items.Listing = (refl, refl)
items_keywords items.Body = (refl, refl)
items_keywords items.Head = (refl, refl)

each_items : (k : FetchItems) → Among items_word (λ v. (items_keywords v).0) items.Listing (items.Body ∷ items.Head ∷ []) k
each_items items.Listing = inl refl
each_items items.Body = inr (inl refl)
each_items items.Head = inr (inr refl)

items_part : Part Commands true Closed (λ k t. Word (items_word k) t) items_at
items_part = same_part (λ k t h. h.1) (λ k t h. (each_items k, h)) (keys_part items_word items_keywords items.Listing (items.Body ∷ items.Head ∷ []) refl)

mode_keywords : (k : StoreMode) → IsKeyword (mode_word k)
mode_keywords modes.Add = (refl, refl)
mode_keywords modes.Remove = (refl, refl)

each_mode : (k : StoreMode) → Among mode_word (λ v. (mode_keywords v).0) modes.Add (modes.Remove ∷ []) k
each_mode modes.Add = inl refl
each_mode modes.Remove = inr refl

mode_part : Part Commands true Closed (λ k t. Word (mode_word k) t) mode_at
mode_part = same_part (λ k t h. h.1) (λ k t h. (each_mode k, h)) (keys_part mode_word mode_keywords modes.Add (modes.Remove ∷ []) refl)

-- ---- the arguments of a request of each word

capability_from : (r : Request) (t : List ℕ) → Following verbs.Capability r t → (u : Unit {0}) × (r ≡ requests.Capability) × Is crlf t
capability_from requests.Capability t h = (tt, refl, h.1)
capability_from _ t h = absurd (let e = h.0 in cc)

noop_from : (r : Request) (t : List ℕ) → Following verbs.Noop r t → (u : Unit {0}) × (r ≡ requests.Noop) × Is crlf t
noop_from requests.Noop t h = (tt, refl, h.1)
noop_from _ t h = absurd (let e = h.0 in cc)

logout_from : (r : Request) (t : List ℕ) → Following verbs.Logout r t → (u : Unit {0}) × (r ≡ requests.Logout) × Is crlf t
logout_from requests.Logout t h = (tt, refl, h.1)
logout_from _ t h = absurd (let e = h.0 in cc)

login_from : (r : Request) (t : List ℕ) → Following verbs.Login r t → (v : List ℕ × List ℕ) × (r ≡ requests.Login v.0 v.1) × (AString v.0 ⨾ Is space ⨾ AString v.1 ⨾ Is crlf) t
login_from (requests.Login user password) t h = ((user, password), refl, h.1)
login_from _ t h = absurd (let e = h.0 in cc)

enable_from : (r : Request) (t : List ℕ) → Following verbs.Enable r t → (names : List (List ℕ)) × (r ≡ requests.Enable names) × (NamesText names ⨾ Is crlf) t
enable_from (requests.Enable names) t h = (names, refl, h.1)
enable_from _ t h = absurd (let e = h.0 in cc)

list_from : (r : Request) (t : List ℕ) → Following verbs.List r t → (pattern : List ℕ) × (r ≡ requests.List pattern) × (QuotedText pattern ⨾ Is crlf) t
list_from (requests.List pattern) t h = (pattern, refl, h.1)
list_from _ t h = absurd (let e = h.0 in cc)

create_from : (r : Request) (t : List ℕ) → Following verbs.Create r t → (mailbox : List ℕ) × (r ≡ requests.Create mailbox) × (AString mailbox ⨾ Is crlf) t
create_from (requests.Create mailbox) t h = (mailbox, refl, h.1)
create_from _ t h = absurd (let e = h.0 in cc)

select_from : (r : Request) (t : List ℕ) → Following verbs.Select r t → (mailbox : List ℕ) × (r ≡ requests.Select mailbox) × (AString mailbox ⨾ Is crlf) t
select_from (requests.Select mailbox) t h = (mailbox, refl, h.1)
select_from _ t h = absurd (let e = h.0 in cc)

append_from : (r : Request) (t : List ℕ) → Following verbs.Append r t → (v : List ℕ × (List (List ℕ) × List ℕ)) × (r ≡ requests.Append v.0 v.1.0 v.1.1) × (AString v.0 ⨾ Is space ⨾ FlagsText v.1.0 ⨾ Is space ⨾ FilledLiteral Commands v.1.1 ⨾ Is crlf) t
append_from (requests.Append mailbox flags message) t h = ((mailbox, (flags, message)), refl, h.1)
append_from _ t h = absurd (let e = h.0 in cc)

fetch_from : (r : Request) (t : List ℕ) → Following verbs.Fetch r t → (v : List SetItem × FetchItems) × (r ≡ requests.Fetch v.0 v.1) × (SetText v.0 ⨾ Is space ⨾ Word (items_word v.1) ⨾ Is crlf) t
fetch_from (requests.Fetch set what) t h = ((set, what), refl, h.1)
fetch_from _ t h = absurd (let e = h.0 in cc)

store_from : (r : Request) (t : List ℕ) → Following verbs.Store r t → (v : List SetItem × (StoreMode × List (List ℕ))) × (r ≡ requests.Store v.0 v.1.0 v.1.1) × (SetText v.0 ⨾ Is space ⨾ Word (mode_word v.1.0) ⨾ FlagsText v.1.1 ⨾ Is crlf) t
store_from (requests.Store set mode flags) t h = ((set, (mode, flags)), refl, h.1)
store_from _ t h = absurd (let e = h.0 in cc)

expunge_from : (r : Request) (t : List ℕ) → Following verbs.Expunge r t → (set : List SetItem) × (r ≡ requests.Expunge set) × (SetText set ⨾ Is crlf) t
expunge_from (requests.Expunge set) t h = (set, refl, h.1)
expunge_from _ t h = absurd (let e = h.0 in cc)

-- ---- the requests of each word

login_part : Part Commands true Closed (Following verbs.Login) login_at
unfolding login_at
login_part = mapped_part (λ v. requests.Login v.0 v.1) (λ v t h. (refl, h)) login_from
    (then_spaced is_atom_byte refl value_part (token_line is_atom_byte refl value_part))

enable_part : Part Commands true Closed (Following verbs.Enable) enable_at
unfolding enable_at
enable_part = mapped_part (λ names. requests.Enable names) (λ names t h. (refl, h)) enable_from (token_line (λ b. is_atom_byte b || eqb b 32) refl names_part)

list_part : Part Commands true Closed (Following verbs.List) list_at
unfolding list_at
list_part = mapped_part (λ pattern. requests.List pattern) (λ pattern t h. (refl, h)) list_from (line quoted_part)

create_part : Part Commands true Closed (Following verbs.Create) create_at
unfolding create_at
create_part = mapped_part (λ mailbox. requests.Create mailbox) (λ mailbox t h. (refl, h)) create_from (token_line is_atom_byte refl value_part)

select_part : Part Commands true Closed (Following verbs.Select) select_at
unfolding select_at
select_part = mapped_part (λ mailbox. requests.Select mailbox) (λ mailbox t h. (refl, h)) select_from (token_line is_atom_byte refl value_part)

append_part : Part Commands true Closed (Following verbs.Append) append_at
unfolding append_at
append_part =
    let message = spaced (token_line (λ _. false) refl (filled_literal_part Commands)) in
    mapped_part (λ v. requests.Append v.0 v.1.0 v.1.1) (λ v t h. (refl, h)) append_from
    (then_spaced is_atom_byte refl value_part (both_part flags_part message (after_closed _)))

fetch_part : Part Commands true Closed (Following verbs.Fetch) fetch_at
unfolding fetch_at
fetch_part = mapped_part (λ v. requests.Fetch v.0 v.1) (λ v t h. (refl, h)) fetch_from (then_spaced is_set_byte refl set_part (line items_part))

store_part : Part Commands true Closed (Following verbs.Store) store_at
unfolding store_at
store_part =
    mapped_part (λ v. requests.Store v.0 v.1.0 v.1.1) (λ v t h. (refl, h)) store_from
    (then_spaced is_set_byte refl set_part (both_part mode_part (line flags_part) (after_closed _)))

expunge_part : Part Commands true Closed (Following verbs.Expunge) expunge_at
unfolding expunge_at
expunge_part = mapped_part (λ set. requests.Expunge set) (λ set t h. (refl, h)) expunge_from (token_line is_set_byte refl set_part)

pub request_part : (k : Verb) → Part Commands true Closed (Following k) (request_at k)
request_part verbs.Capability = mapped_part (λ _. requests.Capability) (λ _ t h. (refl, h)) capability_from crlf_part
request_part verbs.Noop = mapped_part (λ _. requests.Noop) (λ _ t h. (refl, h)) noop_from crlf_part
request_part verbs.Logout = mapped_part (λ _. requests.Logout) (λ _ t h. (refl, h)) logout_from crlf_part
request_part verbs.Login = login_part
request_part verbs.Enable = enable_part
request_part verbs.List = list_part
request_part verbs.Create = create_part
request_part verbs.Select = select_part
request_part verbs.Append = append_part
request_part verbs.Fetch = fetch_part
request_part verbs.Store = store_part
request_part verbs.Expunge = expunge_part
