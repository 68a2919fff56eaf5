-- The text of a request that is sent in one line completes its command.
use Rattle.std.proofs.Common.{◌≡◌, ◌≤◌, inl, inr, ℕ, Bool, true, false, List, [], ◌∷◌, refl, sym, ◌∙◌, ap, subst, arith, length}
use Rattle.std.specs.Prelude.{if◌then◌else◌}
use Rattle.std.specs.List.{list_all, flat_map}
use Rattle.std.proofs.lemmas.Bool.{and_parts, and_from}
use Rattle.std.proofs.lemmas.List.Folds.{list_all-append}
use Rattle.wire_reader.specs.declared.side.Speaker.TheVariants.{Commands}
use Rattle.wire_reader.specs.Spelling.{◌⨾◌, Is, is_digit}
use Rattle.wire_reader.proofs.Part.{Part}
use Rattle.wire_reader.proofs.Reader.{Open}
use Rattle.wire_tokens.specs.declared.uid_set.SetEnd.{SetEnd}
use Rattle.wire_tokens.specs.declared.uid_set.SetEnd.TheVariants.{Number as End, Greatest}
use Rattle.wire_tokens.specs.declared.uid_set.SetItem.{SetItem}
use Rattle.wire_tokens.specs.declared.uid_set.SetItem.TheVariants.{One, Range}
use Rattle.wire_tokens.specs.declared.spaced.NameKind.TheVariants as kinds
use Rattle.wire_tokens.specs.Atoms.{is_atom_byte, is_tag_byte, TagText}
use Rattle.wire_tokens.specs.Names.{NameText, NamesText}
use Rattle.wire_tokens.specs.FlagLists.{FlagsText, ListedText}
use Rattle.wire_tokens.specs.Sets.{EndText, ItemText, SetText}
use Rattle.wire_strings.specs.Texts.{is_text}
use Rattle.wire_strings.specs.Quotes.{escaped, is_special, QuotedText}
use Rattle.wire_strings.specs.Strings.{ValueText, StringBy, value_at}
use Rattle.wire_strings.proofs.StringParts.{value_part}
use Rattle.imap_commands.specs.declared.command.Command.{Command}
use Rattle.imap_commands.specs.declared.command.FetchItems.{FetchItems}
use Rattle.imap_commands.specs.declared.command.FetchItems.TheVariants as wanted
use Rattle.imap_commands.specs.declared.command.StoreMode.{StoreMode}
use Rattle.imap_commands.specs.declared.command.StoreMode.TheVariants as modes
use Rattle.imap_commands.specs.declared.command.Request.{Request}
use Rattle.imap_commands.specs.declared.command.Request.TheVariants as requests
use Rattle.imap_commands.specs.declared.verb.Verb.{Verb}
use Rattle.imap_commands.specs.declared.verb.Verb.TheVariants as verbs
use Rattle.imap_commands.specs.Verbs.{word_of}
use Rattle.imap_commands.specs.Requests.{space, verb_of, items_word, mode_word}
use Rattle.imap_commands.specs.Room.{most_after}
use Rattle.imap_commands.specs.Writing.{WrittenText, WrittenRequest, Written}
use Rattle.imap_commands.proofs.WrittenCommands.{written_spelled}
use Rattle.imap_commands.proofs.CommandsFit.{command_few}
use Rattle.imap_session.specs.SessionCommands.{REV2}
use Rattle.imap_link.specs.declared.uses.Uses.{Uses}
use Rattle.imap_link.specs.UsedReplies.{uses_of}
use Rattle.imap_link.specs.Exchanges.{Completes}
use Rattle.imap_client.specs.Requests.{IsPlain}
use Rattle.imap_client.proofs.Plain.{lacks, calm, no_return, IsCalm, IsLine, tame, tame_calm, class_tame, tame_then, tame_is, tame_items, bare_line, line_then, line_asks_none}

-- ---- tokens

pub tag_tame : (tag t : List ℕ) → TagText tag t → list_all tame t ≡ true
tag_tame tag t h = class_tame is_tag_byte refl refl t h.1.each

end_tame : (e : SetEnd) (t : List ℕ) → EndText e t → list_all tame t ≡ true
end_tame (End n) t h = class_tame is_digit refl refl t h.0.each
end_tame Greatest t h = tame_is (42 ∷ []) refl t h

item_tame : (i : SetItem) (t : List ℕ) → ItemText i t → list_all tame t ≡ true
item_tame (One x) t h = end_tame x t h
item_tame (Range x y) t h = tame_then (end_tame x) (tame_then (tame_is (58 ∷ []) refl) (end_tame y)) t h

set_tame : (set : List SetItem) (t : List ℕ) → SetText set t → list_all tame t ≡ true
set_tame set t h = tame_items ItemText item_tame 44 refl set t h

name_tame : (name t : List ℕ) → NameText kinds.Flag name t → list_all tame t ≡ true
name_tame name t (e, inl h) = ap (list_all tame) h.parts ∙ class_tame is_atom_byte refl refl h.atom h.is.each
name_tame name t (e, inr h) = class_tame is_atom_byte refl refl t h.each

listed_tame : (names : List (List ℕ)) (t : List ℕ) → ListedText kinds.Flag names t → list_all tame t ≡ true
listed_tame [] t h = ap (list_all tame) h
listed_tame (n ∷ names) t h = tame_items (NameText kinds.Flag) name_tame 32 refl (n ∷ names) t h

pub flags_tame : (names : List (List ℕ)) (t : List ℕ) → FlagsText names t → list_all tame t ≡ true
flags_tame names t h = tame_then (tame_is (40 ∷ []) refl) (tame_then (listed_tame names) (tame_is (41 ∷ []) refl)) t h

rev2_tame : (names : List (List ℕ)) (t : List ℕ) → names ≡ REV2 ∷ [] → NamesText names t → list_all tame t ≡ true
rev2_tame names t e h = let one : NamesText (REV2 ∷ []) t = subst (λ (ns : List (List ℕ)). NamesText ns t) e h in ap (list_all tame) one.0

verb_tame : (v : Verb) → list_all tame (word_of v) ≡ true
verb_tame verbs.Capability = refl
verb_tame verbs.Noop = refl
verb_tame verbs.Logout = refl
verb_tame verbs.Login = refl
verb_tame verbs.Enable = refl
verb_tame verbs.List = refl
verb_tame verbs.Create = refl
verb_tame verbs.Select = refl
verb_tame verbs.Append = refl
verb_tame verbs.Fetch = refl
verb_tame verbs.Store = refl
verb_tame verbs.Expunge = refl

items_tame : (w : FetchItems) → list_all tame (items_word w) ≡ true
items_tame wanted.Listing = refl
items_tame wanted.Body = refl
items_tame wanted.Head = refl

mode_tame : (m : StoreMode) → list_all tame (mode_word m) ≡ true
mode_tame modes.Add = refl
mode_tame modes.Remove = refl

-- ---- quoted strings

text_calm : (b : ℕ) → is_text b ≡ true → no_return b ≡ true
text_calm b h = lacks is_text 13 refl b h

escaped_by : (s : Bool) (b : ℕ) → no_return b ≡ true → calm (if s then 92 ∷ b ∷ [] else b ∷ []) ≡ true
escaped_by true b h = and_from (no_return 92) (calm (b ∷ [])) refl (and_from (no_return b) true h refl)
escaped_by false b h = and_from (no_return b) true h refl

escaped_calm : (value : List ℕ) → list_all is_text value ≡ true → calm (flat_map escaped value) ≡ true
escaped_calm [] h = refl
escaped_calm (b ∷ value) h =
    let two = and_parts (is_text b) (list_all is_text value) h in
    list_all-append no_return (escaped b) (flat_map escaped value)
    ∙ and_from (calm (escaped b)) (calm (flat_map escaped value)) (escaped_by (is_special b) b (text_calm b two.0)) (escaped_calm value two.1)

pub quoted_calm : (value t : List ℕ) → QuotedText value t → IsCalm t
quoted_calm value t h = record {
  calm = ap calm h.0 ∙ list_all-append no_return (34 ∷ flat_map escaped value) (34 ∷ []) ∙ and_from (calm (34 ∷ flat_map escaped value)) true (escaped_calm value h.1) refl;
  plain = (let p : Part Commands true (Open is_atom_byte) (ValueText Commands) (value_at Commands) = value_part in (p.leads refl).after value t (inr (inl h)));
}

pub word_calm : (word t : List ℕ) → list_all is_text word ≡ true → WrittenText word t → IsCalm t
word_calm word t e h = quoted_calm word t (subst (λ (b : Bool). StringBy b word t) e h)

-- ---- lines

module _ (P : List ℕ → Type 0) (each : (t : List ℕ) → P t → list_all tame t ≡ true) where
  pub tame_part : (t : List ℕ) → P t → IsCalm t
  tame_part t h = tame_calm t (each t h)

pub space_part : (t : List ℕ) → Is space t → IsCalm t
space_part = tame_part (Is space) (tame_is space refl)

request_line : (r : Request) → IsPlain r → (t : List ℕ) → WrittenRequest r t → IsLine t
request_line requests.Capability p t h = bare_line t h
request_line requests.Noop p t h = bare_line t h
request_line requests.Logout p t h = bare_line t h
request_line (requests.Login user password) p t h =
    line_then (λ s k. word_calm user s p.0.each k) (line_then space_part (line_then (λ s k. word_calm password s p.1.each k) bare_line)) t h
request_line (requests.Enable names) p t h = line_then (tame_part (NamesText names) (λ s. rev2_tame names s p)) bare_line t h
request_line (requests.List pattern) p t h = line_then (quoted_calm pattern) bare_line t h
request_line (requests.Create mailbox) p t h = line_then (λ s k. word_calm mailbox s p.each k) bare_line t h
request_line (requests.Select mailbox) p t h = line_then (λ s k. word_calm mailbox s p.each k) bare_line t h
request_line (requests.Append mailbox flags message) p t h = absurd p
request_line (requests.Fetch set what) p t h =
    line_then (tame_part (SetText set) (set_tame set)) (line_then space_part (line_then (tame_part (Is (items_word what)) (tame_is (items_word what) (items_tame what))) bare_line)) t h
request_line (requests.Store set mode flags) p t h =
    line_then (tame_part (SetText set) (set_tame set))
    (line_then space_part (line_then (tame_part (Is (mode_word mode)) (tame_is (mode_word mode) (mode_tame mode))) (line_then (tame_part (FlagsText flags) (flags_tame flags)) bare_line))) t h
request_line (requests.Expunge set) p t h = line_then (tame_part (SetText set) (set_tame set)) bare_line t h

-- what stands before the request
pub head_then : (c : Command) (Q : List ℕ → Type 0) → ((t : List ℕ) → Q t → IsLine t) → (t : List ℕ) → (TagText c.tag ⨾ Is space ⨾ Is (word_of (verb_of c.request)) ⨾ Q) t → IsLine t
head_then c Q line t h =
    line_then (tame_part (TagText c.tag) (tag_tame c.tag)) (line_then space_part (line_then (tame_part (Is (word_of (verb_of c.request))) (tame_is (word_of (verb_of c.request)) (verb_tame (verb_of c.request)))) line)) t h

verb_short : (v : Verb) → length (word_of v) ≤ 12
verb_short verbs.Capability = omega arith
verb_short verbs.Noop = omega arith
verb_short verbs.Logout = omega arith
verb_short verbs.Login = omega arith
verb_short verbs.Enable = omega arith
verb_short verbs.List = omega arith
verb_short verbs.Create = omega arith
verb_short verbs.Select = omega arith
verb_short verbs.Append = omega arith
verb_short verbs.Fetch = omega arith
verb_short verbs.Store = omega arith
verb_short verbs.Expunge = omega arith

items_short : (w : FetchItems) → length (items_word w) ≤ 30
items_short wanted.Listing = omega arith
items_short wanted.Body = omega arith
items_short wanted.Head = omega arith

mode_short : (m : StoreMode) → length (mode_word m) ≤ 30
mode_short modes.Add = omega arith
mode_short modes.Remove = omega arith

after_short : (r : Request) → IsPlain r → most_after r ≤ 65200
after_short requests.Capability p = omega arith
after_short requests.Noop p = omega arith
after_short requests.Logout p = omega arith
after_short (requests.Login user password) p = let a = p.0.most in let b = p.1.most in omega (arith, a, b)
after_short (requests.Enable names) p = subst (λ (ns : List (List ℕ)). most_after (requests.Enable ns) ≤ 65200) (sym p) (omega arith)
after_short (requests.List pattern) p = omega (arith, p)
after_short (requests.Create mailbox) p = let a = p.most in omega (arith, a)
after_short (requests.Select mailbox) p = let a = p.most in omega (arith, a)
after_short (requests.Append mailbox flags message) p = absurd p
after_short (requests.Fetch set what) p = let a = items_short what in omega (arith, p, a)
after_short (requests.Store set mode flags) p = let a = mode_short mode in omega (arith, p, a)
after_short (requests.Expunge set) p = omega (arith, p)

pub tag_short : (c : Command) (t : List ℕ) → Written c t → length c.tag ≤ 32
tag_short c t h = let same = h.first.0 in let most = h.first.1.most in let long = ap length same in omega (arith, most, long)

pub plain_completes : (c : Command) (uses : Uses) (t : List ℕ) → uses ≡ uses_of c.request → IsPlain c.request → Written c t → Completes c uses c.tag [] t
plain_completes c uses t u p h = record {
  text = record {
    spelled = written_spelled c t h;
    fits = (let most = command_few c t h in let a = verb_short (verb_of c.request) in let b = after_short c.request p in let d = tag_short c t h in omega (arith, most, a, b, d));
  };
  asks_no_more = line_asks_none t (head_then c (WrittenRequest c.request) (request_line c.request p) t h);
  tag_is = refl;
  uses_is = sym u;
}
