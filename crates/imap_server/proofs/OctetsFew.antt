-- How many bytes of a command are octets of literals, at most: two literals stand in it.
use Rattle.std.proofs.Common.{◌≡◌, ℕ, ◌+◌, ◌≤◌, Bool, true, false, not, cond, eqb, List, [], ◌∷◌, ◌++◌, length, map, refl, sym, ap, ◌∙◌, inl, inr, arith}
use Rattle.std.specs.List.{list_all, flat_map}
use Rattle.std.proofs.lemmas.Bool.{cases_Bool, false≢true, eqb-true, and_parts, and_from, not-true}
use Rattle.std.proofs.lemmas.List.{length-append}
use Rattle.std.proofs.lemmas.List.Concat.{flat_map-cons}
use Rattle.wire_reader.specs.declared.side.Speaker.TheVariants.{Commands}
use Rattle.wire_reader.specs.declared.lexical.Phase.{Phase}
use Rattle.wire_reader.specs.declared.lexical.Phase.TheVariants.{Plain}
use Rattle.wire_reader.specs.Spelling.{◌⨾◌, Is, ItemsText, Word, crlf, is_digit, upper}
use Rattle.wire_reader.specs.Lexical.{next, phase, is_in, outside, outside_from}
use Rattle.wire_reader.specs.Literal.{close_text, LengthText, Literal}
use Rattle.wire_reader.proofs.Braceless.{braceless, braceless-phase, word_braceless}
use Rattle.wire_reader.proofs.LexedSeq.{two-phases}
use Rattle.wire_reader.proofs.Limits.{one_is}
use Rattle.wire_reader.proofs.Part.{Part}
use Rattle.wire_reader.proofs.Reader.{Closed}
use Rattle.wire_reader.proofs.Positions.{outside-append, stays_out}
use Rattle.wire_tokens.specs.declared.spaced.NameKind.TheVariants as kinds
use Rattle.wire_tokens.specs.declared.uid_set.SetEnd.{SetEnd}
use Rattle.wire_tokens.specs.declared.uid_set.SetEnd.TheVariants.{Number, Greatest}
use Rattle.wire_tokens.specs.declared.uid_set.SetItem.{SetItem}
use Rattle.wire_tokens.specs.declared.uid_set.SetItem.TheVariants.{One, Range}
use Rattle.wire_tokens.specs.Atoms.{is_atom_byte, is_tag_byte, IsAtom, TagText}
use Rattle.wire_tokens.specs.Names.{NameText, NamesText}
use Rattle.wire_tokens.specs.FlagLists.{ListedText, FlagsText, flags_at}
use Rattle.wire_tokens.specs.Sets.{EndText, ItemText, SetText}
use Rattle.wire_tokens.proofs.FlagParts.{flags_part}
use Rattle.wire_tokens.proofs.TokensFit.{tag_fits, atom_fits, names_fit, set_fits}
use Rattle.wire_strings.specs.Texts.{is_text}
use Rattle.wire_strings.specs.Quotes.{is_special, escaped, QuotedText}
use Rattle.wire_strings.proofs.StringsFit.{quoted_fits, literal_fits}
use Rattle.imap_commands.specs.declared.verb.Verb.{Verb}
use Rattle.imap_commands.specs.declared.verb.Verb.TheVariants as verbs
use Rattle.imap_commands.specs.declared.command.FetchItems.{FetchItems}
use Rattle.imap_commands.specs.declared.command.FetchItems.TheVariants as items
use Rattle.imap_commands.specs.declared.command.StoreMode.{StoreMode}
use Rattle.imap_commands.specs.declared.command.StoreMode.TheVariants as modes
use Rattle.imap_commands.specs.declared.command.Request.{Request}
use Rattle.imap_commands.specs.declared.command.Request.TheVariants as requests
use Rattle.imap_commands.specs.declared.command.Command.{Command}
use Rattle.imap_commands.specs.Verbs.{word_of}
use Rattle.imap_commands.specs.Requests.{verb_of, items_word, mode_word, AString, RequestText}
use Rattle.imap_commands.specs.Commands.{Spelled}

-- a text of which at most so many bytes are octets, and after which no literal is under way
pub record HasOctets (most : ℕ) (text : List ℕ) : Type 0 where
  pub plain : phase Plain text ≡ Plain
  pub few : length text ≤ outside text + most

at_most : (a b : ℕ) (t : List ℕ) → a ≤ b → HasOctets a t → HasOctets b t
at_most a b t le h = record { plain = h.plain; few = (let f = h.few in omega (arith, f, le)) }

then_octets : {P Q : List ℕ → Type 0} (a b : ℕ) → ((t : List ℕ) → P t → HasOctets a t) → ((t : List ℕ) → Q t → HasOctets b t) → (t : List ℕ) → (P ⨾ Q) t → HasOctets (a + b) t
then_octets a b p q t h =
    let f = p h.front h.first in
    let g = q h.back h.second in
    let same : outside_from (phase Plain h.front) h.back ≡ outside h.back = ap (λ (x : Phase). outside_from x h.back) f.plain in
    let first = f.few in
    let second = g.few in
    record {
      plain = ap (phase Plain) h.parts ∙ two-phases Plain Plain h.front h.back f.plain ∙ g.plain;
      few = omega (arith, ap length h.parts, length-append h.front h.back, ap outside h.parts, outside-append Plain h.front h.back, same, first, second);
    }

-- ---- texts without a line feed

abbrev no_feed : ℕ → Bool
no_feed b = not (eqb b 10)

abbrev Feedless : List ℕ → Type 0
Feedless t = list_all no_feed t ≡ true

-- no octets stand among them
pub record StaysOut (p : Phase) (t : List ℕ) : Type 0 where
  pub out : is_in (phase p t) ≡ false
  pub all : outside_from p t ≡ length t

stays_out_all : (p : Phase) (t : List ℕ) → is_in p ≡ false → Feedless t → StaysOut p t
stays_out_all p [] h n = record { out = h; all = refl }
stays_out_all p (b ∷ t) h n =
    let q = and_parts _ _ n in
    let r = stays_out_all (next p b) t (stays_out p b h (not-true _ q.0)) q.1 in
    let a = r.all in
    record { out = r.out; all = omega (arith, a, one_is p false h) }

no_octets : (t : List ℕ) → phase Plain t ≡ Plain → Feedless t → HasOctets 0 t
no_octets t plain n = let a = (stays_out_all Plain t refl n).all in record { plain = plain; few = omega (arith, a) }

-- a byte of a class that lacks the line feed
lacks_feed : (class : ℕ → Bool) → class 10 ≡ false → (b : ℕ) → class b ≡ true → no_feed b ≡ true
lacks_feed class n b h =
    elim (cases_Bool (eqb b 10)) [
      | inl e ↦ absurd (false≢true (sym n ∙ ap class (sym (eqb-true b 10 e)) ∙ h))
      | inr e ↦ ap not e
    ]

each_lacks : (class : ℕ → Bool) → class 10 ≡ false → (t : List ℕ) → list_all class t ≡ true → Feedless t
each_lacks class n [] h = refl
each_lacks class n (b ∷ t) h = let p = and_parts _ _ h in and_from _ _ (lacks_feed class n b p.0) (each_lacks class n t p.1)

both_feedless : (xs ys : List ℕ) → Feedless xs → Feedless ys → Feedless (xs ++ ys)
both_feedless [] ys h g = g
both_feedless (b ∷ xs) ys h g = let p = and_parts _ _ h in and_from _ _ p.0 (both_feedless xs ys p.1 g)

then_feedless : {P Q : List ℕ → Type 0} → ((t : List ℕ) → P t → Feedless t) → ((t : List ℕ) → Q t → Feedless t) → (t : List ℕ) → (P ⨾ Q) t → Feedless t
then_feedless p q t h = ap (list_all no_feed) h.parts ∙ both_feedless h.front h.back (p h.front h.first) (q h.back h.second)

is_feedless : (w : List ℕ) → Feedless w → (t : List ℕ) → Is w t → Feedless t
is_feedless w h t e = ap (list_all no_feed) e ∙ h

items_feedless : {A : Type 0} (sep : ℕ) (L : A → List ℕ → Type 0) → Feedless (sep ∷ []) → ((a : A) (t : List ℕ) → L a t → Feedless t) → (items : List A) (t : List ℕ) → ItemsText sep L items t → Feedless t
items_feedless sep L n each [] t h = absurd h
items_feedless sep L n each (a ∷ []) t h = each a t h
items_feedless sep L n each (a ∷ b ∷ others) t h =
    then_feedless (each a) (then_feedless (is_feedless (sep ∷ []) n) (λ u g. items_feedless sep L n each (b ∷ others) u g)) t h

-- ---- tokens

tag_octets : (tag t : List ℕ) → TagText tag t → HasOctets 0 t
tag_octets tag t h = no_octets t (tag_fits tag t h).plain (each_lacks is_tag_byte refl t h.1.each)

upper_feed : (b c : ℕ) → upper b ≡ c → no_feed c ≡ true → no_feed b ≡ true
upper_feed b c e h =
    elim (cases_Bool (eqb b 10)) [
      | inl g ↦ absurd (let same : no_feed c ≡ no_feed 10 = ap no_feed (sym e ∙ ap upper (eqb-true b 10 g)) in false≢true (sym same ∙ h))
      | inr g ↦ ap not g
    ]

word_feedless : (w t : List ℕ) → Feedless w → Word w t → Feedless t
word_feedless w [] h l = refl
word_feedless [] (b ∷ t) h l = absurd cc
word_feedless (c ∷ w) (b ∷ t) h l =
    let p = and_parts _ _ h in
    let head : upper b ≡ c = cc in
    let tail : map upper t ≡ w = cc in
    and_from _ _ (upper_feed b c head p.0) (word_feedless w t p.1 tail)

word_octets : (w : List ℕ) → braceless w ≡ true → Feedless w → (t : List ℕ) → Word w t → HasOctets 0 t
word_octets w plain n t h = no_octets t (braceless-phase t (word_braceless w t plain h)) (word_feedless w t n h)

is_octets : (w : List ℕ) → phase Plain w ≡ Plain → Feedless w → (t : List ℕ) → Is w t → HasOctets 0 t
is_octets w plain n t e = no_octets t (ap (phase Plain) e ∙ plain) (is_feedless w n t e)

space_octets : (t : List ℕ) → Is (32 ∷ []) t → HasOctets 0 t
space_octets = is_octets (32 ∷ []) refl refl

end_octets : (t : List ℕ) → Is crlf t → HasOctets 0 t
end_octets t e = record { plain = ap (phase Plain) e; few = omega (arith, ap length e, ap outside e) }

atom_feedless : (t : List ℕ) → IsAtom t → Feedless t
atom_feedless t h = each_lacks is_atom_byte refl t h.each

flag_feedless : (name t : List ℕ) → NameText kinds.Flag name t → Feedless t
flag_feedless name t (e, inl h) = ap (list_all no_feed) h.parts ∙ and_from _ _ refl (atom_feedless h.atom h.is)
flag_feedless name t (e, inr h) = atom_feedless t h

name_feedless : (name t : List ℕ) → NameText kinds.Atom name t → Feedless t
name_feedless name t h = atom_feedless t h.1

names_octets : (names : List (List ℕ)) (t : List ℕ) → NamesText names t → HasOctets 0 t
names_octets names t h = no_octets t (names_fit names t h).plain (items_feedless 32 (NameText kinds.Atom) refl name_feedless names t h)

listed_feedless : (names : List (List ℕ)) (t : List ℕ) → ListedText kinds.Flag names t → Feedless t
listed_feedless [] t h = ap (list_all no_feed) h
listed_feedless (name ∷ names) t h = items_feedless 32 (NameText kinds.Flag) refl flag_feedless (name ∷ names) t h

flags_octets : (names : List (List ℕ)) (t : List ℕ) → FlagsText names t → HasOctets 0 t
flags_octets names t h =
    let p : Part Commands true Closed FlagsText flags_at = flags_part in
    no_octets t ((p.leads refl).after names t h)
    (then_feedless (is_feedless (40 ∷ []) refl) (then_feedless (listed_feedless names) (is_feedless (41 ∷ []) refl)) t h)

place_feedless : (x : SetEnd) (t : List ℕ) → EndText x t → Feedless t
place_feedless (Number n) t h = each_lacks is_digit refl t h.0.each
place_feedless Greatest t h = is_feedless (42 ∷ []) refl t h

item_feedless : (item : SetItem) (t : List ℕ) → ItemText item t → Feedless t
item_feedless (One x) t h = place_feedless x t h
item_feedless (Range x y) t h = then_feedless (place_feedless x) (then_feedless (is_feedless (58 ∷ []) refl) (place_feedless y)) t h

set_octets : (set : List SetItem) (t : List ℕ) → SetText set t → HasOctets 0 t
set_octets set t h = no_octets t (set_fits set t h).plain (items_feedless 44 ItemText refl item_feedless set t h)

-- ---- strings

escaped_feedless : (b : ℕ) → is_text b ≡ true → Feedless (escaped b)
escaped_feedless b h =
    let n = lacks_feed is_text refl b h in
    elim (cases_Bool (is_special b)) [
      | inl e ↦ ap (λ (t : Bool). list_all no_feed (cond t (92 ∷ b ∷ []) (b ∷ []))) e ∙ and_from _ _ refl (and_from _ _ n refl)
      | inr e ↦ ap (λ (t : Bool). list_all no_feed (cond t (92 ∷ b ∷ []) (b ∷ []))) e ∙ and_from _ _ n refl
    ]

all_feedless : (bs : List ℕ) → list_all is_text bs ≡ true → Feedless (flat_map escaped bs)
all_feedless [] h = refl
all_feedless (b ∷ bs) h =
    let p = and_parts _ _ h in
    ap (list_all no_feed) (flat_map-cons escaped b bs) ∙ both_feedless (escaped b) (flat_map escaped bs) (escaped_feedless b p.0) (all_feedless bs p.1)

quoted_octets : (value t : List ℕ) → QuotedText value t → HasOctets 0 t
quoted_octets value t h =
    no_octets t (quoted_fits value t h).plain
    (ap (list_all no_feed) h.0 ∙ and_from _ _ refl (both_feedless (flat_map escaped value) (34 ∷ []) (all_feedless value h.1) refl))

-- one part that stays out of octets, and what follows
pub record Front (p : Phase) (front back text : List ℕ) : Type 0 where
  pub out : is_in (phase p front) ≡ false
  pub count : outside_from p text ≡ length front + outside_from (phase p front) back

front_out : (p : Phase) (front back text : List ℕ) → text ≡ front ++ back → is_in p ≡ false → Feedless front → Front p front back text
front_out p front back text e h n =
    let s = stays_out_all p front h n in
    let a = s.all in
    record { out = s.out; count = omega (arith, ap (outside_from p) e, outside-append p front back, a) }

length_feedless : (p : ℕ × Bool) (t : List ℕ) → LengthText Commands p t → Feedless t
length_feedless (n, true) t h = ap (list_all no_feed) h.parts ∙ both_feedless h.digits (close_text true) (each_lacks is_digit refl h.digits h.number.each) refl
length_feedless (n, false) t h = ap (list_all no_feed) h.parts ∙ both_feedless h.digits (close_text false) (each_lacks is_digit refl h.digits h.number.each) refl

length_most : (p : ℕ × Bool) (t : List ℕ) → LengthText Commands p t → p.0 ≤ 16777238
length_most (n, true) t h = let m = h.most in omega (arith, m)
length_most (n, false) t h = let m = h.most in omega (arith, m)

literal_octets : (octets t : List ℕ) → Literal Commands octets t → HasOctets 16777238 t
literal_octets octets t h =
    let m = h.second in
    let c = m.second in
    let f = c.second in
    let one = front_out Plain h.front h.back t h.parts refl (is_feedless (123 ∷ []) refl h.front h.first) in
    let p1 = phase Plain h.front in
    let two = front_out p1 m.front m.back h.back m.parts one.out (length_feedless m.value m.front m.first) in
    let p2 = phase p1 m.front in
    let three = front_out p2 c.front c.back m.back c.parts two.out (is_feedless (13 ∷ []) refl c.front c.first) in
    let p3 = phase p2 c.front in
    let a = one.count in
    let b = two.count in
    let d = three.count in
    let four : outside_from p3 c.back ≡ outside_from p3 (10 ∷ f.back) = ap (outside_from p3) (f.parts ∙ ap (λ (x : List ℕ). x ++ f.back) f.first) in
    record {
      plain = (literal_fits Commands octets t h).plain;
      few = omega (
        arith,
        a,
        b,
        d,
        four,
        one_is p3 false three.out,
        ap length h.parts,
        length-append h.front h.back,
        ap length m.parts,
        length-append m.front m.back,
        ap length c.parts,
        length-append c.front c.back,
        ap length f.parts,
        length-append f.front f.back,
        ap length f.first,
        f.second.1.long,
        length_most m.value m.front m.first,
      );
    }

string_octets : (value t : List ℕ) → AString value t → HasOctets 16777238 t
string_octets value t (inl h) = at_most 0 16777238 t (omega arith) (no_octets t (atom_fits value t h).plain (atom_feedless t h.1))
string_octets value t (inr (inl h)) = at_most 0 16777238 t (omega arith) (quoted_octets value t h)
string_octets value t (inr (inr h)) = literal_octets value t h

-- ---- commands

verb_octets : (k : Verb) (t : List ℕ) → Word (word_of k) t → HasOctets 0 t
verb_octets verbs.Capability = word_octets (word_of verbs.Capability) refl refl
verb_octets verbs.Noop = word_octets (word_of verbs.Noop) refl refl
verb_octets verbs.Logout = word_octets (word_of verbs.Logout) refl refl
verb_octets verbs.Login = word_octets (word_of verbs.Login) refl refl
verb_octets verbs.Enable = word_octets (word_of verbs.Enable) refl refl
verb_octets verbs.List = word_octets (word_of verbs.List) refl refl
verb_octets verbs.Create = word_octets (word_of verbs.Create) refl refl
verb_octets verbs.Select = word_octets (word_of verbs.Select) refl refl
verb_octets verbs.Append = word_octets (word_of verbs.Append) refl refl
verb_octets verbs.Fetch = word_octets (word_of verbs.Fetch) refl refl
verb_octets verbs.Store = word_octets (word_of verbs.Store) refl refl
verb_octets verbs.Expunge = word_octets (word_of verbs.Expunge) refl refl

items_octets : (k : FetchItems) (t : List ℕ) → Word (items_word k) t → HasOctets 0 t
items_octets items.Listing = word_octets (items_word items.Listing) refl refl
items_octets items.Body = word_octets (items_word items.Body) refl refl
items_octets items.Head = word_octets (items_word items.Head) refl refl

mode_octets : (k : StoreMode) (t : List ℕ) → Word (mode_word k) t → HasOctets 0 t
mode_octets modes.Add = word_octets (mode_word modes.Add) refl refl
mode_octets modes.Remove = word_octets (mode_word modes.Remove) refl refl

-- two literals
abbrev pub two : ℕ
two = 33554476

after_octets : (r : Request) (t : List ℕ) → RequestText r t → HasOctets two t
after_octets requests.Capability t h = at_most 0 two t (omega arith) (end_octets t h)
after_octets requests.Noop t h = at_most 0 two t (omega arith) (end_octets t h)
after_octets requests.Logout t h = at_most 0 two t (omega arith) (end_octets t h)
after_octets (requests.Login user password) t h =
    then_octets 16777238 16777238 (string_octets user) (then_octets 0 16777238 space_octets (then_octets 16777238 0 (string_octets password) end_octets)) t h
after_octets (requests.Enable names) t h = at_most 0 two t (omega arith) (then_octets 0 0 (names_octets names) end_octets t h)
after_octets (requests.List pattern) t h = at_most 0 two t (omega arith) (then_octets 0 0 (quoted_octets pattern) end_octets t h)
after_octets (requests.Create mailbox) t h = at_most 16777238 two t (omega arith) (then_octets 16777238 0 (string_octets mailbox) end_octets t h)
after_octets (requests.Select mailbox) t h = at_most 16777238 two t (omega arith) (then_octets 16777238 0 (string_octets mailbox) end_octets t h)
after_octets (requests.Append mailbox flags message) t h =
    then_octets 16777238 16777238 (string_octets mailbox)
    (then_octets 0 16777238 space_octets
    (then_octets 0 16777238 (flags_octets flags)
    (then_octets 0 16777238 space_octets (then_octets 16777238 0 (λ u g. literal_octets message u g.0) end_octets)))) t h
after_octets (requests.Fetch set what) t h =
    at_most 0 two t (omega arith) (then_octets 0 0 (set_octets set) (then_octets 0 0 space_octets (then_octets 0 0 (items_octets what) end_octets)) t h)
after_octets (requests.Store set mode flags) t h =
    at_most 0 two t (omega arith) (then_octets 0 0 (set_octets set) (then_octets 0 0 space_octets (then_octets 0 0 (mode_octets mode) (then_octets 0 0 (flags_octets flags) end_octets))) t h)
after_octets (requests.Expunge set) t h = at_most 0 two t (omega arith) (then_octets 0 0 (set_octets set) end_octets t h)

pub command_octets : (c : Command) (t : List ℕ) → Spelled c t → HasOctets two t
command_octets c t h =
    then_octets 0 two (tag_octets c.tag) (then_octets 0 two space_octets (then_octets 0 two (verb_octets (verb_of c.request)) (after_octets c.request))) t h
