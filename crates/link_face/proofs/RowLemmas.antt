-- A row that is written anew says what the raw one said.
use Rattle.std.proofs.Common.{◌≡◌, ◌≢◌, ◌==◌, ◌⊎◌, ◌||◌, ◌+◌, ℕ, Bool, true, false, cond, List, [], ◌∷◌, ◌++◌, length, take, drop, map, codes, Option, None, Some, Vec, Result, Ok, Err, IfOk, refl, sym, ap, subst, ◌∙◌, arith, inl, inr, append_assoc}
use Rattle.std.specs.Prelude.{nat_eq, is_some}
use Rattle.std.specs.Borrow.{Bor}
use Rattle.std.specs.Global.{Global}
use Rattle.std.specs.Option.{option_or}
use Rattle.std.specs.Cmp.Lexicographic.{pointwise}
use Rattle.std.specs.Char.{to_ascii_lowercase}
use Rattle.std.specs.declared.alloc.AllocError.{AllocError}
use Rattle.std.proofs.lemmas.Bool.{cases_Bool, eqb-true, false≢true}
use Rattle.std.proofs.lemmas.Bool.Decides.{Decides-eqb}
use Rattle.std.proofs.lemmas.Slice.Eq.{starts_is, strip_prefix_is}
use Rattle.wire_reader.specs.Spelling.{Is}
use Rattle.wire_tokens.specs.Numbers.{NumberText}
use Rattle.wire_tokens.specs.Writing.{Appended}
use Rattle.link_face.specs.FlagWords.{listed_flags}
use Rattle.link_face.specs.declared.row.FetchRow.{FetchRow}
use Rattle.link_face.specs.declared.row.ItemName.{ItemName}
use Rattle.link_face.specs.declared.row.ItemName.TheVariants.{Uid, Flags, Size, Body, Head}
use Rattle.link_face.specs.declared.turning.Turn.{Turn}
use Rattle.link_face.specs.declared.turning.Turn.TheVariants.{Keep, Replace, Omit, Stop}
use Rattle.link_face.specs.Heads.{is_gap, first_word, after_space, after_event, second_word, is_number, asks, SameWord, IsUntagged, IsStatus, IsNumbered, BeginsWith, GivesSome, HasFront}
use Rattle.link_face.specs.Rows.{BeginsValue, Item, ItemText, ItemsText, RowText, name_of, same_name, value_of, has, has_all_items, ends_value, is_name, Holds, IsRowOf, ReadsRow, IsUidOf, ItemsWritten, ListingWritten, IsRowWritten, number_in, IsFetch, KeepsRow, LacksItems, GivesRow}
use Rattle.link_face.proofs.HeadLemmas.{head_is}

-- ---- what is kept of items

field_in : (found : Option (List ℕ)) (old : Option (Bor (List ℕ))) (value : Bor (List ℕ)) (name : ItemName) (items : List Item) → value_of name items ≡ found → Holds name items old
    → (item : Item) → item.value ≡ value.now → same_name name (name_of item.name) ≡ true → Holds name (item ∷ items) (option_or old (Some value))
field_in found None value name items f h item v s =
    ap (λ (o : Option (List ℕ)). option_or o (cond (same_name name (name_of item.name)) (Some item.value) None)) h
    ∙ (ap (λ (t : Bool). cond t (let o : Option (List ℕ) = Some item.value in o) None) s ∙ ap (λ (l : List ℕ). let o : Option (List ℕ) = Some l in o) v)
field_in found (Some w) value name items f h item v s = ap (λ (o : Option (List ℕ)). option_or o (cond (same_name name (name_of item.name)) (Some item.value) None)) h

or_none : (o : Option (List ℕ)) → option_or o None ≡ o
or_none None = refl
or_none (Some x) = refl

field_out : (old : Option (Bor (List ℕ))) (name : ItemName) (items : List Item) (item : Item) → same_name name (name_of item.name) ≡ false → Holds name items old → Holds name (item ∷ items) old
field_out None name items item s h = ap (λ (t : Bool). option_or (value_of name items) (cond t (let o : Option (List ℕ) = Some item.value in o) None)) s ∙ (or_none (value_of name items) ∙ h)
field_out (Some w) name items item s h = ap (λ (t : Bool). option_or (value_of name items) (cond t (let o : Option (List ℕ) = Some item.value in o) None)) s ∙ (or_none (value_of name items) ∙ h)

field : (name kind : ItemName) (items : List Item) (item : Item) (old : Option (Bor (List ℕ))) (value : Bor (List ℕ)) → name_of item.name ≡ kind → item.value ≡ value.now → Holds name items old
    → (same : Bool) → same_name name kind ≡ same → Holds name (item ∷ items) (cond same (option_or old (Some value)) old)
field name kind items item old value k v h true s = field_in (value_of name items) old value name items refl h item v (ap (same_name name) k ∙ s)
field name kind items item old value k v h false s = field_out old name items item (ap (same_name name) k ∙ s) h

abbrev pub took : ItemName → FetchRow → Bor (List ℕ) → FetchRow
took kind row value = record {
  uid = cond (same_name Uid kind) (option_or row.uid (Some value)) row.uid;
  flags = cond (same_name Flags kind) (option_or row.flags (Some value)) row.flags;
  size = cond (same_name Size kind) (option_or row.size (Some value)) row.size;
  body = cond (same_name Body kind) (option_or row.body (Some value)) row.body;
  head = cond (same_name Head kind) (option_or row.head (Some value)) row.head;
}

pub takes : (kind : ItemName) (items : List Item) (item : Item) (row : FetchRow) (value : Bor (List ℕ)) → name_of item.name ≡ kind → item.value ≡ value.now → IsRowOf items row
    → IsRowOf (item ∷ items) (took kind row value)
takes kind items item row value k v h = record {
  uid = field Uid kind items item row.uid value k v h.uid (same_name Uid kind) refl;
  flags = field Flags kind items item row.flags value k v h.flags (same_name Flags kind) refl;
  size = field Size kind items item row.size value k v h.size (same_name Size kind) refl;
  body = field Body kind items item row.body value k v h.body (same_name Body kind) refl;
  head = field Head kind items item row.head value k v h.head (same_name Head kind) refl;
}

pub holds_has : (name : ItemName) (items : List Item) (kept : Option (Bor (List ℕ))) → Holds name items kept → is_some kept ≡ has name items
holds_has name items None h = sym (ap is_some h)
holds_has name items (Some v) h = sym (ap is_some h)

-- ---- items, one after another

-- one item more, and what follows it
pub record Further (item : Item) (items : List Item) (front rest following : List ℕ) : Type 0 where
  pub text : List ℕ
  pub parts : front ++ rest ≡ text ++ following
  pub is : ItemsText (item ∷ items) text

nil_name : (name rest : List ℕ) (A : Type 0) → [] ≡ name ++ 32 ∷ rest → A
nil_name [] rest A e = absurd (cc)
nil_name (b ∷ bs) rest A e = absurd (cc)

item_text : (name value : List ℕ) → is_name false name ≡ true → (bytes rest : List ℕ) → BeginsValue bytes value rest → ItemText (record { name = name; value = value }) (name ++ 32 ∷ value)
item_text name value n bytes rest v = record { parts = refl; name = n; value = v.is }

item_parts : (bytes name tail value following : List ℕ) → bytes ≡ name ++ 32 ∷ tail → tail ≡ value ++ following → bytes ≡ (name ++ 32 ∷ value) ++ following
item_parts bytes name tail value following e t = e ∙ (ap (λ (l : List ℕ). name ++ 32 ∷ l) t ∙ sym (append_assoc name (32 ∷ value) following))

with_space : (items : List Item) (item : Item) (front text : List ℕ) → ItemsText items front → ItemText item text → ItemsText (item ∷ items) (front ++ 32 ∷ text)
with_space [] item front text f t = inr (record { front = 32 ∷ []; back = text; parts = ap (λ (l : List ℕ). l ++ 32 ∷ text) f; first = refl; second = t })
with_space (other ∷ before) item front text f t = record {
  front = front;
  back = 32 ∷ text;
  parts = refl;
  first = f;
  second = record { front = 32 ∷ []; back = text; parts = refl; first = refl; second = t };
}

-- before the first item, or where a value ends
abbrev pub MayEnd : List Item → List ℕ → Type 0
MayEnd items rest = (items ≡ []) ⊎ (ends_value rest ≡ true)

pub at_first : (rest : List ℕ) → MayEnd [] rest
at_first rest = inl refl

pub at_end : (items : List Item) (rest : List ℕ) → ends_value rest ≡ true → MayEnd items rest
at_end items rest e = inr e

no_bracket : (b : ℕ) → (b == 32) ≡ false → (b == 41) ≡ false → (b == 32 || b == 41) ≡ true → ⊥
no_bracket b s c e = false≢true (sym (ap (λ (t : Bool). t || b == 41) s ∙ c) ∙ e)

without_space : (items : List Item) (item : Item) (front text rest : List ℕ) (b : ℕ) (bs : List ℕ) → MayEnd items (b ∷ bs) → (b == 32) ≡ false → (b == 41) ≡ false → ItemsText items front → ItemText item text
    → (front ≡ []) × ItemsText (item ∷ items) text
without_space [] item front text rest b bs m s c f t = (f, inl t)
without_space (other ∷ before) item front text rest b bs (inl e) s c f t = absurd (cc)
without_space (other ∷ before) item front text rest b bs (inr e) s c f t = absurd (no_bracket b s c e)

pub further : (items : List Item) (front rest name tail value following : List ℕ) → ItemsText items front → MayEnd items rest → pointwise nat_eq (41 ∷ []) (take 1 rest) ≡ false → after_space rest ≡ name ++ 32 ∷ tail
    → is_name false name ≡ true → BeginsValue tail value following → Further (record { name = name; value = value }) items front rest following
further items front [] name tail value following f m c a n v = nil_name name tail _ a
further items front (b ∷ bs) name tail value following f m c a n v =
    let text = name ++ 32 ∷ value in
    let t = item_text name value n tail following v in
    elim (cases_Bool (b == 32)) [
      | inl s ↦
          let is : bs ≡ text ++ following = item_parts bs name tail value following (sym (ap (λ (t : Bool). cond t bs (b ∷ bs)) s) ∙ a) v.parts in
          let space : b ≡ 32 = eqb-true b 32 s in
          record {
            text = front ++ 32 ∷ text;
            parts = ap (λ (k : ℕ). front ++ k ∷ bs) space ∙ (ap (λ (l : List ℕ). front ++ 32 ∷ l) is ∙ sym (append_assoc front (32 ∷ text) following));
            is = with_space items _ front text f t;
          }
      | inr s ↦
          let is : b ∷ bs ≡ text ++ following = item_parts (b ∷ bs) name tail value following (sym (ap (λ (t : Bool). cond t bs (b ∷ bs)) s) ∙ a) v.parts in
          let first = without_space items (record { name = name; value = value }) front text bs b bs m s (no_close b bs c) f t in
          record { text = text; parts = ap (λ (l : List ℕ). l ++ (b ∷ bs)) first.0 ∙ is; is = first.1 }
    ]
  where
    no_close : (b : ℕ) (bs : List ℕ) → pointwise nat_eq (41 ∷ []) (take 1 (b ∷ bs)) ≡ false → (b == 41) ≡ false
    no_close b bs c =
        elim (cases_Bool (b == 41)) [
          | inl t ↦ absurd (false≢true (sym c ∙ (starts_is Decides-eqb (b ∷ bs) (41 ∷ []) (pointwise nat_eq (41 ∷ []) (take 1 (b ∷ bs))) refl).1 bs (ap (λ (k : ℕ). k ∷ bs) (eqb-true b 41 t))))
          | inr f ↦ f
        ]

-- ---- a row so far

pub record RowSoFar (bytes : List ℕ) (row : FetchRow) (rest : List ℕ) : Type 0 where
  pub items : List Item
  pub front : List ℕ
  pub parts : bytes ≡ codes " (" ++ (front ++ rest)
  pub text : ItemsText items front
  pub ends : MayEnd items rest
  pub is : IsRowOf items row

pub row_begins : (bytes : List ℕ) (row : FetchRow) (items : Bor (List ℕ)) → (pointwise nat_eq (take 2 bytes) (codes " (") ≡ true) × (items.now ≡ drop 2 bytes) × (length items.now + 2 ≡ length bytes) → IsRowOf [] row
    → RowSoFar bytes row items.now
row_begins bytes row items cases is = record {
  items = [];
  front = [];
  parts = strip_prefix_is Decides-eqb bytes (codes " (") (Some items) cases;
  text = refl;
  ends = at_first items.now;
  is = is;
}

close_first : (rest : List ℕ) → pointwise nat_eq (41 ∷ []) (take 1 rest) ≡ true → rest ≡ 41 ∷ drop 1 rest
close_first rest c = (starts_is Decides-eqb rest (41 ∷ []) (pointwise nat_eq (41 ∷ []) (take 1 rest)) refl).0 c

pub row_ends : (bytes : List ℕ) (row : FetchRow) (rest : List ℕ) → RowSoFar bytes row rest → pointwise nat_eq (41 ∷ []) (take 1 rest) ≡ true → ReadsRow bytes row
row_ends bytes row rest h c = record {
  items = h.items;
  text = record {
    text = h.front;
    following = drop 1 rest;
    parts = h.parts ∙ ap (λ (l : List ℕ). codes " (" ++ (h.front ++ l)) (close_first rest c);
    items_text = h.text;
  };
  is = h.is;
}

pub row_goes_on : (bytes : List ℕ) (old new : FetchRow) (rest after name tail value following : List ℕ) → RowSoFar bytes old rest → pointwise nat_eq (41 ∷ []) (take 1 rest) ≡ false → after ≡ after_space rest
    → after ≡ name ++ 32 ∷ tail → is_name false name ≡ true → BeginsValue tail value following
    → ((items : List Item) → IsRowOf items old → IsRowOf (record { name = name; value = value } ∷ items) new) → RowSoFar bytes new following
row_goes_on bytes old new rest after name tail value following h c a p n v took =
    let more = further h.items h.front rest name tail value following h.text h.ends c (sym a ∙ p) n v in
    record {
      items = record { name = name; value = value } ∷ h.items;
      front = more.text;
      parts = h.parts ∙ ap (λ (l : List ℕ). codes " (" ++ l) more.parts;
      text = more.is;
      ends = at_end _ following v.ends;
      is = took h.items h.is;
    }

-- ---- rows that are written anew

pub front_uid : (number uid old new : List ℕ) → old ≡ codes "* " ++ (number ++ codes " FETCH (UID ") → new ≡ old ++ (uid ++ 32 ∷ [])
    → new ≡ codes "* " ++ (number ++ (codes " FETCH (UID " ++ (uid ++ 32 ∷ [])))
front_uid number uid old new o n =
    n ∙ (ap (λ (l : List ℕ). l ++ (uid ++ 32 ∷ [])) o
    ∙ (append_assoc (codes "* ") (number ++ codes " FETCH (UID ") (uid ++ 32 ∷ [])
    ∙ ap (λ (l : List ℕ). codes "* " ++ l) (append_assoc number (codes " FETCH (UID ") (uid ++ 32 ∷ []))))

pub listing_written : (list words digits old one two three new : List ℕ) (size : ℕ) → list ≡ 40 ∷ (words ++ 41 ∷ []) → (is_number digits ≡ true) × (size ≡ number_in digits) → Appended (Is (codes "FLAGS ")) old one
    → Appended (Is (listed_flags false words)) one two → Appended (Is (codes " RFC822.SIZE ")) two three → Appended (NumberText size) three new → Appended (ListingWritten list digits) old new
listing_written list words digits old one two three new size l s a b c d = record {
  text = a.text ++ (b.text ++ (c.text ++ d.text));
  parts = d.parts
      ∙ (ap (λ (x : List ℕ). x ++ d.text) (c.parts ∙ ap (λ (x : List ℕ). x ++ c.text) (b.parts ∙ ap (λ (x : List ℕ). x ++ b.text) a.parts))
      ∙ (append_assoc ((old ++ a.text) ++ b.text) c.text d.text ∙ (append_assoc (old ++ a.text) b.text (c.text ++ d.text) ∙ append_assoc old a.text (b.text ++ (c.text ++ d.text)))));
  spelled = record {
    front = a.text;
    back = b.text ++ (c.text ++ d.text);
    parts = refl;
    first = a.spelled;
    second = record {
      front = b.text;
      back = c.text ++ d.text;
      parts = refl;
      first = record { words = words; parts = l; is = b.spelled };
      second = record {
        front = c.text;
        back = d.text;
        parts = refl;
        first = c.spelled;
        second = record { number = s.0; is = subst (λ (n : ℕ). NumberText n d.text) s.1 d.spelled };
      };
    };
  };
}

pub row_written : (items : List Item) (number uid old mid new : List ℕ) → IsUidOf items uid → old ≡ codes "* " ++ (number ++ (codes " FETCH (UID " ++ (uid ++ 32 ∷ []))) → Appended (ItemsWritten items) old mid
    → Appended (Is (codes ")\r\n")) mid new → IsRowWritten number items new
row_written items number uid old mid new u o e b =
    let more : List ℕ = e.text ++ codes ")\r\n" in
    record {
      uid = uid;
      is_uid = u;
      written = e.text;
      parts = b.parts ∙ (ap (λ (l : List ℕ). mid ++ l) b.spelled ∙ (ap (λ (l : List ℕ). l ++ codes ")\r\n") e.parts ∙ (append_assoc old e.text (codes ")\r\n") ∙ (ap (λ (l : List ℕ). l ++ more) o
          ∙ (append_assoc (codes "* ") (number ++ (codes " FETCH (UID " ++ (uid ++ 32 ∷ []))) more
          ∙ ap (λ (l : List ℕ). codes "* " ++ l) (append_assoc number (codes " FETCH (UID " ++ (uid ++ 32 ∷ [])) more
          ∙ ap (λ (l : List ℕ). number ++ l) (append_assoc (codes " FETCH (UID ") (uid ++ 32 ∷ []) more
          ∙ ap (λ (l : List ℕ). codes " FETCH (UID " ++ l) (append_assoc uid (32 ∷ []) more))))))));
      values = e.spelled;
    }

written_begins : (items : List Item) (number bytes : List ℕ) → IsRowWritten number items bytes → BeginsWith (codes "* " ++ (number ++ codes " FETCH")) bytes
written_begins items number bytes h =
    let more : List ℕ = codes " (UID " ++ (h.uid ++ 32 ∷ (h.written ++ codes ")\r\n")) in
    record {
      rest = more;
      parts = h.parts ∙ sym (append_assoc (codes "* ") (number ++ codes " FETCH") more ∙ ap (λ (l : List ℕ). codes "* " ++ l) (append_assoc number (codes " FETCH") more));
      ends = refl;
    }

row_front : (items : List Item) (number : List ℕ) (turn : Turn) → GivesRow number items turn → HasFront (codes "* " ++ (number ++ codes " FETCH")) turn
row_front items number Keep t = t
row_front items number (Replace row) t = written_begins items number row.items t
row_front items number Omit t = absurd t
row_front items number Stop t = tt

row_kept : (bytes number : List ℕ) (items : List Item) (turn : Turn) → RowText items bytes → GivesRow number items turn → KeepsRow bytes number turn
row_kept bytes number items Keep r t = absurd t
row_kept bytes number items (Replace row) r t = record { items = items; raw = r; written = t }
row_kept bytes number items Omit r t = absurd t
row_kept bytes number items Stop r t = tt

pub row_front_if : (bytes number : List ℕ) (row : FetchRow) (result : Result Turn AllocError) → ReadsRow bytes row → ((items : List Item) → IsRowOf items row → IfOk result (GivesRow number items))
    → IfOk result (HasFront (codes "* " ++ (number ++ codes " FETCH")))
row_front_if bytes number row (Ok turn) r t = row_front r.items number turn (t r.items r.is)
row_front_if bytes number row (Err e) r t = tt

pub row_kept_if : (bytes number : List ℕ) (row : FetchRow) (result : Result Turn AllocError) → ReadsRow bytes row → ((items : List Item) → IsRowOf items row → IfOk result (GivesRow number items))
    → IfOk result (KeepsRow bytes number)
row_kept_if bytes number row (Ok turn) r t = row_kept bytes number r.items turn r.text (t r.items r.is)
row_kept_if bytes number row (Err e) r t = tt

some_is : (x y : Vec ℕ Global) → Some x ≡ Some y → x ≡ y
some_is x y e = cc

gives_row : (number : List ℕ) (items : List Item) (out : Vec ℕ Global) (turn : Turn) → IsRowWritten number items out.items → GivesSome (Some out) turn → turn ≢ Omit → GivesRow number items turn
gives_row number items out Keep i g o = g
gives_row number items out (Replace bytes) i g o = subst (λ (v : Vec ℕ Global). IsRowWritten number items v.items) (some_is out bytes g) i
gives_row number items out Omit i g o = o refl
gives_row number items out Stop i g o = tt

pub gives_row_if : (number : List ℕ) (items : List Item) (out : Vec ℕ Global) (result : Result Turn AllocError) → IsRowWritten number items out.items → IfOk result (GivesSome (Some out))
    → IfOk result (λ (turn : Turn). turn ≢ Omit) → IfOk result (GivesRow number items)
gives_row_if number items out (Ok turn) i g o = gives_row number items out turn i g o
gives_row_if number items out (Err e) i g o = tt

pub lacking : (bytes : List ℕ) (row : FetchRow) (is : (items : List Item) → IsRowOf items row → has_all_items items ≡ false) → ReadsRow bytes row → LacksItems bytes
lacking bytes row is r = record { items = r.items; raw = r.text; lacks = is r.items r.is }

-- ---- in the reply

pub numbered_row : (raw number event bytes : List ℕ) (result : Result Turn AllocError) → IsFetch raw → IsNumbered raw number event × (bytes ≡ after_event raw)
    → (SameWord event (codes "FETCH") → IfOk result (KeepsRow bytes number)) → IfOk result (KeepsRow (after_event raw) (second_word raw))
numbered_row raw number event bytes result f h k =
    let kept = k (ap (map to_ascii_lowercase) h.0.third ∙ f.event) in
    subst (λ (l : List ℕ). IfOk result (KeepsRow l (second_word raw))) h.1 (subst (λ (l : List ℕ). IfOk result (KeepsRow bytes l)) h.0.second kept)

-- ---- no row

star_asks : (raw : List ℕ) → first_word raw ≡ codes "*" → asks raw ≡ true → ⊥
star_asks [] s a = false≢true a
star_asks (b ∷ bs) s a =
    let is : b ≡ 43 = eqb-true b 43 a in
    let gap : is_gap b ≡ false = ap is_gap is in
    let h : b ∷ first_word bs ≡ 42 ∷ [] = sym (ap (λ (t : Bool). cond t [] (b ∷ first_word bs)) gap) ∙ s in
    let k : b ≡ 42 = head_is b 42 (first_word bs) [] h in
    absurd (omega arith)

pub asking_no_row : (raw : List ℕ) (result : Result Turn AllocError) → IsFetch raw → asks raw ≡ true → IfOk result (KeepsRow (after_event raw) (second_word raw))
asking_no_row raw result f a = absurd (star_asks raw f.star a)

pub status_no_row : (raw tag word : List ℕ) (result : Result Turn AllocError) → IsFetch raw → IsStatus raw tag word → IfOk result (KeepsRow (after_event raw) (second_word raw))
status_no_row raw tag word result f h = absurd (false≢true (sym h.no_number ∙ f.number))

pub untagged_no_row : (raw word : List ℕ) (result : Result Turn AllocError) → IsFetch raw → IsUntagged raw word → IfOk result (KeepsRow (after_event raw) (second_word raw))
untagged_no_row raw word result f h = absurd (false≢true (sym h.no_number ∙ f.number))

no_zero : (n : ℕ) → n ≡ 0 → n ≡ 1 → ⊥
no_zero n z o = omega arith

pub other_no_row : (raw : List ℕ) → IsFetch raw → ((first_word raw ≡ codes "*") × (is_number (second_word raw) ≡ false)) ⊎ (first_word raw ≡ []) → LacksItems (after_event raw)
other_no_row raw f (inl h) = absurd (false≢true (sym h.1 ∙ f.number))
other_no_row raw f (inr h) = absurd (no_zero (length (first_word raw)) (ap length h) (ap length f.star))

-- ---- two rows of a message

or_assoc : (a b c : Option (List ℕ)) → option_or (option_or a b) c ≡ option_or a (option_or b c)
or_assoc None b c = refl
or_assoc (Some x) b c = refl

value_after : (name : ItemName) (old new : List Item) → value_of name (old ++ new) ≡ option_or (value_of name new) (value_of name old)
value_after name [] new = sym (or_none (value_of name new))
value_after name (item ∷ old) new =
    ap (λ (o : Option (List ℕ)). option_or o (cond (same_name name (name_of item.name)) (let o : Option (List ℕ) = Some item.value in o) None)) (value_after name old new)
    ∙ or_assoc (value_of name new) (value_of name old) (cond (same_name name (name_of item.name)) (let o : Option (List ℕ) = Some item.value in o) None)

holds_by : (name : ItemName) (old new : List Item) (earlier later : Option (Bor (List ℕ))) → Holds name old earlier → Holds name new later
    → value_of name (old ++ new) ≡ option_or (value_of name new) (value_of name old) → Holds name (old ++ new) (option_or later earlier)
holds_by name old new None None e l v = v ∙ (ap (λ (o : Option (List ℕ)). option_or o (value_of name old)) l ∙ e)
holds_by name old new (Some w) None e l v = v ∙ (ap (λ (o : Option (List ℕ)). option_or o (value_of name old)) l ∙ e)
holds_by name old new earlier (Some w) e l v = v ∙ ap (λ (o : Option (List ℕ)). option_or o (value_of name old)) l

pub holds_after : (name : ItemName) (old new : List Item) (earlier later : Option (Bor (List ℕ))) → Holds name old earlier → Holds name new later
    → Holds name (old ++ new) (option_or later earlier)
holds_after name old new earlier later e l = holds_by name old new earlier later e l (value_after name old new)
