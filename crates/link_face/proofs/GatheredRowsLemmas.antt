-- What was reported of the messages of a mailbox.
use Rattle.std.proofs.Common.{◌≡◌, ℕ, Bool, true, false, cond, not, List, [], ◌∷◌, ◌++◌, codes, Option, None, Some, Vec, Result, Ok, Err, IfOk, refl, sym, ap, subst, ◌∙◌}
use Rattle.std.specs.Borrow.{Bor}
use Rattle.std.specs.Global.{Global}
use Rattle.std.specs.Ordering.{nat_cmp}
use Rattle.std.specs.BTreeMap as maps
use Rattle.std.specs.BTreeSet as sets
use Rattle.std.specs.declared.alloc.AllocError.{AllocError}
use Rattle.std.proofs.lemmas.Bool.{false≢true}
use Rattle.link_face.specs.declared.row.FetchRow.{FetchRow}
use Rattle.link_face.specs.declared.row.ItemName.{ItemName}
use Rattle.link_face.specs.declared.row.ItemName.TheVariants.{Uid, Flags, Size, Body, Head}
use Rattle.link_face.specs.declared.message_count.MessageCount.{MessageCount}
use Rattle.link_face.specs.declared.listed_rows.Half.{Half}
use Rattle.link_face.specs.declared.listed_rows.ListedRows.{ListedRows}
use Rattle.link_face.specs.declared.turning.Turn.{Turn}
use Rattle.link_face.specs.declared.turning.Turn.TheVariants.{Keep, Replace, Omit, Stop}
use Rattle.link_face.specs.Heads.{ends_well, is_number}
use Rattle.link_face.specs.Rows.{HasUid, Holds, IsRowOf, Item, GivesRow, ReadsRow, has_listing, number_in, value_of}
use Rattle.link_face.specs.GatheredRows.{AddsWhole, EndsWhole, Gathers, HoldsHalf, IsHalfOf, Joins, JoinsRow, Keeps, KeepsHalf, NotesText, half_at, held, is_whole, item_of, items_in, items_of, reported}

pub has_uid : (items : List Item) (word : List ℕ) (n : ℕ) → value_of Uid items ≡ Some word → is_number word ≡ true → n ≡ number_in word → HasUid items n
has_uid items word n named number is = record { digits = word; named = named; number = number; is = is }

-- ---- messages reported by half

flags_kept : (flags size : Option (Vec ℕ Global)) → Keeps Flags (item_of (codes "FLAGS") flags ++ item_of (codes "RFC822.SIZE") size) flags
flags_kept None None = refl
flags_kept None (Some s) = refl
flags_kept (Some f) None = refl
flags_kept (Some f) (Some s) = refl

size_kept : (flags size : Option (Vec ℕ Global)) → Keeps Size (item_of (codes "FLAGS") flags ++ item_of (codes "RFC822.SIZE") size) size
size_kept None None = refl
size_kept None (Some s) = refl
size_kept (Some f) None = refl
size_kept (Some f) (Some s) = refl

no_uid : (flags size : Option (Vec ℕ Global)) → value_of Uid (item_of (codes "FLAGS") flags ++ item_of (codes "RFC822.SIZE") size) ≡ None
no_uid None None = refl
no_uid None (Some s) = refl
no_uid (Some f) None = refl
no_uid (Some f) (Some s) = refl

no_body : (flags size : Option (Vec ℕ Global)) → value_of Body (item_of (codes "FLAGS") flags ++ item_of (codes "RFC822.SIZE") size) ≡ None
no_body None None = refl
no_body None (Some s) = refl
no_body (Some f) None = refl
no_body (Some f) (Some s) = refl

no_head : (flags size : Option (Vec ℕ Global)) → value_of Head (item_of (codes "FLAGS") flags ++ item_of (codes "RFC822.SIZE") size) ≡ None
no_head None None = refl
no_head None (Some s) = refl
no_head (Some f) None = refl
no_head (Some f) (Some s) = refl

pub half_row : (half : Half) (row : FetchRow)
    → ((name : ItemName) (items : List Item) → Keeps name items half.flags → Holds name items row.flags)
    → ((name : ItemName) (items : List Item) → Keeps name items half.size → Holds name items row.size)
    → row.uid ≡ None → row.body ≡ None → row.head ≡ None → IsRowOf (items_of half) row
half_row half row f s uid body head = record {
  uid = subst (Holds Uid (items_of half)) (sym uid) (no_uid half.flags half.size);
  flags = f Flags (items_of half) (flags_kept half.flags half.size);
  size = s Size (items_of half) (size_kept half.flags half.size);
  body = subst (Holds Body (items_of half)) (sym body) (no_body half.flags half.size);
  head = subst (Holds Head (items_of half)) (sym head) (no_head half.flags half.size);
}

-- ---- what was reported of a message

pub holds_half : (old new : ListedRows) (uid : ℕ) (half : Option Half) → maps.UpdatesBy nat_cmp (nat_cmp uid) old.halves new.halves half → HoldsHalf old new uid half
holds_half old new uid half u = record { here = u.1; others = u.2 }

pub held_after : (old mid new : ListedRows) (uid : ℕ) (first half : Option Half) → HoldsHalf old mid uid first → HoldsHalf mid new uid half → HoldsHalf old new uid half
held_after old mid new uid first half f h = record { here = h.here; others = λ q o. h.others q o ∙ f.others q o }

was_none : (x added : Bool) → added ≡ not x → added ≡ true → x ≡ false
was_none true added e t = absurd (false≢true (sym e ∙ t))
was_none false added e t = refl

was_some : (x added : Bool) → added ≡ not x → added ≡ false → x ≡ true
was_some true added e t = refl
was_some false added e t = absurd (false≢true (sym t ∙ e))

pub adds_new : (old mid new : ListedRows) (number uid : ℕ) (added : Bool) → HoldsHalf old mid uid None → mid.whole ≡ old.whole → mid.standing ≡ old.standing
    → sets.UpdatesBy nat_cmp (nat_cmp uid) mid.whole new.whole true → added ≡ not (is_whole mid uid) → added ≡ true → new.halves ≡ mid.halves → new.standing ≡ reported number mid.standing
    → AddsWhole old new number uid
adds_new old mid new number uid added h w s u a is halves standing = record {
  here = u.1;
  others = λ q o. u.2 q o ∙ ap (λ (t : sets.BTreeSet ℕ). sets.contains nat_cmp t q) w;
  halves = record { here = ap (λ (m : maps.BTreeMap ℕ Half). maps.get nat_cmp m uid) halves ∙ h.here; others = λ q o. ap (λ (m : maps.BTreeMap ℕ Half). maps.get nat_cmp m q) halves ∙ h.others q o };
  counted = standing ∙ (ap (reported number) s ∙ sym (ap (λ (t : Bool). cond t old.standing (reported number old.standing)) (sym (ap (λ (t : sets.BTreeSet ℕ). sets.contains nat_cmp t uid) w) ∙ was_none (is_whole mid uid) added a is)));
}

pub adds_again : (old mid new : ListedRows) (number uid : ℕ) (added : Bool) → HoldsHalf old mid uid None → mid.whole ≡ old.whole → mid.standing ≡ old.standing
    → sets.UpdatesBy nat_cmp (nat_cmp uid) mid.whole new.whole true → added ≡ not (is_whole mid uid) → added ≡ false → new.halves ≡ mid.halves → new.standing ≡ mid.standing
    → AddsWhole old new number uid
adds_again old mid new number uid added h w s u a is halves standing = record {
  here = u.1;
  others = λ q o. u.2 q o ∙ ap (λ (t : sets.BTreeSet ℕ). sets.contains nat_cmp t q) w;
  halves = record { here = ap (λ (m : maps.BTreeMap ℕ Half). maps.get nat_cmp m uid) halves ∙ h.here; others = λ q o. ap (λ (m : maps.BTreeMap ℕ Half). maps.get nat_cmp m q) halves ∙ h.others q o };
  counted = standing ∙ (s ∙ sym (ap (λ (t : Bool). cond t old.standing (reported number old.standing)) (sym (ap (λ (t : sets.BTreeSet ℕ). sets.contains nat_cmp t uid) w) ∙ was_some (is_whole mid uid) added a is)));
}

-- ---- rows of an answer

gathered : (old new : ListedRows) (number : List ℕ) (items : List Item) (uid place : ℕ) (turn : Turn) → place ≡ number_in number → GivesRow number items turn → AddsWhole old new place uid
    → Gathers old new number items uid turn
gathered old new number items uid place (Replace row) n g a = (g, subst (λ (k : ℕ). AddsWhole old new k uid) n a)
gathered old new number items uid place Stop n g a = tt
gathered old new number items uid place Keep n g a = absurd g
gathered old new number items uid place Omit n g a = absurd g

pub gathered_if : (old new : ListedRows) (number : List ℕ) (items : List Item) (uid place : ℕ) (result : Result Turn AllocError) → place ≡ number_in number
    → IfOk result (GivesRow number items) → AddsWhole old new place uid → IfOk result (Gathers old new number items uid)
gathered_if old new number items uid place (Ok turn) n g a = gathered old new number items uid place turn n g a
gathered_if old new number items uid place (Err e) n g a = tt

pub kept_half : (old new : ListedRows) (items : List Item) (uid : ℕ) (half : Half) → IsHalfOf items half → maps.UpdatesBy nat_cmp (nat_cmp uid) old.halves new.halves (Some half)
    → new.whole ≡ old.whole → new.standing ≡ old.standing → KeepsHalf old new items uid
kept_half old new items uid half is u w s = record { half = half; is = is; halves = holds_half old new uid (Some half) u; whole = w; standing = s }

digits_are : (items : List Item) (a b : ℕ) (h : HasUid items a) (k : HasUid items b) → a ≡ b
digits_are items a b h k =
    let same : Some h.digits ≡ Some k.digits = sym h.named ∙ k.named in
    let digits : h.digits ≡ k.digits = (cc) in
    h.is ∙ (ap number_in digits ∙ sym k.is)

pub notes_whole : (old new : ListedRows) (number uid : ℕ) (bytes : List ℕ) (row : FetchRow) (is : Bool) → ReadsRow bytes row → ((items : List Item) → IsRowOf items row → HasUid items uid)
    → ((items : List Item) → IsRowOf items row → is ≡ has_listing items) → is ≡ true → AddsWhole old new number uid → NotesText old new number bytes
notes_whole old new number uid bytes row is r h l t a = record {
  items = r.items;
  text = r.text;
  noted = record {
    whole = λ _ other k. subst (λ (u : ℕ). AddsWhole old new number u) (digits_are r.items uid other (h r.items r.is) k) a;
    other = λ e. absurd (false≢true (sym e ∙ (sym (l r.items r.is) ∙ t)));
  };
}

pub notes_none : (rows : ListedRows) (number : ℕ) (bytes : List ℕ) (row : FetchRow) (is : Bool) → ReadsRow bytes row → ((items : List Item) → IsRowOf items row → is ≡ has_listing items) → is ≡ false
    → NotesText rows rows number bytes
notes_none rows number bytes row is r l f = record {
  items = r.items;
  text = r.text;
  noted = record { whole = λ e uid k. absurd (false≢true (sym f ∙ (l r.items r.is ∙ e))); other = λ _. refl };
}

pub other_reply : (raw : List ℕ) (rows : ListedRows) (result : Result Bool AllocError) (is : Bool) → is ≡ ends_well raw → is ≡ false
    → IfOk result (λ (is_heard : Bool). is_heard ≡ true → EndsWhole raw rows)
other_reply raw rows (Ok h) is e f = λ _ t. absurd (false≢true (sym f ∙ (e ∙ t)))
other_reply raw rows (Err x) is e f = tt

-- ---- with what was reported before

added_after : (old mid new : ListedRows) (number uid : ℕ) → HoldsHalf old mid uid None → mid.whole ≡ old.whole → mid.standing ≡ old.standing → AddsWhole mid new number uid → AddsWhole old new number uid
added_after old mid new number uid h w s a = record {
  here = a.here;
  others = λ q o. a.others q o ∙ ap (λ (t : sets.BTreeSet ℕ). sets.contains nat_cmp t q) w;
  halves = held_after old mid new uid None None h a.halves;
  counted = a.counted ∙ (ap (λ (t : sets.BTreeSet ℕ). cond (sets.contains nat_cmp t uid) mid.standing (reported number mid.standing)) w ∙ ap (λ (st : MessageCount). cond (is_whole old uid) st (reported number st)) s);
}

kept_after : (old mid new : ListedRows) (items : List Item) (uid : ℕ) → HoldsHalf old mid uid None → mid.whole ≡ old.whole → mid.standing ≡ old.standing → KeepsHalf mid new items uid → KeepsHalf old new items uid
kept_after old mid new items uid h w s k = record {
  half = k.half;
  is = k.is;
  halves = held_after old mid new uid None (Some k.half) h k.halves;
  whole = k.whole ∙ w;
  standing = k.standing ∙ s;
}

gathers_after : (old mid new : ListedRows) (number : List ℕ) (items : List Item) (uid : ℕ) (turn : Turn) → HoldsHalf old mid uid None → mid.whole ≡ old.whole → mid.standing ≡ old.standing
    → Gathers mid new number items uid turn → Gathers old new number items uid turn
gathers_after old mid new number items uid Keep h w s g = g
gathers_after old mid new number items uid (Replace row) h w s g = (g.0, added_after old mid new (number_in number) uid h w s g.1)
gathers_after old mid new number items uid Omit h w s g = kept_after old mid new items uid h w s g
gathers_after old mid new number items uid Stop h w s g = tt

joins_by : (old new : ListedRows) (number : List ℕ) (items : List Item) (uid : ℕ) (turn : Turn) → HasUid items uid → Joins old new number items uid (is_whole old uid) turn → JoinsRow old new number items turn
joins_by old new number items uid turn h j = record {
  named = λ other k. subst (λ (u : ℕ). Joins old new number items u (is_whole old u) turn) (digits_are items uid other h k) j;
  unnamed = λ none. let both : None ≡ Some h.digits = sym none ∙ h.named in cc;
}

pub joins_gathered : (old mid new : ListedRows) (number : List ℕ) (items : List Item) (uid : ℕ) (is : Bool) (result : Result Turn AllocError) → HasUid items uid → is ≡ is_whole old uid → is ≡ false
    → HoldsHalf old mid uid None → mid.whole ≡ old.whole → mid.standing ≡ old.standing → IfOk result (Gathers mid new number (held old uid ++ items) uid) → IfOk result (JoinsRow old new number items)
joins_gathered old mid new number items uid is (Ok turn) h same isnt half w s g =
    joins_by old new number items uid turn h (subst (λ (t : Bool). Joins old new number items uid t turn) (sym isnt ∙ same) (gathers_after old mid new number (held old uid ++ items) uid turn half w s g))
joins_gathered old mid new number items uid is (Err e) h same isnt half w s g = tt

pub joins_whole : (rows : ListedRows) (number : List ℕ) (items : List Item) (uid : ℕ) (is : Bool) → HasUid items uid → is ≡ is_whole rows uid → is ≡ true → JoinsRow rows rows number items Omit
joins_whole now number items uid is h same was = joins_by now now number items uid Omit h (subst (λ (t : Bool). Joins now now number items uid t Omit) (sym was ∙ same) refl)

stopped : (rows : ListedRows) (number : List ℕ) (items : List Item) (uid : ℕ) (is : Bool) → Joins rows rows number items uid is Stop
stopped rows number items uid true = tt
stopped rows number items uid false = tt

pub joins_stopped : (rows : ListedRows) (number : List ℕ) (items : List Item) → JoinsRow rows rows number items Stop
joins_stopped rows number items = record { named = λ uid h. stopped rows number items uid (is_whole rows uid); unnamed = λ _. tt }

pub joins_unnamed : (rows : ListedRows) (number : List ℕ) (items : List Item) (row : FetchRow) → IsRowOf items row → row.uid ≡ None → JoinsRow rows rows number items Omit
joins_unnamed rows number items row r e =
    let none : value_of Uid items ≡ None = subst (Holds Uid items) e r.uid in
    record { named = λ uid h. (let both : None ≡ Some h.digits = sym none ∙ h.named in cc); unnamed = λ _. refl }

-- ---- what was held of a message

pub taken_items : (old : ListedRows) (uid : ℕ) (found : Option Half) (half : Half) → found ≡ half_at old uid → found ≡ Some half → items_of half ≡ held old uid
taken_items old uid found half e is = ap items_in (sym is ∙ e)

pub none_taken : (old : ListedRows) (uid : ℕ) (found : Option Half) (half : Half) → found ≡ half_at old uid → found ≡ None → items_of half ≡ [] → items_of half ≡ held old uid
none_taken old uid found half e is none = none ∙ ap items_in (sym is ∙ e)

pub held_row : (old : ListedRows) (uid : ℕ) (half : Half) (items : List Item) (row : FetchRow) → items_of half ≡ held old uid → IsRowOf (items_of half ++ items) row → IsRowOf (held old uid ++ items) row
held_row old uid half items row e r = subst (λ (l : List Item). IsRowOf (l ++ items) row) e r

-- ---- what is kept of a row

pub half_new : (row : FetchRow) (flags size : Option (Vec ℕ Global)) → ((name : ItemName) (items : List Item) → Holds name items row.flags → Keeps name items flags)
    → ((name : ItemName) (items : List Item) → Holds name items row.size → Keeps name items size) → (items : List Item) → IsRowOf items row
    → IsHalfOf items (record { flags = flags; size = size })
half_new row flags size f s items r = record { flags = f Flags items r.flags; size = s Size items r.size }
