-- What is new stays new while it is there.
use Rattle.std.proofs.Common.{◌≡◌, ◌∙◌, ◌<◌, ◌==◌, ℕ, Bool, true, not, List, map, refl, sym, ap, subst, arith}
use Rattle.std.specs.Prelude.{Contains, ◌&&◌, nat_lt}
use Rattle.std.specs.List.{list_any}
use Rattle.std.proofs.lemmas.Bool.{and_from, and_parts, eq-eqb, eqb-true, not_from_false}
use Rattle.std.proofs.lemmas.List.Elements.{All-contains}
use Rattle.mailcore.specs.declared.side.Side.{Side}
use Rattle.mailcore.specs.declared.side.Side.TheVariants.{Far, Near}
use Rattle.mailcore.specs.declared.side.Direction.{Direction}
use Rattle.mailcore.specs.declared.side.Direction.TheVariants.{Pull, Push}
use Rattle.mailcore.specs.declared.listing.Item.{Item}
use Rattle.mailcore.specs.declared.mailbox.Message.{Message}
use Rattle.mailcore.specs.Content.{fit}
use Rattle.mailcore.specs.FlagSet.{DELETED, has}
use Rattle.mailcore.specs.Listed.{item_of}
use Rattle.mailcore.specs.Sides.{source}
use Rattle.mailcore.specs.Stores.{IsStore}
use Rattle.rules.specs.declared.options.Options.{Options}
use Rattle.rules.specs.declared.state.SyncState.{SyncState}
use Rattle.rules.specs.Called.{is_new, would_be_new}
use Rattle.rules.specs.Entries.{uid_of}
use Rattle.rules.specs.Options.{covers, goes}
use Rattle.rules.specs.Scene.{Scene, highest, is_paired, items}
use Rattle.rules.specs.World.{World, scene_of, store}
use Rattle.rules.proofs.Walks.{Contains-map, list_any_from, list_any_some, map_contains, only_one}
use Rattle.law_others.specs.ActLaws.{WasThere}
use Rattle.law_others.specs.NextPlan.{NewStaysNew}
use Rattle.law_others.proofs.Keeping.{keeps}

-- what a world's scene lists
items_of : (w : World) (options : Options) (side : Side) → items (scene_of w options) side ≡ map (item_of side) (store w side).messages
items_of w options Far = refl
items_of w options Near = refl

-- a message may be new, whatever its flags: that hangs on the state alone
abbrev may_be : Scene → Direction → (uid : ℕ) → Bool
may_be s d u = goes s.options.cells.new d && nat_lt (highest d s) u && not (is_paired s (source d) u)

same_state : (w w' : World) (options : Options) (d : Direction) (u : ℕ) → w'.state ≡ w.state → may_be (scene_of w' options) d u ≡ may_be (scene_of w options) d u
same_state w w' options Pull u same =
    ap (λ (st : SyncState). goes options.cells.new Pull && nat_lt st.max_pulled u && not (list_any (λ e. uid_of Far e == u) st.entries)) same
same_state w w' options Push u same =
    ap (λ (st : SyncState). goes options.cells.new Push && nat_lt st.max_pushed u && not (list_any (λ e. uid_of Near e == u) st.entries)) same

-- two messages of one mailbox that have one UID are one
one_message : (w : World) (side : Side) (a b : Message) → IsStore (store w side) → Contains (store w side).messages a → Contains (store w side).messages b → b.uid ≡ a.uid → b ≡ a
one_message w side a b is among also same =
    only_one (λ (x y : Message). x.uid < y.uid) (λ (x : Message). x.uid) a (λ x y less e f. omega arith) (store w side).messages is.rising among b also same

pub stays_new : NewStaysNew
stays_new w w' options d m is acts same called among kept =
    let side : Side = source d in
    let s : Scene = scene_of w options in
    let r = list_any_some (λ (i : Item). i.uid == m.uid && is_new s d i) (items s side) called in
    let a = and_parts (r.0.uid == m.uid) (is_new s d r.0) r.2 in
    let uid : r.0.uid ≡ m.uid = eqb-true r.0.uid m.uid a.0 in
    let new = and_parts (would_be_new s d r.0) r.0.fit a.1 in
    let may = (and_parts (may_be s d r.0.uid) (not (has r.0.flags DELETED && covers s.options.expunge side)) new.0).0 in
    let o = map_contains (item_of side) (store w side).messages r.0 (subst (λ (is : List Item). Contains is r.0) (items_of w options side) r.1) in
    let old_uid : o.0.uid ≡ m.uid = ap (λ (i : Item). i.uid) o.2 ∙ uid in
    let below : o.0.uid < (store w side).next = All-contains (λ x. x.uid < (store w side).next) (store w side).messages o.0 is.below o.1 in
    let earlier : m.uid < (store w side).next = omega arith in
    let was : WasThere (store w side) m = (keeps (store w side) (store w' side) is acts).same m among earlier in
    let one : was.old ≡ o.0 = one_message w side o.0 was.old is o.1 was.among (was.uid ∙ sym old_uid) in
    let fits : fit side m.bytes ≡ true =
    ap (λ (bs : List ℕ). fit side bs) (sym was.bytes ∙ ap (λ (x : Message). x.bytes) one) ∙ ap (λ (i : Item). i.fit) o.2 ∙ new.1 in
    let still : may_be (scene_of w' options) d m.uid ≡ true = same_state w w' options d m.uid same ∙ ap (λ (u : ℕ). may_be s d u) (sym uid) ∙ may in
    let now : is_new (scene_of w' options) d (item_of side m) ≡ true =
    and_from (would_be_new (scene_of w' options) d (item_of side m)) (fit side m.bytes)
    (and_from (may_be (scene_of w' options) d m.uid) (not (has m.flags DELETED && covers options.expunge side)) still
    (not_from_false (has m.flags DELETED && covers options.expunge side) kept)) fits in
    list_any_from (λ (i : Item). i.uid == m.uid && is_new (scene_of w' options) d i) (items (scene_of w' options) side) (item_of side m)
    (subst (λ (is : List Item). Contains is (item_of side m)) (sym (items_of w' options side)) (Contains-map (item_of side) (store w' side).messages m (item_of side m) among refl))
    (and_from (m.uid == m.uid) (is_new (scene_of w' options) d (item_of side m)) (eq-eqb m.uid m.uid refl) now)
