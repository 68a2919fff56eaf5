-- What Expunge reaches: each deleted message that was there before the run, and no other.
use Rattle.std.proofs.Common.{◌≡◌, ◌<◌, ◌≤◌, ℕ, Bool, true, false, Option, Some, None, is_some, refl, sym, ap, ◌∙◌, arith}
use Rattle.std.specs.Prelude.{filter, not, ◌&&◌}
use Rattle.std.proofs.lemmas.Bool.{false≢true, and_parts, not-true, false_from_ne_true}
use Rattle.std.proofs.lemmas.List.Elements.{All-contains}
use Rattle.mailcore.specs.declared.side.Side.{Side}
use Rattle.mailcore.specs.declared.mailbox.Message.{Message}
use Rattle.mailcore.specs.FlagSet.{DELETED, has}
use Rattle.mailcore.specs.Sides.{towards}
use Rattle.mailcore.specs.Listed.{item_of}
use Rattle.rules.specs.Options.{covers}
use Rattle.rules.specs.Scene.{Scene, items, flags_at}
use Rattle.rules.specs.Called.{is_expunged, is_deleted_then, flags_after}
use Rattle.rules.specs.World.{store, scene_of}
use Rattle.rules.specs.WorldAfter.{new_messages, marks_to}
use Rattle.rules.proofs.Walks.{filter_contains, map_contains}
use Rattle.rules.proofs.LookUps.{flags_at_item, listed_item}
use Rattle.rules.proofs.WorldLemmas.{listed, stored, store_is, rising}
use Rattle.law_outcome.specs.RuleLaws.{NoneDeletedStays, ExpungedWasThere, CopyIsNotExpunged}
use Rattle.law_outcome.proofs.ListedAfter.{copies_above}

covered : (b c : Bool) → b ≡ true → (b && c) ≡ false → c ≡ false
covered true c h k = k
covered false c h k = absurd (false≢true h)

pub none_deleted : NoneDeletedStays
none_deleted w options side m h on c =
    let s : Scene = scene_of w options in
    let r = map_contains (λ (x : Message). record { uid = x.uid; flags = flags_after s side x.uid x.flags; bytes = x.bytes }) (filter (λ x. not (is_expunged s side x.uid)) (store w side).messages) m c in
    let f = filter_contains (λ (x : Message). not (is_expunged s side x.uid)) (store w side).messages r.0 r.1 in
    let at : flags_at (items s side) r.0.uid ≡ Some r.0.flags = flags_at_item (items s side) (rising w options h side) (item_of side r.0) (listed w options side r.0 f.0) in
    ap (λ (x : Message). has x.flags DELETED) (sym r.2)
    ∙ ap (λ o. is_deleted_then s side r.0.uid o) (sym at)
    ∙ covered (covers options.expunge side) (is_deleted_then s side r.0.uid (flags_at (items s side) r.0.uid)) on (not-true (is_expunged s side r.0.uid) f.1)

deleted_some : (s : Scene) (side : Side) (u : ℕ) (o : Option ℕ) → is_deleted_then s side u o ≡ true → is_some o ≡ true
deleted_some s side u None h = absurd (false≢true h)
deleted_some s side u (Some flags) h = refl

pub was_there : ExpungedWasThere
was_there w options side u h =
    let s : Scene = scene_of w options in
    let a = and_parts (covers options.expunge side) (is_deleted_then s side u (flags_at (items s side) u)) h in
    let i = listed_item (items s side) u (deleted_some s side u (flags_at (items s side) u) a.1) in
    let m = stored w options side i.0 i.1 in
    (m.0, m.1, m.2 ∙ i.2)

pub no_copy : CopyIsNotExpunged
no_copy w options side uids marks next c h rise among =
    false_from_ne_true (is_expunged (scene_of w options) side c.uid)
    (λ t.
    let m = was_there w options side c.uid t in
    let below : m.0.uid < (store w side).next = All-contains (λ (x : Message). x.uid < (store w side).next) (store w side).messages m.0 (store_is w h side).below m.1 in
    let above : (store w side).next ≤ c.uid = copies_above side (store w side).next uids next (marks_to w options side marks) (new_messages w options (towards side)) c rise among in
    let same : m.0.uid ≡ c.uid = m.2 in
    omega arith)
