-- The lists as maps: what is named by UIDs and marks is alike to the outcome.
use Rattle.std.proofs.Common.{◌≡◌, ◌≢◌, ◌<◌, ◌+◌, ℕ, List, ◌++◌, Some, length, map, refl, sym, ap, ◌∙◌, subst, arith}
use Rattle.std.specs.Prelude.{All, AllPairs, filter, not}
use Rattle.std.specs.List.{AllZip}
use Rattle.std.specs.List.Sorted.{IsPermutation}
use Rattle.std.proofs.lemmas.List.{map-append, length-map, take-append-drop}
use Rattle.std.proofs.lemmas.List.Elements.{All-map, All-weaker, All-contains, All-take, All-drop}
use Rattle.mailcore.specs.declared.side.Side.{Side}
use Rattle.mailcore.specs.declared.side.Side.TheVariants.{Far, Near}
use Rattle.mailcore.specs.declared.side.Direction.{Direction}
use Rattle.mailcore.specs.declared.side.Direction.TheVariants.{Pull, Push}
use Rattle.mailcore.specs.declared.mailbox.Message.{Message}
use Rattle.mailcore.specs.Mark.{IsMark}
use Rattle.mailcore.specs.Sides.{source, towards}
use Rattle.mailcore.specs.Rise.{Rise}
use Rattle.mailcore.proofs.RiseLemmas.{rise-ends}
use Rattle.rules.specs.declared.options.Options.{Options}
use Rattle.rules.specs.Entries.{uid_of}
use Rattle.rules.specs.Scene.{highest}
use Rattle.rules.specs.Called.{is_expunged, flags_after}
use Rattle.rules.specs.Outcome.{entries_after}
use Rattle.rules.specs.World.{World, IsInOrder, NamesBelow, store, scene_of}
use Rattle.rules.specs.WorldAfter.{new_messages, staying, outcome, marks_to}
use Rattle.rules.specs.Admission.{admitted, numbered_under, admitted_under, AreAdmission, admission_uids, next_admitted}
use Rattle.rules.specs.Copies.{copies_under, pairs_under}
use Rattle.rules.specs.Renaming.{IsRenaming, entry_under}
use Rattle.rules.specs.Alike.{IsFoundAs, Alike, copies_from, marks_from}
use Rattle.rules.specs.AlikeBy.{AlikeBy, AreCopyMarks}
use Rattle.rules.proofs.Walks.{All-from_contains, filter_contains, map_contains}
use Rattle.rules.proofs.WorldLemmas.{marks_to_counted}
use Rattle.law_outcome.specs.AlikeLaws.{AlikeUnderAdmission, AlikeByLists}
use Rattle.law_outcome.proofs.Maps.{mono, to_of, to-renames, Follows, follows-to, follows-split, rise-append}
use Rattle.law_outcome.specs.OtherUids.{KeepsNamed}
use Rattle.law_outcome.proofs.Worlds.{sent, IsSent, fixed, numbered_sent, staying_sent, new_messages_sent, entries_sent, highest_sent, kept_below, all_entries}
use Rattle.law_outcome.proofs.Admission.{admitted_sound, admitted_names, turn_admits, opening_names}
use Rattle.law_outcome.proofs.Copies.{zip_append, zip_stay, zip_copies, marks_after, marks_copied, marks_apart}
use Rattle.law_outcome.proofs.Named.{names_below}
use Rattle.law_outcome.proofs.InTurn.{copies, pulled, pushed, numbered_from}

sound_in_turn : (opening : World) → IsInOrder opening → IsInOrder (admitted opening)
sound_in_turn opening h = admitted_sound opening (admission_uids opening) (next_admitted opening) h (turn_admits opening)

-- what stays is below the next UID
pub stays_below : (w : World) (options : Options) → IsInOrder w → (side : Side) → All (λ m. m.uid < (store w side).next) (staying w options side)
stays_below w options h side =
    All-from_contains (λ (m : Message). m.uid < (store w side).next) (staying w options side)
    (λ m c.
    let r = map_contains (λ (x : Message). record { uid = x.uid; flags = flags_after (scene_of w options) side x.uid x.flags; bytes = x.bytes }) (filter (λ x. not (is_expunged (scene_of w options) side x.uid)) (store w side).messages) m c in
    let old = (filter_contains (λ (x : Message). not (is_expunged (scene_of w options) side x.uid)) (store w side).messages r.0 r.1).0 in
    subst (λ n. n < (store w side).next) (ap (λ (x : Message). x.uid) r.2) (All-contains (λ (x : Message). x.uid < (store w side).next) (store w side).messages r.0 (below side) old))
  where
    below : (side : Side) → All (λ m. m.uid < (store w side).next) (store w side).messages
    below Far = h.far.below
    below Near = h.near.below

module _ (opening : World) (options : Options) (adm : List ℕ) (next : ℕ) (found : World) (sound : IsInOrder opening) (names : NamesBelow opening) (ad : AreAdmission opening adm next) (b : AlikeBy (admitted_under adm next opening) options found) where
  abbrev a : World
  a = admitted opening

  abbrev w : World
  w = admitted_under adm next opening

  -- ---- the maps

  abbrev all_uids : Side → List ℕ
  all_uids Far = b.uids Far
  all_uids Near = adm ++ b.uids Near

  rises : (side : Side) → Rise (store opening side).next (all_uids side) (store found side).next
  rises Far = b.rise Far
  rises Near = rise-append opening.near.next adm next (b.uids Near) found.near.next ad.rise (b.rise Near)

  abbrev to : Side → ℕ → ℕ
  to side = to_of (store opening side).next (all_uids side) (store found side).next

  renames : (side : Side) → IsRenaming (store opening side).next (to side)
  renames side = to-renames (store opening side).next (all_uids side) (store found side).next (rises side)

  near_follows : Follows (to Near) opening.near.next adm × Follows (to Near) (opening.near.next + length adm) (b.uids Near)
  near_follows = follows-split (to Near) opening.near.next adm (b.uids Near) (follows-to opening.near.next (adm ++ b.uids Near) found.near.next)

  follows : (side : Side) → Follows (to side) (store a side).next (b.uids side)
  follows Far = follows-to opening.far.next (b.uids Far) found.far.next
  follows Near = subst (λ n. Follows (to Near) n (b.uids Near)) (ap (λ n. opening.near.next + n) ad.each) near_follows.1

  is_sent : IsSent to a w
  is_sent = record { messages = messages; validity = validity; state = refl }
    where
      messages : (side : Side) → (store w side).messages ≡ map (sent (to side)) (store a side).messages
      messages Far = fixed opening.far.next (to Far) (renames Far) opening.far.messages sound.far.below
      messages Near =
          ap (λ ms. ms ++ numbered_under adm opening.waiting) (fixed opening.near.next (to Near) (renames Near) opening.near.messages sound.near.below)
          ∙ ap (λ ms. map (sent (to Near)) opening.near.messages ++ ms) (numbered_sent (to Near) opening.near.next adm opening.waiting ad.each near_follows.0)
          ∙ sym (map-append (sent (to Near)) opening.near.messages (numbered_from opening.near.next opening.waiting))

      validity : (side : Side) → (store w side).validity ≡ (store a side).validity
      validity Far = refl
      validity Near = refl

  named : (side : Side) → All (λ e. uid_of side e < (store opening side).next) opening.state.entries
  named Far = names.far
  named Near = names.near

  keeps : KeepsNamed to (scene_of a options)
  keeps = record { next = λ side. (store opening side).next; renames = renames; named = named; highest = top }
    where
      top : (d : Direction) → highest d (scene_of a options) < (store opening (source d)).next
      top Pull = names.pulled
      top Push = names.pushed

  -- ---- counts

  uids_counted : (side : Side) → length (b.uids side) ≡ length (new_messages a options (towards side))
  uids_counted side =
      b.each side ∙ ap (λ (ms : List Message). length ms) (new_messages_sent to a w options is_sent keeps (towards side))
      ∙ length-map (new_messages a options (towards side)) (sent (to (source (towards side))))

  marks_to_are : (side : Side) → All IsMark (marks_to w options side b.marks)
  marks_to_are Near = All-take IsMark (length (new_messages w options Pull)) b.marks b.are_marks.each
  marks_to_are Far = All-drop IsMark (length (new_messages w options Pull)) b.marks b.are_marks.each

  -- ---- messages

  messages_are : (side : Side) → (store found side).messages
      ≡ map (sent (to side)) (staying a options side) ++ copies_under side (b.uids side) (marks_to w options side b.marks) (map (sent (to (source (towards side)))) (new_messages a options (towards side)))
  messages_are side =
      b.messages side
      ∙ ap (λ ms. ms ++ copies_under side (b.uids side) (marks_to w options side b.marks) (new_messages w options (towards side))) (staying_sent to a w options is_sent keeps side)
      ∙ ap (λ ms. map (sent (to side)) (staying a options side) ++ copies_under side (b.uids side) (marks_to w options side b.marks) ms) (new_messages_sent to a w options is_sent keeps (towards side))

  found_as : (theirs : List (List ℕ)) (side : Side) → length theirs ≡ length (new_messages a options (towards side)) → All IsMark theirs →
      AllZip (IsFoundAs (to side) (copies_from opening side)) (staying a options side ++ copies side (store a side).next theirs (new_messages a options (towards side))) (store found side).messages
  found_as theirs side l are =
      let marks_l : length (marks_to w options side b.marks) ≡ length (new_messages a options (towards side)) =
      marks_to_counted w options b.marks b.are_marks.count side ∙ sym (b.each side) ∙ uids_counted side in
      subst (λ ms. AllZip (IsFoundAs (to side) (copies_from opening side)) (staying a options side ++ copies side (store a side).next theirs (new_messages a options (towards side))) ms) (sym (messages_are side))
      (zip_append (IsFoundAs (to side) (copies_from opening side)) (staying a options side) (copies side (store a side).next theirs (new_messages a options (towards side)))
      (map (sent (to side)) (staying a options side)) (copies_under side (b.uids side) (marks_to w options side b.marks) (map (sent (to (source (towards side)))) (new_messages a options (towards side))))
      (zip_stay (to side) (store a side).next (staying a options side) (stays_below a options (sound_in_turn opening sound) side))
      (zip_copies side (to side) (to (source (towards side))) (store a side).next (store a side).next (b.uids side) theirs (marks_to w options side b.marks) (new_messages a options (towards side))
      (omega arith) (follows side) (uids_counted side) l marks_l are (marks_to_are side)))

  -- ---- entries

  entries_are : map (entry_under to) (entries_after (scene_of a options) ++ pulled a.near.next (new_messages a options Pull) ++ pushed a.far.next (new_messages a options Push))
      ≡ entries_after (scene_of w options) ++ pairs_under Pull (b.uids Near) (new_messages w options Pull) ++ pairs_under Push (b.uids Far) (new_messages w options Push)
  entries_are =
      all_entries to (λ side. (store opening side).next) (entries_after (scene_of a options)) a.near.next a.far.next (b.uids Near) (b.uids Far) (new_messages a options Pull) (new_messages a options Push)
      renames (kept_below (scene_of a options) (λ side. (store opening side).next) named) (uids_counted Near) (uids_counted Far) (follows Near) (follows Far)
      ∙ ap (λ es. es ++ pairs_under Pull (b.uids Near) (map (sent (to Far)) (new_messages a options Pull)) ++ pairs_under Push (b.uids Far) (map (sent (to Near)) (new_messages a options Push))) (sym (entries_sent to a w options is_sent keeps))
      ∙ ap (λ ms. entries_after (scene_of w options) ++ pairs_under Pull (b.uids Near) ms ++ pairs_under Push (b.uids Far) (map (sent (to Near)) (new_messages a options Push))) (sym (new_messages_sent to a w options is_sent keeps Pull))
      ∙ ap (λ ms. entries_after (scene_of w options) ++ pairs_under Pull (b.uids Near) (new_messages w options Pull) ++ pairs_under Push (b.uids Far) ms) (sym (new_messages_sent to a w options is_sent keeps Push))

  -- ---- marks

  old_below : (side : Side) → All (λ m. m.uid < to side (store a side).next) (staying w options side)
  old_below side =
      subst (λ ms. All (λ (m : Message). m.uid < to side (store a side).next) ms) (sym (staying_sent to a w options is_sent keeps side))
      (All-map (λ (m : Message). m.uid < to side (store a side).next) (sent (to side)) (staying a options side)
      (All-weaker (λ (m : Message). m.uid < (store a side).next) (λ m. to side m.uid < to side (store a side).next) (λ m l. mono (store opening side).next (to side) (renames side) m.uid (store a side).next l)
      (staying a options side) (stays_below a options (sound_in_turn opening sound) side)))

  marks_found : (side : Side) → marks_from (to side (copies_from opening side)) (store found side).messages ≡ map (λ mark. Some mark) (marks_to w options side b.marks)
  marks_found side =
      ap (λ ms. marks_from (to side (store a side).next) ms) (b.messages side)
      ∙ marks_after (to side (store a side).next) (staying w options side) (copies_under side (b.uids side) (marks_to w options side b.marks) (new_messages w options (towards side))) (old_below side)
      ∙ marks_copied side (store opening side).next (to side) (renames side) (store a side).next (store a side).next (b.uids side) (marks_to w options side b.marks) (new_messages w options (towards side))
      (omega arith) (follows side) (b.each side) (marks_to_counted w options b.marks b.are_marks.count side) (marks_to_are side)

  all_marks : marks_from (to Near (copies_from opening Near)) found.near.messages ++ marks_from (to Far (copies_from opening Far)) found.far.messages ≡ map (λ mark. Some mark) b.marks
  all_marks =
      ap (λ ms. ms ++ marks_from (to Far (copies_from opening Far)) found.far.messages) (marks_found Near)
      ∙ ap (λ ms. map (λ mark. Some mark) (marks_to w options Near b.marks) ++ ms) (marks_found Far)
      ∙ sym (map-append (λ mark. Some mark) (marks_to w options Near b.marks) (marks_to w options Far b.marks))
      ∙ ap (λ ms. map (λ mark. Some mark) ms) (take-append-drop (length (new_messages w options Pull)) b.marks)

  -- ---- all of it

  pub is_alike : (outcome_marks : List (List ℕ)) → AreCopyMarks a options outcome_marks → Alike opening (outcome a options outcome_marks) found
  is_alike outcome_marks m = record {
    to = to;
    renames = renames;
    messages = messages;
    entries = subst (λ es. IsPermutation es found.state.entries) (sym entries_are) b.state.entries;
    max_pulled = b.state.max_pulled ∙ highest_sent to a w options is_sent keeps Pull;
    max_pushed = b.state.max_pushed ∙ highest_sent to a w options is_sent keeps Push;
    run = b.state.run;
    far_validity = b.state.far_validity;
    near_validity = b.state.near_validity;
    validity = validity;
    waiting = b.waiting;
    marks = subst (λ ms. AllPairs (λ x y. x ≢ y) ms) (sym all_marks) (marks_apart b.marks b.are_marks.differ);
    next = λ side. rise-ends (store opening side).next (all_uids side) (store found side).next (rises side);
    below = names_below w options found (admitted_sound opening adm next sound ad) (admitted_names opening adm next names ad) b;
  }
    where
      messages : (side : Side) → AllZip (IsFoundAs (to side) (copies_from opening side)) (store (outcome a options outcome_marks) side).messages (store found side).messages
      messages Far = found_as (marks_to a options Far outcome_marks) Far (marks_to_counted a options outcome_marks m.count Far) (All-drop IsMark (length (new_messages a options Pull)) outcome_marks m.each)
      messages Near = found_as (marks_to a options Near outcome_marks) Near (marks_to_counted a options outcome_marks m.count Near) (All-take IsMark (length (new_messages a options Pull)) outcome_marks m.each)

      validity : (side : Side) → (store found side).validity ≡ (store (outcome a options outcome_marks) side).validity
      validity Far = b.validity Far
      validity Near = b.validity Near

pub alike_under_admission : AlikeUnderAdmission
alike_under_admission opening options uids next outcome_marks found h ad m b = is_alike opening options uids next found h.world.in_order (opening_names opening h) ad b outcome_marks m

pub alike_in_turn : (opening : World) (options : Options) (outcome_marks : List (List ℕ)) (found : World) → IsInOrder opening → NamesBelow opening → AreCopyMarks (admitted opening) options outcome_marks
    → AlikeBy (admitted opening) options found → Alike opening (outcome (admitted opening) options outcome_marks) found
alike_in_turn opening options outcome_marks found sound names m b =
    is_alike opening options (admission_uids opening) (next_admitted opening) found sound names (turn_admits opening) b outcome_marks m

pub alike_by_lists : AlikeByLists
alike_by_lists opening options outcome_marks found h m b =
    alike_in_turn opening options outcome_marks found h.world.in_order (opening_names opening h) m b
