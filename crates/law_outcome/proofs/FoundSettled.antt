-- What is found owes nothing more, where Expunge covers no side.
use Rattle.std.proofs.Common.{◌≡◌, ℕ, List, map, sym, ap, ◌∙◌, subst, ◌↔◌, false}
use Rattle.std.specs.Prelude.{Contains}
use Rattle.std.proofs.lemmas.List.Sorted.{IsPermutation-sym, Contains-permutation}
use Rattle.mailcore.specs.declared.side.Side.{Side}
use Rattle.mailcore.specs.declared.side.Side.TheVariants.{Far, Near}
use Rattle.mailcore.specs.declared.side.Direction.TheVariants.{Pull}
use Rattle.mailcore.specs.declared.mailbox.Message.{Message}
use Rattle.mailcore.specs.Listed.{item_of}
use Rattle.rules.specs.declared.entry.Entry.{Entry}
use Rattle.rules.specs.declared.options.Options.{Options}
use Rattle.rules.specs.Scene.{Scene}
use Rattle.rules.specs.Called.{called}
use Rattle.rules.specs.Outcome.{highest_after}
use Rattle.rules.specs.World.{World, store, scene_of}
use Rattle.rules.specs.WorldAfter.{messages_under, entries_under, outcome_under}
use Rattle.rules.specs.AlikeBy.{AlikeBy}
use Rattle.law_outcome.proofs.Settled.{settled_under}
use Rattle.law_outcome.specs.AlikeLaws.{FoundSettles}

module _ (w : World) (options : Options) (found : World) (a : AlikeBy w options found) where
  abbrev next : Side → ℕ
  next side = (store found side).next

  abbrev showing : (far near : List Message) → (max_pulled max_pushed : ℕ) → Scene
  showing far near max_pulled max_pushed = record {
    far = map (item_of Far) far;
    near = map (item_of Near) near;
    entries = found.state.entries;
    max_pulled = max_pulled;
    max_pushed = max_pushed;
    options = options;
  }

  abbrev top : ℕ
  top = highest_after (scene_of w options) Pull

  found_scene : scene_of found options ≡ record (scene_of (outcome_under w options a.uids a.marks next) options) { entries = found.state.entries }
  found_scene =
      ap (λ ms. showing ms found.near.messages found.state.max_pulled found.state.max_pushed) (a.messages Far)
      ∙ ap (λ ms. showing (messages_under w options Far (a.uids Far) a.marks) ms found.state.max_pulled found.state.max_pushed) (a.messages Near)
      ∙ ap (λ n. showing (messages_under w options Far (a.uids Far) a.marks) (messages_under w options Near (a.uids Near) a.marks) n found.state.max_pushed) a.state.max_pulled
      ∙ ap (λ n. showing (messages_under w options Far (a.uids Far) a.marks) (messages_under w options Near (a.uids Near) a.marks) top n) a.state.max_pushed

  same_entries : (e : Entry) → Contains found.state.entries e ↔ Contains (entries_under w options a.uids) e
  same_entries e = (
    Contains-permutation found.state.entries (entries_under w options a.uids) e (IsPermutation-sym (entries_under w options a.uids) found.state.entries a.state.entries),
    Contains-permutation (entries_under w options a.uids) found.state.entries e a.state.entries,
  )

pub found_settles : FoundSettles
found_settles w options found world below a far near q =
    subst (λ s. called s q ≡ false) (sym (found_scene w options found a))
    (settled_under w options a.uids a.marks (λ side. (store found side).next) found.state.entries world below far near a.are_marks.count a.rise (same_entries w options found a) q)
