-- Files that waited when a run began are messages of the world that it was planned on.
use Rattle.std.proofs.Common.{◌≡◌, ◌≢◌, ◌≤◌, ◌<◌, ◌+◌, ℕ, Bool, inl, inr, List, [], ◌∷◌, length, refl, sym, subst, arith}
use Rattle.std.specs.Prelude.{Contains}
use Rattle.std.proofs.lemmas.List.Elements.{All-weaker, Contains-append_right}
use Rattle.mailcore.specs.declared.mailbox.Message.{Message}
use Rattle.mailcore.specs.declared.side.Side.TheVariants.{Near}
use Rattle.mailcore.specs.declared.side.Direction.TheVariants.{Push}
use Rattle.mailcore.specs.Rise.{Rise}
use Rattle.mailcore.specs.Stores.{Waiting}
use Rattle.rules.specs.declared.entry.Entry.{Entry}
use Rattle.rules.specs.Admission.{numbered_under}
use Rattle.rules.specs.Entries.{uid_of}
use Rattle.rules.proofs.Walks.{Contains-cases, Contains-first, Contains-none, Contains-rest}
use Rattle.rules.specs.World.{World}
use Rattle.run_states.specs.Openings.{Opening, Since}
use Rattle.run_states.specs.Waited.{IsRead, WaitingAreCopied, WaitingArePlanned, WaitingAreRead}
use Rattle.run_states.proofs.CalledNext.{called_new}

-- a file of these has one of the UIDs
record IsNumbered (first : ℕ) (messages : List Message) (f : Waiting) : Type 0 where
  uid : ℕ
  least : first ≤ uid
  is_there : Contains messages (record { uid = uid; flags = f.flags; bytes = f.bytes })

numbered_file : (least : ℕ) (uids : List ℕ) (next : ℕ) (fs : List Waiting) (f : Waiting) → Rise least uids next → length uids ≡ length fs → Contains fs f → IsNumbered least (numbered_under uids fs) f
numbered_file least uids next [] f rise each c = absurd (Contains-none f c)
numbered_file least [] next (g ∷ fs) f rise each c = absurd (omega arith)
numbered_file least (u ∷ uids) next (g ∷ fs) f rise each c = elim (Contains-cases g f fs c) [
  | inl same ↦ record {
    uid = u;
    least = rise.0;
    is_there = subst (λ (x : Waiting). Contains (numbered_under (u ∷ uids) (g ∷ fs)) (record { uid = u; flags = x.flags; bytes = x.bytes })) same (Contains-first _ _);
  }
  | inr rest ↦
      let k = numbered_file (u + 1) uids next fs f rise.1 (omega arith) rest in
      record { uid = k.uid; least = (let a : least ≤ u = rise.0 in let b : u + 1 ≤ k.uid = k.least in omega arith); is_there = Contains-rest _ _ _ k.is_there }
]

since_read : {ours : List ℕ → Bool} {alone : Bool} (opening : Opening ours alone) (P : World → Type 0) (since : Since opening P) (f : Waiting) → Contains opening.world.waiting f → IsRead opening.world.near.next since.world f
since_read opening P since f c =
    let g = since.grows in
    let k = numbered_file opening.world.near.next g.uids since.world.near.next g.named f g.rise g.each (since.waited f c) in
    let it : Message = record { uid = k.uid; flags = f.flags; bytes = f.bytes } in
    record {
      uid = k.uid;
      least = k.least;
      is_there = subst (λ (ms : List Message). Contains ms it) (sym g.near) (Contains-append_right opening.world.near.messages (numbered_under g.uids g.named) it k.is_there);
    }

pub waiting_are_planned : WaitingArePlanned
waiting_are_planned ours alone opening d pending f c = since_read opening _ pending f c

pub waiting_are_read : WaitingAreRead
waiting_are_read ours alone opening d over f c = since_read opening _ over f c

pub waiting_are_copied : WaitingAreCopied
waiting_are_copied ours alone opening d over f below read is_new is_fit stays =
    let least : opening.world.near.next ≤ read.uid = read.least in
    let it : Message = record { uid = read.uid; flags = f.flags; bytes = f.bytes } in
    called_new over.world opening.options Push it read.is_there
    (rw over.grows.state (let k = below.pushed in omega (arith, k, least)))
    (rw over.grows.state (All-weaker (λ (e : Entry). uid_of Near e < opening.world.near.next) (λ (e : Entry). uid_of Near e ≢ read.uid) (λ e k is. omega (arith, k, is, least)) opening.world.state.entries below.near))
    is_new is_fit stays
