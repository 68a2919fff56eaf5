-- What stays and what is copied has flags and bytes in range, and copies rise from the UID of the first one.
use Rattle.std.proofs.Common.{◌<◌, ◌≤◌, ◌+◌, ◌^◌, ℕ, Bool, true, false, cond, List, [], ◌∷◌, Option, Some, None, subst, arith}
use Rattle.std.specs.Prelude.{All, AllPairs}
use Rattle.std.proofs.lemmas.List.Elements.{All-nil, All-cons, All-head, All-tail, All-weaker}
use Rattle.std.proofs.lemmas.List.Kept.{AllPairs-cons}
use Rattle.mailcore.specs.declared.side.Side.{Side}
use Rattle.mailcore.specs.declared.side.Direction.TheVariants.{Pull, Push}
use Rattle.mailcore.specs.declared.mailbox.Message.{Message}
use Rattle.mailcore.specs.FlagSet.{FLAGS, DELETED}
use Rattle.mailcore.specs.Mark.{IsMark}
use Rattle.mailcore.specs.Content.{copy_text}
use Rattle.mailcore.specs.Sides.{towards, other}
use Rattle.mailcore.specs.Rise.{Rise}
use Rattle.mailcore.proofs.FlagRules.{union-lt}
use Rattle.mailcore.proofs.RiseLemmas.{rise-ends}
use Rattle.rules.specs.declared.entry.Entry.{Entry}
use Rattle.rules.specs.declared.entry.ListedPair.{ListedPair}
use Rattle.rules.specs.Options.{goes}
use Rattle.rules.specs.Entries.{uid_of}
use Rattle.rules.specs.FlagRule.{taken, with_deleted}
use Rattle.rules.specs.Scene.{Scene, items, flags_at}
use Rattle.rules.specs.Called.{flags_with, flags_by}
use Rattle.rules.specs.Outcome.{recorded_or}
use Rattle.rules.specs.Copies.{line_end, copy_of, copies_under}
use Rattle.rules.proofs.Walks.{AllPairs-nil}
use Rattle.rules.proofs.FlagLemmas.{either_value, taken-lt, recorded_is}
use Rattle.law_outcome.proofs.CopyBytes.{InRange, copy_in_range}

-- a set of the flags that there are, and bytes, each of at least `least`
pub record IsContent (least flags : ℕ) (bytes : List ℕ) : Type 0 where
  pub in_set : flags < 2 ^ FLAGS
  pub in_range : All (InRange least) bytes

-- ---- flags

with_deleted-lt : (flags : ℕ) → with_deleted flags < 2 ^ FLAGS
unfolding with_deleted
with_deleted-lt flags = union-lt flags (2 ^ DELETED)

either_lt : (t : Bool) (a b : ℕ) → a < 2 ^ FLAGS → b < 2 ^ FLAGS → cond t a b < 2 ^ FLAGS
either_lt true a b h k = h
either_lt false a b h k = k

flags_with_lt : (s : Scene) (side : Side) (flags r : ℕ) (o : Option ℕ) → flags < 2 ^ FLAGS → flags_with s side flags r o < 2 ^ FLAGS
flags_with_lt s side flags r None h = either_lt (goes s.options.cells.gone (towards side)) (with_deleted flags) flags (with_deleted-lt flags) h
flags_with_lt s side flags r (Some theirs) h = either_lt (goes s.options.cells.flags (towards side)) (taken theirs flags r) flags (taken-lt theirs flags r) h

pub flags_by_lt : (s : Scene) (side : Side) (flags : ℕ) (o : Option Entry) → flags < 2 ^ FLAGS → flags_by s side flags o < 2 ^ FLAGS
flags_by_lt s side flags None h = h
flags_by_lt s side flags (Some e) h = flags_with_lt s side flags e.flags (flags_at (items s (other side)) (uid_of (other side) e)) h

pub recorded_lt : (s : Scene) (flags : ℕ) (o : Option ListedPair) → flags < 2 ^ FLAGS → recorded_or s flags o < 2 ^ FLAGS
recorded_lt s flags None h = h
recorded_lt s flags (Some p) h =
    let pull : Bool = goes s.options.cells.flags Pull in
    let push : Bool = goes s.options.cells.flags Push in
    subst (λ n. n < 2 ^ FLAGS) (recorded_is pull push p.far_flags p.near_flags p.recorded)
    (taken-lt (either_value push p.near_flags p.recorded) (either_value pull p.far_flags p.recorded) p.recorded)

-- ---- copies

pub copies_least : (side : Side) (least bound : ℕ) (uids : List ℕ) (marks : List (List ℕ)) (ms : List Message) → Rise least uids bound → All (λ m. least ≤ m.uid) (copies_under side uids marks ms)
copies_least side least bound [] marks ms h = All-nil (λ (m : Message). least ≤ m.uid)
copies_least side least bound (u ∷ uids) [] ms h = All-nil (λ (m : Message). least ≤ m.uid)
copies_least side least bound (u ∷ uids) (mark ∷ marks) [] h = All-nil (λ (m : Message). least ≤ m.uid)
copies_least side least bound (u ∷ uids) (mark ∷ marks) (m ∷ ms) h =
    All-cons (λ (x : Message). least ≤ x.uid) (copy_of side u m.flags mark m.bytes) (copies_under side uids marks ms) h.0
    (All-weaker (λ (x : Message). u + 1 ≤ x.uid) (λ x. least ≤ x.uid) (λ x l. let k : least ≤ u = h.0 in omega arith) (copies_under side uids marks ms) (copies_least side (u + 1) bound uids marks ms h.1))

pub copies_below : (side : Side) (least bound : ℕ) (uids : List ℕ) (marks : List (List ℕ)) (ms : List Message) → Rise least uids bound → All (λ m. m.uid < bound) (copies_under side uids marks ms)
copies_below side least bound [] marks ms h = All-nil (λ (m : Message). m.uid < bound)
copies_below side least bound (u ∷ uids) [] ms h = All-nil (λ (m : Message). m.uid < bound)
copies_below side least bound (u ∷ uids) (mark ∷ marks) [] h = All-nil (λ (m : Message). m.uid < bound)
copies_below side least bound (u ∷ uids) (mark ∷ marks) (m ∷ ms) h =
    All-cons (λ (x : Message). x.uid < bound) (copy_of side u m.flags mark m.bytes) (copies_under side uids marks ms)
    (let k = rise-ends (u + 1) uids bound h.1 in let l : u < bound = omega arith in l) (copies_below side (u + 1) bound uids marks ms h.1)

pub copies_rising : (side : Side) (least bound : ℕ) (uids : List ℕ) (marks : List (List ℕ)) (ms : List Message) → Rise least uids bound → AllPairs (λ a b. a.uid < b.uid) (copies_under side uids marks ms)
copies_rising side least bound [] marks ms h = AllPairs-nil (λ (a b : Message). a.uid < b.uid)
copies_rising side least bound (u ∷ uids) [] ms h = AllPairs-nil (λ (a b : Message). a.uid < b.uid)
copies_rising side least bound (u ∷ uids) (mark ∷ marks) [] h = AllPairs-nil (λ (a b : Message). a.uid < b.uid)
copies_rising side least bound (u ∷ uids) (mark ∷ marks) (m ∷ ms) h =
    AllPairs-cons (λ (a b : Message). a.uid < b.uid) (copy_of side u m.flags mark m.bytes) (copies_under side uids marks ms)
    (All-weaker (λ (x : Message). u + 1 ≤ x.uid) (λ x. u < x.uid) (λ x l. omega arith) (copies_under side uids marks ms) (copies_least side (u + 1) bound uids marks ms h.1))
    (copies_rising side (u + 1) bound uids marks ms h.1)

-- what the source of a copy is to be
abbrev pub IsSource : ℕ → Message → Type 0
IsSource least m = (m.flags < 2 ^ FLAGS) × All (InRange least) m.bytes

pub copies_content : (side : Side) (least : ℕ) (uids : List ℕ) (marks : List (List ℕ)) (ms : List Message) → least ≤ 1 → All IsMark marks → All (IsSource least) ms →
    All (λ m. IsContent least m.flags m.bytes) (copies_under side uids marks ms)
copies_content side least [] marks ms l are h = All-nil (λ (m : Message). IsContent least m.flags m.bytes)
copies_content side least (u ∷ uids) [] ms l are h = All-nil (λ (m : Message). IsContent least m.flags m.bytes)
copies_content side least (u ∷ uids) (mark ∷ marks) [] l are h = All-nil (λ (m : Message). IsContent least m.flags m.bytes)
copies_content side least (u ∷ uids) (mark ∷ marks) (m ∷ ms) l are h =
    let here : IsSource least m = All-head (IsSource least) m ms h in
    let c : IsContent least m.flags (copy_text mark m.bytes (line_end side)) = record { in_set = here.0; in_range = copy_in_range least side mark m.bytes l (All-head IsMark mark marks are) here.1 } in
    All-cons (λ (x : Message). IsContent least x.flags x.bytes) (copy_of side u m.flags mark m.bytes) (copies_under side uids marks ms) c
    (copies_content side least uids marks ms l (All-tail IsMark mark marks are) (All-tail (IsSource least) m ms h))
