-- Waiting files that get their UIDs.
use Rattle.std.proofs.Common.{◌≡◌, ◌≤◌, ◌+◌, inl, inr, ℕ, Bool, List, [], ◌∷◌, ◌++◌, length, take, drop, refl, sym, ◌∙◌, ap, subst, arith, append-nil, append_assoc, length-append}
use Rattle.std.specs.Prelude.{Contains, IsPermutation}
use Rattle.std.proofs.lemmas.List.{take-append-drop, take_all}
use Rattle.std.proofs.lemmas.List.Elements.{Contains-append_cases, Contains-append_left, Contains-append_right}
use Rattle.std.proofs.lemmas.List.Sorted.{Contains-permutation, IsPermutation-append_right, IsPermutation-sym, IsPermutation-trans}
use Rattle.mailcore.specs.declared.mailbox.Message.{Message}
use Rattle.mailcore.specs.declared.side.Side.TheVariants.{Far, Near}
use Rattle.mailcore.specs.Rise.{Rise}
use Rattle.mailcore.specs.Stores.{Waiting, numbered}
use Rattle.mailcore.proofs.OperationLemmas.{is_store-numbered}
use Rattle.mailcore.specs.Mailboxes.{Mailbox}
use Rattle.rules.specs.declared.state.SyncState.{SyncState}
use Rattle.rules.specs.Admission.{numbered_under}
use Rattle.rules.specs.World.{World, store}
use Rattle.outside.specs.MailboxOperations.{IsReading, read_admitted}
use Rattle.outside.specs.Devices.{Device}
use Rattle.run_states.specs.Openings.{Grows, world_at}
use Rattle.run_states.proofs.Foreign.{two}

-- so many numbers from `next` on
abbrev run_from : (next : ℕ) → List Waiting → List ℕ
run_from next [] = []
run_from next (f ∷ fs) = next ∷ run_from (next + 1) fs

rises_on : (least : ℕ) (us : List ℕ) (next : ℕ) (fs : List Waiting) (bound : ℕ) → Rise least us next → next + length fs ≤ bound → Rise least (us ++ run_from next fs) bound
rises_on least [] next [] bound h le = omega arith
rises_on least [] next (f ∷ fs) bound h le = (h, rises_on (next + 1) [] (next + 1) fs bound (omega arith) (omega arith))
rises_on least (u ∷ us) next fs bound h le = (h.0, rises_on (u + 1) us next fs bound h.1 le)

run_length : (next : ℕ) (fs : List Waiting) → length (run_from next fs) ≡ length fs
run_length next [] = refl
run_length next (f ∷ fs) = let k = run_length (next + 1) fs in omega arith

under_run : (next : ℕ) (fs : List Waiting) → numbered next fs ≡ numbered_under (run_from next fs) fs
under_run next [] = refl
under_run next (f ∷ fs) = ap (λ (l : List Message). record { uid = next; flags = f.flags; bytes = f.bytes } ∷ l) (under_run (next + 1) fs)

under_append : (us vs : List ℕ) (fs gs : List Waiting) → length us ≡ length fs → numbered_under (us ++ vs) (fs ++ gs) ≡ numbered_under us fs ++ numbered_under vs gs
under_append [] vs [] gs e = refl
under_append [] vs (f ∷ fs) gs e = absurd (omega arith)
under_append (u ∷ us) vs [] gs e = absurd (omega arith)
under_append (u ∷ us) vs (f ∷ fs) gs e = ap (λ (l : List Message). record { uid = u; flags = f.flags; bytes = f.bytes } ∷ l) (under_append us vs fs gs (omega arith))

take_few : (count : ℕ) (fs : List Waiting) → length (take count fs) ≤ length fs
take_few count fs = let e = ap (λ (l : List Waiting). length l) (take-append-drop count fs) in let k = length-append {A = Waiting} (take count fs) (drop count fs) in omega arith

pub drop_whole : (fs : List Waiting) → drop (length fs) fs ≡ []
drop_whole [] = refl
drop_whole (f ∷ fs) = drop_whole fs

-- those that were read, and those that were not, in whichever order they wait
read_gathered : (ws arrived named waiting read left : List Waiting) → IsPermutation (ws ++ arrived) (named ++ waiting) → IsPermutation (read ++ left) waiting → IsPermutation (ws ++ arrived) (named ++ (read ++ left))
read_gathered ws arrived named waiting read left m k =
    IsPermutation-trans (ws ++ arrived) (named ++ waiting) (named ++ (read ++ left)) m (IsPermutation-append_right named waiting (read ++ left) (IsPermutation-sym (read ++ left) waiting k))

-- the first of them are named, the others wait
first_named : (count : ℕ) (named read left : List Waiting) → named ++ (read ++ left) ≡ (named ++ take count read) ++ (drop count read ++ left)
first_named count named read left =
    ap (λ (fs : List Waiting). named ++ (fs ++ left)) (sym (take-append-drop count read))
    ∙ ap (λ (fs : List Waiting). named ++ fs) (append_assoc (take count read) (drop count read) left)
    ∙ sym (append_assoc named (take count read) (drop count read ++ left))

-- the first of what was read has its UIDs; those that had theirs have them still
pub numbered_with : (P : List Waiting → Type 0) (alone : Bool) (w : World) (s : SyncState) (count : ℕ) (read left : List Waiting) (d d' : Device) → IsReading alone read left d.near → d'.far ≡ d.far → d'.near ≡ read_admitted count read left d.near
    → (g : Grows alone w (world_at d s)) → P (g.named ++ take count read) → (h : Grows alone w (world_at d' s)) × P h.named
numbered_with P alone w s count read left d d' reading far_is near_is g p =
    let n : Mailbox = d.near in
    let first : List Waiting = take count read in
    let few = take_few count read in
    let now : World = record { far = d.far; near = (read_admitted count read left n).store; waiting = drop count read ++ left; state = s } in
    let v = g.validity in
    let there : now ≡ world_at d' s = rw (far_is, near_is) refl in
    let grown : Grows alone w now = record {
      in_order = record { far = g.in_order.far; near = is_store-numbered n.store first (n.store.next + length read) (omega arith) g.in_order.near; pairs = g.in_order.pairs };
      state = g.state;
      validity = two (λ side. (store now side).validity ≡ (store w side).validity) (v Far) (v Near);
      far_next = g.far_next;
      far_added = g.far_added;
      far = g.far;
      uids = g.uids ++ run_from n.store.next first;
      rise = rises_on w.near.next g.uids n.store.next first (n.store.next + length read) g.rise (omega arith);
      arrived = g.arrived;
      named = g.named ++ first;
      gathered = subst (λ (fs : List Waiting). IsPermutation (w.waiting ++ g.arrived) fs) (first_named count g.named read left) (read_gathered w.waiting g.arrived g.named n.waiting read left g.gathered reading.parts);
      each = rw (length-append {A = ℕ} g.uids (run_from n.store.next first), length-append {A = Waiting} g.named first, run_length n.store.next first, g.each) refl;
      near = rw (under_append g.uids (run_from n.store.next first) g.named first g.each, ← under_run n.store.next first) (ap (λ (l : List Message). l ++ numbered n.store.next first) g.near ∙ append_assoc w.near.messages (numbered_under g.uids g.named) (numbered n.store.next first));
      nobody = λ e.
          let all = reading.all e in
          let both : read ++ left ≡ n.waiting = ap (λ (fs : List Waiting). read ++ fs) all.1 ∙ append-nil read ∙ all.0 in
          ((g.nobody e).0, sym (first_named count g.named read left) ∙ ap (λ (fs : List Waiting). g.named ++ fs) both ∙ (g.nobody e).1);
    } in
    subst (λ (x : World). (h : Grows alone w x) × P h.named) there (grown, p)

pub grows_numbered : (alone : Bool) (w : World) (s : SyncState) (count : ℕ) (read left : List Waiting) (d d' : Device) → IsReading alone read left d.near → d'.far ≡ d.far → d'.near ≡ read_admitted count read left d.near → Grows alone w (world_at d s) → Grows alone w (world_at d' s)
grows_numbered alone w s count read left d d' reading far_is near_is g = (numbered_with (λ _. Unit {0}) alone w s count read left d d' reading far_is near_is g tt).0

-- Once all that was read has its UIDs, each file that had waited at the opening has one: it had one before, or waited then and was read.
pub waited_named : (alone : Bool) (w now : World) (g : Grows alone w now) (read : List Waiting) → ((f : Waiting) → Contains now.waiting f → Contains read f) → (f : Waiting) → Contains w.waiting f → Contains (g.named ++ take (length read) read) f
waited_named alone w now g read least f c = elim (Contains-append_cases g.named now.waiting f (Contains-permutation (w.waiting ++ g.arrived) (g.named ++ now.waiting) f g.gathered (Contains-append_left w.waiting g.arrived f c))) [
  | inl named ↦ Contains-append_left g.named (take (length read) read) f named
  | inr waits ↦ Contains-append_right g.named (take (length read) read) f (subst (λ (fs : List Waiting). Contains fs f) (sym (take_all (length read) read (omega arith))) (least f waits))
]
