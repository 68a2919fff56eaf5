-- Others may add nothing, and what they add in two turns they add in one.
use Rattle.std.proofs.Common.{◌+◌, ℕ, Bool, List, [], ◌∷◌, ◌++◌, map, ap, refl, sym, ◌∙◌, subst, arith, append_assoc}
use Rattle.std.proofs.lemmas.List.{append-nil, map-append}
use Rattle.std.specs.Prelude.{IsPermutation}
use Rattle.std.proofs.lemmas.List.Elements.{All-append, All-nil}
use Rattle.std.proofs.lemmas.List.Sorted.{IsPermutation-append_left, IsPermutation-trans}
use Rattle.mailcore.specs.declared.mailbox.Message.{Message}
use Rattle.mailcore.specs.Content.{mark_of}
use Rattle.mailcore.specs.Rise.{Rise}
use Rattle.mailcore.specs.Stores.{Waiting}
use Rattle.mailcore.specs.Visitors.{IsForeign}
use Rattle.rules.specs.Opening.{IsFile}
use Rattle.outside.specs.BoxArrivals.{IsFarMessage}
use Rattle.outside.proofs.Quiet.{none_come}
use Rattle.outside.specs.Arrivals.{Arrives}
use Rattle.outside.specs.Devices.{Device}

-- ---- nobody else acts

pub quiet : (ours : List ℕ → Bool) (alone : Bool) (d : Device) → Arrives ours alone d d
quiet ours alone d = record {
  messages = [];
  next = d.far.next;
  files = [];
  waiting = d.near.waiting;
  rise = omega arith;
  gathered = none_come d.near.waiting;
  far_sound = All-nil _;
  near_sound = All-nil _;
  far_foreign = All-nil _;
  near_foreign = All-nil _;
  now = ap (λ (ms : List Message). record d { far = record d.far { messages = ms } }) (sym (append-nil d.far.messages));
  nobody = λ _. refl;
}

-- ---- two turns

-- files after files
gathered_again : (xs ys zs fs ws : List Waiting) → IsPermutation (xs ++ ys) zs → IsPermutation (zs ++ fs) ws → IsPermutation (xs ++ (ys ++ fs)) ws
gathered_again xs ys zs fs ws m k =
    subst (λ (l : List Waiting). IsPermutation l ws) (append_assoc xs ys fs)
    (IsPermutation-trans ((xs ++ ys) ++ fs) (zs ++ fs) ws (IsPermutation-append_left fs (xs ++ ys) zs m) k)

-- UIDs after others
rise_after : (from : ℕ) (us : List ℕ) (mid : ℕ) (vs : List ℕ) (next : ℕ) → Rise from us mid → Rise mid vs next → Rise from (us ++ vs) next
rise_after from [] mid [] next le rise = omega arith
rise_after from [] mid (v ∷ vs) next le rise = (omega arith, rise.1)
rise_after from (u ∷ us) mid vs next first rise = (first.0, rise_after (u + 1) us mid vs next first.1 rise)

-- a device to which these messages and files were added
abbrev added : (messages : List Message) (next : ℕ) (waiting : List Waiting) → Device → Device
added messages next waiting d = record d {
  far = record d.far { next = next; messages = d.far.messages ++ messages };
  near = record d.near { waiting = waiting };
}

pub arrives_again : (ours : List ℕ → Bool) (alone : Bool) (d m e : Device) → Arrives ours alone d m → Arrives ours alone m e → Arrives ours alone d e
arrives_again ours alone d m e a b =
    let now : Device = added a.messages a.next a.waiting d in
    let c : Arrives ours alone now e = subst (λ (x : Device). Arrives ours alone x e) a.now b in
    let foreign : Waiting → Type 0 = λ f. IsForeign ours (mark_of f.bytes) in
    let uid : Message → ℕ = λ x. x.uid in
    record {
      messages = a.messages ++ c.messages;
      next = c.next;
      files = a.files ++ c.files;
      waiting = c.waiting;
      rise = subst (λ us. Rise d.far.next us c.next) (sym (map-append uid a.messages c.messages)) (rise_after d.far.next (map uid a.messages) a.next (map uid c.messages) c.next a.rise c.rise);
      gathered = gathered_again d.near.waiting a.files a.waiting c.files c.waiting a.gathered c.gathered;
      far_sound = All-append IsFarMessage a.messages c.messages a.far_sound c.far_sound;
      near_sound = All-append IsFile a.files c.files a.near_sound c.near_sound;
      far_foreign = All-append (λ (x : Message). IsForeign ours (mark_of x.bytes)) a.messages c.messages a.far_foreign c.far_foreign;
      near_foreign = All-append foreign a.files c.files a.near_foreign c.near_foreign;
      now = c.now ∙ ap (λ (ms : List Message). record d { far = record d.far { next = c.next; messages = ms }; near = record d.near { waiting = c.waiting } }) (append_assoc d.far.messages a.messages c.messages);
      nobody = λ is. b.nobody is ∙ a.nobody is;
    }
