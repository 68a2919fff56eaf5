-- What others do to a mailbox, they do to the device that it stands in.
use Rattle.std.proofs.Common.{◌≡◌, ◌∙◌, ap, sym, refl, ℕ, Bool, true, false, List, [], Option, None, Some, arith}
use Rattle.std.specs.Prelude.{◌&&◌, ◌++◌}
use Rattle.std.proofs.lemmas.Bool.{and_parts}
use Rattle.std.proofs.lemmas.List.{append-nil}
use Rattle.std.proofs.lemmas.List.Elements.{All-nil, All-weaker}
use Rattle.mailcore.specs.declared.mailbox.Message.{Message}
use Rattle.mailcore.specs.declared.side.Side.{Side}
use Rattle.mailcore.specs.declared.side.Side.TheVariants as sides
use Rattle.mailcore.specs.Content.{mark_of}
use Rattle.mailcore.specs.Mailboxes.{Mailbox}
use Rattle.outside.specs.BoxArrivals as box
use Rattle.mailcore.specs.Visitors.{IsForeign}
use Rattle.outside.proofs.Quiet.{none_come}
use Rattle.outside.specs.Arrivals.{Arrives}
use Rattle.outside.specs.Devices.{Device}
use Rattle.run_pair.specs.Parts.{IsLess, both, put}

-- ---- nobody else acts

same_far : (d : Device) → d ≡ record d { far = record d.far { messages = d.far.messages ++ [] } }
same_far d = ap (λ (ms : List Message). record d { far = record d.far { messages = ms } }) (sym (append-nil d.far.messages))

pub quiet : (ours : List ℕ → Bool) (alone : Bool) (d : Device) → Arrives ours alone d d
quiet ours alone d = record {
  messages = [];
  next = d.far.next;
  files = [];
  waiting = d.near.waiting;
  rise = omega arith;
  gathered = none_come d.near.waiting;
  far_sound = All-nil _;
  near_sound = All-nil _;
  far_foreign = All-nil _;
  near_foreign = All-nil _;
  now = same_far d;
  nobody = λ _. refl;
}

-- ---- marks

pub is_foreign : (ours ours' : List ℕ → Bool) → IsLess ours ours' → (mark : Option (List ℕ)) → IsForeign ours mark → IsForeign ours' mark
is_foreign ours ours' less None h = tt
is_foreign ours ours' less (Some mark) h = less mark h

and_false : (a b : Bool) → b ≡ false → (a && b) ≡ false
and_false true b h = h
and_false false b h = refl

false_and : (a b : Bool) → a ≡ false → (a && b) ≡ false
false_and true b h = absurd (cc)
false_and false b h = refl

pub less_left : (ours ours' : List ℕ → Bool) → IsLess ours (both ours ours')
less_left ours ours' mark h = false_and (ours mark) (ours' mark) h

pub less_right : (ours ours' : List ℕ → Bool) → IsLess ours' (both ours ours')
less_right ours ours' mark h = and_false (ours mark) (ours' mark) h

pub alone_left : (a b : Bool) → (a && b) ≡ true → a ≡ true
alone_left a b h = (and_parts a b h).0

pub alone_right : (a b : Bool) → (a && b) ≡ true → b ≡ true
alone_right a b h = (and_parts a b h).1

-- ---- others act on one side

module _ (ours ours' : List ℕ → Bool) (alone alone' : Bool) (less : IsLess ours ours') (lone : alone' ≡ true → alone ≡ true) (d : Device) where
  pub arrives_at : (side : Side) (b b' : Mailbox) → box.Arrives side ours alone b b' → Arrives ours' alone' (put side b d) (put side b' d)
  arrives_at sides.Far b b' a = record {
    messages = a.comes.messages;
    next = a.comes.next;
    files = [];
    waiting = d.near.waiting;
    rise = a.comes.rise;
    gathered = none_come d.near.waiting;
    far_sound = a.comes.sound;
    near_sound = All-nil _;
    far_foreign = All-weaker _ _ (λ m. is_foreign ours ours' less (mark_of m.bytes)) a.comes.messages a.comes.foreign;
    near_foreign = All-nil _;
    now = ap (λ (x : Mailbox). put sides.Far x d) a.comes.now;
    nobody = λ h. ap (λ (x : Mailbox). put sides.Far x d) (a.nobody (lone h));
  }
  arrives_at sides.Near b b' a = record {
    messages = [];
    next = d.far.next;
    files = a.comes.files;
    waiting = a.comes.waiting;
    rise = omega arith;
    gathered = a.comes.gathered;
    far_sound = All-nil _;
    near_sound = a.comes.sound;
    far_foreign = All-nil _;
    near_foreign = All-weaker _ _ (λ f. is_foreign ours ours' less (mark_of f.bytes)) a.comes.files a.comes.foreign;
    now = ap (λ (x : Mailbox). put sides.Near x d) a.comes.now ∙ same_far (put sides.Near (record b { waiting = a.comes.waiting }) d);
    nobody = λ h. ap (λ (x : Mailbox). put sides.Near x d) (a.nobody (lone h));
  }
