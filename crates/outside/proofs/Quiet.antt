-- Nobody else adds messages to a mailbox.
use Rattle.std.proofs.Common.{ap, refl, subst, sym, ℕ, Bool, List, [], ◌++◌, append-nil, arith}
use Rattle.std.specs.Prelude.{IsPermutation}
use Rattle.std.proofs.lemmas.List.Elements.{All-nil}
use Rattle.std.proofs.lemmas.List.Sorted.{IsPermutation-refl}
use Rattle.mailcore.specs.declared.mailbox.Message.{Message}
use Rattle.mailcore.specs.declared.side.Side.{Side}
use Rattle.mailcore.specs.declared.side.Side.TheVariants.{Far, Near}
use Rattle.mailcore.specs.Mailboxes.{Mailbox}
use Rattle.mailcore.specs.Stores.{Waiting}
use Rattle.outside.specs.BoxArrivals.{Arrives}

-- no file comes
pub none_come : (ws : List Waiting) → IsPermutation (ws ++ []) ws
none_come ws = subst (λ (l : List Waiting). IsPermutation l ws) (sym (append-nil ws)) (IsPermutation-refl ws)

pub quiet : (side : Side) (ours : List ℕ → Bool) (alone : Bool) (b : Mailbox) → Arrives side ours alone b b
quiet Far ours alone b = record {
  comes = record {
    messages = [];
    next = b.store.next;
    rise = omega arith;
    sound = All-nil _;
    foreign = All-nil _;
    now = ap (λ (ms : List Message). record b { store = record b.store { messages = ms } }) (sym (append-nil b.store.messages));
  };
  nobody = λ _. refl;
}
quiet Near ours alone b = record {
  comes = record { files = []; waiting = b.waiting; gathered = none_come b.waiting; sound = All-nil _; foreign = All-nil _; now = refl };
  nobody = λ _. refl;
}
