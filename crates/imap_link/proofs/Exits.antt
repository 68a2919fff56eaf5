-- What a `?` passes on.
use Rattle.std.proofs.Common.{◌≡◌, ◌⊎◌, inl, inr, ℕ, List, sym, subst, Result, Ok, Err, IfOk, OnOk, IfErr, refl}
use Rattle.imap_link.specs.declared.fault.FarFault.{FarFault}
use Rattle.imap_link.specs.declared.fault.FarFault.TheVariants as faults
use Rattle.imap_link.specs.declared.link.LinkFault.{LinkFault}
use Rattle.imap_link.specs.declared.link.LinkFault.TheVariants as links
use Rattle.imap_link.specs.Faults.{link_fault, IsStop}
use Rattle.imap_link.specs.Fronts.{IsFaulty}

pub if_err : {T : Type 0} (Q : FarFault → Type 0) (r : Result T FarFault) (x y : FarFault) → r ≡ Err x → x ≡ y → Q y → IfErr r Q
if_err {T} Q r x y e f q = subst (λ (s : Result T FarFault). IfErr s Q) (sym e) (subst Q (sym f) q)

-- either is a stop, where no faulty bytes can come
pub only_stop : (f : FarFault) (bytes : List ℕ) → (IsFaulty bytes → ⊥) → IsStop f ⊎ IsFaulty bytes → IsStop f
only_stop f bytes n (inl s) = s
only_stop f bytes n (inr h) = absurd (n h)

pub stop_of : (fault : LinkFault) → IsStop (link_fault fault)
stop_of links.Stopped = tt
stop_of links.NoMemory = tt

pub at_ok : {T E : Type 0} (Q : T → Type 0) (r : Result T E) (x : T) → IfOk r Q → r ≡ Ok x → Q x
at_ok {T} {E} Q r x h e = subst (λ (s : Result T E). IfOk s Q) e h

pub on_ok : {T E : Type 0} (Q : Type 0) (r : Result T E) (x : T) → OnOk r Q → r ≡ Ok x → Q
on_ok {T} {E} Q r x h e = subst (λ (s : Result T E). OnOk s Q) e h

pub at_err : {T E : Type 0} (Q : E → Type 0) (r : Result T E) (x : E) → IfErr r Q → r ≡ Err x → Q x
at_err {T} {E} Q r x h e = subst (λ (s : Result T E). IfErr s Q) e h

pub if_ok : {T E : Type 0} (Q : T → Type 0) (r : Result T E) → ((x : T) → r ≡ Ok x → Q x) → IfOk r Q
if_ok Q (Ok x) h = h x refl
if_ok Q (Err y) h = tt
