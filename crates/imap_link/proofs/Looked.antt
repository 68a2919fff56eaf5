-- What a look at the front of some of the bytes says about all of them.
use Rattle.std.proofs.Common.{◌≡◌, ℕ, List, ◌++◌, refl, subst, arith, take, drop, take-append-drop, length-append, sym, ◌∙◌, Result, Ok, Err}
use Rattle.std.proofs.lemmas.List.{take-append-le}
use Rattle.wire_reader.specs.declared.answer.Read.{Read}
use Rattle.wire_reader.specs.declared.answer.Read.TheVariants.{Whole, WantsLiteral, Partial}
use Rattle.wire_reader.specs.declared.answer.WireFault.{WireFault}
use Rattle.imap_link.specs.Fronts.{Spells, IsWhole, IsBreach, Looks}
use Rattle.imap_link.proofs.Faulty.{breach_longer}

whole_longer : (bytes more : List ℕ) (len : ℕ) → IsWhole bytes len → IsWhole (bytes ++ more) len
whole_longer bytes more len w = record {
  reply = w.reply;
  within = (let h = w.within in omega (arith, h, length-append bytes more));
  spells = subst (Spells w.reply) (sym (take-append-le len bytes more w.within)) w.spells;
}

looks_on : (part following : List ℕ) (answer : Result (Read (Unit {0})) WireFault) → (answer ≡ Ok Partial → ⊥) → Looks part answer → Looks (part ++ following) answer
looks_on part following (Ok (Whole u len)) n h = whole_longer part following len h
looks_on part following (Ok (WantsLiteral k)) n h = h
looks_on part following (Ok Partial) n h = absurd (n refl)
looks_on part following (Err fault) n h = breach_longer fault part following h

pub looks_longer : (bytes : List ℕ) (end : ℕ) (answer : Result (Read (Unit {0})) WireFault) → (answer ≡ Ok Partial → ⊥) → Looks (take end bytes) answer → Looks bytes answer
looks_longer bytes end answer n h = subst (λ (l : List ℕ). Looks l answer) (take-append-drop end bytes) (looks_on (take end bytes) (drop end bytes) answer n h)

err_apart : (answer : Result (Read (Unit {0})) WireFault) (x : WireFault) → answer ≡ Err x → answer ≡ Ok Partial → ⊥
err_apart answer x e p = let both : (let z : Result (Read (Unit {0})) WireFault = Err x in z) ≡ Ok Partial = sym e ∙ p in cc

pub err_longer : (bytes : List ℕ) (end : ℕ) (answer : Result (Read (Unit {0})) WireFault) (x y : WireFault) → answer ≡ Err x → x ≡ y → IsBreach y (take end bytes) → Looks bytes answer
err_longer bytes end answer x y e f b = looks_longer bytes end answer (λ p. err_apart answer x e p) (subst (Looks (take end bytes)) (sym e) (subst (λ (z : WireFault). IsBreach z (take end bytes)) (sym f) b))
