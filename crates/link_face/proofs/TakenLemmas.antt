-- A reply of the profile is read as itself.
use Rattle.std.proofs.Common.{◌≡◌, ◌==◌, ℕ, Bool, true, false, List, length, take, Option, None, Some, Ok, Err, refl, sym, ap, ◌∙◌, subst, arith, Result, IfOk, IfSome, IsErr}
use Rattle.std.specs.Prelude.{if◌then◌else◌}
use Rattle.std.proofs.lemmas.Bool.{eq-eqb, eqb-true, false≢true}
use Rattle.std.proofs.Math.Seq.{take-length}
use Rattle.wire_reader.specs.Answers.{Answers, TakesEach, Takes}
use Rattle.wire_reader.specs.declared.answer.Read.{Read}
use Rattle.wire_reader.specs.declared.answer.Read.TheVariants.{Whole, WantsLiteral, Partial}
use Rattle.wire_reader.specs.declared.answer.WireFault.{WireFault}
use Rattle.wire_reader.specs.declared.answer.WireFault.TheVariants.{Syntax, LineTooLong, LiteralTooLong, NoMemory}
use Rattle.wire_reader.specs.declared.side.Speaker.TheVariants.{Replies}
use Rattle.link_face.specs.Faces.{FitsLine, IsSpelled}
use Rattle.link_face.specs.Hearing.{whole_in}
use Rattle.imap_replies.specs.declared.reply.Reply.{Reply}
use Rattle.imap_replies.specs.Replies.{ReplyText, seen}

pub taken : (raw : List ℕ) (reply : Reply) (result : Result (Read Reply) WireFault) → TakesEach seen ReplyText raw result → ReplyText reply raw → FitsLine raw
    → Takes seen reply (length raw) result
taken raw reply result takes spelled fits =
    let whole : raw ≡ take (length raw) raw = sym (take-length raw) in
    let P : List ℕ → Type 0 = λ text. ReplyText reply text in
    let Q : List ℕ → Type 0 = λ text. FitsLine text in
    takes reply (length raw) (record { within = omega arith; spelled = subst P whole spelled }) (subst Q whole fits)

some_if : (b : Bool) (x : Reply) → b ≡ true → (if b then (let o : Option Reply = Some x in o) else None) ≡ Some x
some_if b x e = ap (λ (c : Bool). if c then (let o : Option Reply = Some x in o) else None) e

pub found_whole : (raw : List ℕ) (reply : Reply) (read : Read Reply) → TakesEach seen ReplyText raw (let r : Result (Read Reply) WireFault = Ok read in r) → ReplyText reply raw → FitsLine raw
    → whole_in read (length raw) ≡ Some reply
found_whole raw reply (Whole value used) takes spelled fits =
    let t = taken raw reply (Ok (Whole value used)) takes spelled fits in
    some_if (used == length raw) value (eq-eqb used (length raw) t.1) ∙ ap (λ (r : Reply). let o : Option Reply = Some r in o) t.0
found_whole raw reply (WantsLiteral n) takes spelled fits = absurd (taken raw reply (Ok (WantsLiteral n)) takes spelled fits)
found_whole raw reply Partial takes spelled fits = absurd (taken raw reply (Ok Partial) takes spelled fits)

spelled_if : (b : Bool) (raw : List ℕ) (x : Reply) → (b ≡ true → IsSpelled raw) → IfSome (if b then (let o : Option Reply = Some x in o) else None) (λ (r : Reply). IsSpelled raw)
spelled_if true raw x h = h refl
spelled_if false raw x h = tt

pub spelled_whole : (raw : List ℕ) (read : Read Reply) → Answers Replies seen ReplyText raw (let r : Result (Read Reply) WireFault = Ok read in r)
    → IfSome (whole_in read (length raw)) (λ (r : Reply). IsSpelled raw)
spelled_whole raw (Whole value used) h =
    spelled_if (used == length raw) raw value (λ same.
    let all : used ≡ length raw = eqb-true used (length raw) same in
    let whole : take used raw ≡ raw = ap (λ (n : ℕ). take n raw) all ∙ take-length raw in
    let P : List ℕ → Type 0 = λ text. ReplyText value text in
    let Q : List ℕ → Type 0 = λ text. FitsLine text in
    record { reply = value; spelled = subst P whole h.0.spelled; fits = subst Q whole h.1 })
spelled_whole raw (WantsLiteral n) h = tt
spelled_whole raw Partial h = tt

pub memory_alone : (raw : List ℕ) (reply : Reply) (fault : WireFault) → TakesEach seen ReplyText raw (let r : Result (Read Reply) WireFault = Err fault in r) → ReplyText reply raw → FitsLine raw
    → fault ≡ NoMemory
memory_alone raw reply (Syntax at) takes spelled fits = absurd (taken raw reply (Err (Syntax at)) takes spelled fits)
memory_alone raw reply LineTooLong takes spelled fits = absurd (taken raw reply (Err LineTooLong) takes spelled fits)
memory_alone raw reply (LiteralTooLong at) takes spelled fits = absurd (taken raw reply (Err (LiteralTooLong at)) takes spelled fits)
memory_alone raw reply NoMemory takes spelled fits = refl

pub err_case : {T E : Type 0} (r : Result T E) (P : T → Type 0) → IsErr r → IfOk r P
err_case {T} {E} (Ok x) P e = absurd (false≢true e)
err_case {T} {E} (Err x) P e = tt
