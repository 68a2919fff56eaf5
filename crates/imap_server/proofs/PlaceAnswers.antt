-- The answers of the reader, of the bytes of the line itself.
use Rattle.std.proofs.Common.{◌≡◌, ℕ, ◌≤◌, List, take, None, Some, Result, Ok, Err, sym, subst, arith}
use Rattle.wire_reader.specs.declared.side.Speaker.TheVariants.{Commands}
use Rattle.wire_reader.specs.declared.answer.Read.{Read}
use Rattle.wire_reader.specs.declared.answer.Read.TheVariants.{Whole, WantsLiteral, Partial}
use Rattle.wire_reader.specs.declared.answer.WireFault.{WireFault}
use Rattle.wire_reader.specs.declared.answer.WireFault.TheVariants as faults
use Rattle.wire_reader.specs.Lexical.{outside, asks}
use Rattle.wire_reader.specs.Answers.{Answers, Begins, WholeAt, PassesLimit}
use Rattle.imap_commands.specs.declared.command.Command.{Command}
use Rattle.imap_commands.specs.Commands.{Spelled}
use Rattle.imap_session.specs.Portions.{SyntaxAt, LiteralAt, Tagged, TagIs}
use Rattle.imap_server.proofs.TagLemmas.{tag_before_literal}

abbrev Says : List ℕ → Result (Read Command) WireFault → Type 0
Says = Answers Commands (λ (c : Command). c) Spelled

module _ (bytes text : List ℕ) (same : bytes ≡ text) where
  read_of : (read is : Read Command) → read ≡ is → Says bytes (Ok read) → Says text (Ok is)
  read_of read is e h = subst (λ (l : List ℕ). Says l (Ok is)) same (subst (λ (r : Read Command). Says bytes (Ok r)) e h)

  fault_of : (fault is : WireFault) → fault ≡ is → Says bytes (Err fault) → Says text (Err is)
  fault_of fault is e h = subst (λ (l : List ℕ). Says l (Err is)) same (subst (λ (f : WireFault). Says bytes (Err f)) e h)

  pub whole_there : (read : Read Command) (c : Command) (used : ℕ) → read ≡ Whole c used → Says bytes (Ok read) → WholeAt Spelled text c used × (outside (take used text) ≤ 65536)
  whole_there read c used = read_of read (Whole c used)

  pub literal_asked : (read : Read Command) (n : ℕ) → read ≡ WantsLiteral n → Says bytes (Ok read) → Begins Spelled text × (outside text ≤ 65536) × (asks Commands text ≡ Some n)
  literal_asked read n = read_of read (WantsLiteral n)

  pub begins_there : (read : Read Command) → read ≡ Partial → Says bytes (Ok read) → Begins Spelled text × (outside text ≤ 65536) × (asks Commands text ≡ None)
  begins_there read = read_of read Partial

  pub syntax_there : (fault : WireFault) (at : ℕ) → fault ≡ faults.Syntax at → Says bytes (Err fault) → SyntaxAt at text
  syntax_there fault at e h = let a = fault_of fault (faults.Syntax at) e h in record { fault = a.0; fits = a.1; short = a.2 }

  pub literal_there : (fault : WireFault) (at : ℕ) → fault ≡ faults.LiteralTooLong at → Says bytes (Err fault) → LiteralAt at text
  literal_there fault at e h = let a = fault_of fault (faults.LiteralTooLong at) e h in record { fault = a.0; fits = a.1; long = a.2 }

  pub limit_there : (fault : WireFault) → fault ≡ faults.LineTooLong → Says bytes (Err fault) → PassesLimit Commands Spelled text
  limit_there fault = fault_of fault faults.LineTooLong

-- a tag stands before a literal that is too long
pub no_tag_there : (text front : List ℕ) (at : ℕ) → LiteralAt at text → front ≡ take at text → TagIs front None → ⊥
no_tag_there text front at l e none =
    let within = l.fault.within in
    let tag = tag_before_literal text at (omega (arith, within)) l.fault.before l.long in
    none tag.0 (subst (λ (f : List ℕ). Tagged f tag.0) (sym e) tag.1)
