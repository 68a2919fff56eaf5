-- How many bytes are unread, at most, where a command is waited for.
use Rattle.std.proofs.Common.{◌≡◌, ℕ, suc, ◌+◌, ◌-◌, ◌<◌, ◌≤◌, ◌⊎◌, Bool, true, false, cond, leb, List, [], ◌∷◌, ◌++◌, length, None, Some, refl, sym, ap, ◌∙◌, inl, inr, arith}
use Rattle.std.proofs.lemmas.Bool.{cases_Bool, cases_lt, true≢false, false≢true, lt-leb, le-leb}
use Rattle.std.proofs.lemmas.List.{length-append}
use Rattle.wire_reader.specs.declared.lexical.Phase.{Phase}
use Rattle.wire_reader.specs.declared.lexical.Phase.TheVariants.{Plain, Brace, Digits, Plus, Close, Return, In}
use Rattle.wire_reader.specs.declared.scanner.Scanner.{Scanner}
use Rattle.wire_reader.specs.Lexical.{next, phase, is_in, outside, outside_from}
use Rattle.wire_reader.specs.Scanning.{start, scanned, after, place_from, NoPlace}
use Rattle.wire_reader.specs.Places.{Opens}
use Rattle.wire_reader.proofs.Fitting.{outside-le}
use Rattle.wire_reader.proofs.Lexed.{phase-append}
use Rattle.wire_reader.proofs.Limits.{one_is}
use Rattle.wire_reader.proofs.Positions.{after_octet, after_other, outside-append, outside-scanned, phase-scanned, no_place_at, stays_out, Octet, Outside}
use Rattle.wire_reader.proofs.Scanned.{no_place}
use Rattle.imap_commands.specs.Commands.{Spelled}
use Rattle.imap_session.specs.Servers.{Server}
use Rattle.imap_server.specs.declared.unread.Unread.{Unread}
use Rattle.imap_server.specs.declared.unread.Unread.TheVariants.{Line, Dropped}
use Rattle.imap_server.specs.Bounds.{IsBounded}
use Rattle.imap_server.specs.Unreads.{IsSound, kept_of}
use Rattle.imap_server.proofs.OctetsFew.{command_octets, two}

-- the octets that may still come of the literal under way
abbrev owed : Phase → ℕ
owed (In n) = cond (leb n 1) 1 n
owed _ = 0

-- an octet was owed
octet_owed : (p : Phase) (b : ℕ) → is_in p ≡ true → owed p ≡ 1 + owed (next p b)
octet_owed Plain b h = absurd (false≢true h)
octet_owed Brace b h = absurd (false≢true h)
octet_owed (Digits n) b h = absurd (false≢true h)
octet_owed (Plus n) b h = absurd (false≢true h)
octet_owed (Close n plus) b h = absurd (false≢true h)
octet_owed (Return n plus) b h = absurd (false≢true h)
octet_owed (In n) b h = by_test (cases_lt 1 n)
  where
    by_test : (1 < n) ⊎ (n ≤ 1) → owed (In n) ≡ 1 + owed (next (In n) b)
    by_test (inr le) =
        ap (λ (t : Bool). cond t 1 n) (le-leb n 1 le) ∙ sym (ap (λ (t : Bool). 1 + owed (cond t Plain (In (n - 1)))) (le-leb n 1 le))
    by_test (inl lt) =
        ap (λ (t : Bool). cond t 1 n) (lt-leb n 1 lt) ∙ less ∙ sym (ap (λ (t : Bool). 1 + owed (cond t Plain (In (n - 1)))) (lt-leb n 1 lt))
      where
        less : n ≡ 1 + owed (In (n - 1))
        less = elim (cases_lt 1 (n - 1)) [
          | inl more ↦ omega (arith, lt, ap (λ (t : Bool). cond t 1 (n - 1)) (lt-leb (n - 1) 1 more))
          | inr few ↦ omega (arith, lt, few, ap (λ (t : Bool). cond t 1 (n - 1)) (le-leb (n - 1) 1 few))
        ]

none_owed : (p : Phase) → is_in p ≡ false → owed p ≡ 0
none_owed Plain h = refl
none_owed Brace h = refl
none_owed (Digits n) h = refl
none_owed (Plus n) h = refl
none_owed (Close n plus) h = refl
none_owed (Return n plus) h = refl
none_owed (In n) h = absurd (true≢false h)

-- up to where no literal is under way all of them come
all_come : (p : Phase) (more : List ℕ) → phase p more ≡ Plain → outside_from p more + owed p ≤ length more
all_come p [] h = omega (arith, ap owed h)
all_come p (b ∷ more) h =
    let r = all_come (next p b) more h in
    elim (cases_Bool (is_in p)) [
      | inl e ↦ omega (arith, r, one_is p true e, octet_owed p b e)
      | inr e ↦ omega (arith, outside-le (next p b) more, one_is p false e, none_owed p e)
    ]

-- up to the next place no other literal begins
no_others : (ys : List ℕ) (at : ℕ) (s : Scanner) → place_from at s ys ≡ None → length ys ≤ outside_from s.phase ys + owed s.phase
no_others [] at s h = omega arith
no_others (b ∷ ys) at s h =
    let n = no_place at s b ys h in
    let r = no_others ys (suc at) (after s b) n.1 in
    elim (no_place_at s b n.0) [
      | Octet e z ↦ omega (arith, r, one_is s.phase true e, octet_owed s.phase b e)
      | Outside e z le ↦ omega (arith, r, one_is s.phase false e, none_owed s.phase e, none_owed (next s.phase b) (stays_out s.phase b e z))
    ]

-- nor does the line get too long
stays_within : (ys : List ℕ) (at : ℕ) (s : Scanner) → place_from at s ys ≡ None → s.outside ≤ 65536 → s.outside + outside_from s.phase ys ≤ 65536
stays_within [] at s h le = omega (arith, le)
stays_within (b ∷ ys) at s h le =
    let n = no_place at s b ys h in
    elim (no_place_at s b n.0) [
      | Octet e z ↦
          let a = after_octet s b e in
          let r = stays_within ys (suc at) (after s b) n.1 (omega (arith, a, le)) in
          omega (arith, r, a, one_is s.phase true e)
      | Outside e z room ↦
          let a = after_other s b e le in
          let r = stays_within ys (suc at) (after s b) n.1 (omega (arith, a, room)) in
          omega (arith, r, a, one_is s.phase false e)
    ]

pub few_unread : (front since : List ℕ) → Opens Spelled front → NoPlace front since → length (front ++ since) ≤ 65536 + two
few_unread front since o n =
    let b = o.begins in
    let fits = o.fits in
    let c = command_octets b.value (front ++ b.more) b.spelled in
    let few = c.few in
    let p = phase Plain front in
    let led : phase p b.more ≡ Plain = sym (phase-append Plain front b.more) ∙ c.plain in
    let come = all_come p b.more led in
    let s = scanned start front in
    let there : s.phase ≡ p = phase-scanned start front in
    let count : s.outside ≡ outside front = omega (arith, outside-scanned front start (omega (arith, fits))) in
    let others = no_others since 0 s n in
    let within = stays_within since 0 s n (omega (arith, count, fits)) in
    omega (
      arith,
      few,
      come,
      others,
      within,
      count,
      ap owed there,
      ap (λ (x : Phase). outside_from x since) there,
      length-append front since,
      length-append front b.more,
      outside-append Plain front b.more,
    )

pub bounded_by : (server : Server) (unread : Unread) → IsSound server unread → IsBounded (Some (kept_of unread))
bounded_by server (Line line) s =
    let w = s.scanned in
    omega (arith, ap length w.parts, few_unread w.front w.since w.opens w.no_place)
bounded_by server (Dropped line) s = tt
