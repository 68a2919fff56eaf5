-- Visits to a server.
use Rattle.std.proofs.Common.{◌≡◌, ℕ, ◌+◌, ◌^◌, ◌<◌, Bool, true, false, List, [], ◌∷◌, ◌++◌, map, refl, sym, ◌∙◌, ap, subst, append_assoc, append-nil, Some, arith, if◌then◌else◌}
use Rattle.std.proofs.lemmas.Bool.{true≢false}
use Rattle.std.proofs.lemmas.List.{map-append}
use Rattle.std.proofs.lemmas.List.Elements.{All-nil, All-cons, All-append}
use Rattle.mailcore.specs.declared.mailbox.Message.{Message}
use Rattle.mailcore.specs.Content.{mark_of}
use Rattle.mailcore.specs.FlagSet.{FLAGS}
use Rattle.mailcore.specs.KeywordNames.{kept}
use Rattle.mailcore.specs.Operations.{added}
use Rattle.mailcore.specs.Rise.{Rise}
use Rattle.mailcore.specs.Stores.{Store}
use Rattle.mailcore.proofs.KnownFlags.{kept-lt}
use Rattle.wire_strings.specs.Literals.{IsLiteral}
use Rattle.mailcore.specs.Visitors.{Visitors, AreOctets, IsForeign}
use Rattle.imap_session.specs.Mailboxes.{FarMailbox, same_name, mailbox_at, changed}
use Rattle.imap_session.specs.Servers.{Server, reported}
use Rattle.imap_session.specs.Arrivals.{ArrivedUnder}
use Rattle.imap_session.specs.Visits.{Gains, AllGain, Visits}

abbrev uid : Message → ℕ
uid m = m.uid

-- what is so of each message that comes
abbrev Numbered : Message → Type 0
Numbered m = 0 < m.uid

abbrev Last : Message → Type 0
Last m = m.uid + 1 < 2 ^ 32

abbrev Set : Message → Type 0
Set m = m.flags < 2 ^ FLAGS

abbrev Body : Message → Type 0
Body m = IsLiteral m.bytes

abbrev Octets : Message → Type 0
Octets m = AreOctets m.bytes

module _ (v : Visitors) where
  abbrev Foreign : Message → Type 0
  Foreign m = IsForeign v.ours (mark_of m.bytes)

  gains_none : (s : Store) → Gains v s s
  gains_none s = record {
    more = [];
    messages = sym (append-nil s.messages);
    validity = refl;
    rise = omega arith;
    range = record { uids = All-nil Numbered; last = All-nil Last; flags = All-nil Set };
    bodies = All-nil Body;
    octets = All-nil Octets;
    foreign = All-nil Foreign;
  }

  all_none : (ms : List FarMailbox) → AllGain v ms ms
  all_none [] = tt
  all_none (m ∷ ms) = (refl, gains_none m.store, all_none ms)

  -- nobody was there
  pub nobody_visits : (s : Server) → Visits v s s
  nobody_visits s = record { user = refl; password = refl; keywords = refl; condition = refl; gains = all_none s.mailboxes; nobody = λ _. refl }

  -- UIDs after others
  rise_after : (from : ℕ) (us : List ℕ) (mid : ℕ) (vs : List ℕ) (next : ℕ) → Rise from us mid → Rise mid vs next → Rise from (us ++ vs) next
  rise_after from [] mid [] next le rise = omega arith
  rise_after from [] mid (w ∷ vs) next le rise = (omega arith, rise.1)
  rise_after from (u ∷ us) mid vs next first rise = (first.0, rise_after (u + 1) us mid vs next first.1 rise)

  gains_more : (s t u : Store) → Gains v s t → Gains v t u → Gains v s u
  gains_more s t u h k = record {
    more = h.more ++ k.more;
    messages = k.messages ∙ ap (λ (l : List Message). l ++ k.more) h.messages ∙ append_assoc s.messages h.more k.more;
    validity = k.validity ∙ h.validity;
    rise = subst (λ us. Rise s.next us u.next) (sym (map-append uid h.more k.more)) (rise_after s.next (map uid h.more) t.next (map uid k.more) u.next h.rise k.rise);
    range = record {
      uids = All-append Numbered h.more k.more h.range.uids k.range.uids;
      last = All-append Last h.more k.more h.range.last k.range.last;
      flags = All-append Set h.more k.more h.range.flags k.range.flags;
    };
    bodies = All-append Body h.more k.more h.bodies k.bodies;
    octets = All-append Octets h.more k.more h.octets k.octets;
    foreign = All-append Foreign h.more k.more h.foreign k.foreign;
  }

  all_more : (xs ys zs : List FarMailbox) → AllGain v xs ys → AllGain v ys zs → AllGain v xs zs
  all_more [] [] [] h k = tt
  all_more [] [] (c ∷ zs) h k = absurd k
  all_more [] (b ∷ ys) zs h k = absurd h
  all_more (a ∷ xs) [] zs h k = absurd h
  all_more (a ∷ xs) (b ∷ ys) [] h k = absurd k
  all_more (a ∷ xs) (b ∷ ys) (c ∷ zs) h k = (k.0 ∙ h.0, gains_more a.store b.store c.store h.1 k.1, all_more xs ys zs h.2 k.2)

  -- others were there twice
  pub visits_follow : (s t u : Server) → Visits v s t → Visits v t u → Visits v s u
  visits_follow s t u h k = record {
    user = k.user ∙ h.user;
    password = k.password ∙ h.password;
    keywords = k.keywords ∙ h.keywords;
    condition = k.condition ∙ h.condition;
    gains = all_more s.mailboxes t.mailboxes u.mailboxes h.gains k.gains;
    nobody = λ alone. k.nobody alone ∙ h.nobody alone;
  }

  -- and the server reported it
  pub visits_reported : (s t : Server) → Visits v s t → Visits v s (reported t)
  visits_reported s t h = record { user = h.user; password = h.password; keywords = h.keywords; condition = h.condition; gains = h.gains; nobody = h.nobody }

  -- ---- an arrival is a visit

  module _ (name : List ℕ) (at flags : ℕ) (message : List ℕ) (literal : IsLiteral message) (octets : AreOctets message) (some : 0 < at) (below : at < 4294967295) (set : flags < 2 ^ FLAGS) (foreign : IsForeign v.ours (mark_of message)) where
    gains_one : (s : Store) → at ≡ s.next → Gains v s (added at flags message s)
    gains_one s e =
        let x : Message = record { uid = at; flags = flags; bytes = message } in
        record {
          more = x ∷ [];
          messages = refl;
          validity = refl;
          rise = (omega arith, omega arith);
          range = record {
            uids = All-cons Numbered x [] some (All-nil Numbered);
            last = All-cons Last x [] (omega arith) (All-nil Last);
            flags = All-cons Set x [] set (All-nil Set);
          };
          bodies = All-cons Body x [] literal (All-nil Body);
          octets = All-cons Octets x [] octets (All-nil Octets);
          foreign = All-cons Foreign x [] foreign (All-nil Foreign);
        }

    by_head : (m x : FarMailbox) (xs : List FarMailbox) (b : Bool) → (if b then Some x else mailbox_at name xs) ≡ Some m → at ≡ m.store.next
        → (mailbox_at name xs ≡ Some m → AllGain v xs (changed (added at flags message) name xs))
        → AllGain v (x ∷ xs) (if b then record x { store = added at flags message x.store } ∷ xs else x ∷ changed (added at flags message) name xs)
    by_head m x xs true e is later = let same : x ≡ m = cc in (refl, gains_one x.store (is ∙ ap (λ (y : FarMailbox). y.store.next) (sym same)), all_none xs)
    by_head m x xs false e is later = (refl, gains_none x.store, later e)

    all_gain : (m : FarMailbox) (ms : List FarMailbox) → mailbox_at name ms ≡ Some m → at ≡ m.store.next → AllGain v ms (changed (added at flags message) name ms)
    all_gain m [] e is = tt
    all_gain m (x ∷ xs) e is = by_head m x xs (same_name x.name name) e is (λ later. all_gain m xs later is)

  -- a message of others came
  pub arrival_visits : (at : ℕ) (name : List ℕ) (flags : ℕ) (message : List ℕ) (s t : Server) → 0 < at → AreOctets message → IsForeign v.ours (mark_of message) → v.alone ≡ false → ArrivedUnder at name flags message s t → Visits v s t
  arrival_visits at name flags message s t some octets foreign others a =
      subst (Visits v s) (sym a.after) (record {
        user = refl;
        password = refl;
        keywords = refl;
        condition = refl;
        gains = all_gain name at (kept s.keywords flags) message a.literal octets some a.below (kept-lt s.keywords flags) foreign a.mailbox s.mailboxes a.there a.uid_is;
        nobody = λ alone. absurd (true≢false (sym alone ∙ others));
      })
