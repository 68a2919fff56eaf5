-- What a mailbox keeps while others act.
use Rattle.std.proofs.Common.{◌≡◌, ◌∙◌, ◌≤◌, ◌<◌, ℕ, true, false, cond, eqb, List, [], ◌∷◌, refl, sym, ap, subst, inl, inr, arith}
use Rattle.std.specs.Prelude.{Contains}
use Rattle.std.proofs.lemmas.List.Elements.{Contains-append_cases}
use Rattle.mailcore.specs.declared.mailbox.Message.{Message}
use Rattle.mailcore.specs.Operations.{added, expunged, flagged, with_flags}
use Rattle.mailcore.specs.Stores.{IsStore, Store}
use Rattle.mailcore.proofs.OperationLemmas.{is_store-added, is_store-expunged, is_store-flagged}
use Rattle.rules.proofs.Walks.{Contains-cases, Contains-none, filter_contains, map_contains}
use Rattle.law_others.specs.Acts.{Act, ActsBy}
use Rattle.law_others.specs.ActLaws.{ActsKeep, Keeps, WasThere}

-- a message that is still there
still : (s : Store) (m : Message) → Contains s.messages m → WasThere s m
still s m among = record { old = m; among = among; uid = refl; bytes = refl }

-- ---- one act

-- what a message has with other flags
with_flags-uid : (change : ℕ → ℕ) (uid : ℕ) (m : Message) → (with_flags change uid m).uid ≡ m.uid
with_flags-uid change uid m = elim (eqb m.uid uid) as (λ b. (cond b (record m { flags = change m.flags }) m).uid ≡ m.uid) [ true ↦ refl | false ↦ refl ]

with_flags-bytes : (change : ℕ → ℕ) (uid : ℕ) (m : Message) → (with_flags change uid m).bytes ≡ m.bytes
with_flags-bytes change uid m = elim (eqb m.uid uid) as (λ b. (cond b (record m { flags = change m.flags }) m).bytes ≡ m.bytes) [ true ↦ refl | false ↦ refl ]

keeps_added : (s : Store) (new : Message) → s.next ≤ new.uid → IsStore s → Keeps s (added new.uid new.flags new.bytes s)
keeps_added s new above is = record {
  validity = refl;
  next = omega arith;
  order = is_store-added s new.uid new.flags new.bytes above is;
  same = λ m among below.
      elim (Contains-append_cases s.messages (record { uid = new.uid; flags = new.flags; bytes = new.bytes } ∷ []) m among) [
        | inl before ↦ still s m before
        | inr came ↦ elim (Contains-cases (record { uid = new.uid; flags = new.flags; bytes = new.bytes }) m [] came) [
          | inl this ↦ let e : new.uid ≡ m.uid = ap (λ (x : Message). x.uid) this in absurd (omega arith)
          | inr none ↦ absurd (Contains-none m none)
        ]
      ];
}

keeps_flagged : (s : Store) (uid flags : ℕ) → IsStore s → Keeps s (flagged (λ _. flags) uid s)
keeps_flagged s uid flags is = record {
  validity = refl;
  next = omega arith;
  order = is_store-flagged s (λ _. flags) uid is;
  same = λ m among below.
      let r = map_contains (with_flags (λ _. flags) uid) s.messages m among in
      record {
        old = r.0;
        among = r.1;
        uid = sym (with_flags-uid (λ _. flags) uid r.0) ∙ ap (λ (x : Message). x.uid) r.2;
        bytes = sym (with_flags-bytes (λ _. flags) uid r.0) ∙ ap (λ (x : Message). x.bytes) r.2;
      };
}

keeps_expunged : (s : Store) (uid : ℕ) → IsStore s → Keeps s (expunged (uid ∷ []) s)
keeps_expunged s uid is = record {
  validity = refl;
  next = omega arith;
  order = is_store-expunged s (uid ∷ []) is;
  same = λ m among below. still s m (filter_contains _ s.messages m among).0;
}

keeps_one : (s s' : Store) → IsStore s → Act s s' → Keeps s s'
keeps_one s s' is (inl a) = subst (Keeps s) (sym a.now) (keeps_added s a.message a.given is)
keeps_one s s' is (inr (inl f)) = subst (Keeps s) (sym f.now) (keeps_flagged s f.uid f.flags is)
keeps_one s s' is (inr (inr r)) = subst (Keeps s) (sym r.now) (keeps_expunged s r.uid is)

-- ---- any number of them

keeps_nothing : (s : Store) → IsStore s → Keeps s s
keeps_nothing s is = record { validity = refl; next = omega arith; order = is; same = λ m among below. still s m among }

then_keeps : (s t u : Store) → Keeps s t → Keeps t u → Keeps s u
then_keeps s t u a b = record {
  validity = b.validity ∙ a.validity;
  next = let x = a.next in let y = b.next in omega arith;
  order = b.order;
  same = λ m among below.
      let further : m.uid < t.next = let x = a.next in omega arith in
      let w = b.same m among further in
      let earlier : w.old.uid < s.next = let e = w.uid in omega arith in
      let v = a.same w.old w.among earlier in
      record { old = v.old; among = v.among; uid = v.uid ∙ w.uid; bytes = v.bytes ∙ w.bytes };
}

keeps_each : (s : Store) (ts : List Store) (s' : Store) → IsStore s → ActsBy s ts s' → Keeps s s'
keeps_each s [] s' is by = subst (Keeps s) (sym by) (keeps_nothing s is)
keeps_each s (t ∷ ts) s' is by = let one = keeps_one s t is by.0 in then_keeps s t s' one (keeps_each t ts s' one.order by.1)

pub keeps : ActsKeep
keeps s s' is acts = keeps_each s acts.after_each s' is acts.by
