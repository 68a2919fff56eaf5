-- UID STORE as one walk over the messages.
use Rattle.std.proofs.Common.{◌≡◌, ◌<◌, ◌^◌, ℕ, zero, suc, ◌+◌, Bool, true, false, cond, eqb, List, [], ◌∷◌, length, map, filter, take, drop, ◌++◌, refl, sym, ◌∙◌, ap, subst, arith, get_or}
use Rattle.std.specs.Prelude.{All}
use Rattle.std.proofs.lemmas.List.Elements.{All-map, All-filter, All-weaker}
use Rattle.std.specs.Prelude.{slice_set}
use Rattle.std.proofs.lemmas.Bool.Decides.{nat_tests}
use Rattle.mailcore.specs.declared.mailbox.Message.{Message}
use Rattle.mailcore.specs.FlagSet.{FLAGS}
use Rattle.mailcore.specs.Listed.{AreRising, AreBelow}
use Rattle.mailcore.specs.Operations.{with_flags}
use Rattle.mailcore.specs.Stores.{Store}
use Rattle.mailcore.specs.Ranges.{AreInRange}
use Rattle.mailcore.proofs.FlagRules.{union-lt, minus-lt}
use Rattle.mailcore.proofs.Rising.{rising-map}
use Rattle.wire_strings.specs.Literals.{IsLiteral}
use Rattle.wire_tokens.specs.declared.uid_set.SetItem.{SetItem}
use Rattle.imap_commands.specs.declared.command.StoreMode.{StoreMode}
use Rattle.imap_commands.specs.declared.command.StoreMode.TheVariants as modes
use Rattle.imap_session.specs.Mailboxes.{FarMailbox}
use Rattle.imap_session.specs.NamedMessages.{each_changed, stored, named_in, uids_named}
use Rattle.imap_session.specs.Boxes.{IsServed}
use Rattle.imap_session.specs.Changing.{new_flags, given}

-- ---- the flags of one message after another are changed

abbrev folded : (ℕ → ℕ) → List ℕ → List Message → List Message
folded change [] ms = ms
folded change (u ∷ us) ms = folded change us (map (with_flags change u) ms)

abbrev apply : (ℕ → ℕ) → List ℕ → Message → Message
apply change [] m = m
apply change (u ∷ us) m = apply change us (with_flags change u m)

folded-nil : (change : ℕ → ℕ) (us : List ℕ) → folded change us [] ≡ []
folded-nil change [] = refl
folded-nil change (u ∷ us) = folded-nil change us

folded-cons : (change : ℕ → ℕ) (us : List ℕ) (m : Message) (ms : List Message) → folded change us (m ∷ ms) ≡ apply change us m ∷ folded change us ms
folded-cons change [] m ms = refl
folded-cons change (u ∷ us) m ms = folded-cons change us (with_flags change u m) (map (with_flags change u) ms)

folded-map : (change : ℕ → ℕ) (us : List ℕ) (f : Message → Message) (ms : List Message) → All (λ m. apply change us m ≡ f m) ms → folded change us ms ≡ map f ms
folded-map change us f [] h = folded-nil change us
folded-map change us f (m ∷ ms) h =
    folded-cons change us m ms ∙ ap (λ (x : Message). x ∷ folded change us ms) (h 0 m (omega arith))
    ∙ ap (λ (l : List Message). f m ∷ l) (folded-map change us f ms (λ k d within. h (suc k) d (omega arith)))

each-folded : (mode : StoreMode) (flags : ℕ) (us : List ℕ) (s : Store) → each_changed mode flags us s ≡ record s { messages = folded (new_flags mode flags) us s.messages }
each-folded mode flags [] s = refl
each-folded modes.Add flags (u ∷ us) s = each-folded modes.Add flags us _
each-folded modes.Remove flags (u ∷ us) s = each-folded modes.Remove flags us _

-- ---- each is met at most once, since UIDs rise

same_uid : (change : ℕ → ℕ) (m : Message) → with_flags change m.uid m ≡ record m { flags = change m.flags }
same_uid change m = ap (λ (b : Bool). cond b (record m { flags = change m.flags }) m) (let e : eqb m.uid m.uid ≡ true = grind (arith, nat_tests) in e)

other_uid : (change : ℕ → ℕ) (u : ℕ) (m : Message) → eqb m.uid u ≡ false → with_flags change u m ≡ m
other_uid change u m e = ap (λ (b : Bool). cond b (record m { flags = change m.flags }) m) e

not_met : (change : ℕ → ℕ) (us : List ℕ) (m : Message) → All (λ u. m.uid < u) us → apply change us m ≡ m
not_met change [] m h = refl
not_met change (u ∷ us) m h =
    let less : m.uid < u = h 0 u (omega arith) in
    let other : eqb m.uid u ≡ false = grind (arith, nat_tests) in
    ap (apply change us) (other_uid change u m other) ∙ not_met change us m (λ k d within. h (suc k) d (omega arith))

abbrev uids : (ℕ → Bool) → List Message → List ℕ
uids named ms = filter named (map (λ m. m.uid) ms)

above : (named : ℕ → Bool) (n : ℕ) (ms : List Message) → All (λ m. n < m.uid) ms → All (λ u. n < u) (uids named ms)
above named n ms h = All-filter named (λ u. n < u) (map (λ m. m.uid) ms) (All-map (λ u. n < u) (λ (m : Message). m.uid) ms h)

module _ (named : ℕ → Bool) (mode : StoreMode) (flags : ℕ) where
  abbrev change : ℕ → ℕ
  change = new_flags mode flags

  first_met : (b : Bool) (m : Message) (us : List ℕ) → All (λ u. m.uid < u) us → apply change (cond b (m.uid ∷ us) us) m ≡ cond b (record m { flags = change m.flags }) m
  first_met true m us h = ap (apply change us) (same_uid change m) ∙ not_met change us (record m { flags = change m.flags }) h
  first_met false m us h = not_met change us m h

  later_met : (b : Bool) (u : ℕ) (m : Message) (us : List ℕ) → eqb m.uid u ≡ false → apply change (cond b (u ∷ us) us) m ≡ apply change us m
  later_met true u m us h = ap (apply change us) (other_uid change u m h)
  later_met false u m us h = refl

  each_met : (ms : List Message) → AreRising ms → (k : ℕ) (d : Message) → k < length ms → apply change (uids named ms) (get_or ms k d) ≡ given named mode flags (get_or ms k d)
  each_met [] rising k d h = absurd (omega arith)
  each_met (m ∷ ms) rising zero d h =
      first_met (named m.uid) m (uids named ms) (above named m.uid ms (λ k e within. rising 0 (suc k) e (omega arith) (omega arith)))
  each_met (m ∷ ms) rising (suc k) d h =
      let less = rising 0 (suc k) d (omega arith) h in
      let other : eqb (get_or ms k d).uid m.uid ≡ false = grind (arith, nat_tests) in
      later_met (named m.uid) m.uid (get_or ms k d) (uids named ms) other
      ∙ each_met ms (λ i j e less within. rising (suc i) (suc j) e (omega arith) (omega arith)) k d (omega arith)

pub stored_is : (s : Store) (set : List SetItem) (mode : StoreMode) (flags : ℕ) → AreRising s.messages
    → stored mode flags set s ≡ record s { messages = map (given (named_in s set) mode flags) s.messages }
stored_is s set mode flags rising =
    each-folded mode flags (uids_named set s) s
    ∙ ap (λ (l : List Message). record s { messages = l }) (folded-map (new_flags mode flags) (uids_named set s) (given (named_in s set) mode flags) s.messages (each_met (named_in s set) mode flags s.messages rising))

-- ---- what stays

module _ (named : ℕ → Bool) (mode : StoreMode) (flags : ℕ) where
  pub uid-given : (m : Message) → (given named mode flags m).uid ≡ m.uid
  uid-given m = elim (named m.uid) as (λ b. (cond b (record m { flags = new_flags mode flags m.flags }) m).uid ≡ m.uid) [ true ↦ refl | false ↦ refl ]

  bytes-given : (m : Message) → (given named mode flags m).bytes ≡ m.bytes
  bytes-given m = elim (named m.uid) as (λ b. (cond b (record m { flags = new_flags mode flags m.flags }) m).bytes ≡ m.bytes) [ true ↦ refl | false ↦ refl ]

  new-lt : (mode : StoreMode) (old : ℕ) → new_flags mode flags old < 2 ^ FLAGS
  new-lt modes.Add old = union-lt old flags
  new-lt modes.Remove old = minus-lt old flags

  flags-given : (m : Message) → m.flags < 2 ^ FLAGS → (given named mode flags m).flags < 2 ^ FLAGS
  flags-given m h = elim (named m.uid) as (λ b. (cond b (record m { flags = new_flags mode flags m.flags }) m).flags < 2 ^ FLAGS) [ true ↦ new-lt mode m.flags | false ↦ h ]

  pub given_rise : (ms : List Message) → AreRising ms → AreRising (map (given named mode flags) ms)
  given_rise ms rising =
      rising-map (λ (m : Message). m.uid) (given named mode flags) ms
      (λ i j d less within.
      let low = rising i j d less within in
      let first = uid-given (get_or ms i d) in
      let second = uid-given (get_or ms j d) in
      omega arith)

  pub given_below : (ms : List Message) (next : ℕ) → AreBelow ms next → AreBelow (map (given named mode flags) ms) next
  given_below ms next below =
      All-map (λ (x : Message). x.uid < next) (given named mode flags) ms
      (All-weaker (λ (x : Message). x.uid < next) (λ (x : Message). (given named mode flags x).uid < next) (λ x less. let same = uid-given x in omega arith) ms below)

  given_range : (ms : List Message) → AreInRange ms → AreInRange (map (given named mode flags) ms)
  given_range ms are = record {
    uids = All-map (λ (x : Message). 0 < x.uid) (given named mode flags) ms
        (All-weaker (λ (x : Message). 0 < x.uid) (λ (x : Message). 0 < (given named mode flags x).uid) (λ x h. let same = uid-given x in omega arith) ms are.uids);
    last = All-map (λ (x : Message). x.uid + 1 < 2 ^ 32) (given named mode flags) ms
        (All-weaker (λ (x : Message). x.uid + 1 < 2 ^ 32) (λ (x : Message). (given named mode flags x).uid + 1 < 2 ^ 32) (λ x h. let same = uid-given x in omega arith) ms are.last);
    flags = All-map (λ (x : Message). x.flags < 2 ^ FLAGS) (given named mode flags) ms
        (All-weaker (λ (x : Message). x.flags < 2 ^ FLAGS) (λ (x : Message). (given named mode flags x).flags < 2 ^ FLAGS) flags-given ms are.flags);
  }

  pub given_served : (m : FarMailbox) → IsServed m → IsServed (record m { store = record m.store { messages = map (given named mode flags) m.store.messages } })
  given_served m is = record {
    name = is.name;
    store = record { rising = given_rise m.store.messages is.store.rising; below = given_below m.store.messages m.store.next is.store.below };
    range = record { validity = is.range.validity; next = is.range.next; messages = given_range m.store.messages is.range.messages };
    bodies = All-map (λ (x : Message). IsLiteral x.bytes) (given named mode flags) m.store.messages
        (All-weaker (λ (x : Message). IsLiteral x.bytes) (λ (x : Message). IsLiteral (given named mode flags x).bytes) (λ x h. subst IsLiteral (sym (bytes-given x)) h) m.store.messages is.bodies);
  }

-- ---- one message after another

mixed : (Message → Message) → ℕ → List Message → List Message
mixed f i xs = map f (take i xs) ++ drop i xs

mixed-set : (f : Message → Message) (xs : List Message) (i : ℕ) (d : Message) → i < length xs → slice_set (mixed f i xs) i (f (get_or xs i d)) ≡ mixed f (suc i) xs
unfolding mixed
mixed-set f [] i d h = absurd (omega arith)
mixed-set f (x ∷ xs) zero d h = refl
mixed-set f (x ∷ xs) (suc i) d h = ap (λ (l : List Message). f x ∷ l) (mixed-set f xs i d (omega arith))

mixed-get : (f : Message → Message) (xs : List Message) (i : ℕ) (d : Message) → i < length xs → get_or (mixed f i xs) i d ≡ get_or xs i d
unfolding mixed
mixed-get f [] i d h = absurd (omega arith)
mixed-get f (x ∷ xs) zero d h = refl
mixed-get f (x ∷ xs) (suc i) d h = mixed-get f xs i d (omega arith)

mixed_step : (f : Message → Message) (xs list : List Message) (i : ℕ) (item v : Message) → i < length xs → list ≡ map f (take i xs) ++ drop i xs → item ≡ get_or list i item → v ≡ f item
    → slice_set list i v ≡ map f (take (i + 1) xs) ++ drop (i + 1) xs
unfolding mixed
mixed_step f xs list i item v h is at e =
    let there : item ≡ get_or xs i item = at ∙ ap (λ (l : List Message). get_or l i item) is ∙ mixed-get f xs i item h in
    ap (λ (l : List Message). slice_set l i v) is ∙ ap (slice_set (mixed f i xs) i) (e ∙ ap f there) ∙ mixed-set f xs i item h
    ∙ ap (λ (n : ℕ). mixed f n xs) (let same : suc i ≡ i + 1 = omega arith in same)

module _ (named : ℕ → Bool) (mode : StoreMode) (flags : ℕ) (xs list : List Message) (i : ℕ) (item : Message) (test : Bool) (h : i < length xs) (is : list ≡ map (given named mode flags) (take i xs) ++ drop i xs) (at : item ≡ get_or list i item) (t : test ≡ named item.uid) where
  pub gives : (new : ℕ) → test ≡ true → new ≡ new_flags mode flags item.flags
      → slice_set list i (record item { flags = new }) ≡ map (given named mode flags) (take (i + 1) xs) ++ drop (i + 1) xs
  gives new so e =
      mixed_step (given named mode flags) xs list i item (record item { flags = new }) h is at
      (ap (λ (n : ℕ). record item { flags = n }) e ∙ ap (λ (b : Bool). cond b (record item { flags = new_flags mode flags item.flags }) item) (sym so ∙ t))

  pub leaves : test ≡ false → slice_set list i item ≡ map (given named mode flags) (take (i + 1) xs) ++ drop (i + 1) xs
  leaves not_so =
      mixed_step (given named mode flags) xs list i item item h is at (ap (λ (b : Bool). cond b (record item { flags = new_flags mode flags item.flags }) item) (sym not_so ∙ t))

-- ---- the answer
