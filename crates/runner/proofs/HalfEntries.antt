-- Which entries lose a side: by both listings, and by both mailboxes.
use Rattle.std.proofs.Common.{◌≡◌, ◌∙◌, ◌≤◌, ◌<◌, ◌+◌, ◌++◌, inl, inr, ℕ, Bool, false, cond, List, [], ◌∷◌, get_or, length, map, take, Option, None, Some, Result, Ok, Err, IfErr, IfOk, ap, ap₂, refl, subst, sym, arith}
use Rattle.std.specs.Prelude.{◌&&◌, ◌==◌, AllPairs, filter, is_none}
use Rattle.std.specs.List.{cons_option, filter_map, list_any}
use Rattle.std.specs.List.Sorted.{IsNonDecreasing, IsPermutation}
use Rattle.std.proofs.lemmas.Bool.{and_right, cases_lt, or_parts, true≢false}
use Rattle.std.proofs.lemmas.List.{map-append, take_all, take_more}
use Rattle.std.proofs.lemmas.List.Elements.{filter-append, filter_agree}
use Rattle.std.proofs.lemmas.List.Kept.{AllPairs-filter}
use Rattle.std.proofs.lemmas.List.Sorted.{list_any-IsPermutation}
use Rattle.mailcore.specs.declared.listing.Item.{Item}
use Rattle.mailcore.specs.declared.side.Side.{Side}
use Rattle.mailcore.specs.declared.side.Side.TheVariants.{Far, Near}
use Rattle.mailcore.specs.Listed.{item_of}
use Rattle.mailcore.specs.Sides.{other}
use Rattle.mailcore.specs.Stores.{Store}
use Rattle.rules.specs.declared.entry.Entry.{Entry}
use Rattle.rules.specs.declared.plan.Step.{Step}
use Rattle.rules.specs.declared.plan.Step.TheVariants as step
use Rattle.rules.specs.declared.state.SyncState.{SyncState}
use Rattle.rules.specs.Entries.{ArePairs, is_full, uid_of}
use Rattle.rules.specs.Scene.{flags_at}
use Rattle.rules.proofs.Walks.{AllPairs-map}
use Rattle.sync_state.specs.declared.journal.Journal.{Journal}
use Rattle.book.specs.LostSides.{AreRising, Lost, lost_of, none_lost}
use Rattle.outside.specs.Devices.{Device}
use Rattle.outside.specs.Opened.{Opened, journal_of, state_of}
use Rattle.outside.specs.Calls.{Seen}
use Rattle.runner.specs.declared.fault.RunFault.{RunFault}
use Rattle.runner.specs.declared.fault.RunFault.TheVariants as run
use Rattle.runner.specs.Faults.{IsCaused}
use Rattle.runner.specs.Parts.{Passed, Never}
use Rattle.runner.specs.GivingUp.{Counted, KeepsAll, KeepsBoxes, LosesBy, LosesListed, Nowhere, RemovesSome}
use Rattle.runner.specs.HalfEntries.{expunged_on, far_items, gone_on, is_expunge, is_gone, lacks_mark, logged, loses, lost_among, lost_between, near_items, removed_on, removes_some, tried}
use Rattle.runner.proofs.KeptBoxes.{boxes_none}
use Rattle.runner.proofs.PartCalls.{left_here}

-- ---- they rise

steady : (xs : List ℕ) → AllPairs (λ a b. a ≤ b) xs → IsNonDecreasing xs
steady xs p i j d le within = elim (cases_lt i j) [
  | inl less ↦ p i j d less within
  | inr upto ↦ let same : i ≡ j = omega (arith, upto, le) in subst (λ (k : ℕ). get_or xs i d ≤ get_or xs k d) same (omega arith)
]

pub lost_rise : (removed : List ℕ) (side : Side) (own others : List Item) (es : List Entry) → ArePairs es → IsNonDecreasing (lost_among removed side own others es)
lost_rise removed side own others es pairs =
    let test : Entry → Bool = loses removed side own others in
    steady (lost_among removed side own others es)
    (AllPairs-map (λ a b. a ≤ b) (uid_of Far) (filter test es)
    (AllPairs-filter (λ a b. uid_of Far a ≤ uid_of Far b) test es (λ i j d less within. (pairs.ordered i j d less within).0)))

-- ---- where the plan has removed no message, and found none removed, none is lost

none_of : (p : Step → Bool) (f : Step → Option ℕ) (steps : List Step) → ((s : Step) → p s ≡ false → f s ≡ None) → list_any p steps ≡ false → filter_map f steps ≡ []
none_of p f [] weaker h = refl
none_of p f (s ∷ steps) weaker h =
    let parts = or_parts (p s) (list_any p steps) h in
    ap₂ (λ (o : Option ℕ) (l : List ℕ). cons_option o l) (weaker s parts.0) (none_of p f steps weaker parts.1)

no_expunge : (side : Side) (s : Step) → is_expunge s ≡ false → expunged_on side s ≡ None
no_expunge Far (step.New direction source flags mark) h = refl
no_expunge Far (step.Gone direction far near) h = refl
no_expunge Far (step.Flags direction far near set cleared) h = refl
no_expunge Far (step.Expunge at uid) h = absurd (true≢false h)
no_expunge Near (step.New direction source flags mark) h = refl
no_expunge Near (step.Gone direction far near) h = refl
no_expunge Near (step.Flags direction far near set cleared) h = refl
no_expunge Near (step.Expunge at uid) h = absurd (true≢false h)

no_gone : (side : Side) (s : Step) → is_gone s ≡ false → gone_on side s ≡ None
no_gone Far (step.New direction source flags mark) h = refl
no_gone Far (step.Gone direction far near) h = absurd (true≢false h)
no_gone Far (step.Flags direction far near set cleared) h = refl
no_gone Far (step.Expunge at uid) h = refl
no_gone Near (step.New direction source flags mark) h = refl
no_gone Near (step.Gone direction far near) h = absurd (true≢false h)
no_gone Near (step.Flags direction far near set cleared) h = refl
no_gone Near (step.Expunge at uid) h = refl

none_removed : (j : Journal) (side : Side) → removes_some j ≡ false → removed_on j side ≡ []
none_removed j side h =
    let parts = or_parts (list_any is_expunge (tried j)) (list_any is_gone (logged j)) h in
    ap₂ (λ (xs ys : List ℕ). xs ++ ys) (none_of is_expunge (expunged_on side) (tried j) (no_expunge side) parts.0) (none_of is_gone (gone_on side) (logged j) (no_gone side) parts.1)

lost_of_none : (side : Side) (own others : List Item) (es : List Entry) → lost_among [] side own others es ≡ []
lost_of_none side own others [] = refl
lost_of_none side own others (e ∷ es) =
    let test : Entry → Bool = loses [] side own others in
    let stays : test e ≡ false =
    and_right (is_full e && is_none (flags_at own (uid_of side e)) && lacks_mark (flags_at others (uid_of (other side) e))) false refl in
    ap (λ (b : Bool). map (uid_of Far) (cond b (e ∷ filter test es) (filter test es))) stays ∙ lost_of_none side own others es

pub no_lost : (j : Journal) (side : Side) (own others : List Item) (es : List Entry) → removes_some j ≡ false → lost_among (removed_on j side) side own others es ≡ []
no_lost j side own others es h = ap (λ (removed : List ℕ). lost_among removed side own others es) (none_removed j side h) ∙ lost_of_none side own others es

-- ---- the order of what was removed does not matter

pub lost_permuted : (removed removed' : List ℕ) (side : Side) (own others : List Item) (es : List Entry) → IsPermutation removed removed'
    → lost_among removed' side own others es ≡ lost_among removed side own others es
lost_permuted removed removed' side own others es same = ap (λ (l : List Entry). map (uid_of Far) l) (filter_agree (loses removed' side own others) (loses removed side own others)
    (λ e. ap (λ (b : Bool). is_full e && is_none (flags_at own (uid_of side e)) && lacks_mark (flags_at others (uid_of (other side) e)) && b)
    (sym (list_any-IsPermutation (λ u. u == uid_of side e) removed removed' same))) es)

-- ---- by listings, and by mailboxes

abbrev pub ListsSame : (is is' : List Item) → Type 0
ListsSame is is' = (u : ℕ) → flags_at is u ≡ flags_at is' u

-- what is listed of flags alone matters
pub lost_same : (removed : List ℕ) (side : Side) (own own' others others' : List Item) (es : List Entry) → ListsSame own own' → ListsSame others others'
    → lost_among removed side own others es ≡ lost_among removed side own' others' es
lost_same removed side own own' others others' es same same' = ap (λ (l : List Entry). map (uid_of Far) l) (filter_agree (loses removed side own others) (loses removed side own' others')
    (λ e. ap₂ (λ (o p : Option ℕ). is_full e && is_none o && lacks_mark p && list_any (λ u. u == uid_of side e) removed) (same (uid_of side e)) (same' (uid_of (other side) e))) es)

between_same : (j : Journal) (far far' near near' : List Item) (es : List Entry) → ListsSame far far' → ListsSame near near' → lost_between j far near es ≡ lost_between j far' near' es
between_same j far far' near near' es same same' =
    ap₂ (λ (xs ys : List ℕ). lost_of xs ys) (lost_same (removed_on j Far) Far far far' near near' es same same') (lost_same (removed_on j Near) Near near near' far far' es same' same)

-- the far listing came first
pub loses_listed : (ours : List ℕ → Bool) (alone : Bool) (opened : Option Opened) (far near : List Item) (d m d' : Device) (lost : Lost) → KeepsBoxes ours alone d m → KeepsBoxes ours alone m d' → far ≡ far_items m
    → ListsSame near (near_items d') → LosesListed opened far near lost → LosesBy ours alone opened d lost
loses_listed ours alone opened far near d m d' lost before after far_is near_is l =
    let near_then : ListsSame near (near_items m) = λ u. near_is u ∙ ap (λ (t : Store). flags_at (map (item_of Near) t.messages) u) after.near in
    let far_then : ListsSame far (far_items m) = λ u. ap (λ (is : List Item). flags_at is u) far_is in
    record {
      looked = m;
      boxes = before;
      lost_is = λ s j state journal. l s j state journal ∙ between_same j far (far_items m) near (near_items m) s.entries far_then near_then;
    }

module _ (ours : List ℕ → Bool) (alone : Bool) (opened now : Option Opened) (far near : List Item) (d m d' : Device) (h0 h1 : Type 0) (is : now ≡ opened) (honest : h1 → h0)
    (before : h0 → KeepsAll ours alone d m) (after : h1 → KeepsAll ours alone m d') (far_is : h0 → far ≡ far_items m) (near_is : h1 → (u : ℕ) → flags_at near u ≡ flags_at (near_items d') u) where
  pub looked_ok : (r : Result Lost RunFault) → IfOk r (λ x. LosesListed now far near x) → IfOk r (λ x. h1 → LosesBy ours alone opened d x)
  looked_ok (Ok x) k = λ h. loses_listed ours alone opened far near d m d' x ((before (honest h)).0) ((after h).0) (far_is (honest h)) (near_is h) (subst (λ (o : Option Opened). LosesListed o far near x) is k)
  looked_ok (Err e) k = tt

-- no call, and none is lost
pub loses_none : (ours : List ℕ → Bool) (alone : Bool) (opened : Option Opened) (d : Device) → RemovesSome opened false → LosesBy ours alone opened d none_lost
loses_none ours alone opened d none = record {
  looked = d;
  boxes = boxes_none ours alone d;
  lost_is = λ s j state journal. ap₂ (λ (xs ys : List ℕ). lost_of xs ys)
      (sym (no_lost j Far (far_items d) (near_items d) s.entries (sym (none j journal))))
      (sym (no_lost j Near (near_items d) (far_items d) s.entries (sym (none j journal))));
}

-- no call
pub counted_here : {T : Type 0} (honest : Type 0) (s0 s1 : Seen) (r : Result T RunFault) → Passed honest Nowhere Nowhere 0 s0 s1 → IfErr r (λ f. f ≡ run.NoMemory) → Counted Never honest s0 s1 r
counted_here honest s0 s1 (Ok x) p e = p
counted_here honest s0 s1 (Err f) p e = left_here honest Nowhere Nowhere Nowhere 0 f s0 s1 p (subst (λ (x : RunFault). IsCaused Never x s1 s1) (sym e) tt) (λ k. absurd k)

-- what is pending is what was read
pub same_journal : (opened : Option Opened) (j k : Journal) → Some k ≡ journal_of opened → journal_of opened ≡ Some j → k ≡ j
same_journal opened j k here is = let e = here ∙ is in cc

pub removes_by : (opened : Option Opened) (b : Bool) (k : Journal) → Some k ≡ journal_of opened → b ≡ removes_some k → RemovesSome opened b
removes_by opened b k here e = λ j is. e ∙ ap (λ (x : Journal). removes_some x) (same_journal opened j k here is)

pub listed_by : (opened : Option Opened) (far near : List Item) (lost : Lost) (s : SyncState) (k : Journal) → state_of opened ≡ Some s → Some k ≡ journal_of opened → lost ≡ lost_between k far near s.entries → LosesListed opened far near lost
listed_by opened far near lost s k state here e = λ t j is journal.
    let same : s ≡ t = (let f = sym state ∙ is in cc) in
    e ∙ ap (λ (x : Journal). lost_between x far near s.entries) (same_journal opened j k here journal) ∙ ap (λ (x : SyncState). lost_between j far near x.entries) same

pub never_none : {P : Type 0} (opened : Option Opened) (j : Journal) → None ≡ journal_of opened → journal_of opened ≡ Some j → P
never_none opened j none is = absurd (let e = none ∙ is in cc)

-- ---- one entry after another

pub lost_more : (removed : List ℕ) (side : Side) (own others : List Item) (es : List Entry) (i : ℕ) (e : Entry) (b : Bool) → i < length es → e ≡ get_or es i e → loses removed side own others e ≡ b
    → lost_among removed side own others (take (i + 1) es) ≡ lost_among removed side own others (take i es) ++ map (uid_of Far) (cond b (e ∷ []) [])
lost_more removed side own others es i e b below is tested =
    let test : Entry → Bool = loses removed side own others in
    ap (λ (l : List Entry). lost_among removed side own others l) (take_more es i e below ∙ ap (λ (x : Entry). take i es ++ x ∷ []) (sym is))
    ∙ ap (λ (l : List Entry). map (uid_of Far) l) (filter-append test (take i es) (e ∷ []))
    ∙ map-append (uid_of Far) (filter test (take i es)) (filter test (e ∷ []))
    ∙ ap (λ (c : Bool). map (uid_of Far) (filter test (take i es)) ++ map (uid_of Far) (cond c (e ∷ []) [])) tested

pub lost_rise_taken : (removed : List ℕ) (side : Side) (own others : List Item) (es : List Entry) (i : ℕ) (lost : List ℕ) → length es ≤ i → ArePairs es → lost ≡ lost_among removed side own others (take i es) → IsNonDecreasing lost
lost_rise_taken removed side own others es i lost past pairs is =
    subst (λ (l : List ℕ). IsNonDecreasing l) (sym (is ∙ ap (λ (l : List Entry). lost_among removed side own others l) (take_all i es past))) (lost_rise removed side own others es pairs)

-- ---- on both sides

pub both_rise : (far near : List ℕ) → IsNonDecreasing far → IsNonDecreasing near → AreRising (lost_of far near)
both_rise far near f n Far = f
both_rise far near f n Near = n

pub none_rise : AreRising none_lost
none_rise = both_rise [] [] (steady [] (λ i j d less within. absurd (omega (arith, within)))) (steady [] (λ i j d less within. absurd (omega (arith, within))))
